-- Worked summaries of runs, computed.
use Rattle.std.proofs.Common.{◌≡◌, refl}
use Rattle.std.specs.Fmt.{digits}
use Rattle.std.specs.Int.{int_wrap}
use Rattle.tcel_tool.specs.SummaryExamples.{nothing_text, nothing_wanted, shown_text, shown_wanted}

pub shown-text : shown_text ≡ shown_wanted
unfolding digits int_wrap
shown-text = refl

pub nothing-text : nothing_text ≡ nothing_wanted
unfolding digits int_wrap
nothing-text = refl
