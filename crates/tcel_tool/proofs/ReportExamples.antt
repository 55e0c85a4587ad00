-- Worked lines of a report, computed.
use Rattle.std.proofs.Common.{◌≡◌, refl}
use Rattle.std.specs.Fmt.{digits}
use Rattle.tcel_tool.specs.ReportExamples.{plan_text, wanted_text}

pub plan-text : plan_text ≡ wanted_text
unfolding digits
plan-text = refl
