-- Worked texts of `mean`, computed.
use Rattle.std.proofs.Common.{◌≡◌, [], ◌∷◌, refl}
use Rattle.std.specs.Fmt.{digits}
use Rattle.std.specs.Int.{int_wrap}
use Rattle.tcel_tool.specs.MeanExamples.{alarm_pieces, alarm_text, both_pieces, both_text}

pub alarm-text : alarm_pieces 2 ≡ alarm_text ∷ []
unfolding digits int_wrap
alarm-text = refl

pub both-text : both_pieces ≡ both_text ∷ []
unfolding digits int_wrap
both-text = refl
