-- Worked texts of `fewest`, computed.
use Rattle.std.proofs.Common.{◌≡◌, [], refl}
use Rattle.std.specs.Fmt.{digits}
use Rattle.std.specs.List.{concat}
use Rattle.std.specs.Prelude.{codes}
use Rattle.tcel_tool.specs.CommandExamples.{fewest_line}
use Rattle.tcel_tool.specs.FaultLine.{fault_pieces}
use Rattle.tcel_tool.specs.FewestExamples.{full_text, full_wanted, lower_text, lower_wanted, none_text, none_wanted, thirteen}

pub lower-text : lower_text ≡ lower_wanted
unfolding digits
lower-text = refl

pub none-text : none_text ≡ none_wanted
unfolding digits
none-text = refl

pub full-text : full_text ≡ full_wanted
unfolding digits
full-text = refl

pub thirteen-line : concat (fault_pieces fewest_line thirteen []) ≡ codes "limit: fewest tasks 13 above 12\n"
unfolding digits
thirteen-line = refl
