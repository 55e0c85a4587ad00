use Rattle.tcel_tool.proofs.CommandExamples.{seventeen-refused, sixteen-free}
use Rattle.tcel_tool.proofs.examples.check_examples.Goals as goal

pub returns : goal.returns
returns c = record { many = seventeen-refused; none = sixteen-free }
