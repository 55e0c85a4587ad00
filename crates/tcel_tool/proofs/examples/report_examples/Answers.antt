use Rattle.std.proofs.Common.{refl}
use Rattle.tcel_tool.proofs.ReportExamples.{plan-text}
use Rattle.tcel_tool.proofs.examples.report_examples.Goals as goal

pub returns : goal.returns
returns c = record { lines = plan-text; whole = refl; sliced = refl }
