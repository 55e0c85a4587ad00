use Rattle.tcel_tool.proofs.SummaryExamples.{nothing-text, shown-text}
use Rattle.tcel_tool.proofs.examples.summary_examples.Goals as goal

pub returns-clause-shown : goal.returns-clause-shown
returns-clause-shown c = shown-text

pub returns-clause-nothing : goal.returns-clause-nothing
returns-clause-nothing c = nothing-text
