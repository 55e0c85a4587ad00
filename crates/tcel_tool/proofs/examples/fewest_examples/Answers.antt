use Rattle.tcel_tool.proofs.FewestExamples.{full-text, lower-text, none-text, thirteen-line}
use Rattle.tcel_tool.proofs.examples.fewest_examples.Goals as goal

pub returns-clause-lower : goal.returns-clause-lower
returns-clause-lower c = lower-text

pub returns-clause-none : goal.returns-clause-none
returns-clause-none c = none-text

pub returns-clause-full : goal.returns-clause-full
returns-clause-full c = full-text

pub returns-clause-line : goal.returns-clause-line
returns-clause-line c = thirteen-line
