use Rattle.tcel_judge.proofs.MissingLines.{end_missing, event_missing, line_first}
use Rattle.tcel_judge.proofs.examples.missing_examples.Goals as goal

pub returns-clause-end : goal.returns-clause-end
returns-clause-end c = end_missing

pub returns-clause-event : goal.returns-clause-event
returns-clause-event c = event_missing

pub returns-clause-line : goal.returns-clause-line
returns-clause-line c = line_first
