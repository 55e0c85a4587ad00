use Rattle.tcel_tool.proofs.JudgeExamples.{bad_text, end_text, event_text, overdue_text}
use Rattle.tcel_tool.proofs.examples.judge_examples.Goals as goal

pub returns-clause-line : goal.returns-clause-line
returns-clause-line c = overdue_text

pub returns-clause-event : goal.returns-clause-event
returns-clause-event c = event_text

pub returns-clause-end : goal.returns-clause-end
returns-clause-end c = end_text

pub returns-clause-bad : goal.returns-clause-bad
returns-clause-bad c = bad_text
