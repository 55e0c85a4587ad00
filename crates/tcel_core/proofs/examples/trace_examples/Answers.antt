use Rattle.tcel_core.proofs.TraceLemmas.{meets, other_value, other_state, late_event, no_event, no_end, same_time}
use Rattle.tcel_core.proofs.PairTraces.{both, of_no_task, early_event, late_first, no_first, other_frame}
use Rattle.tcel_core.proofs.examples.trace_examples.Goals as goal

pub returns-clause-other_value : goal.returns-clause-other_value
returns-clause-other_value c = other_value

pub returns-clause-late_event : goal.returns-clause-late_event
returns-clause-late_event c = late_event

pub returns-clause-no_event : goal.returns-clause-no_event
returns-clause-no_event c = no_event

pub returns-clause-no_end : goal.returns-clause-no_end
returns-clause-no_end c = no_end

pub returns-clause-same_time : goal.returns-clause-same_time
returns-clause-same_time c = same_time

pub returns-clause-meets : goal.returns-clause-meets
returns-clause-meets c = meets

pub returns-clause-other_state : goal.returns-clause-other_state
returns-clause-other_state c = other_state

pub returns-clause-both : goal.returns-clause-both
returns-clause-both c = both

pub returns-clause-of_no_task : goal.returns-clause-of_no_task
returns-clause-of_no_task c = of_no_task

pub returns-clause-early_event : goal.returns-clause-early_event
returns-clause-early_event c = early_event

pub returns-clause-late_first : goal.returns-clause-late_first
returns-clause-late_first c = late_first

pub returns-clause-no_first : goal.returns-clause-no_first
returns-clause-no_first c = no_first

pub returns-clause-other_frame : goal.returns-clause-other_frame
returns-clause-other_frame c = other_frame
