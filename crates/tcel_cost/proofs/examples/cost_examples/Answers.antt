use Rattle.tcel_cost.proofs.BranchingExample.{branching-total}
use Rattle.tcel_cost.proofs.LoopExamples.{for-first, for-quiet, for-total, while-total}
use Rattle.tcel_cost.proofs.examples.cost_examples.Goals as goal

pub returns : goal.returns
returns c = record { branching = branching-total; for_total = for-total; for_quiet = for-quiet; for_first = for-first; while_total = while-total }
