use Rattle.std.proofs.Common.{refl, []}
use Rattle.tcel_check.proofs.Firsts.{adds_then}
use Rattle.tcel_check.proofs.tasks.first_mark.Goals as goal

pub returns-clause-first : goal.returns-clause-first
returns-clause-first c =
    (adds_then c.many_tasks.ensures (adds_then c.in_ok-twice_tasks.ensures (adds_then c.in_ok-same_priorities.ensures c.in_ok-each_task.ensures.marks))).first [] refl
