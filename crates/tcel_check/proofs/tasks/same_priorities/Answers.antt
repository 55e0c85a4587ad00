use Rattle.std.proofs.Common.{◌≡◌, ◌+◌, ◌∷◌, ◌++◌, [], ap, sym, ◌∙◌, take, map}
use Rattle.std.proofs.lemmas.List.{map_more}
use Rattle.tcel_tree.specs.Language.{Task}
use Rattle.tcel_tree.specs.Plain.{plain_task}
use Rattle.tcel_check.specs.Rows.{same_priority, priority_mark}
use Rattle.std.specs.Int.{w64}
use Rattle.std.proofs.lemmas.Int.{to_z-of_z}
use Rattle.std.specs.Ordering.{int_eq}
use Rattle.tcel_check.proofs.Heads.{repeats_more, seen_more, was_seen}
use Rattle.tcel_check.proofs.SameNames.{int_sym}
use Rattle.tcel_check.proofs.tasks.same_priorities.Goals as goal

pub loop-task-preserved : goal.loop-task-preserved
loop-task-preserved c =
    let ts = c.args.tasks.now in
    let i = c.loop-task.task-index in
    let t = c.task-item.result in
    let front = map plain_task (take i ts) in
    let more : map plain_task (take (i + 1) ts) ≡ front ++ plain_task t ∷ [] =
    map_more plain_task ts i t c.loop-task-test.true ∙ ap (λ (x : Task). front ++ x ∷ []) (ap plain_task (sym c.task-item.is))
    in
    let key = to_z-of_z w64 c.value_of.result (record { sfits = c.value_of.type_inv }) ∙ c.value_of.ensures in
    record {
      seen = λ q. rw more (seen_more same_priority front (plain_task t) q (int_eq t.priority.value q.priority.value) _ _ (int_sym q.priority.value t.priority.value) (rw key at (c.in_ok-new.ensures.updates.0 q.priority.value)) (c.loop-task.invariant.seen q));
      same = rw more (repeats_more same_priority priority_mark front (plain_task t) _ (was_seen c.in_ok-new.new _ _ (rw key at c.in_ok-new.ensures.added) (c.loop-task.invariant.seen (plain_task t))) c.keep.ensures c.loop-task.invariant.same);
    }
