use Rattle.std.proofs.Common.{◌≡◌, ◌+◌, ◌∷◌, ◌++◌, [], ap, sym, ◌∙◌, take, map}
use Rattle.std.proofs.lemmas.List.{map_more}
use Rattle.tcel_tree.specs.Language.{Task}
use Rattle.tcel_tree.specs.Plain.{plain_task}
use Rattle.tcel_check.specs.Rows.{same_task, twice_task}
use Rattle.tcel_check.specs.Types.{same_name}
use Rattle.tcel_check.proofs.Heads.{repeats_more, seen_more, was_seen}
use Rattle.tcel_check.proofs.SameNames.{name_sym}
use Rattle.tcel_check.proofs.tasks.twice_tasks.Goals as goal

pub loop-task-preserved : goal.loop-task-preserved
loop-task-preserved c =
    let ts = c.args.tasks.now in
    let i = c.loop-task.task-index in
    let t = c.task-item.result in
    let front = map plain_task (take i ts) in
    let more : map plain_task (take (i + 1) ts) ≡ front ++ plain_task t ∷ [] =
    map_more plain_task ts i t c.loop-task-test.true ∙ ap (λ (x : Task). front ++ x ∷ []) (ap plain_task (sym c.task-item.is))
    in
    record {
      seen = λ q. rw more (seen_more same_task front (plain_task t) q (same_name t.name q.name) _ _ (name_sym q.name t.name) (c.in_ok-new.ensures.updates.0 q.name) (c.loop-task.invariant.seen q));
      twice = rw more (repeats_more same_task twice_task front (plain_task t) _ (was_seen c.in_ok-new.new _ _ c.in_ok-new.ensures.added (c.loop-task.invariant.seen (plain_task t))) c.keep.ensures c.loop-task.invariant.twice);
    }
