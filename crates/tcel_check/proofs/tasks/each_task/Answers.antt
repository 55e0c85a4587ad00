use Rattle.std.proofs.Common.{◌≡◌, ◌+◌, ◌∷◌, ◌++◌, [], List, ap, sym, ◌∙◌, take, map}
use Rattle.std.specs.Prelude.{flat_map}
use Rattle.std.proofs.lemmas.List.{map_more, append-nil}
use Rattle.std.proofs.lemmas.Grind.{flat_map-append}
use Rattle.tcel_tree.specs.Language.{Task}
use Rattle.tcel_tree.specs.Plain.{plain_task}
use Rattle.tcel_check.specs.declared.mark.Mark.{Mark}
use Rattle.tcel_check.specs.Rows.{task_marks}
use Rattle.tcel_check.specs.Spelled.{IsSpelledTask}
use Rattle.tcel_check.proofs.Firsts.{adds_then}
use Rattle.tcel_check.proofs.Walking.{all_append}
use Rattle.tcel_check.proofs.tasks.each_task.Goals as goal

pub loop-task-preserved : goal.loop-task-preserved
loop-task-preserved c =
    let ts = c.args.tasks.now in
    let i = c.loop-task.task-index in
    let t = plain_task c.task-item.result in
    let front = map plain_task (take i ts) in
    let more : map plain_task (take (i + 1) ts) ≡ front ++ t ∷ [] =
    map_more plain_task ts i c.task-item.result c.loop-task-test.true ∙ ap (λ (x : Task). front ++ x ∷ []) (ap plain_task (sym c.task-item.is))
    in
    let ms : flat_map task_marks (map plain_task (take (i + 1) ts)) ≡ flat_map task_marks front ++ task_marks t =
    ap (flat_map task_marks) more ∙ flat_map-append task_marks front (t ∷ []) ∙ ap (λ (xs : List Mark). flat_map task_marks front ++ xs) (append-nil (task_marks t))
    in
    record {
      marks = rw ms (adds_then c.loop-task.invariant.marks c.in_ok-task_marks.ensures.marks);
      spelled = rw more (all_append IsSpelledTask front (t ∷ []) c.loop-task.invariant.spelled (c.in_ok-task_marks.ensures.spelled, tt));
    }
