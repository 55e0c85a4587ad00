use Rattle.std.proofs.Common.{◌≡◌, List, length, Some, refl, ap, ◌∙◌, subst, arith, length-append}
use Rattle.std.specs.List.{slice_get}
use Rattle.tcel_image.specs.declared.image.ImageTask.{ImageTask}
use Rattle.tcel_machine.proofs.Ready.{read_at}
use Rattle.tcel_machine.proofs.Sound.{sound, starts, FirstRun, one_started, started_more}
use Rattle.tcel_machine.proofs.start.start_all.Goals as goal

pub start-requires-clause-valid : goal.start-requires-clause-valid
start-requires-clause-valid c =
    let is = read_at c.as_slice-image_tasks.result.now c.args.image.now.tasks c.as_slice-image_tasks.ensures c.loop-image_task.image_task-index c.image_task-item.result
    c.loop-image_task-test.true c.image_task-item.is in
    (sound c.args.image.now c.requires.range c.requires.valid c.loop-image_task.image_task-index c.image_task-item.result is).1

pub loop-image_task-preserved : goal.loop-image_task-preserved
loop-image_task-preserved c =
    let list = c.as_slice-image_tasks.result.now in
    let place = c.loop-image_task.image_task-index in
    let task = c.image_task-item.result in
    let new = c.in_ok-start.field-0 in
    let is = read_at list c.args.image.now.tasks c.as_slice-image_tasks.ensures place task c.loop-image_task-test.true c.image_task-item.is in
    let both = sound c.args.image.now c.requires.range c.requires.valid place task is in
    let running = starts task new both.0 both.1 c.in_ok-start.ensures.words c.in_ok-start.ensures.start in
    let here = read_at list list refl place task c.loop-image_task-test.true c.image_task-item.is in
    let there : slice_get list (length c.loop-image_task.tasks.items) ≡ Some task = ap (slice_get list) c.loop-image_task.invariant.count ∙ here in
    rw c.in_ok-push.ensures.items
    (record {
      count = simp length-append (omega (arith, c.loop-image_task.invariant.count));
      running = one_started list c.loop-image_task.tasks.items task new c.loop-image_task.invariant.running there running;
      start = started_more list c.loop-image_task.tasks.items place task new c.image_task-item.is c.loop-image_task-test.true c.loop-image_task.invariant.start c.in_ok-start.ensures.start;
    })

pub returns-clause-running : goal.returns-clause-running
returns-clause-running c =
    record {
      count = omega (arith, c.loop-image_task.invariant.count, ap length c.as_slice-image_tasks.ensures);
      each = subst (λ (tasks : List ImageTask). FirstRun tasks c.loop-image_task.tasks.items) c.as_slice-image_tasks.ensures c.loop-image_task.invariant.running;
    }
