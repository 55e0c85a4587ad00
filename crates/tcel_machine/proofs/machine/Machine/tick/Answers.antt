use Rattle.std.proofs.Common.{◌<◌, ◌^◌, List, sym, subst}
use Rattle.tcel_image.specs.declared.image.Image.{Image}
use Rattle.tcel_machine.specs.declared.task.Task.{Task}
use Rattle.tcel_machine.specs.Run.{Run}
use Rattle.tcel_machine.specs.Tick.{CanTick}
use Rattle.tcel_machine.proofs.Sound.{sound}
use Rattle.tcel_machine.proofs.machine.Machine.tick.Goals as goal

pub step-entry-requires-clause-can : goal.step-entry-requires-clause-can
step-entry-requires-clause-can c =
    let image = c.self.inside.ready in
    let early = subst (λ (run : Run). run.machine.now < 10 ^ 12) (sym c.self.view_is) c.requires in
    let can : CanTick image c.self.inside.ticks c.self.inside.tasks.items =
    record {
      sound = sound image c.image-image.ensures.range c.image-image.ensures.valid;
      few = c.image-image.ensures.range.count.1;
      early = early;
      running = c.self.invariant.running;
    } in
    subst (λ (i : Image). CanTick i c.self.inside.ticks c.as_mut_slice-tasks.result.now) (sym c.image-image.ensures.value)
    (subst (λ (tasks : List Task). CanTick image c.self.inside.ticks tasks) (sym c.as_mut_slice-tasks.ensures.value) can)
