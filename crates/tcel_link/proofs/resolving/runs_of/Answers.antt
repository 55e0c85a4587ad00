use Rattle.std.proofs.Common.{subst, sym, arith}
use Rattle.tcel_core.specs.declared.set.CoreTask.{CoreTask}
use Rattle.tcel_core.specs.Plain.{plain_task}
use Rattle.tcel_core.specs.Sound.{IsSoundTask}
use Rattle.tcel_link.proofs.Ports.{sound_at}
use Rattle.tcel_link.proofs.resolving.runs_of.Goals as goal

pub start-requires : goal.start-requires
start-requires c =
    let task = c.index-tasks-number.result in
    let sound = sound_at c.args.tasks.now c.loop-number.number task c.loop-number-test.true c.requires.sound in
    let here = subst (λ (t : CoreTask). IsSoundTask (plain_task t)) (sym c.index-tasks-number.is) sound in
    omega (arith, here.declarations.words)
