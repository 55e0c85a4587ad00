use Rattle.std.proofs.Common.{◌∙◌, arith}
use Rattle.tcel_gen.proofs.FormLists.{as_many, forms_next, own_at, sound_at}
use Rattle.tcel_gen.proofs.image.image_tasks.Goals as goal

pub bounds-parts-i : goal.bounds-parts-i
bounds-parts-i c = let less = c.loop-i-test.true in omega (arith, as_many c.args.tasks.now c.args.parts.now c.requires.own)

pub image_task-requires-clause-sound : goal.image_task-requires-clause-sound
image_task-requires-clause-sound c = sound_at c.args.tasks.now c.loop-i.i c.index-tasks-i.result c.requires.sound.each c.loop-i-test.true c.index-tasks-i.is

pub image_task-requires-clause-own : goal.image_task-requires-clause-own
image_task-requires-clause-own c =
    own_at c.args.tasks.now c.args.parts.now c.loop-i.i c.index-tasks-i.result c.index-parts-i.result c.requires.own c.loop-i-test.true c.index-tasks-i.is c.index-parts-i.is

pub loop-i-preserved : goal.loop-i-preserved
loop-i-preserved c =
    let less = c.loop-i-test.true in
    forms_next c.args.sliced c.args.tasks.now c.args.parts.now c.loop-i.i c.index-tasks-i.result c.index-parts-i.result c.loop-i.all c.push.new.self c.in_ok-image_task.field-0
    less (omega (arith, as_many c.args.tasks.now c.args.parts.now c.requires.own)) c.index-tasks-i.is c.index-parts-i.is c.in_ok-image_task.ensures c.in_ok-push.ensures.ok
    ∙ c.loop-i.invariant
