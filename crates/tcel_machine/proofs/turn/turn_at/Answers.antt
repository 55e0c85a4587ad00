use Rattle.std.proofs.Common.{◌≡◌, ℕ, ◌*◌, ◌<◌, Some, length, leb, map, refl, ap, sym, ◌∙◌, arith}
use Rattle.std.specs.List.{slice_get}
use Rattle.tcel_machine.specs.Runs.{ready_at}
use Rattle.tcel_machine.specs.Task.{running_of}
use Rattle.tcel_machine.proofs.Ready.{read_at}
use Rattle.tcel_machine.proofs.Turns.{first_of, none_at_all, none_with, ready_from}
use Rattle.tcel_machine.proofs.turn.turn_at.Goals as goal
use Rattle.tcel_machine.proofs.turn.turn_at.Goals.{After-index-image_tasks-number}

task_is : (c : After-index-image_tasks-number) → slice_get c.args.image.now.tasks c.loop-number.number ≡ Some c.index-image_tasks-number.result
task_is c =
    let list = c.as_slice-image_tasks.result.now in
    let h : c.loop-number.number < length list = omega (arith, ap length c.as_slice-image_tasks.ensures, c.requires.running.count) in
    read_at list c.args.image.now.tasks c.as_slice-image_tasks.ensures c.loop-number.number c.index-image_tasks-number.result h
    c.index-image_tasks-number.is

run_is : (c : After-index-image_tasks-number) → slice_get c.args.tasks.now c.loop-number.number ≡ Some c.index-tasks-number.result
run_is c =
    read_at c.args.tasks.now c.args.tasks.now refl c.loop-number.number c.index-tasks-number.result c.loop-number-test.true c.index-tasks-number.is

ready_is : (c : After-index-image_tasks-number) (time : ℕ) → ready_at c.args.image.now.tasks time (map running_of c.args.tasks.now) c.loop-number.number
    ≡ leb (c.index-tasks-number.result.ended * c.index-image_tasks-number.result.period) time
ready_is c time =
    let valid = (c.requires.sound c.loop-number.number c.index-image_tasks-number.result (task_is c)).1 in
    ready_from c.args.image.now.tasks time c.args.tasks.now c.loop-number.number c.index-image_tasks-number.result c.index-tasks-number.result
    valid.some (task_is c) (run_is c)

pub release-release-requires : goal.release-release-requires
release-release-requires c =
    let task = c.index-image_tasks-number.result in
    let running = c.requires.running.each c.loop-number.number task c.index-tasks-number.result (task_is c) (run_is c) in
    let valid = (c.requires.sound c.loop-number.number task (task_is c)).1 in
    omega (arith, running.counts.reach, valid.most, c.requires.early)

pub returns-then-release-now-clause-turn : goal.returns-then-release-now-clause-turn
returns-then-release-now-clause-turn c =
    let at = goal.at.returns-then-release-now-clause-turn c in
    first_of c.args.image.now.tasks c.args.now (map running_of c.args.tasks.now) c.loop-number.number c.loop-number.until
    c.release-release.result c.loop-number.invariant.1
    (λ time. ready_is at.After-index-image_tasks-number time ∙ ap (λ n. leb n time) (sym c.release-release.ensures))
    c.if-release-now.true

pub loop-number-preserved : goal.loop-number-preserved
loop-number-preserved c =
    let at = goal.at.loop-number-preserved c in
    let none =
    none_with c.args.image.now.tasks (map running_of c.args.tasks.now) c.loop-number.number c.loop-number.until c.release-release.result
    c.loop-number.invariant.1
    (λ time. ready_is at.After-index-image_tasks-number time ∙ ap (λ n. leb n time) (sym c.release-release.ensures)) in
    rw c.min-until.ensures (omega (arith, c.loop-number.invariant.0, c.if-release-now.false), none)

pub returns-clause-turn : goal.returns-clause-turn
returns-clause-turn c =
    none_at_all c.args.image.now.tasks c.args.now c.args.tasks.now c.loop-number.number c.loop-number.until c.loop-number.invariant.1
    c.loop-number-test.false
