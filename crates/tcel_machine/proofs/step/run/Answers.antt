use Rattle.std.proofs.Common.{◌≡◌, ◌<◌, [], length, get_or, slice_index_or, Some, None, ap, sym, ◌∙◌, arith}
use Rattle.std.specs.List.{slice_get}
use Rattle.std.proofs.lemmas.Option.{slice_get-get_or}
use Rattle.tcel_machine.specs.Task.{running_of}
use Rattle.tcel_machine.proofs.Ready.{read_at, ready_is, release_of}
use Rattle.tcel_machine.proofs.Running.{ran}
use Rattle.tcel_machine.proofs.Turns.{stays_alike}
use Rattle.tcel_machine.proofs.step.run.Goals as goal
use Rattle.tcel_machine.proofs.step.run.Goals.{After-index-tasks-number}

task_is : (c : After-index-tasks-number) → slice_get c.args.image.now.tasks c.args.number ≡ Some c.index-image_tasks-number.result
task_is c =
    let list = c.as_slice-image_tasks.result.now in
    let h : c.args.number < length list = omega (arith, ap length c.as_slice-image_tasks.ensures, c.requires.can.running.count, c.requires.within) in
    read_at list c.args.image.now.tasks c.as_slice-image_tasks.ensures c.args.number c.index-image_tasks-number.result h c.index-image_tasks-number.is

run_was : (c : After-index-tasks-number) → slice_get c.args.tasks.now c.args.number ≡ Some (get_or c.args.tasks.now c.args.number c.index-tasks-number.result)
run_was c = slice_get-get_or c.args.tasks.now c.args.number c.index-tasks-number.result c.requires.within

pub own_tick-requires-clause-range : goal.own_tick-requires-clause-range
own_tick-requires-clause-range c = (c.requires.can.sound c.args.number c.index-image_tasks-number.result (task_is c)).0

pub own_tick-requires-clause-valid : goal.own_tick-requires-clause-valid
own_tick-requires-clause-valid c = (c.requires.can.sound c.args.number c.index-image_tasks-number.result (task_is c)).1

pub own_tick-requires-clause-running : goal.own_tick-requires-clause-running
own_tick-requires-clause-running c =
    c.requires.can.running.each c.args.number c.index-image_tasks-number.result (get_or c.args.tasks.now c.args.number c.index-tasks-number.result) (task_is c) (run_was c)

pub own_tick-requires-clause-release : goal.own_tick-requires-clause-release
own_tick-requires-clause-release c =
    let run = get_or c.args.tasks.now c.args.number c.index-tasks-number.result in
    let valid = (c.requires.can.sound c.args.number c.index-image_tasks-number.result (task_is c)).1 in
    release_of c.index-image_tasks-number.result c.args.now (running_of run) valid.some
    (sym (ready_is c.args.image.now.tasks c.args.now c.args.tasks.now c.args.number c.index-image_tasks-number.result run (task_is c) (run_was c)) ∙ c.requires.first.0)

pub returns-in-None-clause-ticks : goal.returns-in-None-clause-ticks
returns-in-None-clause-ticks c =
    let at = goal.at.returns-in-None-clause-ticks c in
    ran c.args.image.now c.args.script.now c.args.now c.args.tasks.now c.args.number c.index-image_tasks-number.result
    (get_or c.args.tasks.now c.args.number c.index-tasks-number.result) c.own_tick.new.task c.requires.can c.requires.first c.requires.within
    (task_is at.After-index-tasks-number) (run_was at.After-index-tasks-number) None c.in-None.ensures.running c.in-None.ensures.task c.in-None.ensures.shown

pub returns-in-Some-clause-ticks : goal.returns-in-Some-clause-ticks
returns-in-Some-clause-ticks c =
    let at = goal.at.returns-in-Some-clause-ticks c in
    ran c.args.image.now c.args.script.now c.args.now c.args.tasks.now c.args.number c.index-image_tasks-number.result
    (get_or c.args.tasks.now c.args.number c.index-tasks-number.result) c.own_tick.new.task c.requires.can c.requires.first c.requires.within
    (task_is at.After-index-tasks-number) (run_was at.After-index-tasks-number) (Some c.in-Some.what) c.in-Some.ensures.running c.in-Some.ensures.task c.in-Some.ensures.shown

pub returns-in-None-clause-alike : goal.returns-in-None-clause-alike
returns-in-None-clause-alike c =
    let at = goal.at.returns-in-None-clause-alike c in
    stays_alike c.args.image.now.costs c.index-image_tasks-number.result (slice_index_or c.args.script.now c.args.number []) c.args.now
    c.args.image.now.tasks c.args.tasks.now c.args.number (get_or c.args.tasks.now c.args.number c.index-tasks-number.result) c.own_tick.new.task None
    (run_was at.After-index-tasks-number) c.in-None.ensures.task c.in-None.ensures.shown

pub returns-in-Some-clause-alike : goal.returns-in-Some-clause-alike
returns-in-Some-clause-alike c =
    let at = goal.at.returns-in-Some-clause-alike c in
    stays_alike c.args.image.now.costs c.index-image_tasks-number.result (slice_index_or c.args.script.now c.args.number []) c.args.now
    c.args.image.now.tasks c.args.tasks.now c.args.number (get_or c.args.tasks.now c.args.number c.index-tasks-number.result)
    c.own_tick.new.task (Some c.in-Some.what)
    (run_was at.After-index-tasks-number) c.in-Some.ensures.task c.in-Some.ensures.shown
