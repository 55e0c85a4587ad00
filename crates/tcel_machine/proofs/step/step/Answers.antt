use Rattle.std.proofs.Common.{ℕ, map, Option, subst, arith}
use Rattle.tcel_machine.specs.Runs.{IsFirstReady}
use Rattle.tcel_machine.specs.Task.{running_of}
use Rattle.tcel_machine.specs.Turns.{is_end_entry}
use Rattle.tcel_machine.proofs.Running.{idle}
use Rattle.tcel_machine.proofs.Turns.{next_turn, turn_after}
use Rattle.tcel_machine.proofs.step.step.Goals as goal

pub returns-in-None-clause-ticks : goal.returns-in-None-clause-ticks
returns-in-None-clause-ticks c =
    let first = c.renew.ensures.turn.first c.args.now (omega arith) c.renew.ensures.later in
    idle c.args.image.now c.args.script.now c.args.now c.args.tasks.now c.requires.can
    (subst (λ (first : Option ℕ). IsFirstReady c.args.image.now.tasks c.args.now (map running_of c.args.tasks.now) first) c.in-None.is first)

pub returns-in-None-clause-turn : goal.returns-in-None-clause-turn
returns-in-None-clause-turn c = next_turn c.args.image.now.tasks c.args.now (map running_of c.args.tasks.now) c.renew.new.turn c.renew.ensures.turn

pub returns-in-Some-clause-turn : goal.returns-in-Some-clause-turn
returns-in-Some-clause-turn c =
    turn_after c.args.image.now.tasks c.args.now c.args.tasks.now c.run-entry.new.tasks c.renew.new.turn c.end_with.new.turn
    (is_end_entry c.run-entry.result) c.run-entry.ensures.alike c.renew.ensures.turn c.end_with.ensures.first c.end_with.ensures.until
