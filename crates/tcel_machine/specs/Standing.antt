-- The machine as a run, and what holds of it between two ticks.
use Rattle.std.specs.Prelude.{map}
use Rattle.tcel_machine.specs.declared.machine.Machine.TheInside.{Inside}
use Rattle.tcel_machine.specs.Run.{Run}
use Rattle.tcel_machine.specs.Runs.{AllRun}
use Rattle.tcel_machine.specs.Task.{running_of}
use Rattle.tcel_machine.specs.Turns.{IsTurn}

abbrev pub run_of : Inside → Run
run_of machine =
    record { image = machine.ready; streams = machine.script; machine = record { now = machine.ticks; tasks = map running_of machine.tasks.items } }

pub record IsStanding (machine : Inside) : Type 0 where
  pub running : AllRun machine.ready.tasks machine.ticks machine.tasks.items
  pub turn : IsTurn machine.ready.tasks machine.ticks (map running_of machine.tasks.items) machine.turn
