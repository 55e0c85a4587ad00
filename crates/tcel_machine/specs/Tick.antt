-- What a tick needs of the tasks, and what it leaves.
use Rattle.std.specs.Prelude.{◌≡◌, ℕ, ◌+◌, ◌<◌, ◌≤◌, ◌^◌, List, length, map, Option}
use Rattle.tcel_image.specs.declared.image.Image.{Image}
use Rattle.tcel_image.specs.Machine.{Streams, tick_from}
use Rattle.tcel_machine.specs.declared.entry.Entry.{Entry}
use Rattle.tcel_machine.specs.declared.task.Task.{Task}
use Rattle.tcel_machine.specs.Run.{Tells}
use Rattle.tcel_machine.specs.Runs.{AreSound, AllRun}
use Rattle.tcel_machine.specs.Task.{running_of}

pub record CanTick (image : Image) (now : ℕ) (runs : List Task) : Type 0 where
  pub sound : AreSound image.tasks
  pub few : length image.tasks ≤ 16
  pub early : now < 10 ^ 12
  pub running : AllRun image.tasks now runs

-- a tick from these tasks leaves those, and makes this entry
pub record Ticks (image : Image) (streams : Streams) (now : ℕ) (old new : List Task) (entry : Option Entry) : Type 0 where
  pub running : AllRun image.tasks (now + 1) new
  pub tasks : map running_of new ≡ (tick_from image.costs now image.tasks streams 0 (map running_of old)).tasks
  pub tells : Tells entry image.tasks (map running_of new) (tick_from image.costs now image.tasks streams 0 (map running_of old)).entry
