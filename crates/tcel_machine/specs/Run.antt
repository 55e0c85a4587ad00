-- A run: the image and the streams that the machine was loaded with, and where it stands.
use Rattle.std.specs.Prelude.{◌≡◌, ℕ, ℤ, List, [], take, slice_get, Option, option_map}
use Rattle.std.specs.Option.{option_map_or}
use Rattle.tcel_num.specs.Entry.{Entry}
use Rattle.tcel_image.specs.declared.image.Image.{Image}
use Rattle.tcel_image.specs.declared.image.ImageTask.{ImageTask}
use Rattle.tcel_image.specs.Machine.{Machine, Streams, Running, Ticked, next, start, tick}
use Rattle.tcel_image.specs.Spelling.{state_words}
use Rattle.tcel_machine.specs.declared.entry.Entry as declared
use Rattle.tcel_machine.specs.Seen.{seen}

pub record Run : Type 0 where
  pub image : Image
  pub streams : Streams
  pub machine : Machine

-- the machine before its first tick
abbrev pub loaded : Image → Streams → Run
loaded image streams = record { image = image; streams = streams; machine = start image }

-- the run after a tick
abbrev pub after_tick : Run → Run
after_tick run = record { image = run.image; streams = run.streams; machine = next run.image run.streams run.machine }

-- what a tick does, and shows
abbrev pub tick_of : Run → Ticked
tick_of run = tick run.image run.streams run.machine

-- the words of the states of the task of this number
abbrev pub state_in : List ImageTask → List Running → ℕ → List ℤ
state_in tasks runs number =
    option_map_or (λ task. option_map_or (λ (running : Running). take (state_words task.states) running.cells) (slice_get runs number) []) (slice_get tasks number) []

abbrev pub state_at : Run → ℕ → List ℤ
state_at run number = state_in run.image.tasks run.machine.tasks number

-- the entry as the definition has it, where these tasks are left
abbrev pub entry_seen : List ImageTask → List Running → declared.Entry → Entry
entry_seen tasks runs entry =
    record { time = entry.time; task = entry.task; frame = entry.frame; what = seen (state_in tasks runs entry.task) entry.what }

-- the entries are the same
abbrev pub Tells : Option declared.Entry → List ImageTask → List Running → Option Entry → Type 0
Tells found tasks runs entry = option_map (entry_seen tasks runs) found ≡ entry
