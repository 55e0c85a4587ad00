-- The lines that a run still shows.
use Rattle.std.specs.Prelude.{ℕ, List, map, option_to_list}
use Rattle.tcel_image.specs.Machine.{entries}
use Rattle.tcel_image.specs.TraceText.{line}
use Rattle.tcel_machine.specs.Run.{Run, tick_of}

-- the lines of the next so many ticks
abbrev pub lines : Run → ℕ → List (List ℕ)
lines run ticks = map (line run.image) (entries run.image run.streams ticks run.machine)

-- the line of the next tick, if it shows one
abbrev pub tick_lines : Run → List (List ℕ)
tick_lines run = map (line run.image) (option_to_list (tick_of run).entry)
