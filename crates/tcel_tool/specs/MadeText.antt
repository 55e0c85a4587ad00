-- The texts that commands make: a program of a seed and a number of tasks, and a script for it.
use Rattle.std.specs.Prelude.{ℕ, List}
use Rattle.tcel_make.specs.Program.{program_text}
use Rattle.tcel_make.specs.Script.{script_text}
use Rattle.tcel_tool.specs.CommandLine.{number_at}
use Rattle.tcel_tool.specs.Stage.{Made, program, script}

-- word 1 is the seed, word 2 the number of tasks
abbrev pub made_text : Made → List (List ℕ) → List ℕ
made_text program words = program_text (number_at words 1) (number_at words 2)
made_text script words = script_text (number_at words 2)
