-- The worked examples, computed.
use Rattle.std.proofs.Common.{◌≡◌, ◌++◌, refl}
use Rattle.std.specs.Fmt.{digits}
use Rattle.tcel_make.specs.Examples.{first_line, first_task, second_line, second_task, text_of}
use Rattle.tcel_make.specs.Program.{program_text, task_text}
use Rattle.tcel_make.specs.Script.{line_text, script_text}

pub program_written : program_text 1 2 ≡ text_of (first_task ++ second_task)
unfolding digits task_text
program_written = refl

pub script_written : script_text 2 ≡ first_line ++ second_line
unfolding digits line_text
script_written = refl
