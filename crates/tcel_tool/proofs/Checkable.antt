-- The program that a text is can be checked.
use Rattle.std.proofs.Common.{ℕ, List}
use Rattle.tcel_check.proofs.Checkable.{accepted_are_checkable}
use Rattle.tcel_check.specs.Answers.{IsCheckable}
use Rattle.tcel_tool.specs.ProgramText.{IsProgramText}
use Rattle.tcel_tree.specs.Language.{Task}

pub text_is_checkable : {text : List ℕ} {tasks : List Task} → IsProgramText text tasks → IsCheckable tasks
text_is_checkable is = accepted_are_checkable is.parsed
