-- The laws that the set of a program without faults is sound, that sound tasks are in scope, and that their expressions need few words.
use Rattle.std.specs.Prelude.{◌≡◌, List, [], ℕ, ◌+◌, ◌≤◌, max}
use Rattle.std.specs.List.{AllByRecursion}
use Rattle.tcel_core.specs.Language as core
use Rattle.tcel_core.specs.Language.{Expr, number, variable, element, unary, binary, assign_at}
use Rattle.tcel_core.specs.Limits.{ActIsWithinBounds, operators}
use Rattle.tcel_core.specs.Scope.{TaskFits}
use Rattle.tcel_core.specs.Sound.{IsSoundSet, IsSoundTask}
use Rattle.tcel_tree.specs.Language.{Task}
use Rattle.tcel_check.specs.Answers.{IsCheckable}
use Rattle.tcel_check.specs.Checked.{set_of}
use Rattle.tcel_check.specs.Rows.{marks}
use Rattle.tcel_check.specs.Spelled.{IsSpelledTask}

abbrev pub sets_are_sound : Type 0
sets_are_sound = (tasks : List Task) → IsCheckable tasks → AllByRecursion IsSpelledTask tasks → marks tasks ≡ [] → IsSoundSet (set_of tasks)

-- and that the theorem on sets speaks of each sound task
abbrev pub sound_tasks_are_in_scope : Type 0
sound_tasks_are_in_scope = (task : core.Task) → IsSoundTask task → TaskFits task

-- the words of stack that an expression needs: the left operand's value waits while the right one is evaluated
abbrev pub stack_words : Expr → ℕ
stack_words (number n) = 1
stack_words (variable v) = 1
stack_words (element v i) = stack_words i
stack_words (unary op e) = stack_words e
stack_words (binary op a b) = max (stack_words a) (1 + stack_words b)

-- an expression of a sound task needs 65 words at the most, and an assignment to an array 66, since its index waits
pub record FewWords : Type 0 where
  pub expr : (e : Expr) → operators e ≤ 64 → stack_words e ≤ 65
  pub assignment : (v : ℕ) (i e : Expr) → ActIsWithinBounds (assign_at v i e) → max (stack_words i) (1 + stack_words e) ≤ 66
