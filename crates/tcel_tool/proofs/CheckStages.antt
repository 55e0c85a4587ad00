-- How `check` goes on behind the program that it reads, and behind its faults.
use Rattle.std.proofs.Common.{◌≡◌, ℕ, List, [], ◌∷◌, inl, inr, refl, subst}
use Rattle.std.specs.Prelude.{codes}
use Rattle.tcel_check.specs.Rows.{marks}
use Rattle.tcel_io.specs.Shelf.{SeenShelf}
use Rattle.tcel_tree.specs.Language.{Task}
use Rattle.tcel_tool.specs.Answer.{Ended, Goes, Loads, OrMemory, begun, with_read}
use Rattle.tcel_tool.specs.CheckCommand.{IsFaultless, IsText, RefusesFaults, RefusesTasks}
use Rattle.tcel_tool.specs.Commands.{stages_of}
use Rattle.tcel_tool.specs.ProgramText.{IsProgramText}
use Rattle.tcel_tool.specs.Stage.{Call, test}
use Rattle.tcel_tool.specs.Test as tests
use Rattle.tcel_tool.specs.declared.command.Command.TheVariants.{Check}
use Rattle.tcel_tool.specs.declared.status.Status.{Status}

-- the file was loaded, and is this program's
pub record ReadText (words : List (List ℕ)) (shelf next : SeenShelf) (text : List ℕ) (tasks : List Task) : Type 0 where
  pub loaded : Loads words 1 1048576 shelf next text
  pub is : IsProgramText text tasks

-- what a reader found in bytes that are those of the file
abbrev pub read_text : {words : List (List ℕ)} {shelf next : SeenShelf} {text : List ℕ} {tasks : List Task} (given : List ℕ)
    → Loads words 1 1048576 shelf next text → given ≡ text → IsProgramText given tasks → ReadText words shelf next text tasks
read_text {tasks = tasks} given loaded same is = record { loaded = loaded; is = subst (λ t. IsProgramText t tasks) same is }

abbrev pub with_text : List (List ℕ) → List ℕ → Call
with_text words text = with_read 1 text (begun words)

module _ {words : List (List ℕ)} {shelf next : SeenShelf} {text : List ℕ} {tasks : List Task} (end : Ended) (read : ReadText words shelf next text tasks) where
  pub behind_text : Goes Check end (test tests.faultless ∷ []) (with_text words text) next → Goes Check end (stages_of Check) (begun words) shelf
  behind_text rest = inr (text, next, read.loaded, inr ((tasks, read.is), rest))

  -- a fault of the program is one of the text
  pub faulty : (status : Status) → OrMemory (RefusesTasks tasks) status → OrMemory (RefusesFaults text) status
  faulty status (inl e) = inl e
  faulty status (inr h) = inr (tasks, read.is, h)

  module _ (free : marks tasks ≡ []) where
    abbrev faultless : IsFaultless text tasks
    faultless = record { program = read.is; free = free }

    pub behind_faults : Goes Check end [] (with_text words text) next → Goes Check end (stages_of Check) (begun words) shelf
    behind_faults rest = behind_text (inr ((tasks, faultless), rest))

    pub ok_is : IsText (with_text words text) (codes "ok\n" ∷ [])
    ok_is = record { tasks = tasks; faultless = faultless; is = refl }
