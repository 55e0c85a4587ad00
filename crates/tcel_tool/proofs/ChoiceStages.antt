-- How commands that compile go on behind their program and behind their target.
use Rattle.std.proofs.Common.{◌≡◌, ℕ, List, [], ◌∷◌, Option, Result, Ok, Err, inl, inr, refl, sym, subst}
use Rattle.std.specs.Prelude.{IfErr, IsErrAnd}
use Rattle.tcel_check.specs.Checked.{set_of}
use Rattle.tcel_check.specs.Rows.{marks}
use Rattle.tcel_core.specs.Language as core
use Rattle.tcel_io.specs.Shelf.{SeenShelf}
use Rattle.tcel_target.specs.declared.costs.Costs.{Costs}
use Rattle.tcel_tree.specs.Language.{Task}
use Rattle.tcel_tool.specs.Answer.{Loads, OrMemory, begun, with_read}
use Rattle.tcel_tool.specs.CheckCommand.{IsFaultless, RefusesFaults, RefusesTasks}
use Rattle.tcel_tool.specs.ProgramText.{IsProgramText}
use Rattle.tcel_tool.specs.SetChoice.{Choice, IsBest, IsChoiceFor, Names, NamesTask, RefusesChoice, RefusesSet, choice_stages}
use Rattle.tcel_tool.specs.Stage.{Call, Stage, load, test}
use Rattle.tcel_tool.specs.Stretch.{Passed, Stopped}
use Rattle.tcel_tool.specs.TargetText.{GivesCosts}
use Rattle.tcel_tool.specs.Test as tests
use Rattle.tcel_tool.specs.declared.status.Status.{Status}

-- what is so of the error that a body ends with
pub at_error : {T : Type 0} (P : Status → Type 0) (result : Result T Status) (given : Status) → IsErrAnd result (λ e. e ≡ given) → P given → IfErr result P
at_error P (Ok done) given h p = absurd h
at_error P (Err status) given h p = subst P (sym h) p

-- the file of the program was loaded, and is one
pub record ReadProgram (words : List (List ℕ)) (shelf next : SeenShelf) (program : List ℕ) (tasks : List Task) : Type 0 where
  pub loaded : Loads words 1 1048576 shelf next program
  pub is : IsProgramText program tasks

abbrev pub read_program : {words : List (List ℕ)} {shelf next : SeenShelf} {program : List ℕ} {tasks : List Task} (given : List ℕ)
    → Loads words 1 1048576 shelf next program → given ≡ program → IsProgramText given tasks → ReadProgram words shelf next program tasks
read_program {tasks = tasks} given loaded same is = record { loaded = loaded; is = subst (λ t. IsProgramText t tasks) same is }

-- that of the target too, behind a program without faults
pub record ReadBoth (words : List (List ℕ)) (shelf last : SeenShelf) (program target : List ℕ) (tasks : List Task) (costs : Costs) : Type 0 where
  pub next : SeenShelf
  pub first : ReadProgram words shelf next program tasks
  pub free : marks tasks ≡ []
  pub loaded : Loads words 2 65536 next last target
  pub gives : GivesCosts target costs

abbrev pub read_both : {words : List (List ℕ)} {shelf next last : SeenShelf} {program target : List ℕ} {tasks : List Task} {costs : Costs} (given : List ℕ)
    → ReadProgram words shelf next program tasks → marks tasks ≡ [] → Loads words 2 65536 next last target → given ≡ target → GivesCosts given costs
    → ReadBoth words shelf last program target tasks costs
read_both {next = next} {costs = costs} given first free loaded same gives =
    record { next = next; first = first; free = free; loaded = loaded; gives = subst (λ t. GivesCosts t costs) same gives }

abbrev pub faultless : {words : List (List ℕ)} {shelf next : SeenShelf} {program : List ℕ} {tasks : List Task} → ReadProgram words shelf next program tasks
    → marks tasks ≡ [] → IsFaultless program tasks
faultless read free = record { program = read.is; free = free }

-- the bytes of the program, and of both files
abbrev pub with_program : List (List ℕ) → List ℕ → Call
with_program words program = with_read 1 program (begun words)

abbrev pub with_both : List (List ℕ) → List ℕ → List ℕ → Call
with_both words program target = with_read 2 target (with_program words program)

-- the stages of a program, and then these
abbrev pub program_then : List Stage → List Stage
program_then more = load 1 1048576 ∷ test tests.program ∷ test tests.faultless ∷ more

-- those of a target and a choice
abbrev pub behind_set : List Stage
behind_set = load 2 65536 ∷ test tests.target ∷ test tests.choice ∷ []

module _ {words : List (List ℕ)} {shelf next : SeenShelf} {program : List ℕ} {tasks : List Task} (more : List Stage) (new : SeenShelf) (status : Status) (task : Option (List ℕ)) where
  abbrev pub stopped_behind_program : ReadProgram words shelf next program tasks → Stopped (test tests.faultless ∷ more) (with_program words program) next new status task
      → Stopped (program_then more) (begun words) shelf new status task
  stopped_behind_program read rest = inr (program, next, read.loaded, inr ((tasks, read.is), rest))

  abbrev pub stopped_behind_set : ReadProgram words shelf next program tasks → marks tasks ≡ [] → Stopped more (with_program words program) next new status task
      → Stopped (program_then more) (begun words) shelf new status task
  stopped_behind_set read free rest = stopped_behind_program read (inr ((tasks, faultless read free), rest))

-- a fault of the program is one of the text
pub faulty : {words : List (List ℕ)} {shelf next : SeenShelf} {program : List ℕ} {tasks : List Task} → ReadProgram words shelf next program tasks
    → (status : Status) → OrMemory (RefusesTasks tasks) status → OrMemory (RefusesFaults program) status
faulty read status (inl e) = inl e
faulty {tasks = tasks} read status (inr h) = inr (tasks, read.is, h)

module _ {words : List (List ℕ)} {shelf last : SeenShelf} {program target : List ℕ} {tasks : List Task} {costs : Costs}
    (read : ReadBoth words shelf last program target tasks costs) where
  -- no choice is made
  pub stopped_at_choice : (set : List core.Task) (status : Status) (task : Option (List ℕ)) → set ≡ set_of tasks → OrMemory (RefusesSet set costs) status → Names set status task
      → Stopped choice_stages (begun words) shelf last status task
  stopped_at_choice set status task is cause names =
      let why : OrMemory (RefusesChoice program target) status = elim cause [
        | inl e ↦ inl e
        | inr h ↦ inr (record {
          tasks = tasks;
          faultless = faultless read.first read.free;
          costs = costs;
          gives = read.gives;
          refused = subst (λ (s : List core.Task). RefusesSet s costs status) is h;
        })
      ] in
      let named : NamesTask program status task = (tasks, faultless read.first read.free, subst (λ (s : List core.Task). Names s status task) is names) in
      stopped_behind_set behind_set last status task read.first read.free (inr (target, last, read.loaded, inr ((costs, read.gives), inl (why, named, refl))))

  -- one is
  pub choice_for : (c : Choice) → c.set ≡ set_of tasks → c.costs ≡ costs → IsBest c → IsChoiceFor program target c
  choice_for c is same best =
      record {
        tasks = tasks;
        faultless = faultless read.first read.free;
        is = is;
        gives = subst (GivesCosts target) (sym same) read.gives;
        best = best;
      }

  pub passed_all : (c : Choice) → IsChoiceFor program target c → Passed choice_stages (begun words) shelf (with_both words program target) last
  passed_all c for =
      (program, read.next, read.first.loaded, ((tasks, read.first.is), ((tasks, faultless read.first read.free), (target, last, read.loaded, ((costs, read.gives), ((c, for), (refl, refl)))))))
