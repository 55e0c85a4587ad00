-- How `trial` goes on behind its bounds, its program, its set, its choice and its script.
use Rattle.std.proofs.Common.{◌≡◌, ◌∙◌, ℕ, ◌≤◌, List, [], ◌∷◌, Ok, Option, ap, inl, inr, refl, subst, sym}
use Rattle.tcel_check.specs.Checked.{set_of}
use Rattle.tcel_check.specs.Rows.{marks}
use Rattle.tcel_core.specs.Language as core
use Rattle.tcel_core.specs.Ports.{port_rows}
use Rattle.tcel_io.specs.Shelf.{SeenShelf}
use Rattle.tcel_make.specs.Program.{program_text}
use Rattle.tcel_script.specs.Script.{Streams, script_of}
use Rattle.tcel_target.specs.Costs.{unit_costs}
use Rattle.tcel_tree.specs.Language.{Task}
use Rattle.tcel_tool.specs.Answer.{OrMemory, begun, with_read}
use Rattle.tcel_tool.specs.CheckCommand.{IsFaultless, RefusesFaults, RefusesTasks}
use Rattle.tcel_tool.specs.CommandLine.{number_at}
use Rattle.tcel_tool.specs.MadeText.{made_text}
use Rattle.tcel_tool.specs.MeanCommand.{Means, RefusesInputs}
use Rattle.tcel_tool.specs.ProgramText.{IsProgramText}
use Rattle.tcel_tool.specs.ScriptText.{RefusesLines}
use Rattle.tcel_tool.specs.SetChoice.{Choice, IsBest, IsUnitChoice, Names, NamesTask, RefusesSet, RefusesUnitChoice}
use Rattle.tcel_tool.specs.Stage.{Call, Stage, make, program, script, test}
use Rattle.tcel_tool.specs.Stretch.{Passed, Stopped}
use Rattle.tcel_tool.specs.Summary.{summary_text}
use Rattle.tcel_tool.specs.Test as tests
use Rattle.tcel_tool.specs.TrialCommand.{IsText, stages}
use Rattle.tcel_tool.specs.declared.status.Status.{Status}

-- the bytes that were made are the program's, and the script's
pub made_program : (words : List (List ℕ)) (seed tasks : ℕ) (text given : List ℕ) → given ≡ text → text ≡ program_text seed tasks → seed ≡ number_at words 1
    → tasks ≡ number_at words 2 → given ≡ made_text program words
made_program words seed tasks text given same is seeds counts = same ∙ is ∙ ap (λ s. program_text s tasks) seeds ∙ ap (program_text (number_at words 1)) counts

abbrev pub after_script : List Stage
after_script = test (tests.inputs 2) ∷ []

abbrev pub after_set : List Stage
after_set = test tests.unit_choice ∷ make script 2 ∷ after_script

abbrev pub after_text : List Stage
after_text = test tests.program ∷ test tests.faultless ∷ after_set

abbrev pub with_program : List (List ℕ) → Call
with_program words = with_read 1 (made_text program words) (begun words)

abbrev pub with_script : List (List ℕ) → Call
with_script words = with_read 2 (made_text script words) (with_program words)

-- the words are within their bounds
pub record AreBounded (words : List (List ℕ)) : Type 0 where
  pub few : number_at words 2 ≤ 16
  pub short : number_at words 3 ≤ 10000000

-- the made text is this program's, without faults
pub record HasProgram (words : List (List ℕ)) (tasks : List Task) : Type 0 where
  pub bounded : AreBounded words
  pub is : IsProgramText (made_text program words) tasks

abbrev pub has_program : {words : List (List ℕ)} {tasks : List Task} → AreBounded words → (given : List ℕ) → given ≡ made_text program words → IsProgramText given tasks
    → HasProgram words tasks
has_program {tasks = tasks} bounded given same is = record { bounded = bounded; is = subst (λ t. IsProgramText t tasks) same is }

module _ {words : List (List ℕ)} (shelf : SeenShelf) (status : Status) (task : Option (List ℕ)) where
  pub behind_bounds : AreBounded words → Stopped (make program 1 ∷ after_text) (begun words) shelf shelf status task → Stopped stages (begun words) shelf shelf status task
  behind_bounds bounded rest = inr (bounded.few, inr (bounded.short, rest))

  pub behind_program : {tasks : List Task} → HasProgram words tasks → Stopped (test tests.faultless ∷ after_set) (with_program words) shelf shelf status task
      → Stopped stages (begun words) shelf shelf status task
  behind_program {tasks = tasks} made rest = behind_bounds made.bounded (inr (inr ((tasks, made.is), rest)))

module _ {words : List (List ℕ)} {tasks : List Task} (made : HasProgram words tasks) where
  -- a fault of the program
  pub faulty : (status : Status) → OrMemory (RefusesTasks tasks) status → OrMemory (RefusesFaults (made_text program words)) status
  faulty status (inl e) = inl e
  faulty status (inr h) = inr (tasks, made.is, h)

  module _ (free : marks tasks ≡ []) (set : List core.Task) (set_is : set ≡ set_of tasks) where
    abbrev faultless : IsFaultless (made_text program words) tasks
    faultless = record { program = made.is; free = free }

    behind_set : (shelf : SeenShelf) (status : Status) (task : Option (List ℕ)) → Stopped after_set (with_program words) shelf shelf status task → Stopped stages (begun words) shelf shelf status task
    behind_set shelf status task rest = behind_program shelf status task made (inr ((tasks, faultless), rest))

    -- no choice is made
    pub stopped_at_choice : (shelf : SeenShelf) (status : Status) (task : Option (List ℕ)) → OrMemory (RefusesSet set unit_costs) status → Names set status task
        → Stopped stages (begun words) shelf shelf status task
    stopped_at_choice shelf status task cause names =
        let why : OrMemory (RefusesUnitChoice (made_text program words)) status = elim cause [
          | inl e ↦ inl e
          | inr h ↦ inr (record { tasks = tasks; faultless = faultless; refused = subst (λ (s : List core.Task). RefusesSet s unit_costs status) set_is h })
        ] in
        let named : NamesTask (made_text program words) status task = (tasks, faultless, subst (λ (s : List core.Task). Names s status task) set_is names) in
        behind_set shelf status task (inl (why, named, refl))

    module _ (c : Choice) (of_set : c.set ≡ set) (costs : c.costs ≡ unit_costs) (best : IsBest c) where
      pub unit_choice : IsUnitChoice (made_text program words) c
      unit_choice = record { tasks = tasks; faultless = faultless; is = of_set ∙ set_is; unit = costs; best = best }

      -- behind the choice no script is made
      pub behind_choice : (shelf : SeenShelf) (status : Status) (task : Option (List ℕ)) → Stopped (make script 2 ∷ after_script) (with_program words) shelf shelf status task
          → Stopped stages (begun words) shelf shelf status task
      behind_choice shelf status task rest = behind_set shelf status task (inr ((c, unit_choice), rest))

      -- it is refused
      pub stopped_at_script : (given : List ℕ) → given ≡ made_text script words → (shelf : SeenShelf) (status : Status) (task : Option (List ℕ))
          → OrMemory (RefusesLines (port_rows set) given) status → Stopped stages (begun words) shelf shelf status task
      stopped_at_script given same shelf status task cause =
          let why : OrMemory (RefusesInputs (made_text program words) (made_text script words)) status = elim cause [
            | inl e ↦ inl e
            | inr h ↦
                let refuses = subst (λ t. RefusesLines (port_rows set) t status) same h in
                inr (tasks, faultless, subst (λ (s : List core.Task). RefusesLines (port_rows s) (made_text script words) status) set_is refuses)
          ] in
          behind_choice shelf status task (inr (inl (why, tt, refl)))

      module _ (given : List ℕ) (same : given ≡ made_text script words) (streams : Streams) (streams_are : script_of (port_rows set) given ≡ Ok streams) where
        pub own_streams : script_of (port_rows c.set) (made_text script words) ≡ Ok streams
        own_streams =
            subst (λ (s : List core.Task). script_of (port_rows s) (made_text script words) ≡ Ok streams) (sym of_set)
            (subst (λ t. script_of (port_rows set) t ≡ Ok streams) same streams_are)

        means : Means (made_text program words) (made_text script words) tasks streams
        means =
            record {
              faultless = faultless;
              streams_in = subst (λ (s : List core.Task). script_of (port_rows s) (made_text script words) ≡ Ok streams) (of_set ∙ set_is) own_streams;
            }

        pub passed_all : (shelf : SeenShelf) → Passed stages (begun words) shelf (with_script words) shelf
        passed_all shelf =
            (made.bounded.few, (made.bounded.short, ((tasks, made.is), ((tasks, faultless), ((c, unit_choice), ((tasks, streams, means), (refl, refl)))))))

-- a summary is the text of the command
abbrev pub summarized : (last : Call) (c : Choice) → IsUnitChoice (last.read 1) c → (streams : Streams) → script_of (port_rows c.set) (last.read 2) ≡ Ok streams
    → (ticks : ℕ) → ticks ≡ number_at last.words 3 → (text piece : List ℕ) → text ≡ summary_text c streams ticks → piece ≡ text → IsText last (piece ∷ [])
summarized last c for streams streams_in ticks number text piece is same =
    record {
      choice = c;
      for = for;
      streams = streams;
      streams_in = streams_in;
      is = ap (λ (t : List ℕ). t ∷ []) (same ∙ is ∙ ap (summary_text c streams) number);
    }
