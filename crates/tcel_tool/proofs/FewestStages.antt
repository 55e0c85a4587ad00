-- How `fewest` goes on behind its program and behind its target.
use Rattle.std.proofs.Common.{◌≡◌, ◌≤◌, ℕ, List, [], ◌∷◌, Option, inl, inr, length, ap, refl, subst, sym, ◌∙◌}
use Rattle.tcel_check.specs.Checked.{set_of}
use Rattle.tcel_check.specs.Rows.{marks}
use Rattle.tcel_core.specs.Language as core
use Rattle.tcel_io.specs.Shelf.{SeenShelf}
use Rattle.tcel_target.specs.declared.costs.Costs.{Costs}
use Rattle.tcel_tree.specs.Language.{Task}
use Rattle.tcel_driver.specs.Forms.{AreForms}
use Rattle.tcel_tool.specs.Answer.{OrMemory, begun}
use Rattle.tcel_tool.specs.FewestCommand.{HasFewTasks, IsMany, RefusesMany, IsText, stages}
use Rattle.tcel_tool.specs.FewestText.{IsFewestText}
use Rattle.tcel_tool.specs.SetChoice.{Names, NamesTask}
use Rattle.tcel_tool.specs.SetForms.{AreFormsFor, ForbidsSet, RefusesForms, SetForms}
use Rattle.tcel_tool.specs.Stage.{Call, Stage, load, test}
use Rattle.tcel_tool.specs.Stretch.{Passed, Stopped}
use Rattle.tcel_tool.specs.Test as tests
use Rattle.tcel_tool.specs.TargetText.{GivesCosts}
use Rattle.tcel_tool.specs.declared.status.Status.{Status}
use Rattle.tcel_tool.proofs.ChoiceStages.{ReadBoth, ReadProgram, faultless, stopped_behind_set, with_both, with_program}

-- the stages of a target and the forms
abbrev pub behind_count : List Stage
behind_count = load 2 65536 ∷ test tests.target ∷ test tests.forms ∷ []

-- the program has few tasks
abbrev few_tasks : {words : List (List ℕ)} {shelf next : SeenShelf} {program : List ℕ} {tasks : List Task} → ReadProgram words shelf next program tasks
    → marks tasks ≡ [] → length (set_of tasks) ≤ 12 → HasFewTasks program tasks
few_tasks read free few = record { faultless = faultless read free; few = few }

-- it has many
pub stopped_at_count : {words : List (List ℕ)} {shelf next : SeenShelf} {program : List ℕ} {tasks : List Task} (status : Status) (task : Option (List ℕ))
    → ReadProgram words shelf next program tasks → marks tasks ≡ [] → (set : List core.Task) → set ≡ set_of tasks → IsMany set status
    → Stopped stages (begun words) shelf next status task
stopped_at_count {next = next} {program = program} {tasks = tasks} status task read free set is many =
    let why : RefusesMany program status = (tasks, faultless read free, subst (λ (s : List core.Task). IsMany s status) is many) in
    stopped_behind_set (test tests.few ∷ behind_count) next status task read free (inl (inr why, tt, refl))

-- behind it
pub stopped_behind_count : {words : List (List ℕ)} {shelf next : SeenShelf} {program : List ℕ} {tasks : List Task} (new : SeenShelf) (status : Status) (task : Option (List ℕ))
    → ReadProgram words shelf next program tasks → marks tasks ≡ [] → (set : List core.Task) → set ≡ set_of tasks → length set ≤ 12
    → Stopped behind_count (with_program words program) next new status task → Stopped stages (begun words) shelf new status task
stopped_behind_count {tasks = tasks} new status task read free set is few rest =
    let count : length (set_of tasks) ≤ 12 = subst (λ (s : List core.Task). length s ≤ 12) is few in
    stopped_behind_set (test tests.few ∷ behind_count) new status task read free (inr ((tasks, few_tasks read free count), rest))

module _ {words : List (List ℕ)} {shelf last : SeenShelf} {program target : List ℕ} {tasks : List Task} {costs : Costs}
    (read : ReadBoth words shelf last program target tasks costs) (set : List core.Task) (is : set ≡ set_of tasks) (few : length set ≤ 12) where
  -- a form is beyond a limit
  pub stopped_at_forms : (status : Status) (task : Option (List ℕ)) → OrMemory (ForbidsSet set costs) status → Names set status task
      → Stopped stages (begun words) shelf last status task
  stopped_at_forms status task cause names =
      let why : OrMemory (RefusesForms program target) status = elim cause [
        | inl e ↦ inl e
        | inr h ↦ inr (record {
          tasks = tasks;
          faultless = faultless read.first read.free;
          costs = costs;
          gives = read.gives;
          refused = subst (λ (s : List core.Task). ForbidsSet s costs status) is h;
        })
      ] in
      let named : NamesTask program status task = (tasks, faultless read.first read.free, subst (λ (s : List core.Task). Names s status task) is names) in
      stopped_behind_count last status task read.first read.free set is few (inr (target, last, read.loaded, inr ((costs, read.gives), inl (why, named, refl))))

  -- none is
  pub forms_given : (f : SetForms) → f.set ≡ set → f.costs ≡ costs → AreForms f.set f.costs f.parts f.whole f.sliced f.hyper → AreFormsFor program target f
  forms_given f own same are =
      record {
        tasks = tasks;
        faultless = faultless read.first read.free;
        is = own ∙ is;
        gives = subst (GivesCosts target) (sym same) read.gives;
        are = are;
      }

  pub passed_all : (f : SetForms) → AreFormsFor program target f → Passed stages (begun words) shelf (with_both words program target) last
  passed_all f for =
      let count : length (set_of tasks) ≤ 12 = subst (λ (s : List core.Task). length s ≤ 12) is few in
      let clean = faultless read.first read.free in (
        program,
        read.next,
        read.first.loaded,
        (
          (tasks, read.first.is),
          (
            (tasks, clean),
            (
              (tasks, few_tasks read.first read.free count),
              (target, last, read.loaded, ((costs, read.gives), ((f, for), (refl, refl)))),
            ),
          ),
        ),
      )

-- the text of the command
abbrev pub certified : (last : Call) (f : SetForms) → AreFormsFor (last.read 1) (last.read 2) f → (text piece : List ℕ) → IsFewestText f text → piece ≡ text
    → IsText last (piece ∷ [])
certified last f for text piece is same = record { forms = f; for = for; text = text; certifies = is; is = ap (λ (t : List ℕ). t ∷ []) same }
