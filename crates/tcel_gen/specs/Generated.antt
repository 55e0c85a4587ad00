-- What is known of the image of a checked set, of which so many of the last tasks are sliced into their own parts.
use Rattle.std.specs.Prelude.{◌≡◌, ℕ, ◌≤◌, List, [], length, map, All, Some, slice_get, slice_index_or}
use Rattle.std.specs.List.{AllByRecursion, AllZip}
use Rattle.tcel_num.specs.Hyperperiod.{IsHyperperiod, demand}
use Rattle.tcel_num.specs.Lateness.{IsNeverLate}
use Rattle.tcel_num.specs.Plan.{Plan}
use Rattle.tcel_core.specs.Language.{Task}
use Rattle.tcel_core.specs.Meets.{entries_of}
use Rattle.tcel_core.specs.Parts.{AreOwnParts, TaskParts}
use Rattle.tcel_core.specs.Promises.{behavior_of}
use Rattle.tcel_core.specs.Sound.{IsSoundSet}
use Rattle.tcel_target.specs.declared.costs.Costs.{Costs}
use Rattle.tcel_target.specs.Costs.{CostsInRange}
use Rattle.tcel_image.specs.Machine.{Streams, trace}
use Rattle.tcel_image.specs.Spelling.{InRange, spelling}
use Rattle.tcel_image.specs.Validity.{IsValid}
use Rattle.tcel_cost.specs.Forms.{Form, forms_of}
use Rattle.tcel_cost.specs.Plans.{ArePlans}
use Rattle.tcel_code.specs.Compilable.{IsCompilable}
use Rattle.tcel_code.specs.Domination.{IsAbreastAt, counting, events_of}
use Rattle.tcel_code.specs.Layout.{form_task, layout}
use Rattle.tcel_code.specs.PartsFit.{PartsFit}
use Rattle.tcel_code.specs.Spellable.{IsSpellable}
use Rattle.tcel_code.specs.Theorem.{HasStreams, RunsOfFormsMeet}

-- what forms have whose parts mean their tasks, and whose image is valid and can be written
pub record AreReady (forms : List Form) : Type 0 where
  pub fit : All PartsFit forms
  pub compilable : AllByRecursion IsCompilable forms
  pub spellable : AllByRecursion IsSpellable forms

-- so are those of a checked set, whichever of its last tasks are sliced into their own parts
abbrev pub FormsAreReady : Type 0
FormsAreReady =
    (sliced : ℕ) (tasks : List Task) (parts : List TaskParts) → IsSoundSet tasks → AllZip AreOwnParts tasks parts → AreReady (forms_of sliced tasks parts)

-- their image has a spelling and no flaw
abbrev pub ImagesAreReady : Type 0
ImagesAreReady =
    (sliced : ℕ) (tasks : List Task) (parts : List TaskParts) (costs : Costs) → IsSoundSet tasks → AllZip AreOwnParts tasks parts → CostsInRange costs →
    let image = layout (forms_of sliced tasks parts) costs in InRange image × IsValid image

-- the code of a task has at most 36,300 lines
abbrev pub IsShort : Form → Type 0
IsShort form = length (form_task form).code ≤ 36300

-- so it is in these images, which have at most 16,777,216 bytes
abbrev pub ImagesAreSmall : Type 0
ImagesAreSmall =
    (sliced : ℕ) (tasks : List Task) (parts : List TaskParts) (costs : Costs) → IsSoundSet tasks → AllZip AreOwnParts tasks parts →
    let forms = forms_of sliced tasks parts in AllByRecursion IsShort forms × (length (spelling (layout forms costs)) ≤ 16777216)

-- every run of the image of these forms meets its source, by any plans of them whose demand fits and that are never late
abbrev pub MeetsItsSource : List Form → Costs → Type 0
MeetsItsSource forms costs =
    (plans : List Plan) (hyper : ℕ) → ArePlans forms costs plans → IsHyperperiod plans hyper → demand plans hyper ≤ hyper → IsNeverLate plans →
    RunsOfFormsMeet forms costs plans

-- so it is with the images of checked sets
abbrev pub RunsMeetTheirSource : Type 0
RunsMeetTheirSource =
    (sliced : ℕ) (tasks : List Task) (parts : List TaskParts) (costs : Costs) → IsSoundSet tasks → AllZip AreOwnParts tasks parts → CostsInRange costs →
    MeetsItsSource (forms_of sliced tasks parts) costs

-- in every run of the image of these forms each task is abreast of the demand schedule at every time, by any plans of them
abbrev pub KeepsAbreast : List Form → Costs → Type 0
KeepsAbreast forms costs =
    (plans : List Plan) (streams : Streams) (ticks : ℕ) → ArePlans forms costs plans → AllZip HasStreams (map (λ (form : Form). form.task) forms) streams →
    (number : ℕ) (form : Form) (plan : Plan) → slice_get forms number ≡ Some form → slice_get plans number ≡ Some plan →
    let own = slice_index_or streams number [] in
    IsAbreastAt (counting (layout forms costs) streams ticks) plans plan (behavior_of form.task own) (events_of form.task own) ticks number
    (entries_of number (trace (layout forms costs) streams ticks))

-- so it is in the runs of checked sets, whether their demand fits or not
abbrev pub RunsKeepAbreast : Type 0
RunsKeepAbreast =
    (sliced : ℕ) (tasks : List Task) (parts : List TaskParts) (costs : Costs) → IsSoundSet tasks → AllZip AreOwnParts tasks parts → CostsInRange costs →
    KeepsAbreast (forms_of sliced tasks parts) costs
