-- What is known of the image of a checked set.
use Rattle.std.proofs.Common.{◌≡◌, ℕ, ◌≤◌, Bool, true, false, List, [], ◌∷◌, length, map, refl, ap, ◌∙◌, arith}
use Rattle.std.specs.Prelude.{nat_le}
use Rattle.std.specs.List.{AllByRecursion, AllZip}
use Rattle.std.proofs.lemmas.List.Elements.{recursion_from_All}
use Rattle.tcel_core.specs.Language.{Task}
use Rattle.tcel_core.specs.Parts.{AreOwnParts, TaskParts}
use Rattle.tcel_core.specs.Sound.{IsSoundTask}
use Rattle.tcel_target.specs.Costs.{unit_costs}
use Rattle.tcel_target.proofs.Keys.{unit_in_range}
use Rattle.tcel_image.specs.declared.image.ImageTask.{ImageTask}
use Rattle.tcel_image.specs.Validity.{has_twice}
use Rattle.tcel_cost.specs.Forms.{Form, form_of, forms_of}
use Rattle.tcel_code.specs.Layout.{form_task, layout}
use Rattle.tcel_code.proofs.Abreast.{runs_keep_abreast}
use Rattle.tcel_code.proofs.NeverLateSets.{sets_meet}
use Rattle.tcel_code.proofs.SpelledImages.{images_in_range}
use Rattle.tcel_code.proofs.ValidImages.{images_valid}
use Rattle.tcel_gen.specs.Generated.{ImagesAreReady, ImagesAreSmall, IsShort, RunsKeepAbreast, RunsMeetTheirSource}
use Rattle.tcel_gen.proofs.ImageLengths.{image_most}
use Rattle.tcel_gen.proofs.ReadyForms.{all_ready, all_short, forms_ready}
use Rattle.tcel_gen.proofs.TaskNames.{distinct_once}

one_name : (task : Task) (sliced : Bool) (parts : TaskParts) → (form_of task sliced parts).task.name ≡ task.name
one_name task true parts = refl
one_name task false parts = refl

names_kept : (sliced : ℕ) (tasks : List Task) (parts : List TaskParts) → AllZip AreOwnParts tasks parts →
    map (λ (form : Form). form.task.name) (forms_of sliced tasks parts) ≡ map (λ (task : Task). task.name) tasks
names_kept sliced [] parts own = refl
names_kept sliced (task ∷ tasks) [] own = absurd own
names_kept sliced (task ∷ tasks) (p ∷ parts) own =
    ap (λ (name : List ℕ). name ∷ map (λ (form : Form). form.task.name) (forms_of sliced tasks parts)) (one_name task (nat_le (length (task ∷ tasks)) sliced) p)
    ∙ ap (λ (names : List (List ℕ)). task.name ∷ names) (names_kept sliced tasks parts own.1)

forms_long : (sliced : ℕ) (tasks : List Task) (parts : List TaskParts) → AllZip AreOwnParts tasks parts → length (forms_of sliced tasks parts) ≡ length tasks
forms_long sliced [] parts own = refl
forms_long sliced (task ∷ tasks) [] own = absurd own
forms_long sliced (task ∷ tasks) (p ∷ parts) own = omega (arith, forms_long sliced tasks parts own.1)

pub images_ready : ImagesAreReady
images_ready = λ sliced tasks parts costs sound own ranges.
    let forms = forms_of sliced tasks parts in
    let is = forms_ready sliced tasks parts sound own in
    let long = forms_long sliced tasks parts own in
    let some = sound.some in
    let most = sound.most in (
      images_in_range forms costs ranges (omega arith, omega arith) is.compilable is.spellable,
      images_valid forms costs (ap has_twice (names_kept sliced tasks parts own) ∙ distinct_once (map (λ (task : Task). task.name) tasks) sound.names) is.compilable,
    )

tasks_short : (forms : List Form) → AllByRecursion IsShort forms → AllByRecursion (λ (t : ImageTask). length t.code ≤ 36300) (map form_task forms)
tasks_short [] h = tt
tasks_short (form ∷ forms) h = (h.0, tasks_short forms h.1)

pub images_small : ImagesAreSmall
images_small = λ sliced tasks parts costs sound own.
    let forms = forms_of sliced tasks parts in
    let image = images_ready sliced tasks parts unit_costs sound own unit_in_range in
    let short = all_short forms (all_ready sliced tasks parts (recursion_from_All IsSoundTask tasks sound.each) own) in
    let count = image.0.count.1 in
    (short, image_most (layout forms costs) image.0.tasks count (tasks_short forms short))

pub runs_meet : RunsMeetTheirSource
runs_meet = λ sliced tasks parts costs sound own ranges plans hyper are period fits never.
    sets_meet (forms_of sliced tasks parts) costs plans hyper (forms_ready sliced tasks parts sound own).fit ranges are period fits never

pub keep_abreast : RunsKeepAbreast
keep_abreast = λ sliced tasks parts costs sound own ranges plans streams ticks are long.
    runs_keep_abreast (forms_of sliced tasks parts) costs plans streams ticks (forms_ready sliced tasks parts sound own).fit ranges are long
