-- The first flaw of a whole from the first flaws of its parts.
use Rattle.std.proofs.Common.{◌≡◌, ℕ, ◌+◌, ◌<◌, ◌≤◌, Bool, true, false, ⊎_elim, List, length, get_or, take, Option, Some, None, refl, ap, sym, ◌∙◌, subst, arith}
use Rattle.std.specs.List.{slice_get}
use Rattle.std.specs.Option.{option_map_or}
use Rattle.std.proofs.lemmas.Bool.{false≢true, and_right, cases_lt}
use Rattle.std.proofs.lemmas.Option.{slice_get-get_or, slice_get_past, slice_get_read}
use Rattle.tcel_image.specs.declared.flaw.Flaw.{Flaw}
use Rattle.tcel_image.specs.declared.flaw.FlawKind.{FlawKind}
use Rattle.tcel_image.specs.declared.flaw.FlawKind.TheVariants.{BadPeriod, SameName}
use Rattle.tcel_image.specs.declared.image.Image.{Image}
use Rattle.tcel_image.specs.declared.image.ImageTask.{ImageTask}
use Rattle.tcel_image.specs.declared.image.Line.{Line}
use Rattle.tcel_image.specs.Validity.{line_has, task_has, has_flaw, in_code, IsValid}
use Rattle.tcel_verify.specs.First.{head_has, code_has, FirstInCode, FirstInTask}

-- ---- code

code_at : (task : ImageTask) (lines : List Line) → lines ≡ task.code → (kind : FlawKind) (place : ℕ) (d : Line) → place < length lines
    → code_has task kind place ≡ line_has task kind place (get_or lines place d)
code_at task lines e kind place d h =
    ap (λ found. option_map_or (line_has task kind place) found false) (ap (λ (l : List Line). slice_get l place) (sym e) ∙ slice_get-get_or lines place d h)

code_past : (task : ImageTask) (lines : List Line) → lines ≡ task.code → (kind : FlawKind) (place : ℕ) → length lines ≤ place → code_has task kind place ≡ false
code_past task lines e kind place h =
    ap (λ found. option_map_or (line_has task kind place) found false) (ap (λ (l : List Line). slice_get l place) (sym e) ∙ slice_get_past lines place h)

-- a line without flaws is passed
pub passed_line : (task : ImageTask) (lines : List Line) (place : ℕ) (d : Line) → lines ≡ task.code → place < length lines
    → ((kind : FlawKind) (before : ℕ) → before < place → code_has task kind before ≡ false)
    → ((kind : FlawKind) → line_has task kind place (get_or lines place d) ≡ false)
    → (kind : FlawKind) (before : ℕ) → before < place + 1 → code_has task kind before ≡ false
passed_line task lines place d e h so_far none kind before lt =
    ⊎_elim (λ less. so_far kind before less)
    (λ more. let same : place ≡ before = omega arith in subst (λ at. code_has task kind at ≡ false) same (code_at task lines e kind place d h ∙ none kind))
    (cases_lt before place)

pub none_in_code : (task : ImageTask) (lines : List Line) (place : ℕ) → lines ≡ task.code → length lines ≤ place
    → ((kind : FlawKind) (before : ℕ) → before < place → code_has task kind before ≡ false)
    → (kind : FlawKind) (at : ℕ) → code_has task kind at ≡ false
none_in_code task lines place e past so_far kind at =
    ⊎_elim (λ less. so_far kind at less) (λ more. code_past task lines e kind at (omega arith)) (cases_lt at place)

-- ---- a task

head_clear : (before : List ImageTask) (task : ImageTask) (kind : FlawKind) (place : ℕ) → in_code kind ≡ 0 → head_has before task kind ≡ false
    → task_has before task kind place ≡ false
head_clear before task BadPeriod place e h = and_right _ _ h
head_clear before task SameName place e h = and_right _ _ h
head_clear before task _ place e h = absurd (omega arith)

task_clear : (before : List ImageTask) (task : ImageTask) (kind : FlawKind) (place : ℕ) → head_has before task kind ≡ false → code_has task kind place ≡ false
    → task_has before task kind place ≡ false
task_clear before task BadPeriod place h c = and_right _ _ h
task_clear before task SameName place h c = and_right _ _ h
task_clear before task _ place h c = c

never : (found : Option Line) → option_map_or (λ (line : Line). false) found false ≡ false
never None = refl
never (Some line) = refl

code_there : (before : List ImageTask) (task : ImageTask) (kind : FlawKind) (place : ℕ) → code_has task kind place ≡ true
    → (task_has before task kind place ≡ true) × (in_code kind ≡ 1)
code_there before task BadPeriod place h = absurd (false≢true (sym (never (slice_get task.code place)) ∙ h))
code_there before task SameName place h = absurd (false≢true (sym (never (slice_get task.code place)) ∙ h))
code_there before task _ place h = (h, refl)

pub found_behind_head : (before : List ImageTask) (task : ImageTask) (number : ℕ) (found : Option Flaw) → ((kind : FlawKind) → head_has before task kind ≡ false)
    → FirstInCode task number found → FirstInTask before task number found
found_behind_head before task number None head code = λ kind place. task_clear before task kind place (head kind) (code kind place)
found_behind_head before task number (Some flaw) head code =
    let there = code_there before task flaw.kind flaw.pc code.there in
    record {
      task_of = code.task_of;
      there = there.0;
      first = λ other e p.
          ⊎_elim (λ lt. absurd (omega (arith, code.task_of)))
          (⊎_elim (λ part. head_clear before task other.kind other.pc (omega (arith, there.1)) (head other.kind))
          (⊎_elim (λ place. task_clear before task other.kind other.pc (head other.kind) (code.earlier other.kind other.pc place.2))
          (λ last. task_clear before task other.kind other.pc (head other.kind)
          (subst (λ at. code_has task other.kind at ≡ false) (sym last.2) (code.lower other.kind last.3)))))
          p;
    }

-- ---- an image

image_at : (image : Image) (tasks : List ImageTask) → tasks ≡ image.tasks → (flaw : Flaw) (number : ℕ) (task : ImageTask) → number < length tasks → task ≡ get_or tasks number task
    → flaw.task ≡ number → has_flaw image flaw ≡ task_has (take number tasks) task flaw.kind flaw.pc
image_at image tasks e flaw number task h is same =
    let has : ℕ → List ImageTask → Option ImageTask → Bool = λ n all found. option_map_or (λ task. task_has (take n all) task flaw.kind flaw.pc) found false in
    ap (λ n. has n image.tasks (slice_get image.tasks n)) same
    ∙ ap (λ (all : List ImageTask). has number all (slice_get all number)) (sym e)
    ∙ ap (λ found. has number tasks found) (slice_get_read tasks (length tasks) number task refl h is)

image_past : (image : Image) (tasks : List ImageTask) → tasks ≡ image.tasks → (flaw : Flaw) → length tasks ≤ flaw.task → has_flaw image flaw ≡ false
image_past image tasks e flaw h =
    ap (λ found. option_map_or (λ task. task_has (take flaw.task image.tasks) task flaw.kind flaw.pc) found false)
    (ap (λ (all : List ImageTask). slice_get all flaw.task) (sym e) ∙ slice_get_past tasks flaw.task h)

-- a task without flaws is passed
pub passed_task : (image : Image) (tasks : List ImageTask) (number : ℕ) (task : ImageTask) → tasks ≡ image.tasks → number < length tasks → task ≡ get_or tasks number task
    → ((flaw : Flaw) → flaw.task < number → has_flaw image flaw ≡ false)
    → ((kind : FlawKind) (place : ℕ) → task_has (take number tasks) task kind place ≡ false)
    → (flaw : Flaw) → flaw.task < number + 1 → has_flaw image flaw ≡ false
passed_task image tasks number task e h is so_far none flaw lt =
    ⊎_elim (λ less. so_far flaw less) (λ more. image_at image tasks e flaw number task h is (omega arith) ∙ none flaw.kind flaw.pc) (cases_lt flaw.task number)

pub none_in_image : (image : Image) (tasks : List ImageTask) (number : ℕ) → tasks ≡ image.tasks → length tasks ≤ number
    → ((flaw : Flaw) → flaw.task < number → has_flaw image flaw ≡ false)
    → IsValid image
none_in_image image tasks number e past so_far =
    record { none = λ flaw. ⊎_elim (λ less. so_far flaw less) (λ more. image_past image tasks e flaw (omega arith)) (cases_lt flaw.task number) }
