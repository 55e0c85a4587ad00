-- The first flaw of a line, of a task's code and of a task.
use Rattle.std.specs.Prelude.{◌≡◌, ℕ, ◌<◌, Bool, false, true, List, slice_get, Option, Some, None}
use Rattle.std.specs.Option.{option_map_or}
use Rattle.tcel_image.specs.declared.flaw.Flaw.{Flaw}
use Rattle.tcel_image.specs.declared.flaw.FlawKind.{FlawKind}
use Rattle.tcel_image.specs.declared.flaw.FlawKind.TheVariants.{BadPeriod, SameName}
use Rattle.tcel_image.specs.declared.image.Image.{Image}
use Rattle.tcel_image.specs.declared.image.ImageTask.{ImageTask}
use Rattle.tcel_image.specs.Validity.{has_bad_period, has_same_name, line_has, task_has, kind_number, Precedes, IsValid, IsFirstFlaw}

-- of all kinds none passes the test, or this one, and none that comes before it
abbrev pub IsFirstKind : (FlawKind → Bool) → Option FlawKind → Type 0
IsFirstKind has None = (kind : FlawKind) → has kind ≡ false
IsFirstKind has (Some kind) = (has kind ≡ true) × ((other : FlawKind) → kind_number other < kind_number kind → has other ≡ false)

-- whether the head of a task has a flaw of this kind
abbrev pub head_has : List ImageTask → ImageTask → FlawKind → Bool
head_has earlier task BadPeriod = has_bad_period task
head_has earlier task SameName = has_same_name earlier task
head_has earlier task _ = false

-- whether the code of a task has a flaw of this kind at this place
abbrev pub code_has : ImageTask → FlawKind → ℕ → Bool
code_has task kind place = option_map_or (line_has task kind place) (slice_get task.code place) false

-- the flaw stands in the code of the task of this number, and no other before it
pub record IsFirstInCode (task : ImageTask) (number : ℕ) (flaw : Flaw) : Type 0 where
  pub task_of : flaw.task ≡ number
  pub there : code_has task flaw.kind flaw.pc ≡ true
  pub earlier : (kind : FlawKind) (place : ℕ) → place < flaw.pc → code_has task kind place ≡ false
  pub lower : (kind : FlawKind) → kind_number kind < kind_number flaw.kind → code_has task kind flaw.pc ≡ false

-- of the code of a task no flaw, or the first
abbrev pub FirstInCode : ImageTask → ℕ → Option Flaw → Type 0
FirstInCode task number None = (kind : FlawKind) (place : ℕ) → code_has task kind place ≡ false
FirstInCode task number (Some flaw) = IsFirstInCode task number flaw

-- the flaw stands in the task of this number, and no other before it
pub record IsFirstInTask (before : List ImageTask) (task : ImageTask) (number : ℕ) (flaw : Flaw) : Type 0 where
  pub task_of : flaw.task ≡ number
  pub there : task_has before task flaw.kind flaw.pc ≡ true
  pub first : (other : Flaw) → other.task ≡ number → Precedes other flaw → task_has before task other.kind other.pc ≡ false

-- of a task, after these earlier ones, no flaw, or the first
abbrev pub FirstInTask : List ImageTask → ImageTask → ℕ → Option Flaw → Type 0
FirstInTask before task number None = (kind : FlawKind) (place : ℕ) → task_has before task kind place ≡ false
FirstInTask before task number (Some flaw) = IsFirstInTask before task number flaw

-- of an image no flaw, or the first
abbrev pub FirstOfImage : Image → Option Flaw → Type 0
FirstOfImage image None = IsValid image
FirstOfImage image (Some flaw) = IsFirstFlaw image flaw
