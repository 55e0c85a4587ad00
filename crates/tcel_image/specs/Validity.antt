-- What a machine asks of an image before it runs it, and the first flaw of an image that lacks it.
use Rattle.std.specs.Prelude.{◌≡◌, ℕ, ◌+◌, ◌<◌, Bool, true, false, not, ◌&&◌, ◌||◌, ◌==◌, nat_lt, nat_le, nat_eq, ◌⊎◌, List, [], ◌∷◌, ◌++◌, length, map, take, slice_get}
use Rattle.std.specs.List.{list_any}
use Rattle.std.specs.Option.{option_map_or}
use Rattle.std.specs.Cmp.Lexicographic.{pointwise}
use Rattle.tcel_image.specs.declared.flaw.Flaw.{Flaw}
use Rattle.tcel_image.specs.declared.flaw.FlawKind.{FlawKind}
use Rattle.tcel_image.specs.declared.flaw.FlawKind.TheVariants.{BadPeriod, SameName, JumpOut, BadCell, BadPort, BadDepth, FallsOff}
use Rattle.tcel_image.specs.declared.image.Image.{Image}
use Rattle.tcel_image.specs.declared.image.ImageTask.{ImageTask}
use Rattle.tcel_image.specs.declared.image.ImageState.{ImageState}
use Rattle.tcel_image.specs.declared.image.Instr.{Instr}
use Rattle.tcel_image.specs.declared.image.Instr.TheVariants.{Jump, Receive, Send, End}
use Rattle.tcel_image.specs.declared.image.Line.{Line}
use Rattle.tcel_image.specs.Instructions.{Range, targets, ranges, next_places, pops, depth_after}

-- two names are one
abbrev pub same_name : List ℕ → List ℕ → Bool
same_name a b = pointwise nat_eq a b

-- some two of the names are one
abbrev pub has_twice : List (List ℕ) → Bool
has_twice [] = false
has_twice (name ∷ names) = list_any (same_name name) names || has_twice names

-- the names of a task's inputs, outputs and states, which share one name space
abbrev pub own_names : ImageTask → List (List ℕ)
own_names task = task.inputs ++ (task.outputs ++ map (λ (state : ImageState). state.name) task.states)

-- the period is 0 or above 10^9
abbrev pub has_bad_period : ImageTask → Bool
has_bad_period task = task.period == 0 || nat_lt 1000000000 task.period

-- the task's name is one of the earlier tasks', or two names within it are one
abbrev pub has_same_name : List ImageTask → ImageTask → Bool
has_same_name earlier task =
    list_any (λ (other : ImageTask). same_name task.name other.name) earlier || has_twice (own_names task)

-- a target is no place of the code
abbrev pub jumps_out : ImageTask → Instr → Bool
jumps_out task instr = list_any (λ target. nat_le (length task.code) target) (targets instr)

-- a cell or a range of cells passes the task's cells
abbrev pub has_bad_cell : ImageTask → Instr → Bool
has_bad_cell task instr = list_any (λ (range : Range). nat_lt task.cells (range.from + range.length)) (ranges instr)

-- the port is none of the task's
abbrev pub has_bad_port : ImageTask → Instr → Bool
has_bad_port task (Receive port cell) = nat_le (length task.inputs) port
has_bad_port task (Send port) = nat_le (length task.outputs) port
has_bad_port task _ = false

-- a line that is there has another depth than this
abbrev pub has_other_depth : ImageTask → ℕ → ℕ → Bool
has_other_depth task depth place =
    option_map_or (λ (line : Line). not (line.depth == depth)) (slice_get task.code place) false

abbrev pub is_end : Instr → Bool
is_end End = true
is_end _ = false

-- the stack is lower than what is popped, or afterwards above 128, or a next line has another depth, or the first line or an end has a depth
abbrev pub has_bad_depth : ImageTask → ℕ → Line → Bool
has_bad_depth task place line =
    nat_lt line.depth (pops line.instr)
    || nat_lt 128 (depth_after line)
    || list_any (has_other_depth task (depth_after line)) (next_places place line.instr)
    || ((place == 0 || is_end line.instr) && not (line.depth == 0))

-- neither a jump nor an end
abbrev pub goes_on : Instr → Bool
goes_on (Jump target) = false
goes_on End = false
goes_on _ = true

-- the code's last line goes on
abbrev pub falls_off : ImageTask → ℕ → Instr → Bool
falls_off task place instr = place + 1 == length task.code && goes_on instr

-- whether a line of the task has a flaw of this kind
abbrev pub line_has : ImageTask → FlawKind → ℕ → Line → Bool
line_has task JumpOut place line = jumps_out task line.instr
line_has task BadCell place line = has_bad_cell task line.instr
line_has task BadPort place line = has_bad_port task line.instr
line_has task BadDepth place line = has_bad_depth task place line
line_has task FallsOff place line = falls_off task place line.instr
line_has task _ place line = false

-- whether a task, after these earlier ones, has a flaw of this kind at this place
abbrev pub task_has : List ImageTask → ImageTask → FlawKind → ℕ → Bool
task_has earlier task BadPeriod place = place == 0 && has_bad_period task
task_has earlier task SameName place = place == 0 && has_same_name earlier task
task_has earlier task kind place = option_map_or (line_has task kind place) (slice_get task.code place) false

-- whether the flaw stands in the image
abbrev pub has_flaw : Image → Flaw → Bool
has_flaw image flaw =
    option_map_or (λ task. task_has (take flaw.task image.tasks) task flaw.kind flaw.pc) (slice_get image.tasks flaw.task) false

-- no flaw stands in the image
pub record IsValid (image : Image) : Type 0 where
  pub none : (flaw : Flaw) → has_flaw image flaw ≡ false

-- the order of the kinds
abbrev pub kind_number : FlawKind → ℕ
kind_number BadPeriod = 0
kind_number SameName = 1
kind_number JumpOut = 2
kind_number BadCell = 3
kind_number BadPort = 4
kind_number BadDepth = 5
kind_number FallsOff = 6

-- whether a flaw is in the task's code, and not in its head
abbrev pub in_code : FlawKind → ℕ
in_code BadPeriod = 0
in_code SameName = 0
in_code _ = 1

-- the order of flaws: by task, a head before its code, by place, by kind
abbrev pub Precedes : Flaw → Flaw → Type 0
Precedes a b =
    (a.task < b.task)
    ⊎ ((a.task ≡ b.task) × (in_code a.kind < in_code b.kind))
    ⊎ ((a.task ≡ b.task) × (in_code a.kind ≡ in_code b.kind) × (a.pc < b.pc))
    ⊎ ((a.task ≡ b.task) × (in_code a.kind ≡ in_code b.kind) × (a.pc ≡ b.pc) × (kind_number a.kind < kind_number b.kind))

-- the flaw stands in the image, and none that precedes it does
pub record IsFirstFlaw (image : Image) (flaw : Flaw) : Type 0 where
  pub there : has_flaw image flaw ≡ true
  pub first : (other : Flaw) → Precedes other flaw → has_flaw image other ≡ false
