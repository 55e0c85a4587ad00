-- The first breach of a trace: what is wrong with its lines, in order, and then what is missing.
use Rattle.std.specs.Prelude.{◌≡◌, ℕ, ◌+◌, ◌-◌, ◌*◌, ◌<◌, ◌≤◌, ◌==◌, nat_le, nat_lt, ℤ, Bool, true, false, not, ◌&&◌, ◌||◌, if◌then◌else◌, List, [], ◌∷◌, length, map, take, filter, find, slice_get, slice_index, slice_index_or, Option, None, Some, option_and_then}
use Rattle.std.specs.Option.{option_map_or}
use Rattle.std.specs.Ordering.{int_eq}
use Rattle.tcel_num.specs.Entry.{What, receive, send, first, end}
use Rattle.tcel_num.specs.Plan.{Plan}
use Rattle.tcel_num.specs.Schedule.{served}
use Rattle.tcel_core.specs.Language.{Task}
use Rattle.tcel_core.specs.Promises.{Behavior, Promise, behavior_of, promises}
use Rattle.tcel_image.specs.TraceText.{states_text}
use Rattle.tcel_code.specs.Layout.{states_of}
use Rattle.tcel_trace.specs.declared.trace_line.TraceLine.{TraceLine}
use Rattle.tcel_trace.specs.declared.trace_line.LineWhat.{LineWhat}
use Rattle.tcel_trace.specs.declared.trace_line.LineWhat.TheVariants.{Receive, Send, First, End}
use Rattle.tcel_script.specs.Script.{same}
use Rattle.tcel_judge.specs.declared.verdict.Verdict.{Verdict}
use Rattle.tcel_judge.specs.declared.verdict.Verdict.TheVariants as verdicts
use Rattle.tcel_judge.specs.declared.verdict.Breach.{Breach}
use Rattle.tcel_judge.specs.declared.verdict.Breach.TheVariants as breaches
use Rattle.tcel_judge.specs.declared.verdict.Due.{Due}
use Rattle.tcel_judge.specs.declared.verdict.Due.TheVariants as dues

-- a task and what it is to do on its streams
pub record Judged : Type 0 where
  pub task : Task
  pub does : Behavior

abbrev pub judged_of : List Task → List (List (List ℤ)) → List Judged
judged_of [] streams = []
judged_of (task ∷ tasks) [] = record { task = task; does = behavior_of task [] } ∷ judged_of tasks []
judged_of (task ∷ tasks) (s ∷ streams) = record { task = task; does = behavior_of task s } ∷ judged_of tasks streams

-- ---- one line

-- what the line of an entry shows
abbrev pub shown_of : Task → What → LineWhat
shown_of task (receive port value) = Receive (slice_index_or task.inputs port []) value
shown_of task (send port value) = Send (slice_index_or task.outputs port []) value
shown_of task first = First
shown_of task (end state) = End (states_text (states_of task.vars) state)

abbrev pub shows_same : LineWhat → LineWhat → Bool
shows_same (Receive port value) (Receive p v) = same port p && int_eq value v
shows_same (Send port value) (Send p v) = same port p && int_eq value v
shows_same First First = true
shows_same (End state) (End s) = same state s
shows_same _ _ = false

-- without its time the line is that of the entry that is to come
abbrev pub is_entry : Task → TraceLine → Promise → Bool
is_entry task line p = line.frame == p.frame && shows_same line.what (shown_of task p.what)

-- the entry of this number, from 0, of all that the task is to make for ever
abbrev pub promise_at : Behavior → ℕ → Option Promise
promise_at b n = slice_get (promises b (n + 1)) n

-- how many of the lines are those of the task with this name
abbrev pub own_lines : List ℕ → List TraceLine → ℕ
own_lines name lines = length (filter (λ line. same line.task name) lines)

abbrev pub is_over : Option ℕ → ℕ → Bool
is_over latest time = option_map_or (λ bound. nat_lt bound time) latest false

-- what is wrong with the line of this number as the entry that is to come
abbrev pub entry_breach : ℕ → Task → TraceLine → Promise → Option Breach
entry_breach number task line p =
    if not (is_entry task line p) then Some (breaches.Entry number)
    else (if nat_lt line.time p.earliest then Some (breaches.Early number)
    else (if is_over p.latest line.time then Some (breaches.Overdue number) else None))

-- the same where the line has the name of this task, or of none
abbrev pub task_breach : ℕ → List TraceLine → TraceLine → Option Judged → Option Breach
task_breach number earlier line None = Some (breaches.Unknown number)
task_breach number earlier line (Some j) = option_and_then (entry_breach number j.task line) (promise_at j.does (own_lines j.task.name earlier))

-- the line doesn't come after the last of these
abbrev pub is_disordered : List TraceLine → TraceLine → Bool
is_disordered earlier line = option_map_or (λ last. nat_le line.time last.time) (slice_get earlier (length earlier - 1)) false

-- what is wrong with a line behind these
abbrev pub breach_behind : List Judged → List TraceLine → TraceLine → Option Breach
breach_behind set earlier line =
    let number = length earlier + 1 in
    if is_disordered earlier line then Some (breaches.Order number)
    else task_breach number earlier line (find (λ j. same j.task.name line.task) set)

-- what is wrong with the line at this place, from 0
abbrev pub breach_at : List Judged → List TraceLine → ℕ → Option Breach
breach_at set lines place = option_and_then (breach_behind set (take place lines)) (slice_get lines place)

-- ---- what is missing

abbrev pub is_end : What → Bool
is_end (end state) = true
is_end _ = false

-- the window of the entry has closed, or it is the end of a frame of so many cycles and the schedule has served it whole
abbrev pub is_due : ℕ → ℕ → ℕ → Promise → Bool
is_due ticks total count p =
    option_map_or (λ latest. nat_le latest ticks) p.latest false || (is_end p.what && nat_le ((p.frame + 1) * total) count)

-- the entry of this number in its frame
abbrev pub due_of : ℕ → What → Due
due_of number first = dues.First
due_of number (end state) = dues.End
due_of number _ = dues.Event number

-- no entry of the task from this place on is due
abbrev pub MissesNone : ℕ → ℕ → ℕ → Behavior → ℕ → Type 0
MissesNone ticks total count b from = (place : ℕ) (p : Promise) → from ≤ place → promise_at b place ≡ Some p → is_due ticks total count p ≡ false

-- the first entry of the task from this place on that is due
pub record Misses (ticks total count : ℕ) (b : Behavior) (from place : ℕ) (p : Promise) : Type 0 where
  pub behind : from ≤ place
  pub there : promise_at b place ≡ Some p
  pub due : is_due ticks total count p ≡ true
  pub passed : (k : ℕ) (q : Promise) → from ≤ k → k < place → promise_at b k ≡ Some q → is_due ticks total count q ≡ false

-- the cycles of a frame of the task at this place
abbrev pub total_at : List Plan → ℕ → ℕ
total_at plans place = slice_index (map (λ (plan : Plan). plan.total) plans) place

-- ---- the whole trace

module _ (set : List Judged) (plans : List Plan) (ticks : ℕ) (lines : List TraceLine) where
  -- nothing is wrong with a line
  abbrev pub AreRight : Type 0
  AreRight = (place : ℕ) → breach_at set lines place ≡ None

  -- nothing of this task is missing
  abbrev pub IsWhole : ℕ → Judged → Type 0
  IsWhole i j = MissesNone ticks (total_at plans i) (served plans ticks i) j.does (own_lines j.task.name lines)

  -- what the judge says
  pub data Says : Verdict → Type 0 where
    accepted : AreRight → ((i : ℕ) (j : Judged) → slice_get set i ≡ Some j → IsWhole i j) → Says verdicts.Yes
    refused : (place : ℕ) (b : Breach) → breach_at set lines place ≡ Some b → ((k : ℕ) → k < place → breach_at set lines k ≡ None) → Says (verdicts.No b)
    missed : (i place : ℕ) (j : Judged) (p : Promise) → AreRight → slice_get set i ≡ Some j
        → ((k : ℕ) (g : Judged) → k < i → slice_get set k ≡ Some g → IsWhole k g)
        → Misses ticks (total_at plans i) (served plans ticks i) j.does (own_lines j.task.name lines) place p
        → Says (verdicts.No (breaches.Missing i p.frame (due_of (place - length (promises j.does p.frame)) p.what)))
