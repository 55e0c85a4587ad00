-- When a trace meets the program that it is a trace of.
use Rattle.std.specs.Prelude.{◌≡◌, ℕ, ◌+◌, ◌*◌, ◌≤◌, ◌<◌, ◌==◌, ℤ, List, [], ◌∷◌, length, map, filter, All, Some, IfSome, slice_get}
use Rattle.std.specs.List.{AllZip}
use Rattle.std.specs.List.Sorted.{IsStrictlyIncreasing}
use Rattle.tcel_num.specs.Entry.{Entry, What}
use Rattle.tcel_num.specs.Plan.{Plan}
use Rattle.tcel_num.specs.Schedule.{served}
use Rattle.tcel_core.specs.Language.{Task}
use Rattle.tcel_core.specs.Promises.{Behavior, Promise, behavior_of, frame_promises, promises, first_promises}

-- what an entry shows, without its time
abbrev pub told : Entry → ℕ × What
told e = (e.frame, e.what)

-- the same of the entry that is to be made
abbrev pub promised : Promise → ℕ × What
promised p = (p.frame, p.what)

-- the entry comes neither too early nor too late
pub record IsInTime (e : Entry) (p : Promise) : Type 0 where
  pub not_early : p.earliest ≤ e.time
  pub not_late : IfSome p.latest (λ latest. e.time ≤ latest)

-- a task's entries in a trace of so many ticks are those that it is to make
pub record Keeps (b : Behavior) (ticks : ℕ) (entries : List Entry) : Type 0 where
  -- without their times they are the first entries of the task's frames
  pub follows : map told entries ≡ map promised (first_promises b (length entries))
  -- each stands inside its window
  pub in_time : AllZip IsInTime entries (first_promises b (length entries))
  -- none is missing whose window has closed
  pub complete : (f k : ℕ) (p : Promise) (latest : ℕ) →
      slice_get (frame_promises b f) k ≡ Some p → p.latest ≡ Some latest → latest ≤ ticks →
      length (promises b f) + k < length entries

-- the entries of one task
abbrev pub entries_of : ℕ → List Entry → List Entry
entries_of i trace = filter (λ e. e.task == i) trace

-- a trace of so many ticks shows these tasks, each as it is to do, and by the plans each frame's end in time
pub record Shows (tasks : List Behavior) (plans : List Plan) (ticks : ℕ) (trace : List Entry) : Type 0 where
  -- times rise strictly
  pub rises : IsStrictlyIncreasing (map (λ e. e.time) trace)
  -- each entry is one of these tasks'
  pub known : All (λ e. e.task < length tasks) trace
  -- each task makes its entries
  pub keeps : (i : ℕ) (b : Behavior) → slice_get tasks i ≡ Some b → Keeps b ticks (entries_of i trace)
  -- a frame has ended once the demand schedule has served it whole
  pub ended : (i f : ℕ) (b : Behavior) (plan : Plan) →
      slice_get tasks i ≡ Some b → slice_get plans i ≡ Some plan → (f + 1) * plan.total ≤ served plans ticks i →
      length (promises b (f + 1)) ≤ length (entries_of i trace)

-- each task with the streams of its inputs
abbrev pub behaviors_of : List Task → List (List (List ℤ)) → List Behavior
behaviors_of [] streams = []
behaviors_of (task ∷ tasks) [] = behavior_of task [] ∷ behaviors_of tasks []
behaviors_of (task ∷ tasks) (s ∷ streams) = behavior_of task s ∷ behaviors_of tasks streams

-- a trace of so many ticks meets the program: its tasks do in order what their source says, each event inside its window
abbrev pub Meets : List Task → List Plan → List (List (List ℤ)) → ℕ → List Entry → Type 0
Meets set plans streams ticks trace = Shows (behaviors_of set streams) plans ticks trace
