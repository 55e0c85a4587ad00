-- The frames of a task, one after another, as the evaluator leaves them.
use Rattle.std.proofs.Common.{◌≡◌, ◌≤◌, ℤ, List, [], length, ap, ◌∙◌}
use Rattle.tcel_check.proofs.InScope.{tasks_in_scope}
use Rattle.tcel_core.specs.declared.event.Event.{Event}
use Rattle.tcel_core.specs.Evaluation.{IsFrame}
use Rattle.tcel_core.specs.Frames.{declared_state, restart, shown, start_cells, start_of}
use Rattle.tcel_core.specs.Language.{Task}
use Rattle.tcel_core.specs.Meaning.{exec}
use Rattle.tcel_core.specs.Outcome.{Memory}
use Rattle.tcel_core.specs.Scope.{Fits}
use Rattle.tcel_core.specs.Sound.{IsSoundTask}
use Rattle.tcel_flow.proofs.Reached.{few_variables}
use Rattle.tcel_judge.specs.Courses.{IsNextFrame}

-- a sound task may run
pub record MayRun (task : Task) : Type 0 where
  pub few : length task.vars ≤ 256
  pub fits : Fits task.body task.vars

pub may_run : (task : Task) → IsSoundTask task → MayRun task
may_run task sound = record { few = few_variables task sound; fits = (tasks_in_scope task sound).body }

-- a frame ran behind no events, so it is the next one
pub next_ran : (task : Task) (cells after : List ℤ) (inputs left : List (List ℤ)) (events : List Event) →
    IsFrame task [] (exec task.body task.vars (record { cells = cells; inputs = inputs })) after left events → IsNextFrame task cells inputs after left events
next_ran task cells after inputs left events ran streams f is = (
  ran.shows ∙ ap (λ (m : Memory). (shown task.deadline task.vars (exec task.body task.vars m)).events) is,
  ran.next ∙ ap (λ (m : Memory). restart task.vars (exec task.body task.vars m).memory) is,
)

-- the words and the inputs before the first frame
pub first_start : (task : Task) (cells : List ℤ) (inputs streams : List (List ℤ)) → cells ≡ start_cells task.vars (declared_state task.vars) → inputs ≡ streams
    → record { cells = cells; inputs = inputs } ≡ start_of task streams 0
first_start task cells inputs streams e h = memories e h
  where
    memory : List ℤ → List (List ℤ) → Memory
    memory words left = record { cells = words; inputs = left }

    memories : {a b : List ℤ} {x y : List (List ℤ)} → a ≡ b → x ≡ y → memory a x ≡ memory b y
    memories {b = b} {x = x} same alike = ap (λ words. memory words x) same ∙ ap (memory b) alike
