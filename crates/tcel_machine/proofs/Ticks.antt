-- A tick of a list of tasks, by the first that is ready.
use Rattle.std.proofs.Common.{◌≡◌, ℕ, zero, suc, ◌+◌, ◌<◌, true, false, List, [], ◌∷◌, get_or, set, None, refl, ap, sym, ◌∙◌, arith}
use Rattle.std.specs.List.{slice_get}
use Rattle.std.proofs.lemmas.Bool.{false≢true}
use Rattle.tcel_target.specs.declared.costs.Costs.{Costs}
use Rattle.tcel_image.specs.declared.image.ImageTask.{ImageTask}
use Rattle.tcel_image.specs.Machine.{Running, Streams, Ticked, own_tick, after, entry_of, tick_from}
use Rattle.tcel_machine.specs.Runs.{ready_at}
use Rattle.tcel_machine.proofs.Ready.{never_ready}

-- what a tick leaves that the task of this number has
abbrev pub ticked_at : Costs → ℕ → ImageTask → Streams → ℕ → ℕ → Running → List Running → Ticked
ticked_at costs now task streams number place running all =
    let outcome = own_tick costs task (get_or streams number []) now running in
    record { tasks = set all place outcome.task; entry = entry_of now number running outcome.shown }

pub tick_at : (costs : Costs) (now : ℕ) (tasks : List ImageTask) (streams : Streams) (from number place : ℕ) (all : List Running) (task : ImageTask) (running : Running)
    → number ≡ from + place → ready_at tasks now all place ≡ true → ((other : ℕ) → other < place → ready_at tasks now all other ≡ false)
    → tick_from costs now tasks streams from all ≡ ticked_at costs now (get_or tasks place task) streams number place (get_or all place running) all
tick_at costs now [] streams from number place all task running e here before = absurd (false≢true here)
tick_at costs now (t ∷ tasks) streams from number zero [] task running e here before = absurd (false≢true here)
tick_at costs now (t ∷ tasks) streams from number (suc place) [] task running e here before = absurd (false≢true (sym (never_ready (slice_get tasks place)) ∙ here))
tick_at costs now (t ∷ tasks) streams from number zero (r ∷ all) task running e here before =
    let same : from ≡ number = omega arith in rw (here, same) refl
tick_at costs now (t ∷ tasks) streams from number (suc place) (r ∷ all) task running e here before =
    rw (before 0 (omega arith))
    (ap (after r) (tick_at costs now tasks streams (from + 1) number place all task running (omega arith) here (λ other h. before (suc other) (omega arith))))

pub tick_none : (costs : Costs) (now : ℕ) (tasks : List ImageTask) (streams : Streams) (from : ℕ) (all : List Running)
    → ((number : ℕ) → ready_at tasks now all number ≡ false) → tick_from costs now tasks streams from all ≡ record { tasks = all; entry = None }
tick_none costs now [] streams from all none = refl
tick_none costs now (t ∷ tasks) streams from [] none = refl
tick_none costs now (t ∷ tasks) streams from (r ∷ all) none =
    rw (none 0) (ap (after r) (tick_none costs now tasks streams (from + 1) all (λ number. none (suc number))))
