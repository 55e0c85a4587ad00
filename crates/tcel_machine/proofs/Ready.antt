-- Which task is ready, and what a tick keeps of all.
use Rattle.std.proofs.Common.{◌≡◌, ℕ, zero, suc, ◌+◌, ◌*◌, ◌/◌, ◌<◌, ◌≤◌, true, false, ltb, leb, ◌⊎◌, inl, inr, ⊎_elim, List, [], ◌∷◌, length, get_or, set, map, Option, Some, None, refl, ap, sym, ◌∙◌, subst, arith}
use Rattle.std.specs.List.{slice_get}
use Rattle.std.specs.Option.{option_map_or}
use Rattle.std.proofs.Math.ListN.{length-set}
use Rattle.std.proofs.Math.Nat.{le-div_iff_mul-le}
use Rattle.std.proofs.lemmas.Bool.{cases_lt, lt-leb, le-leb, le-ltb, lt-ltb, leb-true}
use Rattle.std.proofs.lemmas.Option.{same_Some, slice_get-map, slice_get_past, slice_get_read}
use Rattle.tcel_image.specs.declared.image.ImageTask.{ImageTask}
use Rattle.tcel_image.specs.Machine.{Running, is_ready}
use Rattle.tcel_machine.specs.declared.task.Task.{Task}
use Rattle.tcel_machine.specs.Task.{running_of}
use Rattle.tcel_machine.specs.Runs.{ready_at, IsRunning, AllRun}

-- a frame is released and not ended exactly where its release is not later than now
pub released : (ended period now : ℕ) → 0 < period → leb (ended * period) now ≡ ltb ended (now / period + 1)
released ended period now h =
    let by : (ended ≤ now / period → ended * period ≤ now) × (ended * period ≤ now → ended ≤ now / period) = le-div_iff_mul-le h in
    ⊎_elim
    (λ late.
    let not_yet : now / period + 1 ≤ ended =
    ⊎_elim (λ less. omega arith) (λ more. absurd (omega (arith, by.0 more))) (cases_lt (now / period) ended) in
    lt-leb (ended * period) now late ∙ sym (le-ltb ended (now / period + 1) not_yet))
    (λ early. le-leb (ended * period) now early ∙ sym (lt-ltb ended (now / period + 1) (omega (arith, by.1 early))))
    (cases_lt now (ended * period))

pub release_of : (task : ImageTask) (now : ℕ) (running : Running) → 0 < task.period → is_ready task now running ≡ true → running.ended * task.period ≤ now
release_of task now running h ready = leb-true _ _ (released running.ended task.period now h ∙ ready)

pub ready_is : (tasks : List ImageTask) (now : ℕ) (runs : List Task) (number : ℕ) (task : ImageTask) (run : Task)
    → slice_get tasks number ≡ Some task → slice_get runs number ≡ Some run
    → ready_at tasks now (map running_of runs) number ≡ is_ready task now (running_of run)
ready_is tasks now runs number task run t r =
    ap (λ found. option_map_or (λ task. option_map_or (λ running. is_ready task now running) (slice_get (map running_of runs) number) false) found false) t
    ∙ ap (λ found. option_map_or (λ running. is_ready task now running) found false) (slice_get-map running_of runs number ∙ ap (λ found. elim found as (λ _. Option Running) [ None ↦ None | Some x ↦ Some (running_of x) ]) r)

pub never_ready : (found : Option ImageTask) → option_map_or (λ (task : ImageTask). false) found false ≡ false
never_ready None = refl
never_ready (Some task) = refl

pub past_ready : (tasks : List ImageTask) (now : ℕ) (runs : List Running) (number : ℕ) → length runs ≤ number → ready_at tasks now runs number ≡ false
past_ready tasks now runs number h =
    ap (λ found. option_map_or (λ task. option_map_or (λ running. is_ready task now running) found false) (slice_get tasks number) false) (slice_get_past runs number h)
    ∙ never_ready (slice_get tasks number)

-- what is read after a write: the new element there, and the old one elsewhere
pub set_get : {X : Type 0} (xs : List X) (i k : ℕ) (x y : X) → slice_get (set xs i x) k ≡ Some y → ((k ≡ i) × (x ≡ y)) ⊎ (slice_get xs k ≡ Some y)
set_get [] i k x y h = inr h
set_get (a ∷ xs) zero zero x y h = inl (refl, same_Some x y h)
set_get (a ∷ xs) zero (suc k) x y h = inr h
set_get (a ∷ xs) (suc i) zero x y h = inr h
set_get (a ∷ xs) (suc i) (suc k) x y h = ⊎_elim (λ l. inl (ap suc l.0, l.1)) (λ r. inr r) (set_get xs i k x y h)

later : (task : ImageTask) (now : ℕ) (run : Task) → IsRunning task now run → IsRunning task (now + 1) run
later task now run h =
    record {
      words = h.words;
      fits = h.fits;
      shape = h.shape;
      counts = record { spent = omega (arith, h.counts.spent); reach = omega (arith, h.counts.reach); given = λ port. omega (arith, h.counts.given port) };
    }

pub all_later : (tasks : List ImageTask) (now : ℕ) (runs : List Task) → AllRun tasks now runs → AllRun tasks (now + 1) runs
all_later tasks now runs h = record { count = h.count; each = λ number task run t r. later task now run (h.each number task run t r) }

pub all_but : (tasks : List ImageTask) (now : ℕ) (runs : List Task) (place : ℕ) (task : ImageTask) (new : Task) → AllRun tasks now runs
    → slice_get tasks place ≡ Some task → IsRunning task (now + 1) new → AllRun tasks (now + 1) (set runs place new)
all_but tasks now runs place task new h t kept =
    record {
      count = length-set runs place new ∙ h.count;
      each = λ number other run is at.
          ⊎_elim
          (λ same.
          let one : task ≡ other = same_Some task other (sym t ∙ ap (slice_get tasks) (sym same.0) ∙ is) in
          subst (λ x. IsRunning x (now + 1) run) one (subst (λ x. IsRunning task (now + 1) x) same.1 kept))
          (λ old. later other now run (h.each number other run is old))
          (set_get runs place number new run at);
    }

pub read_at : {X : Type 0} (list whole : List X) → list ≡ whole → (place : ℕ) (x : X) → place < length list → x ≡ get_or list place x → slice_get whole place ≡ Some x
read_at list whole e place x h is = ap (λ l. slice_get l place) (sym e) ∙ slice_get_read list (length list) place x refl h is
