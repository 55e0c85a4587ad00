-- What one tick of the demand schedule does to the counts.
use Rattle.std.proofs.Common.{◌≡◌, ◌≢◌, ℕ, zero, suc, ◌+◌, ◌<◌, ◌≤◌, List, [], ◌∷◌, length, get_or, set, refl, ap, ◌∙◌, arith, Some, inl, inr, get_or-set_other, get_or-set_same}
use Rattle.std.specs.Prelude.{slice_get}
use Rattle.std.proofs.lemmas.Bool.{cases_lt, cond-true, cond-false, lt-ltb, le-ltb}
use Rattle.std.proofs.lemmas.Option.{slice_get_within}
use Rattle.tcel_num.specs.Plan.{Plan}
use Rattle.tcel_num.specs.Schedule.{released, serve_highest, served_counts, served}
use Rattle.tcel_demand.specs.Ticks.{IsIdle, Serves}
use Rattle.tcel_demand.proofs.Served.{length-served, served_step}

idle_counts : (plans : List Plan) (counts : List ℕ) (time : ℕ) → ((i : ℕ) (plan : Plan) → slice_get plans i ≡ Some plan → released plan time ≤ get_or counts i 0) →
    serve_highest plans counts time ≡ counts
idle_counts [] counts time all = refl
idle_counts (p ∷ plans) [] time all = refl
idle_counts (p ∷ plans) (n ∷ counts) time all =
    cond-false _ _ _ (le-ltb n (released p time) (all 0 p refl)) ∙ ap (λ (rest : List ℕ). n ∷ rest) (idle_counts plans counts time (λ i plan e. all (suc i) plan e))

serve_counts : (plans : List Plan) (counts : List ℕ) (time i : ℕ) (plan : Plan) → slice_get plans i ≡ Some plan → i < length counts → get_or counts i 0 < released plan time →
    ((j : ℕ) (other : Plan) → j < i → slice_get plans j ≡ Some other → released other time ≤ get_or counts j 0) → serve_highest plans counts time ≡ set counts i (get_or counts i 0 + 1)
serve_counts [] counts time i plan e at some higher = absurd cc
serve_counts (p ∷ plans) [] time i plan e at some higher = absurd (omega arith)
serve_counts (p ∷ plans) (n ∷ counts) time zero plan e at some higher =
    let same : p ≡ plan = cc in
    let amount = ap (λ (q : Plan). released q time) same in
    cond-true _ _ _ (lt-ltb n (released p time) (omega arith))
serve_counts (p ∷ plans) (n ∷ counts) time (suc i) plan e at some higher =
    cond-false _ _ _ (le-ltb n (released p time) (higher 0 p (omega arith) refl))
    ∙ ap (λ (rest : List ℕ). n ∷ rest) (serve_counts plans counts time i plan e (omega arith) some (λ j other less there. higher (suc j) other (omega arith) there))

-- where no task is pending, a tick changes nothing
pub tick_idle : (plans : List Plan) (time : ℕ) → IsIdle plans time → (i : ℕ) → served plans (suc time) i ≡ served plans time i
tick_idle plans time idle i =
    ap (λ (counts : List ℕ). get_or counts i 0) (idle_counts plans (served_counts plans time) time (λ j plan e. elim (cases_lt (served plans time j) (released plan time)) [
      | inl some ↦ absurd (idle j (record { plan = plan; of_task = e; some = some }))
      | inr none ↦ none
    ]))

-- else one more cycle of the highest pending task is served
tick_counts : (plans : List Plan) (time task : ℕ) → Serves plans time task → served_counts plans (suc time) ≡ set (served_counts plans time) task (served plans time task + 1)
tick_counts plans time task h =
    let within = slice_get_within plans task h.pending.plan h.pending.of_task in
    let long = length-served plans time in
    serve_counts plans (served_counts plans time) time task h.pending.plan h.pending.of_task (omega arith) h.pending.some (λ j other less e. elim (cases_lt (served plans time j) (released other time)) [
      | inl some ↦ absurd (h.highest j less (record { plan = other; of_task = e; some = some }))
      | inr none ↦ none
    ])

pub tick_serves : (plans : List Plan) (time task : ℕ) → Serves plans time task → served plans (suc time) task ≡ served plans time task + 1
tick_serves plans time task h =
    let within = slice_get_within plans task h.pending.plan h.pending.of_task in
    let long = length-served plans time in
    let at : task < length (served_counts plans time) = omega arith in
    ap (λ (counts : List ℕ). get_or counts task 0) (tick_counts plans time task h) ∙ get_or-set_same (served_counts plans time) task (served plans time task + 1) 0 at

pub tick_leaves : (plans : List Plan) (time task other : ℕ) → Serves plans time task → other ≢ task → served plans (suc time) other ≡ served plans time other
tick_leaves plans time task other h apart =
    ap (λ (counts : List ℕ). get_or counts other 0) (tick_counts plans time task h) ∙ get_or-set_other (served_counts plans time) task other (served plans time task + 1) 0 apart

pub none_at_first : (plans : List Plan) (task : ℕ) → served plans 0 task ≡ 0
none_at_first [] task = refl
none_at_first (p ∷ plans) zero = refl
none_at_first (p ∷ plans) (suc task) = none_at_first plans task

-- no more is served than there were ticks
pub served_most : (plans : List Plan) (time task : ℕ) → served plans time task ≤ time
served_most plans zero task = let none = none_at_first plans task in omega arith
served_most plans (suc time) task = let one = served_step plans time task in let rec = served_most plans time task in omega (arith, one.1)
