-- The higher tasks of a set are served as they are where they stand alone, so a task's share is the difference of two levels.
use Rattle.std.proofs.Common.{◌≡◌, ℕ, zero, suc, ◌+◌, ◌*◌, ◌<◌, Bool, true, false, cond, List, [], ◌∷◌, length, get_or, take, refl, sym, ap, ◌∙◌, arith, Some}
use Rattle.std.specs.Prelude.{slice_get}
use Rattle.std.proofs.lemmas.List.Sums.{sum_by-cons}
use Rattle.std.proofs.lemmas.List.{take-map}
use Rattle.tcel_num.specs.Plan.{Plan}
use Rattle.tcel_num.specs.Schedule.{is_pending, serve_highest, served_counts, served}
use Rattle.tcel_demand.specs.Workload.{releases, asked}
use Rattle.tcel_demand.proofs.Served.{length-served}
use Rattle.tcel_demand.proofs.Workloads.{sum, done, Positive}

pub positive_front : (k : ℕ) (plans : List Plan) → Positive plans → Positive (take k plans)
positive_front zero plans positive = tt
positive_front (suc k) [] positive = tt
positive_front (suc k) (p ∷ plans) positive = (positive.0, positive_front k plans positive.1)

take_by : (b : Bool) (k n : ℕ) (counts after : List ℕ) → take (suc k) (cond b ((n + 1) ∷ counts) (n ∷ after)) ≡ cond b ((n + 1) ∷ take k counts) (n ∷ take k after)
take_by true k n counts after = refl
take_by false k n counts after = refl

serve_front : (k : ℕ) (plans : List Plan) (counts : List ℕ) (time : ℕ) → serve_highest (take k plans) (take k counts) time ≡ take k (serve_highest plans counts time)
serve_front zero plans counts time = refl
serve_front (suc k) [] counts time = refl
serve_front (suc k) (p ∷ plans) [] time = refl
serve_front (suc k) (p ∷ plans) (n ∷ counts) time =
    ap (λ (rest : List ℕ). cond (is_pending p n time) ((n + 1) ∷ take k counts) (n ∷ rest)) (serve_front k plans counts time)
    ∙ sym (take_by (is_pending p n time) k n counts (serve_highest plans counts time))

pub served_front : (k : ℕ) (plans : List Plan) (time : ℕ) → served_counts (take k plans) time ≡ take k (served_counts plans time)
served_front k plans zero = sym (take-map (λ _. 0) k plans)
served_front k plans (suc time) =
    ap (λ (counts : List ℕ). serve_highest (take k plans) counts time) (served_front k plans time) ∙ serve_front k plans (served_counts plans time) time

sum_next : (counts : List ℕ) (i : ℕ) → i < length counts → sum (take (suc i) counts) ≡ sum (take i counts) + get_or counts i 0
sum_next [] i h = absurd (omega arith)
sum_next (n ∷ counts) zero h = omega arith
sum_next (n ∷ counts) (suc i) h = let rest = sum_next counts i (omega arith) in omega arith

-- what a task was served
pub done_next : (plans : List Plan) (i time : ℕ) → i < length plans → done (take (suc i) plans) time ≡ done (take i plans) time + served plans time i
done_next plans i time h =
    let long = length-served plans time in
    let both = ap sum (served_front (suc i) plans time) in
    let higher = ap sum (served_front i plans time) in
    let next = sum_next (served_counts plans time) i (omega arith) in
    omega arith

-- what a task asked for
pub asked_next : (plans : List Plan) (i : ℕ) (plan : Plan) (time : ℕ) → slice_get plans i ≡ Some plan →
    asked (take (suc i) plans) time ≡ asked (take i plans) time + plan.total * releases plan.period time
asked_next [] i plan time e = absurd cc
asked_next (p ∷ plans) zero plan time e =
    let same : p ≡ plan = cc in
    ap (λ (q : Plan). asked (q ∷ []) time) same ∙ omega arith
asked_next (p ∷ plans) (suc i) plan time e =
    let rest = asked_next plans i plan time e in
    let more = sum_by-cons (λ (q : Plan). q.total * releases q.period time) p (take (suc i) plans) in
    let less = sum_by-cons (λ (q : Plan). q.total * releases q.period time) p (take i plans) in
    omega arith
