-- The demand schedule: its counts rise by at most one a tick, and repeat where all work of a stretch is done at its end.
use Rattle.std.proofs.Common.{◌≡◌, ℕ, zero, suc, ◌+◌, ◌-◌, ◌*◌, ◌/◌, ◌<◌, ◌≤◌, Bool, true, false, cond, List, [], ◌∷◌, map, length, get_or, refl, sym, ap, ◌∙◌, subst, arith, add-zero, add-suc, Some}
use Rattle.std.specs.Prelude.{slice_get}
use Rattle.std.proofs.Math.Nat.{mul-add-div}
use Rattle.std.proofs.lemmas.List.{length-map}
use Rattle.std.proofs.lemmas.Bool.Decides.{nat_tests}
use Rattle.std.proofs.lemmas.Bool.{cond_both}
use Rattle.tcel_num.specs.Plan.{Plan}
use Rattle.tcel_num.specs.Schedule.{released, is_pending, serve_highest, served_counts, served}

-- one tick leaves a count, or adds one to it
serve_one : (plans : List Plan) (counts : List ℕ) (time i : ℕ) → (get_or counts i 0 ≤ get_or (serve_highest plans counts time) i 0) × (get_or (serve_highest plans counts time) i 0 ≤ get_or counts i 0 + 1)
serve_one [] counts time i = (omega arith, omega arith)
serve_one (p ∷ plans) [] time i = (omega arith, omega arith)
serve_one (p ∷ plans) (n ∷ counts) time i =
    cond_both (is_pending p n time) ((n + 1) ∷ counts) (n ∷ serve_highest plans counts time)
    (λ (after : List ℕ). (get_or (n ∷ counts) i 0 ≤ get_or after i 0) × (get_or after i 0 ≤ get_or (n ∷ counts) i 0 + 1))
    (λ _. served_head n counts i) (λ _. served_tail n counts (serve_highest plans counts time) i (serve_one plans counts time))
  where
    served_head : (n : ℕ) (counts : List ℕ) (i : ℕ) → (get_or (n ∷ counts) i 0 ≤ get_or ((n + 1) ∷ counts) i 0) × (get_or ((n + 1) ∷ counts) i 0 ≤ get_or (n ∷ counts) i 0 + 1)
    served_head n counts zero = (omega arith, omega arith)
    served_head n counts (suc i) = (omega arith, omega arith)

    served_tail : (n : ℕ) (counts after : List ℕ) (i : ℕ) → ((k : ℕ) → (get_or counts k 0 ≤ get_or after k 0) × (get_or after k 0 ≤ get_or counts k 0 + 1)) → (get_or (n ∷ counts) i 0 ≤ get_or (n ∷ after) i 0) × (get_or (n ∷ after) i 0 ≤ get_or (n ∷ counts) i 0 + 1)
    served_tail n counts after zero h = (omega arith, omega arith)
    served_tail n counts after (suc i) h = h i

pub served_step : (plans : List Plan) (time i : ℕ) → (served plans time i ≤ served plans (suc time) i) × (served plans (suc time) i ≤ served plans time i + 1)
served_step plans time i = serve_one plans (served_counts plans time) time i

-- counts never fall
pub served_later : (plans : List Plan) (time more i : ℕ) → served plans time i ≤ served plans (time + more) i
served_later plans time zero i = rw add-zero (omega arith)
served_later plans time (suc more) i = rw add-suc (omega (arith, served_later plans time more i, served_step plans (time + more) i))

pub served_mono : (plans : List Plan) (a b i : ℕ) → a ≤ b → served plans a i ≤ served plans b i
served_mono plans a b i h =
    let e : a + (b - a) ≡ b = omega arith in
    rw e at (served_later plans a (b - a) i)

-- ---- repetition

-- in a stretch each task was served exactly its frames of that stretch
abbrev pub AreWhole : List Plan → ℕ → List ℕ → Type 0
AreWhole [] stretch [] = Unit {0}
AreWhole [] stretch (n ∷ counts) = ⊥
AreWhole (p ∷ plans) stretch [] = ⊥
AreWhole (p ∷ plans) stretch (n ∷ counts) = (stretch ≡ p.period * (stretch / p.period)) × (n ≡ p.total * (stretch / p.period)) × (0 < p.period) × AreWhole plans stretch counts

abbrev sums : List ℕ → List ℕ → List ℕ
sums (m ∷ ms) (n ∷ ns) = (m + n) ∷ sums ms ns
sums _ ns = ns

released_again : (p : Plan) (stretch time n : ℕ) → stretch ≡ p.period * (stretch / p.period) → 0 < p.period → n ≡ p.total * (stretch / p.period) → released p (stretch + time) ≡ n + released p time
released_again p stretch time n whole h e =
    let q : (stretch + time) / p.period ≡ stretch / p.period + time / p.period = ap (λ (s : ℕ). (s + time) / p.period) whole ∙ mul-add-div h (stretch / p.period) time in
    rw q (omega arith)

pending_again : (p : Plan) (stretch time n m : ℕ) → stretch ≡ p.period * (stretch / p.period) → 0 < p.period → n ≡ p.total * (stretch / p.period) → is_pending p (n + m) (stretch + time) ≡ is_pending p m time
pending_again p stretch time n m whole h e = rw (released_again p stretch time n whole h e) (grind (arith, nat_tests))

by_test : (b : Bool) (n m : ℕ) (ns ms after again : List ℕ) → again ≡ sums ns after → cond b ((n + m + 1) ∷ sums ns ms) ((n + m) ∷ again) ≡ sums (n ∷ ns) (cond b ((m + 1) ∷ ms) (m ∷ after))
by_test true n m ns ms after again e = ap (λ (k : ℕ). k ∷ sums ns ms) (omega arith)
by_test false n m ns ms after again e = ap (λ (rest : List ℕ). (n + m) ∷ rest) e

serve_again : (plans : List Plan) (stretch time : ℕ) (ns ms : List ℕ) → AreWhole plans stretch ns → serve_highest plans (sums ns ms) (stretch + time) ≡ sums ns (serve_highest plans ms time)
serve_again [] stretch time [] ms h = refl
serve_again [] stretch time (n ∷ ns) ms h = absurd h
serve_again (p ∷ plans) stretch time [] ms h = absurd h
serve_again (p ∷ plans) stretch time (n ∷ ns) [] h = refl
serve_again (p ∷ plans) stretch time (n ∷ ns) (m ∷ ms) h =
    rw (pending_again p stretch time n m h.0 h.2 h.1)
    (by_test (is_pending p m time) n m ns ms (serve_highest plans ms time) (serve_highest plans (sums ns ms) (stretch + time)) (serve_again plans stretch time ns ms h.3))

sums-zeros : (plans : List Plan) (stretch : ℕ) (ns : List ℕ) → AreWhole plans stretch ns → ns ≡ sums ns (map (λ _. 0) plans)
sums-zeros [] stretch [] h = refl
sums-zeros [] stretch (n ∷ ns) h = absurd h
sums-zeros (p ∷ plans) stretch [] h = absurd h
sums-zeros (p ∷ plans) stretch (n ∷ ns) h =
    ap (λ (k : ℕ). k ∷ ns) (sym (add-zero n)) ∙ ap (λ (rest : List ℕ). (n + 0) ∷ rest) (sums-zeros plans stretch ns h.3)

counts_again : (plans : List Plan) (stretch time : ℕ) → AreWhole plans stretch (served_counts plans stretch) → served_counts plans (stretch + time) ≡ sums (served_counts plans stretch) (served_counts plans time)
counts_again plans stretch zero h = rw add-zero (sums-zeros plans stretch (served_counts plans stretch) h)
counts_again plans stretch (suc time) h =
    rw add-suc (rw (counts_again plans stretch time h) (serve_again plans stretch time (served_counts plans stretch) (served_counts plans time) h))

length-serve : (plans : List Plan) (counts : List ℕ) (time : ℕ) → length (serve_highest plans counts time) ≡ length counts
length-serve [] counts time = refl
length-serve (p ∷ plans) [] time = refl
length-serve (p ∷ plans) (n ∷ counts) time =
    cond_both (is_pending p n time) ((n + 1) ∷ counts) (n ∷ serve_highest plans counts time) (λ (after : List ℕ). length after ≡ length (n ∷ counts)) (λ _. refl) (λ _. ap suc (length-serve plans counts time))

-- each task has a count
pub length-served : (plans : List Plan) (time : ℕ) → length (served_counts plans time) ≡ length plans
length-served plans zero = length-map plans (λ _. 0)
length-served plans (suc time) = length-serve plans (served_counts plans time) time ∙ length-served plans time

get_or-sums : (ns ms : List ℕ) (i : ℕ) → length ns ≡ length ms → get_or (sums ns ms) i 0 ≡ get_or ns i 0 + get_or ms i 0
get_or-sums [] [] i h = omega arith
get_or-sums [] (m ∷ ms) i h = absurd (omega arith)
get_or-sums (n ∷ ns) [] i h = absurd (omega arith)
get_or-sums (n ∷ ns) (m ∷ ms) zero h = refl
get_or-sums (n ∷ ns) (m ∷ ms) (suc i) h = get_or-sums ns ms i (omega arith)

-- after such a stretch the schedule repeats itself
pub served_again : (plans : List Plan) (stretch time i : ℕ) → AreWhole plans stretch (served_counts plans stretch) → served plans (stretch + time) i ≡ served plans stretch i + served plans time i
served_again plans stretch time i h =
    rw (counts_again plans stretch time h) (get_or-sums (served_counts plans stretch) (served_counts plans time) i (length-served plans stretch ∙ sym (length-served plans time)))

-- what such a stretch is to one task
pub record IsWhole (plan : Plan) (stretch count : ℕ) : Type 0 where
  pub periods : stretch ≡ plan.period * (stretch / plan.period)
  pub frames : count ≡ plan.total * (stretch / plan.period)
  pub positive : 0 < plan.period

pub whole_at : (plans : List Plan) (stretch : ℕ) (counts : List ℕ) (i : ℕ) (plan : Plan) → AreWhole plans stretch counts → slice_get plans i ≡ Some plan → IsWhole plan stretch (get_or counts i 0)
whole_at [] stretch counts i plan h e = absurd cc
whole_at (p ∷ plans) stretch [] i plan h e = absurd h
whole_at (p ∷ plans) stretch (n ∷ counts) zero plan h e =
    let same : p ≡ plan = cc in
    let here : IsWhole p stretch n = record { periods = h.0; frames = h.1; positive = h.2 } in
    subst (λ (q : Plan). IsWhole q stretch n) same here
whole_at (p ∷ plans) stretch (n ∷ counts) (suc i) plan h e = whole_at plans stretch counts i plan h.3 e
