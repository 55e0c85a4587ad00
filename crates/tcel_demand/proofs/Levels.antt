-- One level of priority in two functions of the time: the cycles that its tasks have asked for before a time, and those that are done by then.
use Rattle.std.proofs.Common.{◌≡◌, ℕ, zero, suc, ◌+◌, ◌-◌, ◌*◌, ◌<◌, ◌≤◌, arith, sym, ap, ◌∙◌, subst, inl, inr}
use Rattle.std.proofs.Math.Nat.{mul-le-mul_left, le_of_mul-le-mul_left}
use Rattle.std.proofs.lemmas.Bool.{cases_lt}

-- where something is left to do, a tick does one cycle of it
pub record IsLevel (asked done : ℕ → ℕ) : Type 0 where
  pub nothing : asked 0 ≡ 0
  pub start : done 0 ≡ 0
  pub rising : (early late : ℕ) → early ≤ late → asked early ≤ asked late
  pub within : (t : ℕ) → done t ≤ asked t
  pub works : (t : ℕ) → done t < asked (suc t) → done (suc t) ≡ done t + 1
  pub rests : (t : ℕ) → asked (suc t) ≤ done t → done (suc t) ≡ done t

module _ (asked done : ℕ → ℕ) (level : IsLevel asked done) where
  pub step : (t : ℕ) → (done t ≤ done (suc t)) × (done (suc t) ≤ done t + 1)
  step t =
      elim (cases_lt (done t) (asked (suc t))) [
        | inl more ↦ let e = level.works t more in (omega arith, omega arith)
        | inr none ↦ let e = level.rests t none in (omega arith, omega arith)
      ]

  -- no more is done than there were ticks
  pub at_most : (t : ℕ) → done t ≤ t
  at_most zero = let e = level.start in omega arith
  at_most (suc t) = let rec = at_most t in let one = step t in omega (arith, one.1)

  -- while something is left at each tick, each tick does one cycle
  pub busy : (s k : ℕ) → ((t : ℕ) → s ≤ t → t < s + k → done t < asked (suc t)) → done (s + k) ≡ done s + k
  busy s zero left = let same : done (s + 0) ≡ done s = ap done (omega arith) in omega arith
  busy s (suc k) left =
      let rec = busy s k (λ t from to. left t from (omega arith)) in
      let e = level.works (s + k) (left (s + k) (omega arith) (omega arith)) in
      let on : done (s + suc k) ≡ done (suc (s + k)) = ap done (omega arith) in
      omega arith

  -- the last time up to this one at which all is done
  pub last_done : (x : ℕ) → (s : ℕ) × (s ≤ x) × (asked s ≤ done s) × ((u : ℕ) → s < u → u ≤ x → done u < asked u)
  last_done zero = let a = level.nothing in let d = level.start in (0, omega arith, omega arith, λ u from to. absurd (omega arith))
  last_done (suc x) =
      elim (cases_lt (done (suc x)) (asked (suc x))) [
        | inr all ↦ (suc x, omega arith, all, λ u from to. absurd (omega arith))
        | inl left ↦ let before = last_done x in (before.0, let h = before.1 in omega arith, before.2, further x left before.0 before.3)
      ]
    where
      further : (x : ℕ) → done (suc x) < asked (suc x) → (s : ℕ) → ((u : ℕ) → s < u → u ≤ x → done u < asked u) → (u : ℕ) → s < u → u ≤ suc x → done u < asked u
      further x left s below u from to =
          elim (cases_lt x u) [
            | inr soon ↦ below u from soon
            | inl last ↦ let here : u ≡ suc x = omega arith in subst (λ (t : ℕ). done t < asked t) (sym here) left
          ]

  -- behind it, up to this time, each tick does one cycle
  pub since : (x s k : ℕ) → ((u : ℕ) → s < u → u ≤ x → done u < asked u) → s + k ≤ x → done (s + k) ≡ done s + k
  since x s k left within = busy s k (λ t from to. let more = left (suc t) (omega arith) (omega arith) in let one = step t in omega (arith, one.0))

  -- where a time's share of what is asked in a span is at least its part of the span, and that fits the span, all is done at the span's end
  pub all_done : (span : ℕ) → 0 < span → asked span ≤ span → ((t : ℕ) → t * asked span ≤ span * asked t) → asked span ≤ done span
  all_done span some fits share =
      let last = last_done span in
      let s : ℕ = last.0 in
      let k : ℕ = span - s in
      let whole : s + k ≡ span = let h = last.1 in omega arith in
      let work = since span s k last.3 (omega arith) in
      let there : done (s + k) ≡ done span = ap done whole in
      let enough : span * asked s ≤ span * done s = mul-le-mul_left span last.2 in
      let part : k * asked span ≤ k * span = mul-le-mul_left k fits in
      let before = share s in
      let all : span * asked span ≡ s * asked span + k * asked span = ap (λ n. n * asked span) (sym whole) ∙ omega arith in
      let sum : span * done span ≡ span * done s + span * k = ap (λ n. span * n) (sym there ∙ work) ∙ omega arith in
      le_of_mul-le-mul_left {k = span} (omega arith) some
