-- The demand schedule of one plan alone.
use Rattle.std.proofs.Common.{◌≡◌, ℕ, zero, suc, ◌+◌, ◌*◌, ◌/◌, ◌<◌, ◌≤◌, ◌⊎◌, [], ◌∷◌, refl, sym, ap, ◌∙◌, subst, arith, inl, inr}
use Rattle.std.specs.Prelude.{slice_index}
use Rattle.std.proofs.Math.Nat.{mul-add-div, div-eq_of_lt}
use Rattle.std.proofs.lemmas.Bool.{cases_lt, lt-ltb, le-ltb, cond-true, cond-false}
use Rattle.tcel_num.specs.Plan.{Plan}
use Rattle.tcel_num.specs.Schedule.{released, serve_highest, served_counts, served}

-- one tick of one plan, which was served so many cycles
record Served (plan : Plan) (count time : ℕ) : Type 0 where
  after : ℕ
  is : serve_highest (plan ∷ []) (count ∷ []) time ≡ after ∷ []
  pending : count < released plan time → after ≡ count + 1
  idle : released plan time ≤ count → after ≡ count

serve_alone : (plan : Plan) (count time : ℕ) → Served plan count time
serve_alone plan count time =
    elim (cases_lt count (released plan time)) [
      | inl h ↦ record { after = count + 1; is = cond-true _ _ _ (lt-ltb count (released plan time) h); pending = λ _. refl; idle = λ g. absurd (omega arith) }
      | inr h ↦ record { after = count; is = cond-false _ _ _ (le-ltb count (released plan time) h); pending = λ g. absurd (omega arith); idle = λ _. refl }
    ]

one_count : (plan : Plan) (time : ℕ) → served_counts (plan ∷ []) time ≡ served (plan ∷ []) time 0 ∷ []
one_count plan zero = refl
one_count plan (suc time) =
    let now = serve_alone plan (served (plan ∷ []) time 0) time in
    let e = ap (λ counts. serve_highest (plan ∷ []) counts time) (one_count plan time) ∙ now.is in
    e ∙ ap (λ n. n ∷ []) (sym (ap (λ l. slice_index l 0) e))

after_tick : (plan : Plan) (time : ℕ) → served (plan ∷ []) (suc time) 0 ≡ (serve_alone plan (served (plan ∷ []) time 0) time).after
after_tick plan time =
    let now = serve_alone plan (served (plan ∷ []) time 0) time in
    ap (λ l. slice_index l 0) (ap (λ counts. serve_highest (plan ∷ []) counts time) (one_count plan time) ∙ now.is)

-- while it has some to do, it is served
pub served_pending : (plan : Plan) (time : ℕ) → served (plan ∷ []) time 0 < released plan time → served (plan ∷ []) (suc time) 0 ≡ served (plan ∷ []) time 0 + 1
served_pending plan time h = after_tick plan time ∙ (serve_alone plan (served (plan ∷ []) time 0) time).pending h

-- when it has none, it is not
pub served_idle : (plan : Plan) (time : ℕ) → released plan time ≤ served (plan ∷ []) time 0 → served (plan ∷ []) (suc time) 0 ≡ served (plan ∷ []) time 0
served_idle plan time h = after_tick plan time ∙ (serve_alone plan (served (plan ∷ []) time 0) time).idle h

module _ (plan : Plan) (positive : 0 < plan.period) (fits : plan.total ≤ plan.period) where
  -- in a period a frame is served cycle by cycle, until it is served whole
  in_period : (f k : ℕ) → f * plan.total ≤ served (plan ∷ []) (f * plan.period) 0 → k ≤ plan.period →
      (f * plan.total + k ≤ served (plan ∷ []) (f * plan.period + k) 0) ⊎ (f * plan.total + plan.total ≤ served (plan ∷ []) (f * plan.period + k) 0)
  in_period f zero start h =
      let same : f * plan.period ≡ f * plan.period + 0 = omega arith in
      inl (subst (λ t. f * plan.total + 0 ≤ served (plan ∷ []) t 0) same (omega arith))
  in_period f (suc k) start h =
      let t : ℕ = f * plan.period + k in
      let on : suc t ≡ f * plan.period + suc k = omega arith in
      let q : t / plan.period ≡ f = ap (λ n. n / plan.period) commuted ∙ mul-add-div positive f k ∙ ap (λ n. f + n) (div-eq_of_lt (omega arith)) ∙ omega arith in
      let all : released plan t ≡ f * plan.total + plan.total = ap (λ n. plan.total * (n + 1)) q ∙ omega arith in
      let s = served (plan ∷ []) t 0 in
      subst (λ n. (f * plan.total + suc k ≤ served (plan ∷ []) n 0) ⊎ (f * plan.total + plan.total ≤ served (plan ∷ []) n 0)) on
      (elim (cases_lt s (released plan t)) [
        | inl less ↦
            let e = served_pending plan t less in
            elim (in_period f k start (omega arith)) [ inl g ↦ inl (omega arith) | inr g ↦ inr (omega arith) ]
        | inr full ↦ let e = served_idle plan t full in inr (omega arith)
      ])
    where
      commuted : f * plan.period + k ≡ plan.period * f + k
      commuted = omega arith

  -- at the end of its period each frame is served whole
  pub served_whole : (f : ℕ) → f * plan.total ≤ served (plan ∷ []) (f * plan.period) 0
  served_whole zero = omega arith
  served_whole (suc f) =
      let there : f * plan.period + plan.period ≡ suc f * plan.period = omega arith in
      subst (λ t. suc f * plan.total ≤ served (plan ∷ []) t 0) there
      (elim (in_period f plan.period (served_whole f) (omega arith)) [ inl h ↦ omega arith | inr h ↦ omega arith ])
