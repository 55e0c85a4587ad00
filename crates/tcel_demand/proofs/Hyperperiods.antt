-- The hyperperiod of one plan alone, and its demand.
use Rattle.std.proofs.Common.{◌≡◌, ℕ, zero, suc, ◌+◌, ◌*◌, ◌/◌, ◌<◌, ◌≤◌, [], ◌∷◌, ap, ◌∙◌, arith}
use Rattle.std.proofs.lemmas.List.Elements.{All-nil, All-cons, All-head}
use Rattle.std.proofs.Math.Nat.{div_self}
use Rattle.tcel_num.specs.Hyperperiod.{IsHyperperiod, demand}
use Rattle.tcel_num.specs.Plan.{Plan}

at_least : (period multiple : ℕ) → 0 < multiple → (k : ℕ) × (multiple ≡ k * period) → period ≤ multiple
at_least period multiple positive (zero, e) = absurd (omega arith)
at_least period multiple positive (suc k, e) = omega arith

abbrev HasMultiple : ℕ → ℕ → Type 0
HasMultiple n period = (k : ℕ) × (n ≡ k * period)

-- its period is its hyperperiod
pub own_hyperperiod : (plan : Plan) → 0 < plan.period → IsHyperperiod (plan ∷ []) plan.period
own_hyperperiod plan positive = record {
  positive = positive;
  common = All-cons (HasMultiple plan.period) plan.period [] (1, omega arith) (All-nil (HasMultiple plan.period));
  least = λ m some multiple. at_least plan.period m some (All-head (HasMultiple m) plan.period [] multiple);
}

-- it has no other
pub only_hyperperiod : (plan : Plan) (hyper : ℕ) → 0 < plan.period → IsHyperperiod (plan ∷ []) hyper → hyper ≡ plan.period
only_hyperperiod plan hyper positive h =
    let own = own_hyperperiod plan positive in omega (arith, h.least plan.period positive own.common, own.least hyper h.positive h.common)

-- in it one frame is released
pub own_demand : (plan : Plan) → 0 < plan.period → demand (plan ∷ []) plan.period ≡ plan.total
own_demand plan positive =
    let once : plan.period / plan.period ≡ 1 = div_self positive in
    ap (λ n. 0 + plan.total * n) once ∙ omega arith
