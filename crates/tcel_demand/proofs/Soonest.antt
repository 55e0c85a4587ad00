-- The soonest bounds of plans, found one after another.
use Rattle.std.proofs.Common.{◌≡◌, ℕ, ◌+◌, ◌<◌, ◌≤◌, min, List, Some, length, get_or, set, sym, ap, subst, arith, inl, inr, get_or-set_other, get_or-set_same}
use Rattle.std.specs.Prelude.{slice_get}
use Rattle.std.proofs.lemmas.Bool.{cases_eq}
use Rattle.std.proofs.lemmas.Option.{slice_get_within}
use Rattle.tcel_num.specs.Plan.{Plan, Point}
use Rattle.tcel_demand.specs.LateSteps.{IsSoonest, AreSoonest}

-- as far as the first points say
pub record IsSoonestOf (points : List Point) (many soonest : ℕ) : Type 0 where
  pub each : (k : ℕ) (point : Point) → k < many → slice_get points k ≡ Some point → soonest ≤ point.bound

pub soonest_more : (points : List Point) (many soonest : ℕ) (point : Point) → IsSoonestOf points many soonest → slice_get points many ≡ Some point → IsSoonestOf points (many + 1) (min soonest point.bound)
soonest_more points many soonest point h e =
    record {
      each = λ k other less f. elim (cases_eq k many) [
        | inl same ↦
            let there : slice_get points many ≡ Some other = subst (λ i. slice_get points i ≡ Some other) same f in
            let point_same : point ≡ other = cc in
            let bound = ap (λ (p : Point). p.bound) point_same in
            omega arith
        | inr apart ↦ let before = h.each k other (omega arith) f in omega arith
      ];
    }

pub soonest_all : (plan : Plan) (points : List Point) (many soonest : ℕ) → points ≡ plan.points → length points ≤ many → IsSoonestOf points many soonest → IsSoonest plan soonest
soonest_all plan points many soonest same all h =
    record {
      each = λ k point e.
          let there : slice_get points k ≡ Some point = subst (λ xs. slice_get xs k ≡ Some point) (sym same) e in
          let within = slice_get_within points k point there in
          h.each k point (omega arith) there;
    }

-- as far as the first plans
pub record AreSoonestOf (plans : List Plan) (many : ℕ) (soonest : List ℕ) : Type 0 where
  pub each : (task : ℕ) (plan : Plan) → task < many → slice_get plans task ≡ Some plan → IsSoonest plan (get_or soonest task 0)

pub plans_more : (plans : List Plan) (many : ℕ) (soonest : List ℕ) (plan : Plan) (bound : ℕ) → AreSoonestOf plans many soonest → many < length soonest → slice_get plans many ≡ Some plan → IsSoonest plan bound → AreSoonestOf plans (many + 1) (set soonest many bound)
plans_more plans many soonest plan bound h within e is =
    record {
      each = λ task other less f. elim (cases_eq task many) [
        | inr apart ↦ rw (get_or-set_other soonest many task bound 0 apart) (h.each task other (omega arith) f)
        | inl same ↦
            let there : slice_get plans many ≡ Some other = subst (λ i. slice_get plans i ≡ Some other) same f in
            let plan_same : plan ≡ other = cc in
            let mine : bound ≡ get_or (set soonest many bound) many 0 = sym (get_or-set_same soonest many bound 0 within) in
            subst (λ i. IsSoonest other (get_or (set soonest many bound) i 0)) (sym same) (subst (IsSoonest other) mine (subst (λ (p : Plan). IsSoonest p bound) plan_same is))
      ];
    }

pub plans_all : (plans : List Plan) (many : ℕ) (soonest : List ℕ) → length plans ≤ many → AreSoonestOf plans many soonest → AreSoonest plans soonest
plans_all plans many soonest all h = λ task plan e. h.each task plan (let within = slice_get_within plans task plan e in omega arith) e
