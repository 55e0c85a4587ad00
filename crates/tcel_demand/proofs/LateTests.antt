-- The first place of a step that is late, by a test of its points.
use Rattle.std.proofs.Common.{◌≡◌, ℕ, ◌<◌, Bool, true, ◌&&◌, List, get_or, Some, None, refl, sym, ap, ◌∙◌, subst}
use Rattle.std.specs.Bool.{◌==◌}
use Rattle.std.specs.Prelude.{position, slice_get, nat_lt}
use Rattle.std.proofs.lemmas.Bool.{and_parts, and_from, eqb-true, eq-eqb, ltb-true, lt-ltb}
use Rattle.std.proofs.lemmas.List.Quantifiers.{position-Some}
use Rattle.std.proofs.lemmas.Option.{slice_get_within, get_or_from_slice_get}
use Rattle.tcel_num.specs.Plan.{Plan, Point}
use Rattle.tcel_demand.specs.LateSteps.{IsLateIn, IsLateStep}
use Rattle.tcel_demand.specs.declared.step.Step.{Step}
use Rattle.tcel_demand.proofs.FirstPlaces.{position-none}
use Rattle.tcel_demand.proofs.PlainReads.{plain_read}

abbrev pub is_late : Step → Point → Bool
is_late step point = (point.prefix == step.cycles) && nat_lt point.bound step.response

passes : (plan : Plan) (step : Step) (place : ℕ) (h : IsLateIn plan step place) → is_late step (get_or plan.points place h.point) ≡ true
passes plan step place h =
    let here = get_or_from_slice_get plan.points place h.point h.point h.of_plan in
    let test : is_late step h.point ≡ true = and_from _ _ (eq-eqb _ _ h.reached) (lt-ltb _ _ h.above) in
    ap (is_late step) here ∙ test

none_from : (plan : Plan) (step : Step) → position (is_late step) plan.points ≡ None → (place : ℕ) → IsLateIn plan step place → ⊥
none_from plan step e place h =
    let fails = position-none (is_late step) plan.points e place h.point (slice_get_within plan.points place h.point h.of_plan) in
    let yes = passes plan step place h in
    cc

pub none_late : (plan : Plan) (points : List Point) (step : Step) → points ≡ plan.points → position (is_late step) points ≡ None → (place : ℕ) → IsLateIn plan step place → ⊥
none_late plan points step same e place h = none_from plan step (subst (λ xs. position (is_late step) xs ≡ None) same e) place h

-- the first that passes the test is the first that is late
pub first_is_late : (plan : Plan) (points : List Point) (step : Step) (place : ℕ) (point item : Point) → points ≡ plan.points → position (is_late step) points ≡ Some place → point ≡ item → item ≡ get_or points place item →
    IsLateStep plan step (record { task = step.task; frame = step.frame; point = place; name = point.name; response = step.response; bound = point.bound })
first_is_late plan points step place point item same e view is =
    let at = plain_read points place point item view is (position-Some (is_late step) points place item e).0 in
    let found : position (is_late step) plan.points ≡ Some place = subst (λ xs. position (is_late step) xs ≡ Some place) same e in
    let there : slice_get plan.points place ≡ Some point = subst (λ xs. slice_get xs place ≡ Some point) same at in
    let first = position-Some (is_late step) plan.points place point found in
    let test : is_late step point ≡ true = ap (is_late step) (sym (get_or_from_slice_get plan.points place point point there)) ∙ first.1 in
    let parts = and_parts (point.prefix == step.cycles) (nat_lt point.bound step.response) test in
    record {
      task = refl;
      frame = refl;
      response = refl;
      is = record { point = point; of_plan = there; reached = eqb-true _ _ parts.0; above = ltb-true _ _ parts.1 };
      named = refl;
      bounded = refl;
      first = λ other before h. earlier plan step place point found other before h;
    }
  where
    earlier : (plan : Plan) (step : Step) (place : ℕ) (point : Point) → position (is_late step) plan.points ≡ Some place → (other : ℕ) → other < place → IsLateIn plan step other → ⊥
    earlier plan step place point found other before h =
        let first = position-Some (is_late step) plan.points place h.point found in
        let fails = first.2 other before in
        let yes = passes plan step other h in
        cc
