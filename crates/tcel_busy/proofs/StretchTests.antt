-- The first place of a stretch that is late, by a test of its points.
use Rattle.std.proofs.Common.{◌≡◌, ℕ, ◌+◌, ◌-◌, ◌<◌, Bool, true, ◌&&◌, List, get_or, Some, None, refl, sym, ap, ◌∙◌, subst, arith}
use Rattle.std.specs.Prelude.{position, slice_get, nat_lt, nat_le}
use Rattle.std.proofs.lemmas.Bool.{and_parts, and_from, ltb-true, lt-ltb, leb-true, le-leb}
use Rattle.std.proofs.lemmas.List.Quantifiers.{position-Some}
use Rattle.std.proofs.lemmas.Option.{slice_get_within, get_or_from_slice_get}
use Rattle.tcel_busy.specs.LateStretches.{IsLateIn, IsLateStretch}
use Rattle.tcel_busy.specs.declared.stretch.Stretch.{Stretch}
use Rattle.tcel_demand.proofs.FirstPlaces.{position-none}
use Rattle.tcel_demand.proofs.PlainReads.{plain_read}
use Rattle.tcel_num.specs.Plan.{Plan, Point}

abbrev pub is_late : Stretch → Point → Bool
is_late stretch point = nat_lt stretch.from point.prefix && nat_le point.prefix stretch.to && nat_lt (point.bound - stretch.delay) point.prefix

passes : (plan : Plan) (stretch : Stretch) (place : ℕ) (h : IsLateIn plan stretch place) → is_late stretch (get_or plan.points place h.point) ≡ true
passes plan stretch place h =
    let here = get_or_from_slice_get plan.points place h.point h.point h.of_plan in
    let above = h.above in
    let after = h.after in
    let test : is_late stretch h.point ≡ true = and_from _ _ (and_from _ _ (lt-ltb _ _ h.after) (le-leb _ _ h.upto)) (lt-ltb _ _ (omega arith)) in
    ap (is_late stretch) here ∙ test

none_from : (plan : Plan) (stretch : Stretch) → position (is_late stretch) plan.points ≡ None → (place : ℕ) → IsLateIn plan stretch place → ⊥
none_from plan stretch e place h =
    let fails = position-none (is_late stretch) plan.points e place h.point (slice_get_within plan.points place h.point h.of_plan) in
    let yes = passes plan stretch place h in
    cc

pub none_late : (plan : Plan) (points : List Point) (stretch : Stretch) → points ≡ plan.points → position (is_late stretch) points ≡ None → (place : ℕ) → IsLateIn plan stretch place → ⊥
none_late plan points stretch same e place h = none_from plan stretch (subst (λ xs. position (is_late stretch) xs ≡ None) same e) place h

-- the first that passes the test is the first that is late
pub first_is_late : (plan : Plan) (task : ℕ) (points : List Point) (stretch : Stretch) (place : ℕ) (point item : Point) → points ≡ plan.points → position (is_late stretch) points ≡ Some place → point ≡ item → item ≡ get_or points place item →
    IsLateStretch plan task stretch (record { task = task; frame = stretch.frame; point = place; name = point.name; response = stretch.delay + point.prefix; bound = point.bound })
first_is_late plan task points stretch place point item same e view is =
    let at = plain_read points place point item view is (position-Some (is_late stretch) points place item e).0 in
    let found : position (is_late stretch) plan.points ≡ Some place = subst (λ xs. position (is_late stretch) xs ≡ Some place) same e in
    let there : slice_get plan.points place ≡ Some point = subst (λ xs. slice_get xs place ≡ Some point) same at in
    let first = position-Some (is_late stretch) plan.points place point found in
    let test : is_late stretch point ≡ true = ap (is_late stretch) (sym (get_or_from_slice_get plan.points place point point there)) ∙ first.1 in
    let parts = and_parts (nat_lt stretch.from point.prefix && nat_le point.prefix stretch.to) (nat_lt (point.bound - stretch.delay) point.prefix) test in
    let front = and_parts (nat_lt stretch.from point.prefix) (nat_le point.prefix stretch.to) parts.0 in
    let above = ltb-true _ _ parts.1 in
    record {
      of_task = refl;
      frame = refl;
      is = record { point = point; of_plan = there; after = ltb-true _ _ front.0; upto = leb-true _ _ front.1; above = omega arith };
      response = refl;
      named = refl;
      bounded = refl;
      first = λ other before h. earlier plan stretch place point found other before h;
    }
  where
    earlier : (plan : Plan) (stretch : Stretch) (place : ℕ) (point : Point) → position (is_late stretch) plan.points ≡ Some place → (other : ℕ) → other < place → IsLateIn plan stretch other → ⊥
    earlier plan stretch place point found other before h =
        let first = position-Some (is_late stretch) plan.points place h.point found in
        let fails = first.2 other before in
        let yes = passes plan stretch other h in
        cc
