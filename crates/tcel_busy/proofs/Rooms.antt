-- The delay by which a frame may be done, before any of its points can be late.
use Rattle.std.proofs.Common.{◌≡◌, ℕ, ◌+◌, ◌-◌, ◌<◌, ◌≤◌, min, List, Some, length, subst, sym, ap, arith, inl, inr}
use Rattle.std.specs.Prelude.{slice_get}
use Rattle.std.proofs.lemmas.Bool.{cases_eq}
use Rattle.std.proofs.lemmas.Option.{slice_get_within}
use Rattle.tcel_busy.specs.LateStretches.{IsRoom}
use Rattle.tcel_demand.specs.Sound.{IsSoundPlan}
use Rattle.tcel_demand.proofs.PassedPlaces.{sound_point}
use Rattle.tcel_num.specs.Plan.{Plan, Point}

-- as far as the first points say
pub record IsRoomOf (points : List Point) (total many room : ℕ) : Type 0 where
  pub each : (k : ℕ) (point : Point) → k < many → slice_get points k ≡ Some point → room + point.prefix ≤ point.bound + total

pub room_none : (points : List Point) (total room : ℕ) → IsRoomOf points total 0 room
room_none points total room = record { each = λ k point less e. absurd (omega arith) }

pub room_more : (points : List Point) (total many room : ℕ) (point : Point) → IsRoomOf points total many room → slice_get points many ≡ Some point → point.prefix ≤ total → IsRoomOf points total (many + 1) (min room (point.bound + total - point.prefix))
room_more points total many room point h e most =
    record {
      each = λ k other less f. elim (cases_eq k many) [
        | inl same ↦
            let there : slice_get points many ≡ Some other = subst (λ i. slice_get points i ≡ Some other) same f in
            let point_same : point ≡ other = cc in
            let bound = ap (λ (p : Point). p.bound) point_same in
            let prefix = ap (λ (p : Point). p.prefix) point_same in
            omega arith
        | inr apart ↦ let before = h.each k other (omega arith) f in omega arith
      ];
    }

pub room_all : (plan : Plan) (points : List Point) (total many room : ℕ) → points ≡ plan.points → total ≡ plan.total → length points ≤ many → IsRoomOf points total many room → IsRoom plan room
room_all plan points total many room same total_is all h =
    record {
      each = λ k point e.
          let there : slice_get points k ≡ Some point = subst (λ xs. slice_get xs k ≡ Some point) (sym same) e in
          let within = slice_get_within points k point there in
          let here = h.each k point (omega arith) there in
          omega arith;
    }

-- a point's prefix is within its frame
pub sound_in : (plan : Plan) (points : List Point) (total k : ℕ) (point : Point) → IsSoundPlan plan → points ≡ plan.points → total ≡ plan.total → slice_get points k ≡ Some point → point.prefix ≤ total
sound_in plan points total k point sound same total_is e =
    let there : slice_get plan.points k ≡ Some point = subst (λ xs. slice_get xs k ≡ Some point) same e in
    let most = (sound_point plan k point sound there).prefix_within in
    omega arith
