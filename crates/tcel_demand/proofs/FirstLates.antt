-- The first late point among the places that a search has passed so far.
use Rattle.std.proofs.Common.{◌≡◌, ℕ, ◌<◌, ◌≤◌, List, Option, Some, None, sym, subst, arith, inl, inr}
use Rattle.std.specs.Prelude.{◌⊎◌}
use Rattle.std.proofs.lemmas.Bool.{cases_lt}
use Rattle.tcel_num.specs.Lateness.{Place, Lateness, IsResponse, IsLate, Precedes, place_of, IsNeverLate, IsFirstLate}
use Rattle.tcel_num.specs.Plan.{Plan, Point}
use Rattle.tcel_demand.specs.LateSteps.{IsEarlier}

-- it is a late point, and what is told of it is so
pub record IsTold (plans : List Plan) (late : Lateness) : Type 0 where
  pub plan : Plan
  pub point : Point
  pub responds : IsResponse plans (place_of late) plan point late.response
  pub named : point.name ≡ late.name
  pub bounded : point.bound ≡ late.bound
  pub above : late.bound < late.response

-- no late point that was passed precedes it
pub record IsFirst (plans : List Plan) (Passed : Place → Type 0) (late : Lateness) : Type 0 where
  pub told : IsTold plans late
  pub first : (place : Place) → Passed place → Precedes place (place_of late) → IsLate plans place → ⊥

-- the first late point of those passed, or none
abbrev pub IsFirstOf : List Plan → (Place → Type 0) → Option Lateness → Type 0
IsFirstOf plans Passed None = (place : Place) → Passed place → IsLate plans place → ⊥
IsFirstOf plans Passed (Some late) = IsFirst plans Passed late

precedes_trans : (a b c : Place) → Precedes a b → Precedes b c → Precedes a c
precedes_trans a b c h g = grind arith

-- the places behind a late point in its frame, and itself
pub record IsFrom (late : Lateness) (place : Place) : Type 0 where
  pub task : place.task ≡ late.task
  pub frame : place.frame ≡ late.frame
  pub point : late.point ≤ place.point

not_before : (late : Lateness) (place : Place) → IsFrom late place → Precedes place (place_of late) → ⊥
not_before late place from (inl h) = let e = from.task in absurd (omega arith)
not_before late place from (inr (inl h)) = let e = from.frame in let less = h.1 in absurd (omega arith)
not_before late place from (inr (inr h)) = let e = from.point in let less = h.2 in absurd (omega arith)

-- where a place behind it precedes another, it does too
so_it_does : (late : Lateness) (place other : Place) → IsFrom late place → Precedes place other → Precedes (place_of late) other
so_it_does late place other from (inl h) = let e = from.task in inl (omega arith)
so_it_does late place other from (inr (inl h)) = let e = from.task in let f = from.frame in let same = h.0 in let less = h.1 in inr (inl (omega arith, omega arith))
so_it_does late place other from (inr (inr h)) =
    let e = from.task in let f = from.frame in let k = from.point in let task = h.0 in let frame = h.1 in let less = h.2 in
    inr (inr (omega arith, omega arith, omega arith))

-- the search goes on over places that are not late
pub none_more : (plans : List Plan) (Old New : Place → Type 0) (first : Option Lateness) → IsFirstOf plans Old first → ((place : Place) → New place → IsLate plans place → Old place) → IsFirstOf plans New first
none_more plans Old New None h same = λ place passed late. h place (same place passed late) late
none_more plans Old New (Some first) h same = record { told = h.told; first = λ place passed before late. h.first place (same place passed late) before late }

-- or over places of one frame of which one is the first that is late
pub one_more : (plans : List Plan) (Old New : Place → Type 0) (first : Option Lateness) (late next : Lateness) → IsFirstOf plans Old first → IsTold plans late →
    ((place : Place) → New place → IsLate plans place → (Old place) ⊎ (IsFrom late place)) → IsEarlier first late next → IsFirstOf plans New (Some next)
one_more plans Old New None late next h told split earlier =
    let here : IsFirst plans New late = record { told = told; first = λ place passed before is. elim (split place passed is) [ inl old ↦ h place old is | inr from ↦ not_before late place from before ] } in
    subst (IsFirst plans New) (sym earlier) here
one_more plans Old New (Some first) late next h told split (inl (same, precedes)) =
    let here : IsFirst plans New late = record {
      told = told;
      first = λ place passed before is. elim (split place passed is) [
        | inl old ↦ h.first place old (precedes_trans place (place_of late) (place_of first) before precedes) is
        | inr from ↦ not_before late place from before
      ];
    } in
    subst (IsFirst plans New) (sym same) here
one_more plans Old New (Some first) late next h told split (inr (same, later)) =
    let here : IsFirst plans New first = record {
      told = h.told;
      first = λ place passed before is. elim (split place passed is) [
        | inl old ↦ h.first place old before is
        | inr from ↦ later (so_it_does late place (place_of first) from before)
      ];
    } in
    subst (IsFirst plans New) (sym same) here

-- where each late point has a passed one that is late and no later in the order, the search is over
pub record HasPassed (plans : List Plan) (Passed : Place → Type 0) (place : Place) : Type 0 where
  pub frame : ℕ
  pub no_later : frame ≤ place.frame
  pub passed : Passed (record { task = place.task; frame = frame; point = place.point })
  pub late : IsLate plans (record { task = place.task; frame = frame; point = place.point })

pub never : (plans : List Plan) (Passed : Place → Type 0) → ((place : Place) → IsLate plans place → HasPassed plans Passed place) → IsFirstOf plans Passed None → IsNeverLate plans
never plans Passed all h place late = let low = all place late in h (record { task = place.task; frame = low.frame; point = place.point }) low.passed low.late

pub earlier_frame : (place other : Place) (frame : ℕ) → frame ≤ place.frame → Precedes place other → Precedes (record { task = place.task; frame = frame; point = place.point }) other
earlier_frame place other frame h (inl g) = inl g
earlier_frame place other frame h (inr (inl g)) = let same = g.0 in let less = g.1 in inr (inl (omega arith, omega arith))
earlier_frame place other frame h (inr (inr g)) =
    let task = g.0 in let same = g.1 in let less = g.2 in
    elim (cases_lt frame place.frame) [ inl lower ↦ inr (inl (omega arith, omega arith)) | inr level ↦ inr (inr (omega arith, omega arith, omega arith)) ]

pub first_late : (plans : List Plan) (Passed : Place → Type 0) (late : Lateness) → ((place : Place) → IsLate plans place → HasPassed plans Passed place) → IsFirstOf plans Passed (Some late) → IsFirstLate plans late
first_late plans Passed late all h = record {
  plan = h.told.plan;
  point = h.told.point;
  responds = h.told.responds;
  named = h.told.named;
  bounded = h.told.bounded;
  above = h.told.above;
  first = λ place before is.
      let low = all place is in
      h.first (record { task = place.task; frame = low.frame; point = place.point }) low.passed (earlier_frame place (place_of late) low.frame low.no_later before) low.late;
}
