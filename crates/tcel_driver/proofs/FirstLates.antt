-- A set of plans has one first late point.
use Rattle.std.proofs.Common.{◌≡◌, ◌+◌, ◌*◌, List, sym, ap, ◌∙◌, subst, arith, Some, inl, inr}
use Rattle.std.specs.Prelude.{slice_get}
use Rattle.std.proofs.lemmas.Bool.{cases_order}
use Rattle.tcel_num.specs.Lateness.{IsFirstLate, IsFirstServed, IsLate, Lateness, Place, Precedes, place_of}
use Rattle.tcel_num.specs.Plan.{Plan, Point}
use Rattle.tcel_busy.proofs.StretchFacts.{first_unique}

-- of two places one precedes the other, where they aren't one
pub record AreOne (a b : Place) : Type 0 where
  pub task : a.task ≡ b.task
  pub frame : a.frame ≡ b.frame
  pub point : a.point ≡ b.point

one_place : (a b : Place) → (Precedes a b → ⊥) → (Precedes b a → ⊥) → AreOne a b
one_place a b f g =
    elim (cases_order a.task b.task) [
      | inr (inl less) ↦ absurd (f (inl less))
      | inr (inr more) ↦ absurd (g (inl more))
      | inl task ↦ elim (cases_order a.frame b.frame) [
        | inr (inl less) ↦ absurd (f (inr (inl (task, less))))
        | inr (inr more) ↦ absurd (g (inr (inl (sym task, more))))
        | inl frame ↦ elim (cases_order a.point b.point) [
          | inr (inl less) ↦ absurd (f (inr (inr (task, frame, less))))
          | inr (inr more) ↦ absurd (g (inr (inr (sym task, sym frame, more))))
          | inl point ↦ record { task = task; frame = frame; point = point }
        ]
      ]
    ]

pub is_late : (plans : List Plan) (a : Lateness) → IsFirstLate plans a → IsLate plans (place_of a)
is_late plans a h = let bounded = h.bounded in let above = h.above in (h.plan, h.point, a.response, h.responds, omega arith)

pub one_first_late : (plans : List Plan) (a b : Lateness) → IsFirstLate plans a → IsFirstLate plans b → a ≡ b
one_first_late plans a b h g =
    let at = one_place (place_of a) (place_of b) (λ before. g.first (place_of a) before (is_late plans a h)) (λ before. h.first (place_of b) before (is_late plans b g)) in
    let task : a.task ≡ b.task = at.task in
    let frame : a.frame ≡ b.frame = at.frame in
    let place : a.point ≡ b.point = at.point in
    let of_task : slice_get plans b.task ≡ Some h.plan = subst (λ i. slice_get plans i ≡ Some h.plan) task h.responds.of_task in
    let of_other : slice_get plans b.task ≡ Some g.plan = g.responds.of_task in
    let plan : h.plan ≡ g.plan = cc in
    let of_plan : slice_get g.plan.points b.point ≡ Some h.point =
    subst (λ i. slice_get g.plan.points i ≡ Some h.point) place (subst (λ (p : Plan). slice_get p.points a.point ≡ Some h.point) plan h.responds.of_plan) in
    let of_mine : slice_get g.plan.points b.point ≡ Some g.point = g.responds.of_plan in
    let point : h.point ≡ g.point = cc in
    let cycles : a.frame * h.plan.total + h.point.prefix ≡ b.frame * g.plan.total + g.point.prefix = λ i. frame i * (plan i).total + (point i).prefix in
    let release : a.frame * h.plan.period ≡ b.frame * g.plan.period = λ i. frame i * (plan i).period in
    let reached : IsFirstServed plans b.task (b.frame * g.plan.total + g.point.prefix) (a.frame * h.plan.period + a.response) =
    subst (λ n. IsFirstServed plans b.task n (a.frame * h.plan.period + a.response)) cycles
    (subst (λ t. IsFirstServed plans t (a.frame * h.plan.total + h.point.prefix) (a.frame * h.plan.period + a.response)) task h.responds.reached) in
    let time = first_unique plans b.task (b.frame * g.plan.total + g.point.prefix) (a.frame * h.plan.period + a.response) (b.frame * g.plan.period + b.response) reached g.responds.reached in
    let response : a.response ≡ b.response = omega arith in
    let name : a.name ≡ b.name = sym h.named ∙ (ap (λ (p : Point). p.name) point ∙ g.named) in
    let bound : a.bound ≡ b.bound = sym h.bounded ∙ (ap (λ (p : Point). p.bound) point ∙ g.bounded) in
    λ i. let late : Lateness = record { task = task i; frame = frame i; point = place i; name = name i; response = response i; bound = bound i } in late
