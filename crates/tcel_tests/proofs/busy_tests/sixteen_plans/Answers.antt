use Rattle.std.proofs.Common.{◌≡◌, List, [], ◌∷◌, ◌++◌, replicate, ap, ◌∙◌, subst, sym, refl, arith, lit<}
use Rattle.std.proofs.lemmas.List.{replicate_more}
use Rattle.tcel_demand.specs.Sound.{Fit, HasPoint}
use Rattle.tcel_num.specs.Plan.{Plan, Point}
use Rattle.tcel_tests.proofs.BusyPlans.{plan_within, sixteen_fit, sixteen_point}
use Rattle.tcel_tests.proofs.busy_tests.sixteen_plans.Goals as goal

pub loop-preserved : goal.loop-preserved
loop-preserved c =
    let one : c.in_ok-plan.field-0 ≡ plan_within 16 1 16 = c.in_ok-plan.ensures ∙ ap (λ (p : Point). let q : Plan = record { period = 16; total = 1; points = p ∷ [] } in q) c.point.ensures in
    c.in_ok-push.ensures.items ∙ ap (λ (p : Plan). c.loop.plans.items ++ p ∷ []) one ∙ ap (λ (ps : List Plan). ps ++ plan_within 16 1 16 ∷ []) c.loop.invariant ∙ replicate_more c.loop.counter (plan_within 16 1 16)

pub returns-clause-fit : goal.returns-clause-fit
returns-clause-fit c =
    let all : c.loop.counter ≡ 16 = omega arith in
    let are = c.loop.invariant ∙ ap (λ n. replicate n (plan_within 16 1 16)) all in
    (16, subst (λ (ps : List Plan). Fit ps 16) (sym are) sixteen_fit)

pub returns-clause-last : goal.returns-clause-last
returns-clause-last c =
    let all : c.loop.counter ≡ 16 = omega arith in
    let are = c.loop.invariant ∙ ap (λ n. replicate n (plan_within 16 1 16)) all in
    subst (λ (ps : List Plan). HasPoint ps 15 0) (sym are) (sixteen_point 15 (lit< tt) refl)
