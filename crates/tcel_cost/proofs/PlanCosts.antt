-- The plan that is found by costs is the plan of a form, and it is sound.
use Rattle.std.proofs.Common.{◌≡◌, ℕ, ◌+◌, ◌≤◌, ◌<◌, ◌^◌, true, false, List, IfOk, IfErr, Result, Ok, Err, refl, sym, ap, ◌∙◌, subst, arith}
use Rattle.std.proofs.lemmas.List.Elements.{All-cons}
use Rattle.tcel_num.specs.Plan.{Plan, Point, frame}
use Rattle.tcel_core.specs.declared.var.Var.{Var}
use Rattle.tcel_core.specs.Language.{Block, done, Task}
use Rattle.tcel_core.specs.Limits.{IsTime}
use Rattle.tcel_core.specs.Parts.{AreOwnParts, TaskParts}
use Rattle.tcel_core.specs.Sound.{IsSoundTask}
use Rattle.tcel_demand.specs.Sound.{IsSoundPlan, IsSoundPoint}
use Rattle.tcel_target.specs.declared.costs.Costs.{Costs}
use Rattle.tcel_target.specs.declared.costs.CostKey.TheVariants as keys
use Rattle.tcel_target.specs.Costs.{CostsInRange}
use Rattle.tcel_cost.specs.declared.numbers.Cost.{Cost}
use Rattle.tcel_cost.specs.declared.plans.CostFail.{CostFail}
use Rattle.tcel_cost.specs.declared.plans.CostFail.TheVariants.{TooDear, NoMemory}
use Rattle.tcel_cost.specs.Answers.{IsAbove, Refuses}
use Rattle.tcel_cost.specs.CostSteps.{block_cost, entered}
use Rattle.tcel_cost.specs.Forms.{Form, form_of, whole_form}
use Rattle.tcel_cost.specs.Plans.{IsPlan}
use Rattle.tcel_cost.specs.PointSteps.{block_points, plan_by}
use Rattle.tcel_cost.specs.Rooms.{HasRoom, block_most}
use Rattle.tcel_cost.specs.Walks.{Walks}
use Rattle.tcel_cost.proofs.CostRooms.{block_upto, entered_upto, room_for}
use Rattle.tcel_cost.proofs.CostWalks.{block_step, cost_from}
use Rattle.tcel_cost.proofs.PartCosts.{BodyFits, costs_few, events_take_time, parts_fit, whole_fits}
use Rattle.tcel_cost.proofs.PointCosts.{points_meet, points_sound, sound_more}

-- the total of a body from an entry
abbrev pub total_from : Block → List Var → Costs → ℕ → ℕ
total_from b vars costs entry = (block_cost b vars costs (entered entry)).total

module _ (form : Form) (costs : Costs) (ranges : CostsInRange costs) where
  abbrev pub Found : Plan
  Found =
      plan_by form.task.period form.task.deadline form.parts.first (total_from form.parts.rest form.parts.vars costs 0) form.parts.vars costs

  pub plan_meets : BodyFits form.parts.first form.parts.vars costs → BodyFits form.parts.rest form.parts.vars costs → IsPlan form costs Found
  plan_meets h g =
      let vars = form.parts.vars in
      let first = form.parts.first in
      let rest = form.parts.rest in
      record {
        period = refl;
        first = total_from first vars costs costs.dispatch;
        first_total = (cost_from (Walks first vars costs) (block_cost first vars costs) (block_step first vars costs h.loops h.turns) costs.dispatch).total;
        rest = total_from rest vars costs 0;
        rest_total = (cost_from (Walks rest vars costs) (block_cost rest vars costs) (block_step rest vars costs g.loops g.turns) 0).total;
        total = refl;
        windows = block_points first vars costs costs.dispatch;
        in_text = points_meet vars costs first h.loops h.turns costs.dispatch;
        points = refl;
      }

  pub plan_sound : BodyFits form.parts.first form.parts.vars costs → IsTime form.task.period → IsTime form.task.deadline → Found.total ≤ 10 ^ 9 → IsSoundPlan Found
  plan_sound h period deadline few =
      let vars = form.parts.vars in
      let first = form.parts.first in
      let start = total_from first vars costs costs.dispatch in
      let windows = block_points first vars costs costs.dispatch in
      let marks = (ranges keys.Mark).0 in
      let least = period.some in
      let soonest = deadline.some in
      let point : Point = record { prefix = start + costs.mark; bound = form.task.deadline; name = frame } in
      record {
        period_some = omega (arith, least);
        period_most = period.most;
        total_some = omega (arith, marks);
        total_most = few;
        points =
            All-cons (IsSoundPoint Found.total) point windows
            (record { prefix_some = omega (arith, marks); prefix_within = omega arith; bound_some = omega (arith, soonest); bound_most = deadline.most })
            (sound_more start Found.total windows (omega arith) (points_sound vars costs (events_take_time costs ranges) first h.turns h.windows costs.dispatch));
      }

-- what a call answers: the plan, sound, or that it is too dear
pub record Answers (form : Form) (costs : Costs) (result : Result Plan CostFail) : Type 0 where
  pub plan : IfOk result (λ p. IsPlan form costs p)
  pub sound : IfOk result (λ p. IsSoundPlan p)
  pub refused : IfErr result (Refuses form costs)

answers : (form : Form) (costs : Costs) (found : Plan) → IsPlan form costs found → (found.total ≤ 10 ^ 9 → IsSoundPlan found) → (r : Result Plan CostFail) →
    IfOk r (λ p. p ≡ found) → IfOk r (λ p. p.total ≤ 10 ^ 9) → IfErr r (IsAbove found.total) → Answers form costs r
answers form costs found meets sound (Ok p) is few above = record {
  plan = subst (IsPlan form costs) (sym is) meets;
  sound = subst IsSoundPlan (sym is) (sound (subst (λ q. q.total ≤ 10 ^ 9) is few));
  refused = tt;
}
answers form costs found meets sound (Err (TooDear cycles)) is few above = record {
  plan = tt;
  sound = tt;
  refused = (found, meets, sym above.0, above.1);
}
answers form costs found meets sound (Err NoMemory) is few above = record { plan = tt; sound = tt; refused = tt }

-- nothing fits
done_fits : (vars : List Var) (costs : Costs) → BodyFits done vars costs
done_fits vars costs = record { loops = tt; turns = tt; windows = tt; most = omega arith }

module _ (task : Task) (parts : TaskParts) (costs : Costs) (sound : IsSoundTask task) (own : AreOwnParts task parts) (ranges : CostsInRange costs) where
  pub sliced_answers : (rest : ℕ) → rest ≡ total_from parts.rest parts.vars costs 0 → (r : Result Plan CostFail) →
      let found = plan_by task.period task.deadline parts.first rest parts.vars costs in
      IfOk r (λ p. p ≡ found) → IfOk r (λ p. p.total ≤ 10 ^ 9) → IfErr r (IsAbove found.total) → Answers (form_of task true parts) costs r
  sliced_answers rest is r equal few above =
      let form = form_of task true parts in
      let fit = parts_fit task parts costs sound own ranges in
      let found : ℕ → Plan = λ n. plan_by task.period task.deadline parts.first n parts.vars costs in
      answers form costs (found (total_from parts.rest parts.vars costs 0)) (plan_meets form costs ranges fit.first fit.rest)
      (plan_sound form costs ranges fit.first sound.period sound.deadline) r
      (subst (λ n. IfOk r (λ p. p ≡ found n)) is equal) few (subst (λ n. IfErr r (IsAbove (found n).total)) is above)

  pub whole_answers : (r : Result Plan CostFail) →
      let found = plan_by task.period task.deadline task.body 0 task.vars costs in
      IfOk r (λ p. p ≡ found) → IfOk r (λ p. p.total ≤ 10 ^ 9) → IfErr r (IsAbove found.total) → Answers (form_of task false parts) costs r
  whole_answers r equal few above =
      let form = whole_form task in
      let fit = whole_fits task costs sound ranges in
      answers form costs (plan_by task.period task.deadline task.body 0 task.vars costs) (plan_meets form costs ranges fit (done_fits task.vars costs))
      (plan_sound form costs ranges fit sound.period sound.deadline) r equal few above

-- ---- rooms for a plan

pub room_from : (b : Block) (vars : List Var) (costs : Costs) (entry : ℕ) (start : Cost) → BodyFits b vars costs → entry ≤ 2 ^ 61 → start ≡ entered entry → HasRoom start (block_most b vars costs)
room_from b vars costs entry start h few is =
    let most = h.most in
    subst (λ c. HasRoom c (block_most b vars costs)) (sym is)
    (room_for (entered entry) entry (block_most b vars costs) (entered_upto entry) (omega (arith, most, few)))

pub dispatch_few : (costs : Costs) → CostsInRange costs → costs.dispatch ≤ 2 ^ 61
dispatch_few costs ranges = let few = (costs_few costs ranges).dispatch in omega (arith, few)

-- the total of a body that fits, from 0
pub total_few : (b : Block) (vars : List Var) (costs : Costs) (start got : Cost) → BodyFits b vars costs → start ≡ entered 0 → got ≡ block_cost b vars costs start → got.total < 2 ^ 62
total_few b vars costs start got h begins is =
    let upto = block_upto b vars costs 0 (entered 0) (entered_upto 0) in
    let most = h.most in
    let total = upto.total in
    let same = ap (λ (c : Cost). c.total) (is ∙ ap (block_cost b vars costs) begins) in
    omega (arith, most, total, same)

-- the total of a body with room
pub total_fits : (b : Block) (vars : List Var) (costs : Costs) (start got : Cost) (entry : ℕ) → HasRoom (entered entry) (block_most b vars costs) → start ≡ entered entry →
    got ≡ block_cost b vars costs start → got.total ≤ 2 ^ 63
total_fits b vars costs start got entry h begins is =
    let upto = block_upto b vars costs h.limit (entered entry) h.upto in
    let room = h.room in
    let total = upto.total in
    let same = ap (λ (c : Cost). c.total) (is ∙ ap (block_cost b vars costs) begins) in
    omega (arith, room, total, same)
