use Rattle.std.proofs.Common.{◌≡◌, ◌∙◌, IfOk, IfErr, refl, sym, ap, subst, arith}
use Rattle.tcel_core.specs.Parts.{plain_parts}
use Rattle.tcel_core.specs.Plain.{plain_task}
use Rattle.tcel_cost.specs.Answers.{IsAbove}
use Rattle.tcel_cost.specs.CostSteps.{block_cost, entered}
use Rattle.tcel_cost.specs.Forms.{form_of}
use Rattle.tcel_cost.specs.PointSteps.{plan_by}
use Rattle.tcel_cost.specs.Rooms.{HasRoom, block_most}
use Rattle.tcel_cost.proofs.PartCosts.{parts_fit, whole_fits}
use Rattle.tcel_cost.proofs.PlanCosts.{Answers, dispatch_few, room_from, sliced_answers, total_few, whole_answers}
use Rattle.tcel_cost.proofs.plans.plan.Goals as goal

pub after_body-rest-requires : goal.after_body-rest-requires
after_body-rest-requires c =
    let parts = plain_parts c.args.parts.now in
    let costs = c.args.costs.now in
    let fit = parts_fit (plain_task c.args.task.now) parts costs c.requires.sound c.requires.own c.requires.costs in
    subst (λ vars. HasRoom c.entered.result (block_most parts.rest vars costs)) (sym c.as_slice.ensures)
    (room_from parts.rest parts.vars costs 0 c.entered.result fit.rest (omega arith) c.entered.ensures)

pub plan_of-requires-clause-room : goal.plan_of-requires-clause-room
plan_of-requires-clause-room c =
    let parts = plain_parts c.args.parts.now in
    let costs = c.args.costs.now in
    let fit = parts_fit (plain_task c.args.task.now) parts costs c.requires.sound c.requires.own c.requires.costs in
    subst (λ vars. HasRoom (entered costs.dispatch) (block_most parts.first vars costs)) (sym c.as_slice-then-sliced.ensures)
    (room_from parts.first parts.vars costs costs.dispatch (entered costs.dispatch) fit.first (dispatch_few costs c.requires.costs) refl)

pub plan_of-requires-clause-rest : goal.plan_of-requires-clause-rest
plan_of-requires-clause-rest c =
    let parts = plain_parts c.args.parts.now in
    let costs = c.args.costs.now in
    let fit = parts_fit (plain_task c.args.task.now) parts costs c.requires.sound c.requires.own c.requires.costs in
    total_few parts.rest parts.vars costs c.entered.result c.after_body-rest.result fit.rest c.entered.ensures
    (subst (λ vars. c.after_body-rest.result ≡ block_cost parts.rest vars costs c.entered.result) c.as_slice.ensures c.after_body-rest.ensures)

pub plan_of-requires-else-sliced-clause-room : goal.plan_of-requires-else-sliced-clause-room
plan_of-requires-else-sliced-clause-room c =
    let task = plain_task c.args.task.now in
    let costs = c.args.costs.now in
    let fit = whole_fits task costs c.requires.sound c.requires.costs in
    subst (λ vars. HasRoom (entered costs.dispatch) (block_most task.body vars costs)) (sym c.as_slice-else-sliced.ensures)
    (room_from task.body task.vars costs costs.dispatch (entered costs.dispatch) fit (dispatch_few costs c.requires.costs) refl)

abbrev sliced_found : (c : goal.After-plan_of) → Answers (form_of (plain_task c.args.task.now) c.args.sliced (plain_parts c.args.parts.now)) c.args.costs.now c.plan_of.result
sliced_found c =
    let task = plain_task c.args.task.now in
    let parts = plain_parts c.args.parts.now in
    let costs = c.args.costs.now in
    let rest = c.after_body-rest.result.total in
    let r = c.plan_of.result in
    let same = c.as_slice-then-sliced.ensures in
    let is : c.after_body-rest.result ≡ block_cost parts.rest parts.vars costs (entered 0) =
    subst (λ vars. c.after_body-rest.result ≡ block_cost parts.rest vars costs c.entered.result) c.as_slice.ensures c.after_body-rest.ensures
    ∙ ap (block_cost parts.rest parts.vars costs) c.entered.ensures
    in
    subst (λ b. Answers (form_of task b parts) costs r) (sym c.if-sliced.true)
    (sliced_answers task parts costs c.requires.sound c.requires.own c.requires.costs rest (ap (λ d. d.total) is) r
    (subst (λ vars. IfOk r (λ p. p ≡ plan_by task.period task.deadline parts.first rest vars costs)) same c.plan_of.ensures.plan)
    c.plan_of.ensures.within
    (subst (λ vars. IfErr r (IsAbove (plan_by task.period task.deadline parts.first rest vars costs).total)) same c.plan_of.ensures.above))

pub returns-then-sliced-clause-plan : goal.returns-then-sliced-clause-plan
returns-then-sliced-clause-plan c = (sliced_found c).plan

pub returns-then-sliced-clause-sound : goal.returns-then-sliced-clause-sound
returns-then-sliced-clause-sound c = (sliced_found c).sound

pub returns-then-sliced-clause-refused : goal.returns-then-sliced-clause-refused
returns-then-sliced-clause-refused c = (sliced_found c).refused

abbrev whole_found : (c : goal.After-plan_of-else-sliced) → Answers (form_of (plain_task c.args.task.now) c.args.sliced (plain_parts c.args.parts.now)) c.args.costs.now c.plan_of-else-sliced.result
whole_found c =
    let task = plain_task c.args.task.now in
    let parts = plain_parts c.args.parts.now in
    let costs = c.args.costs.now in
    let r = c.plan_of-else-sliced.result in
    let same = c.as_slice-else-sliced.ensures in
    subst (λ b. Answers (form_of task b parts) costs r) (sym c.if-sliced.false)
    (whole_answers task parts costs c.requires.sound c.requires.own c.requires.costs r
    (subst (λ vars. IfOk r (λ p. p ≡ plan_by task.period task.deadline task.body 0 vars costs)) same c.plan_of-else-sliced.ensures.plan)
    c.plan_of-else-sliced.ensures.within
    (subst (λ vars. IfErr r (IsAbove (plan_by task.period task.deadline task.body 0 vars costs).total)) same c.plan_of-else-sliced.ensures.above))

pub returns-else-sliced-clause-plan : goal.returns-else-sliced-clause-plan
returns-else-sliced-clause-plan c = (whole_found c).plan

pub returns-else-sliced-clause-sound : goal.returns-else-sliced-clause-sound
returns-else-sliced-clause-sound c = (whole_found c).sound

pub returns-else-sliced-clause-refused : goal.returns-else-sliced-clause-refused
returns-else-sliced-clause-refused c = (whole_found c).refused
