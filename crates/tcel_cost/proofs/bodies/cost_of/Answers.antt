use Rattle.std.proofs.Common.{◌∙◌, sym, ap, subst, arith}
use Rattle.tcel_core.specs.Plain.{plain_body}
use Rattle.tcel_cost.specs.CostSteps.{block_cost, entered}
use Rattle.tcel_cost.specs.Rooms.{HasRoom, block_most}
use Rattle.tcel_cost.specs.Walks.{Walks}
use Rattle.tcel_cost.proofs.CostRooms.{entered_upto, room_for}
use Rattle.tcel_cost.proofs.CostSets.{IsCostOf}
use Rattle.tcel_cost.proofs.CostWalks.{block_step, cost_from}
use Rattle.tcel_cost.proofs.PartCosts.{task_body_fits}
use Rattle.tcel_cost.proofs.bodies.cost_of.Goals as goal

pub after_body-requires : goal.after_body-requires
after_body-requires c =
    let b = plain_body c.args.body.now in
    let most = block_most b c.args.vars.now c.args.costs.now in
    let fits = task_body_fits b c.args.vars.now c.args.costs.now c.requires.body c.requires.costs in
    let few = fits.most in
    let entry = c.requires.entry in
    subst (λ d. HasRoom d most) (sym c.entered.ensures) (room_for (entered c.args.entry) c.args.entry most (entered_upto c.args.entry) (omega (arith, few, entry)))

pub returns : goal.returns
returns c =
    let b = plain_body c.args.body.now in
    let vars = c.args.vars.now in
    let costs = c.args.costs.now in
    let fits = task_body_fits b vars costs c.requires.body c.requires.costs in
    let of = cost_from (Walks b vars costs) (block_cost b vars costs) (block_step b vars costs fits.loops fits.turns) c.args.entry in
    let is = c.after_body.ensures ∙ ap (block_cost b vars costs) c.entered.ensures in
    let got = subst (IsCostOf (Walks b vars costs) c.args.entry) (sym is) of in
    record { total = got.total; first = got.first; last = got.last; quiet = got.quiet }
