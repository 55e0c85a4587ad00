use Rattle.std.proofs.Common.{◌∙◌, sym, ap, true≢false}
use Rattle.tcel_core.proofs.PlainLaws.{plain_body-list}
use Rattle.tcel_cost.specs.Walks.{jump_cost}
use Rattle.tcel_cost.proofs.CostRooms.{jump_some}
use Rattle.tcel_cost.proofs.bodies.jump_cost.Goals as goal

pub returns-else-is_empty : goal.returns-else-is_empty
returns-else-is_empty c =
    jump_some c.args.costs.now c.args.other.now.list (λ e. true≢false (sym (c.is_empty.ensures.1 e) ∙ c.if-is_empty.false))
    ∙ ap (jump_cost c.args.costs.now) (sym (plain_body-list c.args.other.now))
