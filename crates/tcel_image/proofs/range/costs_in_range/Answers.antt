use Rattle.tcel_target.specs.Costs.{cost_of, IsCost}
use Rattle.tcel_target.proofs.Keys.{every_key, listed_key}
use Rattle.tcel_image.proofs.range.costs_in_range.Goals as goal

pub returns : goal.returns
returns c = (
  λ t. every_key (λ key. IsCost key (cost_of c.args.costs.now key)) (c.each_is_cost.ensures.0 t),
  λ h. c.each_is_cost.ensures.1 (listed_key (λ key. IsCost key (cost_of c.args.costs.now key)) h),
)
