use Rattle.std.proofs.Common.{◌≤◌, List, length, All, subst, refl, arith}
use Rattle.std.proofs.lemmas.List.{take_all}
use Rattle.std.proofs.lemmas.List.Elements.{All-more}
use Rattle.tcel_target.specs.declared.costs.CostKey.{CostKey}
use Rattle.tcel_target.specs.Costs.{cost_of, IsCost}
use Rattle.tcel_image.proofs.range.each_is_cost.Goals as goal

pub loop-key-preserved : goal.loop-key-preserved
loop-key-preserved c =
    All-more (λ key. IsCost key (cost_of c.args.costs.now key)) c.args.keys.now c.loop-key.key-index _ c.loop-key-test.true c.loop-key.invariant
    (subst (IsCost _) c.of-cycles.ensures (subst (λ n. n ≤ c.of-cycles.result) c.least.ensures c.if-cycles-least.false, c.if-cycles-gt1000.false))

pub returns : goal.returns
returns c =
    let past : length c.args.keys.now ≤ c.loop-key.key-index = omega arith in
    let all : All (λ key. IsCost key (cost_of c.args.costs.now key)) c.args.keys.now =
    subst (λ (keys : List CostKey). All (λ key. IsCost key (cost_of c.args.costs.now key)) keys) (take_all c.loop-key.key-index c.args.keys.now past) c.loop-key.invariant in
    (λ t. all, λ h. refl)
