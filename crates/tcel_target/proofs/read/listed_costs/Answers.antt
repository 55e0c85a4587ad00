use Rattle.std.proofs.Common.{◌≤◌, rules, subst, arith}
use Rattle.std.proofs.lemmas.List.{take_all}
use Rattle.toml.specs.View.{table_view}
use Rattle.tcel_target.specs.Costs.{all_keys, cost_of}
use Rattle.tcel_target.specs.Target.{GivesCost}
use Rattle.tcel_target.proofs.Keys.{every_key}
use Rattle.tcel_target.proofs.Values.{AreGivenAt, first_fault, one_more}
use Rattle.tcel_target.proofs.read.listed_costs.Goals as goal

pub returns-in_err-cost_at-clause-refusal : goal.returns-in_err-cost_at-clause-refusal
returns-in_err-cost_at-clause-refusal c =
    let first = first_fault (table_view c.args.table.now) c.loop-key.key-index _ c.loop-key-test.true c.loop-key.costs c.loop-key.invariant c.in_err-cost_at.field-0.0 c.in_err-cost_at.ensures.refusal in
    search (rules, first)

pub loop-key-preserved : goal.loop-key-preserved
loop-key-preserved c =
    one_more (table_view c.args.table.now) c.loop-key.key-index _ c.loop-key-test.true c.loop-key.costs c.set.new.self c.in_ok-cost_at.field-0 c.loop-key.invariant c.in_ok-cost_at.ensures.given c.set.ensures

pub returns-clause-given : goal.returns-clause-given
returns-clause-given c =
    let past : 16 ≤ c.loop-key.key-index = omega arith in
    every_key (λ key. GivesCost (table_view c.args.table.now) key (cost_of c.loop-key.costs key))
    (subst (AreGivenAt (table_view c.args.table.now) c.loop-key.costs) (take_all c.loop-key.key-index all_keys past) c.loop-key.invariant)
