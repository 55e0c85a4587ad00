use Rattle.std.proofs.Common.{◌≡◌, Some, None, sym, ap, ◌∙◌, option_map}
use Rattle.toml.specs.Data.{get_member}
use Rattle.toml.specs.View.{table_view, view}
use Rattle.toml.proofs.Views.{table_get}
use Rattle.tcel_target.specs.Target.{value_at}
use Rattle.tcel_target.proofs.Values.{given_in, fault_in, given_without, missing_without}
use Rattle.tcel_target.proofs.read.cost_at.Goals as goal

there : (c : goal.After-cost_in) → value_at (table_view c.args.table.now) c.args.key ≡ Some (view c.in-Some.value.now)
there c =
    ap (λ k. get_member k (table_view c.args.table.now)) (sym c.text.ensures)
    ∙ sym (table_get c.get.result c.text.result.now c.args.table.now.entries c.get.ensures.value)
    ∙ ap (option_map (λ x. view x.now)) c.in-Some.is

nothing : (c : goal.After-cost_without) → value_at (table_view c.args.table.now) c.args.key ≡ None
nothing c =
    ap (λ k. get_member k (table_view c.args.table.now)) (sym c.text.ensures)
    ∙ sym (table_get c.get.result c.text.result.now c.args.table.now.entries c.get.ensures.value)
    ∙ ap (option_map (λ x. view x.now)) c.in-None.is

pub returns-in-Some-clause-given : goal.returns-in-Some-clause-given
returns-in-Some-clause-given c = given_in (table_view c.args.table.now) c.args.key (view c.in-Some.value.now) (there c) c.cost_in.result c.cost_in.ensures.cost

pub returns-in-Some-clause-refusal : goal.returns-in-Some-clause-refusal
returns-in-Some-clause-refusal c = fault_in (table_view c.args.table.now) c.args.key (view c.in-Some.value.now) (there c) c.cost_in.result c.cost_in.ensures.range

pub returns-in-None-clause-given : goal.returns-in-None-clause-given
returns-in-None-clause-given c = given_without (table_view c.args.table.now) c.args.key (nothing c) c.cost_without.result c.cost_without.ensures.given

pub returns-in-None-clause-refusal : goal.returns-in-None-clause-refusal
returns-in-None-clause-refusal c = missing_without (table_view c.args.table.now) c.args.key (nothing c) c.cost_without.result c.cost_without.ensures.missing
