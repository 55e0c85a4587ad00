use Rattle.std.proofs.Common.{length, set, ap, ◌∙◌, arith}
use Rattle.tcel_core.proofs.InputsLemmas.{length-left_of, left_set, left_same, if_any_err}
use Rattle.tcel_core.proofs.inputs.Inputs.set.Goals as goal

pub index_mut-requires : goal.index_mut-requires
index_mut-requires c = omega (arith, c.requires, ap length c.self.view_is, length-left_of c.self.inside.lists.items c.self.inside.taken.items)

pub index_mut-requires-2 : goal.index_mut-requires-2
index_mut-requires-2 c = omega (arith, c.requires, ap length c.self.view_is, length-left_of c.self.inside.lists.items c.self.inside.taken.items)

pub returns-in_err-refill-clause-refused : goal.returns-in_err-refill-clause-refused
returns-in_err-refill-clause-refused c =
    if_any_err c.from_residual.result (left_same c.self.inside.lists.items c.self.inside.taken.items c.args.port c.refill.new.list c.index_mut.result.now
    c.index_mut.ensures.value c.in_err-refill.ensures.refused ∙ c.self.view_is)

pub returns-clause-ok : goal.returns-clause-ok
returns-clause-ok c =
    left_set c.self.inside.lists.items c.self.inside.taken.items c.args.port c.refill.new.list 0 (omega arith)
    ∙ ap (λ inputs. set inputs c.args.port c.refill.new.list.items) c.self.view_is
    ∙ ap (set c.args.self.now c.args.port) c.in_ok-refill.ensures.ok
