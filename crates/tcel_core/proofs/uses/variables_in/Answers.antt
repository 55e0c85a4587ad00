use Rattle.std.proofs.Common.{◌++◌, ◌∷◌, [], cond, ap, ◌∙◌}
use Rattle.tcel_core.specs.Rows.{stands_in}
use Rattle.tcel_core.proofs.Variables.{number_asked}
use Rattle.tcel_core.proofs.uses.variables_in.Goals as goal

pub loop-var-preserved : goal.loop-var-preserved
loop-var-preserved c =
    c.in_ok-push_where.ensures ∙ ap (λ b. cond b (c.loop-var.list.items ++ (c.loop-var.var ∷ [])) c.loop-var.list.items) c.has.ensures
    ∙ number_asked (stands_in c.args.row.now) c.loop-var.var c.loop-var.list.items c.loop-var.invariant
