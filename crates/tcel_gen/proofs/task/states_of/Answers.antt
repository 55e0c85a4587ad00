use Rattle.std.proofs.Common.{◌+◌, ◌++◌, List, drop, sym, ap, ◌∙◌}
use Rattle.std.proofs.lemmas.List.{append-nil, drop_all}
use Rattle.tcel_core.specs.declared.var.Var.{Var}
use Rattle.tcel_code.specs.Layout.{states_of}
use Rattle.tcel_image.specs.declared.image.ImageState.{ImageState}
use Rattle.tcel_gen.proofs.StateLists.{states_next}
use Rattle.tcel_gen.proofs.task.states_of.Goals as goal

pub loop-var-preserved : goal.loop-var-preserved
loop-var-preserved c =
    let vars = c.args.vars.now in
    ap (λ (l : List ImageState). l ++ states_of (drop (c.loop-var.var-index + 1) vars)) c.in_ok-push_state.ensures
    ∙ states_next vars c.loop-var.var-index c.var-item.result c.loop-var.states c.loop-var-test.true c.var-item.is ∙ c.loop-var.invariant

pub returns : goal.returns
returns c =
    let none = ap (λ (l : List Var). c.loop-var.states ++ states_of l) (drop_all c.loop-var.var-index c.args.vars.now c.loop-var-test.false) in
    sym (append-nil c.loop-var.states) ∙ sym none ∙ c.loop-var.invariant
