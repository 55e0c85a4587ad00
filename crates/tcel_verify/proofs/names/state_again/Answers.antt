use Rattle.std.proofs.Common.{◌∙◌, sym}
use Rattle.std.proofs.lemmas.Bool.{or_left}
use Rattle.tcel_verify.proofs.NameLists.{one_more_state, skip}
use Rattle.tcel_verify.proofs.names.state_again.Goals as goal

pub returns-then-is_state : goal.returns-then-is_state
returns-then-is_state c =
    let one = one_more_state c.args.states.now c.loop-place.place c.index-states-place.result c.index-states-place.is c.loop-place-test.true in
    sym (c.loop-place.invariant ∙ one ∙ or_left _ _ (sym c.is_state.ensures ∙ c.if-is_state.true))

pub loop-place-preserved : goal.loop-place-preserved
loop-place-preserved c =
    let one = one_more_state c.args.states.now c.loop-place.place c.index-states-place.result c.index-states-place.is c.loop-place-test.true in
    c.loop-place.invariant ∙ one ∙ skip _ _ (sym c.is_state.ensures ∙ c.if-is_state.false)
