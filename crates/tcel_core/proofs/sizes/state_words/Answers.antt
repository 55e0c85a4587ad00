use Rattle.std.proofs.Common.{ap, cond, arith}
use Rattle.tcel_core.specs.declared.var.Var.{Var}
use Rattle.tcel_core.specs.Cells.{words_of}
use Rattle.tcel_core.specs.Frames.{is_state}
use Rattle.tcel_core.proofs.Places.{state_words_next}
use Rattle.tcel_core.proofs.StateWords.{states_within}
use Rattle.tcel_core.proofs.sizes.state_words.Goals as goal

pub overflow_add-words : goal.overflow_add-words
overflow_add-words c =
    let same = ap (λ (v : Var). cond (is_state v.keep) (words_of v.kind) 0) c.var-item.is in
    omega (
      arith,
      state_words_next c.args.vars.now c.loop-var.var-index c.var-item.result (omega arith),
      same,
      states_within c.args.vars.now,
      c.loop-var.invariant,
      c.words_of_state-words.ensures,
      c.requires,
    )
