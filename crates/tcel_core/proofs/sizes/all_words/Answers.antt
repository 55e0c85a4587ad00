use Rattle.std.proofs.Common.{ap, arith}
use Rattle.tcel_core.specs.declared.var.Var.{Var}
use Rattle.tcel_core.specs.Cells.{words_of}
use Rattle.tcel_core.proofs.Places.{words_next}
use Rattle.tcel_core.proofs.sizes.all_words.Goals as goal

pub overflow_add-words : goal.overflow_add-words
overflow_add-words c =
    let same = ap (λ (v : Var). words_of v.kind) c.var-item.is in
    omega (arith, words_next c.args.vars.now c.loop-var.var-index c.var-item.result (omega arith), same, c.loop-var.invariant, c.words_of-words.ensures, c.requires)
