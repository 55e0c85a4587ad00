use Rattle.std.proofs.Common.{ap, arith}
use Rattle.tcel_core.specs.declared.var.Var.{Var}
use Rattle.tcel_core.specs.Cells.{words_of}
use Rattle.tcel_gen.proofs.PlaceTables.{words_next}
use Rattle.tcel_gen.proofs.places.starts_of.Goals as goal

pub overflow_add-words : goal.overflow_add-words
overflow_add-words c =
    let few = c.requires in
    let next = words_next c.args.vars.now c.loop-var.var-index c.var-item.result (omega arith) in
    omega (arith, next, few, ap (λ (v : Var). words_of v.kind) c.var-item.is, c.loop-var.invariant.0, c.words_of-words.ensures)
