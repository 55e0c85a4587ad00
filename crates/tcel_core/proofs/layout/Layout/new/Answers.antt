use Rattle.std.proofs.Common.{◌≡◌, ◌+◌, ◌≤◌, ℕ, suc, get_or, set, ◌∙◌, subst, arith}
use Rattle.std.proofs.lemmas.List.{length-set}
use Rattle.tcel_core.specs.Cells.{place}
use Rattle.tcel_core.proofs.Places.{place_within, place_next, placed_next}
use Rattle.tcel_core.proofs.layout.Layout.new.Goals as goal

pub overflow_add-words : goal.overflow_add-words
overflow_add-words c =
    let step = place_next c.args.vars.now c.loop-v.v c.index-vars-v.result (omega arith) in
    let within = place_within c.args.vars.now (suc c.loop-v.v) in
    omega (arith, c.loop-v.invariant.1, step, within, c.words_of-words.ensures, c.requires.words)

pub loop-v-preserved : goal.loop-v-preserved
loop-v-preserved c =
    let step = place_next c.args.vars.now c.loop-v.v c.index-vars-v.result (omega arith) in
    let next : suc c.loop-v.v ≡ c.loop-v.v + 1 = omega arith in
    let words : c.loop-v.words + c.words_of-words.result ≡ place c.args.vars.now (suc c.loop-v.v) = omega (arith, c.loop-v.invariant.1, step, c.words_of-words.ensures) in (
      length-set c.loop-v.places (c.loop-v.v + 1) _ ∙ c.loop-v.invariant.0,
      subst (λ v. c.loop-v.words + c.words_of-words.result ≡ place c.args.vars.now v) next words,
      subst (λ v. (u : ℕ) → u ≤ v → get_or (set c.loop-v.places v (c.loop-v.words + c.words_of-words.result)) u 0 ≡ place c.args.vars.now u) next
          (placed_next c.args.vars.now c.loop-v.places c.loop-v.v _ (omega (arith, c.loop-v.invariant.0)) words c.loop-v.invariant.2),
    )
