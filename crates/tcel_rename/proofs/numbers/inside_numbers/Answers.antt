use Rattle.std.proofs.Common.{◌∙◌, ◌+◌, ap, arith}
use Rattle.tcel_core.specs.Rows.{stands_in}
use Rattle.tcel_rename.proofs.NumberLists.{count_more, inside_more, most_one}
use Rattle.tcel_rename.proofs.numbers.inside_numbers.Goals as goal

pub loop-v-preserved : goal.loop-v-preserved
loop-v-preserved c =
    let p = stands_in c.args.third.now in
    let inv = c.loop-v.invariant in
    let one = most_one c.has-copied.result c.chosen-copies.result c.chosen-copies.ensures in
    record {
      few = omega arith;
      counted = ap (λ k. c.loop-v.copies + k) c.chosen-copies.ensures ∙ count_more p c.loop-v.v c.loop-v.copies c.has-copied.result c.has-copied.ensures inv.counted;
      numbers = c.in_ok-push.ensures.ok ∙ inside_more p c.args.count c.loop-v.v c.loop-v.copies c.chosen.result c.has-copied.result c.loop-v.numbers c.has-copied.ensures inv.counted c.chosen.ensures inv.numbers;
    }
