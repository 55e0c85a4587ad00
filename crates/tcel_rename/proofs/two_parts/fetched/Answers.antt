use Rattle.std.proofs.Common.{ℕ, ◌<◌, List, length, ap, ◌∙◌, arith}
use Rattle.std.specs.Prelude.{slice_index_or}
use Rattle.tcel_rename.specs.Renaming.{number_in}
use Rattle.tcel_rename.specs.Sets.{by_list}
use Rattle.tcel_rename.proofs.Assembled.{fetch_more, fetches_all}
use Rattle.tcel_rename.proofs.Growing.{any_default}
use Rattle.tcel_rename.proofs.two_parts.fetched.Goals as goal

pub loop-v-preserved : goal.loop-v-preserved
loop-v-preserved c = λ vars whole list plan.
    let s = by_list vars whole list in
    let count = ap (λ (l : List ℕ). length l) c.as_slice-inside.ensures in
    let within = c.loop-v-test.true in
    let few = c.requires in
    let small : c.loop-v.v < 256 = omega arith in
    fetch_more s c.args.sets.now c.args.numbers.now plan c.loop-v.v (slice_index_or c.as_slice-inside.result.now c.loop-v.v 0) c.has.result _ c.loop-v.stmts c.push_copy_where.new.list
    (c.has.ensures ∙ plan.sets.fetched c.loop-v.v small) (any_default c.as_slice-inside.result.now c.loop-v.v 0 c.loop-v.v within ∙ ap (λ l. number_in l c.loop-v.v) c.as_slice-inside.ensures)
    (c.loop-v.invariant vars whole list plan) c.in_ok-push_copy_where.ensures

pub returns : goal.returns
returns c = λ vars whole list plan.
    let count = ap (λ (l : List ℕ). length l) c.as_slice-inside.ensures in
    fetches_all (by_list vars whole list) c.args.sets.now c.args.numbers.now plan c.loop-v.v c.loop-v.stmts (omega arith) (c.loop-v.invariant vars whole list plan)
