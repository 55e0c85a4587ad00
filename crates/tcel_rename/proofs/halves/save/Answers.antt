use Rattle.std.proofs.Common.{◌≡◌, ℕ, ◌+◌, ◌<◌, List, length, ap, ◌∙◌, arith}
use Rattle.std.specs.Prelude.{slice_index_or}
use Rattle.tcel_core.specs.declared.row.Row.{Row}
use Rattle.tcel_rename.specs.Lives.{stands_at}
use Rattle.tcel_rename.specs.Renaming.{number_in}
use Rattle.tcel_rename.specs.Sets.{by_list}
use Rattle.tcel_rename.proofs.Growing.{adds_none, any_default, save_more}
use Rattle.tcel_rename.proofs.halves.save.Goals as goal

plus_zero : (n : ℕ) → n ≡ n + 0
plus_zero n = omega arith

pub loop-v-init : goal.loop-v-init
loop-v-init c = λ vars whole list plan.
    (adds_none c.args.first.now, adds_none c.args.rest.now, c.number_at-next.ensures ∙ (ap (λ l. slice_index_or l c.args.id 0) c.as_slice-2.ensures ∙ plus_zero (slice_index_or c.args.numbers.now.starts c.args.id 0)))

pub loop-v-preserved : goal.loop-v-preserved
loop-v-preserved c = λ vars whole list plan.
    let s = by_list vars whole list in
    let inv = c.loop-v.invariant vars whole list plan in
    let count = ap (λ (l : List ℕ). length l) c.as_slice-inside.ensures in
    let within = c.loop-v-test.true in
    let few = c.requires in
    let small : c.loop-v.v < 256 = omega arith in
    let live = c.has.ensures ∙ (c.row_at-live.ensures c.loop-v.v small ∙ (ap (λ (r : List Row). stands_at r c.args.id c.loop-v.v) c.as_slice.ensures ∙ plan.sets.lives.live c.args.id c.loop-v.v small)) in
    save_more s c.args.sets.now c.args.numbers.now plan c.args.id c.loop-v.v (slice_index_or c.as_slice-inside.result.now c.loop-v.v 0) c.loop-v.next c.in_ok-next.next c.has.result c.args.first.now c.loop-v.first
    c.save_one.new.first c.args.rest.now c.loop-v.rest c.save_one.new.rest live
    (any_default c.as_slice-inside.result.now c.loop-v.v 0 c.loop-v.v within ∙ ap (λ l. number_in l c.loop-v.v) c.as_slice-inside.ensures) inv.0 inv.1 inv.2 c.in_ok-next.ensures.first c.in_ok-next.ensures.rest
    c.in_ok-next.ensures.next
