use Rattle.std.proofs.Common.{◌≡◌, ◌^◌, ◌+◌, length, sym, ap, ◌∙◌, subst, arith}
use Rattle.tcel_fewest.specs.Faults.{AreFaults, IsReached}
use Rattle.tcel_fewest.specs.Sets.{size_of}
use Rattle.tcel_fewest.proofs.Searching.{found_here, told_other, told_size, told_with}
use Rattle.tcel_fewest.proofs.search.first_of_size.Goals as goal
use Rattle.tcel_fewest.proofs.search.first_of_size.Goals.{else-size_of-size-via-then-size_of-size+in_ok-fits+else-branch, else-size_of-size-via-else-size_of-size}

pub returns-then-branch : goal.returns-then-branch
returns-then-branch c =
    let forms = c.args.forms.now in
    let set = c.loop-set.set in
    let tasks = c.len-tasks.ensures in
    let sets = c.sets_of-set-end.ensures ∙ ap (λ n. 2 ^ n) tasks in
    let within = c.loop-set-test.true in
    let size : size_of (length forms.whole) set ≡ c.args.size = ap (λ n. size_of n set) (sym tasks) ∙ (sym c.size_of.ensures ∙ c.if-size_of-size.true) in
    found_here forms.whole forms.sliced forms.hyper c.args.size set c.in_ok-fits.field-0 c.loop-set.faults c.fits.new.faults (omega arith) size c.if-branch.true c.in_ok-fits.ensures
    c.loop-set.invariant

pub loop-set-preserved : goal.loop-set-preserved
loop-set-preserved c =
    let forms = c.args.forms.now in
    let set = c.loop-set.set in
    let tasks = c.len-tasks.ensures in
    let sets = c.sets_of-set-end.ensures ∙ ap (λ n. 2 ^ n) tasks in
    let within = c.loop-set-test.true in
    let size : size_of (length forms.whole) set ≡ c.size_of.result = ap (λ n. size_of n set) (sym tasks) ∙ sym c.size_of.ensures in
    elim c.else-size_of-size.branch [
      | else-size_of-size-via-then-size_of-size+in_ok-fits+else-branch w ↦
          subst (AreFaults forms.whole forms.sliced forms.hyper (IsReached (length forms.whole) c.args.size (set + 1))) (sym w.faults-is)
          (told_with forms.whole forms.sliced forms.hyper c.args.size set w.in_ok-fits.field-0 c.loop-set.faults w.fits.new.faults (omega arith) (size ∙ w.if-size_of-size.true) w.if-branch.false
          w.in_ok-fits.ensures c.loop-set.invariant)
      | else-size_of-size-via-else-size_of-size w ↦
          subst (AreFaults forms.whole forms.sliced forms.hyper (IsReached (length forms.whole) c.args.size (set + 1))) (sym w.faults-is)
          (told_other forms.whole forms.sliced forms.hyper c.args.size set c.loop-set.faults (λ same. w.if-size_of-size.false (sym size ∙ same)) c.loop-set.invariant)
    ]

pub returns : goal.returns
returns c =
    let forms = c.args.forms.now in
    let sets = c.sets_of-set-end.ensures ∙ ap (λ n. 2 ^ n) c.len-tasks.ensures in
    let past = c.loop-set-test.false in
    told_size forms.whole forms.sliced forms.hyper c.args.size c.loop-set.set c.loop-set.faults (omega arith) c.loop-set.invariant
