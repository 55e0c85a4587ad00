use Rattle.std.proofs.Common.{◌≡◌, ◌+◌, ◌*◌, ◌/◌, ◌<◌, ◌≤◌, true, false, refl, sym, ap, ◌∙◌, subst, arith}
use Rattle.tcel_num.specs.Plan.{Plan}
use Rattle.tcel_judge.specs.Courses.{judged, promised}
use Rattle.tcel_judge.specs.FirstBreach.{is_due}
use Rattle.tcel_judge.proofs.Searches.{comes_to, begins, goes_on, finds, ends, left}
use Rattle.tcel_judge.proofs.missing.gap_of.Goals as goal

pub loop-coming-init : goal.loop-coming-init
loop-coming-init c =
    let start = c.args.course.now in
    let coming = c.entry-coming.result in
    let at = c.entry-coming.ensures in
    begins c.args.ticks c.args.plan.now.total c.args.count start coming
    (comes_to (judged start).does start coming c.requires.stands refl at.there at.number at.frame)

pub returns-then-is_due : goal.returns-then-is_due
returns-then-is_due c =
    let own = (judged c.args.course.now).does in
    let coming = c.loop-coming.coming in
    let total = ap (λ (p : Plan). p.total) c.plan.view_is in
    let due : is_due c.args.ticks c.args.plan.now.total c.args.count (promised own coming) ≡ true =
    ap (λ t. is_due c.args.ticks t c.args.count (promised own coming)) (sym total) ∙ sym (c.is_due.ensures own) ∙ c.if-is_due.true in
    finds c.args.ticks c.args.plan.now.total c.args.count c.args.course.now c.loop-coming.course coming _ c.loop-coming.invariant due refl
    (c.due_of.ensures (own.frames coming.frame).state)

pub loop-coming-preserved : goal.loop-coming-preserved
loop-coming-preserved c =
    let own = (judged c.args.course.now).does in
    let coming = c.loop-coming.coming in
    let total = ap (λ (p : Plan). p.total) c.plan.view_is in
    let off : is_due c.args.ticks c.args.plan.now.total c.args.count (promised own coming) ≡ false =
    ap (λ t. is_due c.args.ticks t c.args.count (promised own coming)) (sym total) ∙ sym (c.is_due.ensures own) ∙ c.if-is_due.false in
    let passed = c.in_ok-pass.ensures in
    let next = c.pass.new.self in
    let other = c.entry-coming-in-loop-coming.result in
    let at = c.entry-coming-in-loop-coming.ensures in
    let same = ap (λ j. j.does) passed.judged ∙ c.loop-coming.invariant.at.same in
    goes_on c.args.ticks c.args.plan.now.total c.args.count c.args.course.now c.loop-coming.course next coming other c.loop-coming.invariant off passed.place
    (comes_to own next other passed.stands same at.there at.number at.frame)

pub loop-coming-smaller : goal.loop-coming-smaller
loop-coming-smaller c =
    let own = (judged c.args.course.now).does in
    let period = ap (λ (p : Plan). p.period) c.plan.view_is in
    let sound = c.requires.sound in
    let positive : 0 < own.period = omega (arith, c.requires.period, sound.period_some) in
    let is : c.args.ticks / own.period ≡ c.args.ticks / c.plan.inside.period = ap (λ n. c.args.ticks / n) (c.requires.period ∙ sym period) in
    let within = subst (λ n. c.args.count ≤ c.args.plan.now.total * (c.args.ticks / n + 1)) (sym period) c.requires.count in
    let more = left c.args.ticks c.args.plan.now.total c.args.count c.args.course.now (c.args.ticks / c.plan.inside.period) is sound.total_some positive within
    c.loop-coming.course c.loop-coming.coming c.loop-coming.invariant c.loop-coming-test.true in
    let further = c.in_ok-pass.ensures.place in
    omega arith

pub returns : goal.returns
returns c =
    let own = (judged c.args.course.now).does in
    let period = ap (λ (p : Plan). p.period) c.plan.view_is in
    let sound = c.requires.sound in
    let positive : 0 < own.period = omega (arith, c.requires.period, sound.period_some) in
    let is : c.args.ticks / own.period ≡ c.args.ticks / c.plan.inside.period = ap (λ n. c.args.ticks / n) (c.requires.period ∙ sym period) in
    let within = subst (λ n. c.args.count ≤ c.args.plan.now.total * (c.args.ticks / n + 1)) (sym period) c.requires.count in
    ends c.args.ticks c.args.plan.now.total c.args.count c.args.course.now (c.args.ticks / c.plan.inside.period) is sound.total_some positive within
    c.loop-coming.course c.loop-coming.coming c.loop-coming.invariant c.loop-coming-test.false
