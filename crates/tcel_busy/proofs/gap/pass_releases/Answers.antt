use Rattle.std.proofs.Common.{◌≡◌, ◌∙◌, ℕ, length, arith, subst}
use Rattle.tcel_demand.specs.PlanViews.{plan_of}
use Rattle.tcel_demand.proofs.PlainReads.{plain_read}
use Rattle.tcel_busy.proofs.Gaps.{IsPassing, each_sound, passing_release, passing_no_release, passing_all}
use Rattle.tcel_busy.proofs.gap.pass_releases.Goals as goal
use Rattle.tcel_busy.proofs.gap.pass_releases.Goals.{then-next-task, else-next-task}

pub loop-task-preserved : goal.loop-task-preserved
loop-task-preserved c =
    let plans = c.args.plans.now in
    let many : ℕ = c.loop-task.task in
    let e = plain_read plans many (plan_of c.plan.inside) c.index-plans-task.result c.plan.view_is c.index-plans-task.is (omega arith) in
    let some = (each_sound plans many (plan_of c.plan.inside) c.requires.sound e).period_some in
    let h = c.loop-task.invariant.passing in
    let size = c.loop-task.invariant.size in
    let room = c.requires.room in
    record {
      size = c.if-next-task.auto.next ∙ size;
      fits = c.min-until.type_inv;
      passing = elim c.if-next-task.branch [
        | then-next-task w ↦
            rw (c.min-until.ensures, w.next-is, w.cycles-is)
            (passing_release plans c.args.time many c.loop-task.next c.loop-task.cycles c.loop-task.until (plan_of c.plan.inside) e some h (omega arith) w.if-next-task.true)
        | else-next-task w ↦
            rw (c.min-until.ensures, w.next-is, w.cycles-is)
            (passing_no_release plans c.args.time many c.loop-task.next c.loop-task.cycles c.loop-task.until (plan_of c.plan.inside) e some h w.if-next-task.false)
      ];
    }

pub returns-clause-next : goal.returns-clause-next
returns-clause-next c =
    let h = c.loop-task.invariant in
    let all : c.loop-task.task ≡ length c.args.plans.now = omega arith in
    (passing_all c.args.plans.now c.args.time c.loop-task.next c.loop-task.cycles c.loop-task.until h.fits
    (subst (λ n. IsPassing c.args.plans.now c.args.time n c.loop-task.next c.loop-task.cycles c.loop-task.until) all h.passing)).0

pub returns-clause-gap : goal.returns-clause-gap
returns-clause-gap c =
    let h = c.loop-task.invariant in
    let all : c.loop-task.task ≡ length c.args.plans.now = omega arith in
    (passing_all c.args.plans.now c.args.time c.loop-task.next c.loop-task.cycles c.loop-task.until h.fits
    (subst (λ n. IsPassing c.args.plans.now c.args.time n c.loop-task.next c.loop-task.cycles c.loop-task.until) all h.passing)).1
