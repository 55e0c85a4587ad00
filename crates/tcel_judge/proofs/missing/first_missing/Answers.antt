use Rattle.std.proofs.Common.{◌≤◌, MatchOption, get_or, refl, sym, subst}
use Rattle.tcel_num.specs.Schedule.{released}
use Rattle.tcel_judge.specs.Gaps.{Lacks, LacksNone}
use Rattle.tcel_judge.proofs.Lacking.{lacks_at, looked_at, none_more, period_at, released_most, rest_behind, stands_at}
use Rattle.tcel_judge.proofs.missing.first_missing.Goals as goal

pub gap_of-requires-clause-stands : goal.gap_of-requires-clause-stands
gap_of-requires-clause-stands c =
    let at = looked_at c.args.plans.now c.args.ticks c.loop-task.courses c.args.courses.now c.loop-task.task c.index-courses-task.result c.index-plans-task.result c.served-count.result
    c.schedule_after-schedule.result c.requires.periods c.loop-task.invariant.rest c.loop-task-test.true c.index-plans-task.is c.served-count.ensures c.schedule_after-schedule.ensures in
    stands_at c.args.courses.now c.loop-task.task _ c.requires.stand at.there

pub gap_of-requires-clause-period : goal.gap_of-requires-clause-period
gap_of-requires-clause-period c =
    let at = looked_at c.args.plans.now c.args.ticks c.loop-task.courses c.args.courses.now c.loop-task.task c.index-courses-task.result c.index-plans-task.result c.served-count.result
    c.schedule_after-schedule.result c.requires.periods c.loop-task.invariant.rest c.loop-task-test.true c.index-plans-task.is c.served-count.ensures c.schedule_after-schedule.ensures in
    period_at c.args.courses.now c.args.plans.now c.loop-task.task _ c.index-plans-task.result c.requires.periods at.there at.of_task

pub gap_of-requires-clause-count : goal.gap_of-requires-clause-count
gap_of-requires-clause-count c =
    let at = looked_at c.args.plans.now c.args.ticks c.loop-task.courses c.args.courses.now c.loop-task.task c.index-courses-task.result c.index-plans-task.result c.served-count.result
    c.schedule_after-schedule.result c.requires.periods c.loop-task.invariant.rest c.loop-task-test.true c.index-plans-task.is c.served-count.ensures c.schedule_after-schedule.ensures in
    subst (λ n. n ≤ released c.index-plans-task.result c.args.ticks) (sym at.counted)
    (released_most c.args.plans.now c.args.ticks c.loop-task.task c.index-plans-task.result c.requires.sound at.of_task)

pub returns-in-Some : goal.returns-in-Some
returns-in-Some c =
    let x = get_or c.loop-task.courses c.loop-task.task c.index-courses-task.result in
    let plan = c.index-plans-task.result in
    let count = c.served-count.result in
    let at = looked_at c.args.plans.now c.args.ticks c.loop-task.courses c.args.courses.now c.loop-task.task c.index-courses-task.result plan count
    c.schedule_after-schedule.result c.requires.periods c.loop-task.invariant.rest c.loop-task-test.true c.index-plans-task.is c.served-count.ensures c.schedule_after-schedule.ensures in
    let lacks = subst (λ o. MatchOption o (LacksNone c.args.ticks plan.total count x) (Lacks c.args.ticks plan.total count x)) c.in-Some.is c.in_ok-found.ensures in
    record {
      task = c.loop-task.task;
      course = x;
      gap = c.in-Some.gap;
      there = at.there;
      before = c.loop-task.invariant.whole;
      lacks = lacks_at c.args.plans.now c.args.ticks c.loop-task.task count x plan c.in-Some.gap at.of_task at.counted lacks;
      named = refl;
    }

pub loop-task-preserved : goal.loop-task-preserved
loop-task-preserved c =
    let x = get_or c.loop-task.courses c.loop-task.task c.index-courses-task.result in
    let plan = c.index-plans-task.result in
    let count = c.served-count.result in
    let at = looked_at c.args.plans.now c.args.ticks c.loop-task.courses c.args.courses.now c.loop-task.task c.index-courses-task.result plan count
    c.schedule_after-schedule.result c.requires.periods c.loop-task.invariant.rest c.loop-task-test.true c.index-plans-task.is c.served-count.ensures c.schedule_after-schedule.ensures in
    let none = subst (λ o. MatchOption o (LacksNone c.args.ticks plan.total count x) (Lacks c.args.ticks plan.total count x)) c.in_default.is c.in_ok-found.ensures in
    record {
      rest = rest_behind c.loop-task.courses c.args.courses.now c.loop-task.task c.gap_of.new.course c.loop-task.invariant.rest;
      whole = none_more c.args.plans.now c.args.ticks c.args.courses.now c.loop-task.task count x plan c.loop-task.invariant.whole at.there at.of_task at.counted none;
    }
