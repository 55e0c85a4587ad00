use Rattle.std.proofs.Common.{length, map, subst}
use Rattle.std.specs.Prelude.{MatchOption}
use Rattle.tcel_judge.specs.Courses.{judged}
use Rattle.tcel_judge.specs.Gaps.{IsFirstMissing, NoneLacks}
use Rattle.tcel_judge.proofs.MissingVerdicts.{periods_alike, says_missing, says_yes}
use Rattle.tcel_judge.proofs.Sets.{lines_right, says_breach}
use Rattle.tcel_judge.proofs.judging.verdict_of.Goals as goal

pub returns-in-Some : goal.returns-in-Some
returns-in-Some c =
    says_breach (map judged c.args.courses.now) c.args.plans.now c.args.ticks c.args.trace.now c.in_ok-breach.field-0 c.in-Some.breach c.in_ok-breach.ensures.breach c.in-Some.is

pub first_missing-requires-clause-periods : goal.first_missing-requires-clause-periods
first_missing-requires-clause-periods c =
    let taken = c.in_ok-breach.ensures.taken c.in_default.is in
    periods_alike c.first_breach.new.courses (map judged c.args.courses.now) c.args.plans.now taken.judged c.requires.periods

pub returns-in-None : goal.returns-in-None
returns-in-None c =
    let set = map judged c.args.courses.now in
    let plans = c.args.plans.now in
    let ticks = c.args.ticks in
    let lines = c.args.trace.now in
    let courses = c.first_breach.new.courses in
    let taken = c.in_ok-breach.ensures.taken c.in_default.is in
    let right = lines_right set plans ticks lines c.in_ok-breach.field-0 c.in_ok-breach.ensures.breach c.in_default.is in
    let none = subst (λ found. MatchOption found (NoneLacks plans ticks courses (length courses)) (IsFirstMissing plans ticks courses)) c.in-None.is c.in_ok-first_missing.ensures in
    says_yes set plans ticks lines courses taken right none

pub returns-in-Some-2 : goal.returns-in-Some-2
returns-in-Some-2 c =
    let set = map judged c.args.courses.now in
    let plans = c.args.plans.now in
    let ticks = c.args.ticks in
    let lines = c.args.trace.now in
    let courses = c.first_breach.new.courses in
    let taken = c.in_ok-breach.ensures.taken c.in_default.is in
    let right = lines_right set plans ticks lines c.in_ok-breach.field-0 c.in_ok-breach.ensures.breach c.in_default.is in
    let first = subst (λ found. MatchOption found (NoneLacks plans ticks courses (length courses)) (IsFirstMissing plans ticks courses)) c.in-Some-2.is c.in_ok-first_missing.ensures in
    says_missing set plans ticks lines courses taken right c.in-Some-2.breach first
