use Rattle.std.proofs.Common.{◌++◌, ◌+◌, All, List, [], map, sym, ap, ◌∙◌, subst, arith}
use Rattle.std.proofs.lemmas.List.Elements.{All-push}
use Rattle.tcel_judge.specs.declared.course.Course.{Course}
use Rattle.tcel_judge.specs.Courses.{HasTaken, judged}
use Rattle.tcel_judge.proofs.Sets.{course_more, left, none_taken, sound_at}
use Rattle.tcel_judge.proofs.judging.courses_of.Goals as goal

pub new-requires-clause-sound : goal.new-requires-clause-sound
new-requires-clause-sound c = sound_at c.args.tasks.now c.loop-number.number c.index-tasks-number.result c.loop-number-test.true c.index-tasks-number.is c.requires.sound

pub loop-number-preserved : goal.loop-number-preserved
loop-number-preserved c =
    let tasks = c.args.tasks.now in
    let streams = c.args.script.now in
    let i = c.loop-number.number in
    let cs = c.loop-number.courses.items in
    let course = c.in_ok-course.course in
    let items = c.in_ok-push.ensures.items in
    let more = course_more tasks streams cs i c.index-tasks-number.result course c.loop-number-test.true (omega (arith, c.loop-number-test.true, c.requires.streams)) c.index-tasks-number.is
    c.in_ok-course.ensures.judged c.loop-number.invariant.judged in
    let taken = All-push (HasTaken []) cs course c.loop-number.invariant.each (none_taken course c.in_ok-course.ensures.stands c.in_ok-course.ensures.place) in
    record {
      judged = ap (λ (l : List Course). map judged l ++ left tasks streams (i + 1)) items ∙ more;
      each = subst (All (HasTaken [])) (sym items) taken;
    }
