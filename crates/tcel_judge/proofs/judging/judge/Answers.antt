use Rattle.std.proofs.Common.{◌≡◌, List, map, ap, ◌∙◌, subst}
use Rattle.std.specs.Prelude.{IfOk}
use Rattle.tcel_core.specs.declared.set.CoreTask.{CoreTask}
use Rattle.tcel_core.specs.Plain.{plain_set, plain_task}
use Rattle.tcel_judge.specs.Courses.{judged}
use Rattle.tcel_judge.specs.FirstBreach.{Judged, Says, judged_of}
use Rattle.tcel_judge.proofs.MissingVerdicts.{judged_period}
use Rattle.tcel_judge.proofs.Sets.{judged_periods, names_apart}
use Rattle.tcel_judge.proofs.judging.judge.Goals as goal
use Rattle.tcel_judge.proofs.judging.judge.Goals.{After-deref_mut}

-- the courses are those of the set
same : (c : After-deref_mut) → map judged c.deref_mut.result.now ≡ judged_of (plain_set c.args.set.now) c.args.script.now
same c =
    ap (map judged) c.deref_mut.ensures.value ∙ c.in_ok-courses.ensures.judged
    ∙ ap (λ (ts : List CoreTask). judged_of (map plain_task ts) c.args.script.now) c.as_slice.ensures

pub verdict_of-requires-clause-names : goal.verdict_of-requires-clause-names
verdict_of-requires-clause-names c =
    names_apart (plain_set c.args.set.now) c.args.script.now c.deref_mut.result.now (same (goal.at.verdict_of-requires-clause-names c).After-deref_mut) c.requires.sound.names

pub verdict_of-requires-clause-periods : goal.verdict_of-requires-clause-periods
verdict_of-requires-clause-periods c =
    ap (map judged_period) (same (goal.at.verdict_of-requires-clause-periods c).After-deref_mut)
    ∙ judged_periods (plain_set c.args.set.now) c.args.script.now ∙ c.requires.periods

pub returns : goal.returns
returns c =
    subst (λ (js : List Judged). IfOk c.verdict_of.result (Says js c.args.plans.now c.args.ticks c.args.trace.now)) (same (goal.at.returns c).After-deref_mut) c.verdict_of.ensures
