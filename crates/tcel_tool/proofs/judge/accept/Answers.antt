use Rattle.std.proofs.Common.{◌∙◌, List, ap, subst, sym}
use Rattle.tcel_demand.specs.Sound.{AreSound}
use Rattle.tcel_judge.specs.FirstBreach.{Says, judged_of}
use Rattle.tcel_judge.specs.declared.verdict.Verdict.{Verdict}
use Rattle.tcel_num.specs.Hyperperiod.{periods_of}
use Rattle.tcel_num.specs.Plan.{Plan}
use Rattle.tcel_tool.specs.Chosen.{plain_choice}
use Rattle.tcel_tool.specs.JudgeCommand.{SaysOf}
use Rattle.tcel_tool.proofs.JudgeStages.{chosen_periods, names_breach}
use Rattle.tcel_tool.proofs.judge.accept.Goals as goal

pub judge-requires-clause-sound : goal.judge-requires-clause-sound
judge-requires-clause-sound c = c.requires.best.sound

pub judge-requires-clause-plans : goal.judge-requires-clause-plans
judge-requires-clause-plans c = subst AreSound (sym c.as_slice-plans.ensures) c.requires.best.fit.within.sound

pub judge-requires-clause-periods : goal.judge-requires-clause-periods
judge-requires-clause-periods c =
    let choice = plain_choice c.args.chosen.now in
    chosen_periods choice.set choice.costs choice.sliced choice.plans choice.parts c.requires.best.chosen ∙ ap periods_of (sym c.as_slice-plans.ensures)

pub returns-in-No-clause-named : goal.returns-in-No-clause-named
returns-in-No-clause-named c =
    let choice = plain_choice c.args.chosen.now in
    let streams = c.args.script.now in
    let ticks = c.args.ticks in
    let lines = c.args.lines.now in
    let found = c.in_ok-judge.field-0 in
    let says = subst (λ (plans : List Plan). Says (judged_of choice.set streams) plans ticks lines found) c.as_slice-plans.ensures c.in_ok-judge.ensures in
    let no = subst (λ (verdict : Verdict). SaysOf choice streams ticks lines verdict) c.in-No.is says in
    names_breach choice streams ticks lines c.in-No.breach c.told_name.result no c.told_name.ensures
