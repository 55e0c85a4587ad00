use Rattle.std.proofs.Common.{◌≡◌, List, All, map, sym, subst, arith}
use Rattle.std.proofs.lemmas.Result.{err_from_is_err_and}
use Rattle.tcel_core.specs.declared.set.CoreTask.{CoreTask}
use Rattle.tcel_core.specs.Parts.{plain_parts}
use Rattle.tcel_core.specs.Plain.{plain_task}
use Rattle.tcel_core.specs.Sound.{IsSoundSet, IsSoundTask}
use Rattle.tcel_driver.specs.Forms.{AreCosted, AreForms}
use Rattle.tcel_driver.specs.Refusals.{ForbidsForms, HavePlans}
use Rattle.tcel_driver.proofs.Lists.{all_seen}
use Rattle.tcel_driver.proofs.SamePeriods.{forms_paired}
use Rattle.tcel_driver.proofs.forms.forms_of.Goals as goal

sound_in : (items tasks : List CoreTask) → tasks ≡ items → All IsSoundTask (map plain_task items) → All (λ task. IsSoundTask (plain_task task)) tasks
sound_in items tasks same sound = subst (All (λ task. IsSoundTask (plain_task task))) (sym same) (all_seen IsSoundTask plain_task items sound)

pub split_all-requires : goal.split_all-requires
split_all-requires c = sound_in c.args.set.now.tasks c.as_slice-tasks.result.now c.as_slice-tasks.ensures c.requires.sound.each

pub cost_all-requires-clause-sound : goal.cost_all-requires-clause-sound
cost_all-requires-clause-sound c = sound_in c.args.set.now.tasks c.as_slice-tasks.result.now c.as_slice-tasks.ensures c.requires.sound.each

pub hyperperiod_of-requires : goal.hyperperiod_of-requires
hyperperiod_of-requires c = sound_in c.args.set.now.tasks c.as_slice-tasks.result.now c.as_slice-tasks.ensures c.requires.sound.each

pub frames_within-frames-requires-clause-sound : goal.frames_within-frames-requires-clause-sound
frames_within-frames-requires-clause-sound c = sound_in c.args.set.now.tasks c.as_slice-tasks.result.now c.as_slice-tasks.ensures c.requires.sound.each

pub returns-in_err-parts-clause-refused : goal.returns-in_err-parts-clause-refused
returns-in_err-parts-clause-refused c =
    let p = err_from_is_err_and c.from_residual.result c.from_residual.ensures.1 in
    rw (p.1, p.2) (subst (λ l. ForbidsForms (map plain_task l) c.args.costs.now c.in_err-parts.field-0.0) c.as_slice-tasks.ensures (c.in_err-parts.ensures.refused c.args.costs.now))

pub returns-in_err-hyper-clause-refused : goal.returns-in_err-hyper-clause-refused
returns-in_err-hyper-clause-refused c =
    let tasks = c.as_slice-tasks.result.now in
    let plans : HavePlans (map plain_task tasks) c.args.costs.now =
    record {
      parts = map plain_parts c.in_ok-parts.parts;
      split = c.in_ok-parts.ensures.split;
      whole = c.in_ok-both.both.whole;
      sliced = c.in_ok-both.both.sliced;
      costed = subst (λ l. AreCosted c.args.costs.now (map plain_task tasks) (map plain_parts l) c.in_ok-both.both.whole c.in_ok-both.both.sliced) c.as_slice.ensures c.in_ok-both.ensures.costed;
    } in
    let p = err_from_is_err_and c.from_residual-in_err-hyper.result c.from_residual-in_err-hyper.ensures.1 in
    rw (p.1, p.2) (subst (λ l. ForbidsForms (map plain_task l) c.args.costs.now c.in_err-hyper.field-0.0) c.as_slice-tasks.ensures (c.in_err-hyper.ensures.refused c.args.costs.now plans))

pub returns-clause-paired : goal.returns-clause-paired
returns-clause-paired c =
    let tasks = c.as_slice-tasks.result.now in
    let costs = c.args.costs.now in
    let parts = map plain_parts c.in_ok-parts.parts in
    let both = c.in_ok-both.both in
    let hyper = c.in_ok-hyper.hyper in
    let few = c.if-frames-gt-MOST_FRAMES.false in
    let counted = c.frames_within-frames.ensures in
    let forms : AreForms (map plain_task tasks) costs parts both.whole both.sliced hyper =
    record {
      split = c.in_ok-parts.ensures.split;
      costed = subst (λ l. AreCosted costs (map plain_task tasks) (map plain_parts l) both.whole both.sliced) c.as_slice.ensures c.in_ok-both.ensures.costed;
      period = c.in_ok-hyper.ensures.period;
      most = c.in_ok-hyper.ensures.most;
      frames = omega arith;
    } in
    let set = subst (λ l. IsSoundSet (map plain_task l)) (sym c.as_slice-tasks.ensures) c.requires.sound in
    forms_paired (map plain_task tasks) costs parts both.whole both.sliced hyper set forms c.in_ok-both.ensures.whole c.in_ok-both.ensures.sliced
