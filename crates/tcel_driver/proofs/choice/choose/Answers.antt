use Rattle.std.proofs.Common.{◌≡◌, ◌-◌, ◌∷◌, ◌++◌, [], length, set, sym, ap, ◌∙◌, subst, arith}
use Rattle.tcel_demand.specs.Sound.{AreWithin}
use Rattle.tcel_driver.specs.Steps.{HaveTime, IsFault}
use Rattle.tcel_driver.proofs.Choosing.{least_found, none_left, none_next}
use Rattle.tcel_driver.proofs.Joint.{Stands, left_few, one_more, periods_long, plans_long, stands_within}
use Rattle.tcel_driver.proofs.choice.choose.Goals as goal

pub fault_of-requires-clause-within : goal.fault_of-requires-clause-within
fault_of-requires-clause-within c =
    subst (λ l. AreWithin l c.args.forms.hyper) (sym c.as_slice.ensures)
    (stands_within c.args.forms.whole c.args.forms.sliced c.loop-fault.left c.loop-fault.plans c.args.forms.hyper c.requires c.loop-fault.invariant.stands)

pub returns-in_default-pop-clause-fault : goal.returns-in_default-pop-clause-fault
returns-in_default-pop-clause-fault c =
    let forms = c.args.forms in
    let fault = subst (λ l. IsFault l forms.hyper c.in-Some.fault) c.as_slice.ensures c.in-Some.ensures in
    none_left forms.whole forms.sliced c.loop-fault.left c.loop-fault.plans forms.hyper (periods_long forms.sliced forms.whole c.requires.same) c.loop-fault.invariant.stands c.loop-fault.invariant.none
    c.in-Some.fault fault c.in_default-pop.ensures.0

pub loop-fault-preserved : goal.loop-fault-preserved
loop-fault-preserved c =
    let forms = c.args.forms in
    let long = periods_long forms.sliced forms.whole c.requires.same in
    let stands = c.loop-fault.invariant.stands in
    let left = c.loop-fault.left in
    let plans = c.loop-fault.plans in
    let rest = c.pop.new.self in
    let plan = c.in-Some-pop.plan in
    let popped : left ≡ rest ++ plan ∷ [] = c.in-Some-pop.ensures in
    let exchanged : c.set.new.self ≡ set plans (length rest) plan = c.set.ensures ∙ ap (λ n. set plans n plan) c.len.ensures in
    let fault = subst (λ l. IsFault l forms.hyper c.in-Some.fault) c.as_slice.ensures c.in-Some.ensures in
    record {
      stands = subst (Stands forms.whole forms.sliced rest) (sym exchanged) (one_more forms.whole forms.sliced left plans rest plan long stands popped);
      none = none_next forms.whole forms.sliced left plans forms.hyper long stands c.loop-fault.invariant.none c.in-Some.fault rest plan fault popped;
    }

pub returns-clause-least : goal.returns-clause-least
returns-clause-least c =
    let forms = c.args.forms in
    let left = c.loop-fault.left in
    let plans = c.loop-fault.plans in
    let stands = c.loop-fault.invariant.stands in
    let long = periods_long forms.sliced forms.whole c.requires.same in
    let few = left_few forms.whole forms.sliced left plans long stands in
    let all = plans_long forms.whole forms.sliced left plans c.requires.same stands in
    let first = c.len-2.ensures in
    let second = c.len-3.ensures in
    let time = subst (λ l. HaveTime l forms.hyper) c.as_slice.ensures c.in_default.ensures in
    least_found forms.whole forms.sliced left plans forms.hyper long stands c.loop-fault.invariant.none (c.len-2.result - c.len-3.result) (omega arith) time

pub returns-clause-fit : goal.returns-clause-fit
returns-clause-fit c =
    let forms = c.args.forms in
    let time = subst (λ l. HaveTime l forms.hyper) c.as_slice.ensures c.in_default.ensures in
    record {
      within = stands_within forms.whole forms.sliced c.loop-fault.left c.loop-fault.plans forms.hyper c.requires c.loop-fault.invariant.stands;
      most = c.requires.most;
      room = time.room;
    }
