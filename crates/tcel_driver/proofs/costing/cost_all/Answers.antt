use Rattle.std.proofs.Common.{◌≡◌, ◌+◌, ◌<◌, ◌∷◌, ◌++◌, [], All, true, false, length, map, take, sym, ap, subst, arith, inl, inr}
use Rattle.std.proofs.lemmas.List.{take_all}
use Rattle.std.proofs.lemmas.List.Elements.{All-push}
use Rattle.std.proofs.lemmas.Result.{err_from_is_err_and}
use Rattle.tcel_core.specs.Parts.{AreOwnParts, plain_parts}
use Rattle.tcel_core.specs.Plain.{plain_task}
use Rattle.tcel_demand.specs.Sound.{IsSoundPlan}
use Rattle.tcel_cost.specs.Forms.{form_of}
use Rattle.tcel_driver.specs.Forms.{AreCosted}
use Rattle.tcel_driver.proofs.Lists.{seen_long, zip_read}
use Rattle.tcel_driver.proofs.Refusing.{costed_step, dear_forbids, stands_at}
use Rattle.tcel_driver.proofs.costing.cost_all.Goals as goal

pub bounds-parts-number : goal.bounds-parts-number
bounds-parts-number c =
    let long = seen_long AreOwnParts plain_task plain_parts c.args.tasks.now c.args.parts.now c.requires.split in
    let within = c.loop-number-test.true in
    omega arith

pub plan_of-requires-clause-own : goal.plan_of-requires-clause-own
plan_of-requires-clause-own c =
    let long = seen_long AreOwnParts plain_task plain_parts c.args.tasks.now c.args.parts.now c.requires.split in
    let within = c.loop-number-test.true in
    zip_read AreOwnParts plain_task plain_parts c.args.tasks.now c.args.parts.now c.loop-number.number c.index-tasks-number.result c.index-parts-number.result within (omega arith)
    c.index-tasks-number.is c.index-parts-number.is c.requires.split

pub plan_of-requires-in-loop-number-clause-own : goal.plan_of-requires-in-loop-number-clause-own
plan_of-requires-in-loop-number-clause-own c =
    let long = seen_long AreOwnParts plain_task plain_parts c.args.tasks.now c.args.parts.now c.requires.split in
    let within = c.loop-number-test.true in
    zip_read AreOwnParts plain_task plain_parts c.args.tasks.now c.args.parts.now c.loop-number.number c.index-tasks-number.result c.index-parts-number.result within (omega arith)
    c.index-tasks-number.is c.index-parts-number.is c.requires.split

pub returns-in_err-at_once-clause-refused : goal.returns-in_err-at_once-clause-refused
returns-in_err-at_once-clause-refused c =
    let tasks = c.args.tasks.now in
    let parts = c.args.parts.now in
    let number = c.loop-number.number in
    let task = c.index-tasks-number.result in
    let own = c.index-parts-number.result in
    let long = seen_long AreOwnParts plain_task plain_parts tasks parts c.requires.split in
    let within = c.loop-number-test.true in
    let there : number < length parts = omega arith in
    let stands = stands_at plain_task plain_parts tasks parts number task own within there c.index-tasks-number.is c.index-parts-number.is c.args.costs.now c.loop-number.whole c.loop-number.sliced
    c.requires.split c.loop-number.invariant.costed in
    let p = err_from_is_err_and c.from_residual.result c.from_residual.ensures.1 in
    rw (p.1, p.2) (dear_forbids (map plain_task tasks) c.args.costs.now (map plain_parts parts) number (plain_task task) (plain_parts own) (form_of (plain_task task) false (plain_parts own)) _ stands
    (λ cycles dear. inl dear) c.in_err-at_once.ensures.refused)

pub returns-in_err-in_parts-clause-refused : goal.returns-in_err-in_parts-clause-refused
returns-in_err-in_parts-clause-refused c =
    let tasks = c.args.tasks.now in
    let parts = c.args.parts.now in
    let number = c.loop-number.number in
    let task = c.index-tasks-number.result in
    let own = c.index-parts-number.result in
    let long = seen_long AreOwnParts plain_task plain_parts tasks parts c.requires.split in
    let within = c.loop-number-test.true in
    let there : number < length parts = omega arith in
    let stands = stands_at plain_task plain_parts tasks parts number task own within there c.index-tasks-number.is c.index-parts-number.is c.args.costs.now c.loop-number.whole c.loop-number.sliced
    c.requires.split c.loop-number.invariant.costed in
    let p = err_from_is_err_and c.from_residual-in_err-in_parts.result c.from_residual-in_err-in_parts.ensures.1 in
    rw (p.1, p.2) (dear_forbids (map plain_task tasks) c.args.costs.now (map plain_parts parts) number (plain_task task) (plain_parts own) (form_of (plain_task task) true (plain_parts own)) _ stands
    (λ cycles dear. inr (c.in_ok-at_once.at_once, c.in_ok-at_once.ensures.plan, dear)) c.in_err-in_parts.ensures.refused)

pub loop-number-preserved : goal.loop-number-preserved
loop-number-preserved c =
    let tasks = c.args.tasks.now in
    let parts = c.args.parts.now in
    let number = c.loop-number.number in
    let long = seen_long AreOwnParts plain_task plain_parts tasks parts c.requires.split in
    let within = c.loop-number-test.true in
    let there : number < length parts = omega arith in
    let first = c.in_ok-at_once.at_once in
    let second = c.in_ok-in_parts.in_parts in
    let whole_is : c.push.new.self ≡ c.loop-number.whole ++ first ∷ [] = c.in_ok-push.ensures.ok in
    let sliced_is : c.push-in-loop-number.new.self ≡ c.loop-number.sliced ++ second ∷ [] = c.in_ok-push-2.ensures.ok in
    record {
      costed =
          subst (λ l. AreCosted c.args.costs.now (map plain_task (take (number + 1) tasks)) (map plain_parts (take (number + 1) parts)) l c.push-in-loop-number.new.self) (sym whole_is)
          (subst (λ l. AreCosted c.args.costs.now (map plain_task (take (number + 1) tasks)) (map plain_parts (take (number + 1) parts)) (c.loop-number.whole ++ first ∷ []) l) (sym sliced_is)
          (costed_step plain_task plain_parts tasks parts number c.index-tasks-number.result c.index-parts-number.result within there c.index-tasks-number.is c.index-parts-number.is
          c.args.costs.now c.loop-number.whole c.loop-number.sliced first second c.loop-number.invariant.costed (record { at_once = c.in_ok-at_once.ensures.plan; in_parts = c.in_ok-in_parts.ensures.plan })));
      at_once = subst (All IsSoundPlan) (sym whole_is) (All-push IsSoundPlan c.loop-number.whole first c.loop-number.invariant.at_once c.in_ok-at_once.ensures.sound);
      in_parts = subst (All IsSoundPlan) (sym sliced_is) (All-push IsSoundPlan c.loop-number.sliced second c.loop-number.invariant.in_parts c.in_ok-in_parts.ensures.sound);
    }

pub returns-clause-costed : goal.returns-clause-costed
returns-clause-costed c =
    let tasks = c.args.tasks.now in
    let parts = c.args.parts.now in
    let number = c.loop-number.number in
    let long = seen_long AreOwnParts plain_task plain_parts tasks parts c.requires.split in
    let past = c.loop-number-test.false in
    let all_tasks = ap (λ l. map plain_task l) (take_all number tasks past) in
    let all_parts = ap (λ l. map plain_parts l) (take_all number parts (omega arith)) in
    subst (λ l. AreCosted c.args.costs.now l (map plain_parts parts) c.loop-number.whole c.loop-number.sliced) all_tasks
    (subst (λ l. AreCosted c.args.costs.now (map plain_task (take number tasks)) l c.loop-number.whole c.loop-number.sliced) all_parts c.loop-number.invariant.costed)
