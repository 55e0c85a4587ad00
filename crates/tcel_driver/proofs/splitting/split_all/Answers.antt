use Rattle.std.proofs.Common.{◌+◌, map, take, sym, subst}
use Rattle.std.proofs.lemmas.List.{take-map}
use Rattle.std.proofs.lemmas.Result.{err_from_is_err_and}
use Rattle.tcel_core.specs.Parts.{AreOwnParts, plain_parts}
use Rattle.tcel_core.specs.Plain.{plain_task}
use Rattle.tcel_driver.specs.Forms.{AreSplit}
use Rattle.tcel_driver.proofs.Lists.{read_map, zip_step}
use Rattle.tcel_driver.proofs.Refusing.{large_forbids}
use Rattle.tcel_driver.proofs.splitting.split_all.Goals as goal

pub returns-in_err-own-clause-refused : goal.returns-in_err-own-clause-refused
returns-in_err-own-clause-refused c =
    let tasks = c.args.tasks.now in
    let number = c.loop-number.number in
    let task = c.index-tasks-number.result in
    let before = map plain_parts c.loop-number.all in
    let there = read_map plain_task tasks number task c.loop-number-test.true c.index-tasks-number.is in
    let earlier = subst (λ l. AreSplit l before) (sym (take-map plain_task number tasks)) c.loop-number.invariant in
    let p = err_from_is_err_and c.from_residual.result c.from_residual.ensures.1 in
    rw (p.1, p.2) (large_forbids (map plain_task tasks) before number (plain_task task) _ there earlier c.in_err-own.ensures.refused)

pub loop-number-preserved : goal.loop-number-preserved
loop-number-preserved c =
    let tasks = c.args.tasks.now in
    let number = c.loop-number.number in
    let task = c.index-tasks-number.result in
    subst (λ l. AreSplit (map plain_task (take (number + 1) tasks)) (map plain_parts l)) (sym c.in_ok-push.ensures.ok)
    (zip_step AreOwnParts plain_task plain_parts tasks c.loop-number.all number task c.in_ok-own.own c.loop-number-test.true c.index-tasks-number.is c.loop-number.invariant c.in_ok-own.ensures.own)
