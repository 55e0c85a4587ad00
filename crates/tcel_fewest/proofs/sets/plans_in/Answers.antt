use Rattle.std.proofs.Common.{◌≡◌, ◌+◌, ◌-◌, ◌∷◌, ◌++◌, [], if◌then◌else◌, length, get_or, drop, ap, ◌∙◌, arith}
use Rattle.tcel_fewest.specs.Sets.{has, plans_of}
use Rattle.tcel_fewest.proofs.SetLemmas.{plans_end, plans_pushed}
use Rattle.tcel_fewest.proofs.sets.plans_in.Goals as goal

pub loop-task-preserved : goal.loop-task-preserved
loop-task-preserved c =
    let whole = c.args.forms.now.whole in
    let sliced = c.args.forms.now.sliced in
    let task = c.loop-task.task in
    let set = c.args.set in
    let plan = c.index-whole-task.result in
    let other = c.index-sliced-task.result in
    let one = c.in_ok-plan.plan in
    let first : c.as_slice-whole.result.now ≡ whole = c.as_slice-whole.ensures in
    let second : c.as_slice-sliced.result.now ≡ sliced = c.as_slice-sliced.ensures in
    let is : plan ≡ get_or whole task plan = c.index-whole-task.is ∙ ap (λ l. get_or l task plan) first in
    let at : other ≡ get_or sliced task other = c.index-sliced-task.is ∙ ap (λ l. get_or l task other) second in
    let long = ap (λ l. length l) first in
    let within = c.loop-task-test.true in
    let places : length c.as_slice-whole.result.now - 1 - task ≡ length whole - 1 - task = omega arith in
    let in_set : c.has-in_set.result ≡ has set (length whole - 1 - task) = c.has-in_set.ensures ∙ ap (λ n. has set n) places in
    let chosen : one ≡ (if has set (length whole - 1 - task) then other else plan) = c.in_ok-plan.ensures ∙ ap (λ b. if b then other else plan) in_set in
    let pushed : c.push.new.self ≡ c.loop-task.plans ++ one ∷ [] = c.in_ok-push.ensures.ok in
    ap (λ l. l ++ plans_of set (drop (task + 1) whole) (drop (task + 1) sliced)) pushed
    ∙ plans_pushed set c.loop-task.plans whole sliced task plan other one (omega arith) c.requires.same is at chosen c.loop-task.invariant

pub returns : goal.returns
returns c =
    let long = ap (λ l. length l) c.as_slice-whole.ensures in
    let past = c.loop-task-test.false in
    plans_end c.args.set c.loop-task.plans c.args.forms.now.whole c.args.forms.now.sliced c.loop-task.task (omega arith) c.loop-task.invariant
