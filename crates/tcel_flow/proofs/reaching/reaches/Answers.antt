use Rattle.std.proofs.Common.{◌<◌, sym, subst, arith}
use Rattle.tcel_core.specs.Plain.{plain_body, plain_task}
use Rattle.tcel_flow.specs.Reaching.{plain_use}
use Rattle.tcel_flow.specs.Shape.{AreSteps, places}
use Rattle.tcel_flow.proofs.Reached.{answered, none_past}
use Rattle.tcel_flow.proofs.reaching.reaches.Goals as goal

pub returns-then-var-gt255 : goal.returns-then-var-gt255
returns-then-var-gt255 c = none_past (plain_task c.args.task.now) c.requires.sound c.args.from (plain_use c.args.to) c.args.var (omega arith)

pub returns : goal.returns
returns c =
    let small : c.args.var < 256 = omega arith in
    let steps = c.as_slice-steps.result.now in
    answered c.args.from c.args.to c.args.var small (plain_body c.args.task.now.body) steps c.before_branch.result.0 c.before_branch.result.1
    (subst (λ l. AreSteps l (places (plain_body c.args.task.now.body))) (sym c.as_slice-steps.ensures) c.requires.shape)
    c.before_branch.ensures.start c.before_branch.ensures.goes
