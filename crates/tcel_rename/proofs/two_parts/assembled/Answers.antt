use Rattle.std.proofs.Common.{◌∙◌, arith}
use Rattle.tcel_core.specs.Paths.{points}
use Rattle.tcel_core.specs.Plain.{plain_body}
use Rattle.tcel_rename.specs.Sets.{by_list}
use Rattle.tcel_rename.proofs.Assembled.{all_parts, within_all}
use Rattle.tcel_rename.proofs.two_parts.assembled.Goals as goal

pub halve_body-requires : goal.halve_body-requires
halve_body-requires c = let count = c.requires.plan.numbers.count in let few = c.requires.few in omega arith

pub fetched-requires : goal.fetched-requires
fetched-requires c = let count = c.requires.plan.numbers.count in let few = c.requires.few in omega arith

pub returns : goal.returns
returns c =
    let vars = c.args.task.now.vars in
    let body = plain_body c.args.task.now.body in
    let list = c.args.kept.now.list in
    let s = by_list vars body list in
    c.in_ok-parts.ensures
    ∙ all_parts s c.args.sets.now c.args.numbers c.requires.plan c.in_ok-fetched.fetched c.in_ok-halves.halves.first c.in_ok-halves.halves.rest c.args.numbers.vars c.args.words
    (c.in_ok-fetched.ensures vars body list c.requires.plan) (c.in_ok-halves.ensures vars body c.requires.plan (within_all (points body))) c.requires.plan.numbers.vars c.requires.words
