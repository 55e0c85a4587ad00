use Rattle.std.proofs.Common.{ap, ◌∙◌}
use Rattle.std.specs.Prelude.{slice_index_or}
use Rattle.tcel_core.specs.Language.{choice}
use Rattle.tcel_core.specs.Parts.{renamed_expr}
use Rattle.tcel_core.specs.Plain.{plain_expr, plain_stmt}
use Rattle.tcel_rename.specs.Halves.{stmts_of}
use Rattle.tcel_rename.specs.Renaming.{number_in}
use Rattle.tcel_rename.proofs.Growing.{first_none, first_whole, first_split}
use Rattle.tcel_rename.proofs.halves.push_first.Goals as goal

pub returns-then-not-inside : goal.returns-then-not-inside
returns-then-not-inside c =
    first_none c.args.numbers.now c.args.id (plain_expr c.args.test.now) c.args.inside c.args.left (stmts_of c.args.held) (stmts_of c.args.other) c.args.list.now c.if-not-inside.true

pub returns-then-not-left : goal.returns-then-not-left
returns-then-not-left c =
    first_whole c.args.numbers.now c.args.id (plain_expr c.args.test.now) c.args.inside c.args.left (stmts_of c.args.held) (stmts_of c.args.other) c.args.list.now c.push.new.list (plain_stmt c.choice_stmt.result)
    (plain_expr c.in_ok-renamed.renamed) c.if-not-inside.false c.if-not-left.true c.choice_stmt.ensures
    (c.in_ok-renamed.ensures ∙ ap (λ l. renamed_expr (number_in l) (plain_expr c.args.test.now)) c.as_slice.ensures) c.in_ok-push.ensures

pub returns : goal.returns
returns c =
    first_split c.args.numbers.now c.args.id (plain_expr c.args.test.now) c.args.inside c.args.left (stmts_of c.args.held) (stmts_of c.args.other) c.args.list.now c.push-2.new.list c.push-3.new.list
    (plain_stmt c.assign_stmt.result) (plain_stmt c.choice_stmt-2.result) c.number_at-truth.result (plain_expr c.in_ok-renamed.renamed) c.if-not-inside.false c.if-not-left.false
    (c.number_at-truth.ensures ∙ ap (λ l. slice_index_or l c.args.id 0) c.as_slice-2.ensures) (c.in_ok-renamed.ensures ∙ ap (λ l. renamed_expr (number_in l) (plain_expr c.args.test.now)) c.as_slice.ensures) c.assign_stmt.ensures
    (c.choice_stmt-2.ensures ∙ ap (λ w. choice c.args.id w (stmts_of c.args.held) (stmts_of c.args.other)) c.variable_expr.ensures) c.in_ok-push-2.ensures c.in_ok-push-3.ensures
