use Rattle.std.proofs.Common.{ap, ◌∙◌}
use Rattle.std.specs.Prelude.{slice_index_or}
use Rattle.tcel_core.specs.Language.{choice}
use Rattle.tcel_core.specs.Plain.{plain_expr, plain_stmt}
use Rattle.tcel_parts.proofs.PartsProper.{own_expr}
use Rattle.tcel_rename.specs.Halves.{stmts_of}
use Rattle.tcel_rename.proofs.Growing.{rest_none, rest_whole, rest_split}
use Rattle.tcel_rename.proofs.halves.push_rest.Goals as goal

pub returns-then-not-left : goal.returns-then-not-left
returns-then-not-left c =
    rest_none c.args.numbers.now c.args.id (plain_expr c.args.test.now) c.args.inside c.args.left (stmts_of c.args.held) (stmts_of c.args.other) c.args.list.now c.if-not-left.true

pub returns-then-inside : goal.returns-then-inside
returns-then-inside c =
    rest_split c.args.numbers.now c.args.id (plain_expr c.args.test.now) c.args.inside c.args.left (stmts_of c.args.held) (stmts_of c.args.other) c.args.list.now c.push.new.list (plain_stmt c.choice_stmt.result)
    c.number_at-truth.result c.if-not-left.false c.if-inside.true (c.number_at-truth.ensures ∙ ap (λ l. slice_index_or l c.args.id 0) c.as_slice.ensures) (c.choice_stmt.ensures ∙ ap (λ w. choice c.args.id w (stmts_of c.args.held) (stmts_of c.args.other)) c.variable_expr.ensures) c.in_ok-push.ensures

pub returns : goal.returns
returns c =
    rest_whole c.args.numbers.now c.args.id (plain_expr c.args.test.now) c.args.inside c.args.left (stmts_of c.args.held) (stmts_of c.args.other) c.args.list.now c.push-2.new.list (plain_stmt c.choice_stmt-2.result)
    (plain_expr c.in_ok-copied.copied) c.if-not-left.false c.if-inside.false (c.in_ok-copied.ensures ∙ own_expr (plain_expr c.args.test.now)) c.choice_stmt-2.ensures c.in_ok-push-2.ensures
