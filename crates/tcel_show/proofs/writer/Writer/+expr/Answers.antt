use Rattle.tcel_show.specs.Levels.{plain_level}
use Rattle.tcel_show.proofs.PutExprs.{put_element, put_unary, put_binary}
use Rattle.tcel_show.proofs.writer.Writer.+expr.Goals as goal

pub returns-in_ok-expr-in-Index : goal.returns-in_ok-expr-in-Index
returns-in_ok-expr-in-Index t c =
    put_element c.args.expr.now (plain_level c.args.place) c.in-Index.name c.in-Index.index c.sign-in-Index.new.self c.sign-in-Index.result
    c.in-Index.is c.get.ensures c.in_ok-name-in-Index.ensures c.in_ok-sign-in-Index.ensures c.in_ok-expr-in-Index.ensures c.sign-in-Index.ensures

pub returns-in_ok-expr-in-Unary : goal.returns-in_ok-expr-in-Unary
returns-in_ok-expr-in-Unary t c =
    put_unary c.args.expr.now (plain_level c.args.place) c.in-Unary.op c.in-Unary.operand c.bracket-in-Unary.new.self c.bracket-in-Unary.result
    c.in-Unary.is c.get-in-Unary.ensures c.is_below-enclosed.result c.is_below-enclosed.ensures
    c.in_ok-bracket-in-Unary.ensures c.in_ok-op-in-Unary.ensures c.in_ok-expr-in-Unary.ensures c.bracket-in-Unary.ensures

pub returns-in_ok-expr-in-Binary-2 : goal.returns-in_ok-expr-in-Binary-2
returns-in_ok-expr-in-Binary-2 t c =
    put_binary c.args.expr.now (plain_level c.args.place) c.in-Binary.op c.in-Binary.left c.in-Binary.right (plain_level c.of-level.result)
    c.bracket-in-Binary-2.new.self c.bracket-in-Binary-2.result
    c.in-Binary.is c.get-in-Binary.ensures c.get-in-Binary-2.ensures c.of-level.ensures c.left.ensures c.right.ensures
    c.is_below-enclosed-in-Binary.result c.is_below-enclosed-in-Binary.ensures
    c.in_ok-bracket-in-Binary.ensures c.in_ok-expr-in-Binary.ensures c.in_ok-op-in-Binary.ensures c.in_ok-expr-in-Binary-2.ensures
    c.bracket-in-Binary-2.ensures
