use Rattle.tcel_check.specs.Known.{kind_in}
use Rattle.tcel_check.proofs.SeeExprs.{see_number, see_truth, see_variable, see_element, see_unary, see_binary}
use Rattle.tcel_check.proofs.walk.Walk.+expr.Goals as goal

pub returns-in-Number : goal.returns-in-Number
returns-in-Number t c =
    see_number (kind_in c.args.names.now) c.args.expr.now c.args.wanted c.in-Number.number c.in-Number.is (c.node.ensures _) (c.literal.ensures _)

pub returns-in-Truth : goal.returns-in-Truth
returns-in-Truth t c =
    see_truth (kind_in c.args.names.now) c.args.expr.now c.args.wanted c.in-Truth.field-0 c.in-Truth.is (c.node-in-Truth.ensures _) (c.value.ensures _)

pub returns-in-Var : goal.returns-in-Var
returns-in-Var t c =
    see_variable (kind_in c.args.names.now) c.args.expr.now c.args.wanted c.in-Var.name c.in-Var.is (c.node-in-Var.ensures _) c.name.ensures

pub returns-in-Index : goal.returns-in-Index
returns-in-Index t c =
    see_element (kind_in c.args.names.now) c.args.expr.now c.args.wanted c.in-Index.name c.in-Index.index c.in-Index.is c.get.ensures
    (c.node-in-Index.ensures _) c.name-in-Index.ensures (c.value-in-Index.ensures _) c.expr.ensures

pub returns-in-Unary : goal.returns-in-Unary
returns-in-Unary t c =
    see_unary (kind_in c.args.names.now) c.args.expr.now c.args.wanted c.in-Unary.op c.in-Unary.operand c.in-Unary.is c.get-in-Unary.ensures
    c.result_type.ensures c.operand_type.ensures (c.node-in-Unary.ensures _) (c.value-in-Unary.ensures _) c.expr-in-Unary.ensures

pub returns-in-Binary : goal.returns-in-Binary
returns-in-Binary t c =
    see_binary (kind_in c.args.names.now) c.args.expr.now c.args.wanted c.in-Binary.op c.in-Binary.left c.in-Binary.right c.in-Binary.is
    c.get-in-Binary.ensures c.get-in-Binary-2.ensures c.result_type-in-Binary.ensures c.operand_type-in-Binary.ensures
    c.expr-in-Binary.ensures (c.node-in-Binary.ensures _) (c.value-in-Binary.ensures _) c.expr-in-Binary-2.ensures
