use Rattle.std.proofs.Common.{rules}
use Rattle.tcel_core.specs.declared.expr.CoreExpr.{the_lemmas as expr_lemmas}
use Rattle.tcel_core.specs.declared.body.Body.{the_lemmas as body_lemmas}
use Rattle.tcel_core.specs.declared.body.CoreStmt.{the_lemmas as stmt_lemmas}
use Rattle.tcel_core.specs.declared.body.Item.{the_lemmas as item_lemmas}
use Rattle.tcel_core.proofs.examples.plain_examples.Goals as goal

pub returns : goal.returns
returns c = search (rules, expr_lemmas, body_lemmas, stmt_lemmas, item_lemmas)
