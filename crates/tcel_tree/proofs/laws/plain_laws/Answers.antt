use Rattle.std.proofs.Common.{ap, sym, ◌∙◌}
use Rattle.tcel_tree.specs.Plain.{placed_expr, placed_stmt}
use Rattle.tcel_tree.specs.declared.expr.ExprKind.{ExprKind}
use Rattle.tcel_tree.specs.declared.expr.ExprKind.TheVariants.{rolls-Binary}
use Rattle.tcel_tree.specs.declared.stmt.StmtKind.{StmtKind}
use Rattle.tcel_tree.specs.declared.stmt.StmtKind.TheVariants.{rolls-If}
use Rattle.tcel_tree.proofs.PlainLaws.{plain_expr-placed, placed_expr-binary, plain_stmt-placed, placed_stmt-choice}
use Rattle.tcel_tree.proofs.laws.plain_laws.Goals as goal

pub returns-clause-binary : goal.returns-clause-binary
returns-clause-binary c = λ at op a b.
    plain_expr-placed _ ∙ ap (λ (kind : ExprKind). placed_expr kind at) (sym (rolls-Binary op a b)) ∙ placed_expr-binary op a b at

pub returns-clause-choice : goal.returns-clause-choice
returns-clause-choice c = λ at test held other.
    plain_stmt-placed _ ∙ ap (λ (kind : StmtKind). placed_stmt kind at) (sym (rolls-If test held other)) ∙ placed_stmt-choice test held other at
