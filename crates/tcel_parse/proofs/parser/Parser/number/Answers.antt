use Rattle.std.proofs.Common.{false, refl, sym, subst}
use Rattle.tcel_tree.specs.Language.{Expr}
use Rattle.tcel_grammar.specs.Expressions.{IsExpr, atom}
use Rattle.tcel_grammar.specs.Machine.{operand}
use Rattle.tcel_parse.specs.Reading.{left}
use Rattle.tcel_parse.proofs.Operators.{number_atom}
use Rattle.tcel_parse.proofs.Reaches.{at_exit}
use Rattle.tcel_parse.proofs.parser.Parser.number.Goals as goal

pub returns-in_err-number-clause-run : goal.returns-in_err-number-clause-run
returns-in_err-number-clause-run c = λ b k.
    at_exit c.from_residual.result _ c.from_residual.ensures.1 _ _ _ _ refl (c.in_err-number.ensures.run (operand false b) _ refl k)

pub returns-clause-tree : goal.returns-clause-tree
returns-clause-tree c =
    let P : Expr → Type 0 = λ e. IsExpr atom (left c.args.self.now) e (left c.take_number.new.self) in
    subst P (sym c.number_node.ensures) (number_atom c.in_ok-number.ensures.tree)

pub returns-clause-run : goal.returns-clause-run
returns-clause-run c = λ b k. c.in_ok-number.ensures.run (operand false b) _ refl k
