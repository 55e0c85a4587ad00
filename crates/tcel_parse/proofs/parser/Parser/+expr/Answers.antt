use Rattle.std.proofs.Common.{◌≡◌, true, false, ◌∷◌, refl, sym, ◌∙◌, subst, arith}
use Rattle.tcel_token.specs.declared.sign.Sign.{Sign}
use Rattle.tcel_tree.specs.declared.expr.Expr as tree
use Rattle.tcel_tree.specs.Language.{Expr, unary, binary, element}
use Rattle.tcel_tree.specs.Plain.{plain_expr}
use Rattle.tcel_grammar.specs.Expressions.{IsExpr, disjunction, conjunction, comparison, sum, term, factor, atom, a_conjunction, disjoined, a_comparison, conjoined, a_sum, compared, a_term, added, a_factor, multiplied, an_atom, applied, yes, no, a_variable, an_element, bracketed}
use Rattle.tcel_grammar.specs.Machine.{operand, behind_operand, behind_name, this_sign}
use Rattle.tcel_parse.specs.Reading.{left}
use Rattle.tcel_parse.proofs.Heads.{stop_here, placed_token}
use Rattle.tcel_parse.proofs.Operators.{operator_binary, operator_reads, no_operator, no_disjunction, compared_loosely, unary_reads, no_unary, unary_before, no_index, no_operand}
use Rattle.tcel_parse.proofs.Reaches.{at_exit, memory_exit, handed_on, made, if_ok_from, reach_same, reach_skips}
use Rattle.tcel_parse.proofs.parser.Parser.+expr.Goals as goal

-- a tree in the place of an equal one
as_tree : (P : Expr → Type 0) (a b : Expr) → a ≡ b → P b → P a
as_tree P a b e h = subst P (sym e) h

pub expr-loop-op-init : goal.expr-loop-op-init
expr-loop-op-init t c =
    record { tree = a_conjunction c.in_ok-left.ensures.tree; run = λ k. c.in_ok-left.ensures.run k; onward = c.in_ok-left.ensures.onward }

pub expr-returns-in_err-at-clause-run : goal.expr-returns-in_err-at-clause-run
expr-returns-in_err-at-clause-run t c =
    λ k. at_exit c.from_residual-in_err-at.result _ c.from_residual-in_err-at.ensures.1 _ _ _ _ (c.loop-op.invariant.run k) (c.in_err-at.ensures.run (behind_operand 1 false) _ (operator_reads disjunction (left c.loop-op.self) c.in-Some.op 1 false (sym c.in-Some.ensures) refl) k)

pub expr-returns-in_err-right-clause-run : goal.expr-returns-in_err-right-clause-run
expr-returns-in_err-right-clause-run t c =
    λ k. at_exit c.from_residual-in_err-right.result _ c.from_residual-in_err-right.ensures.1 _ _ _ _ (c.loop-op.invariant.run k ∙ c.in_ok-at.ensures.run (behind_operand 1 false) _ (operator_reads disjunction (left c.loop-op.self) c.in-Some.op 1 false (sym c.in-Some.ensures) refl) k) (c.in_err-right.ensures.run k)

pub expr-returns-in_err-left-2-clause-run : goal.expr-returns-in_err-left-2-clause-run
expr-returns-in_err-left-2-clause-run t c =
    λ k. memory_exit c.from_residual-in_err-left-2.result _ c.from_residual-in_err-left-2.ensures.1 c.in_err-left-2.ensures.memory _ _ _

pub expr-loop-op-preserved : goal.expr-loop-op-preserved
expr-loop-op-preserved t c =
    record {
      tree =
          rw c.in_ok-left-2.ensures.node
          (disjoined c.loop-op.invariant.tree (operator_binary disjunction _ c.in-Some.op _ _ (sym c.in-Some.ensures) c.in_ok-at.ensures.head) c.in_ok-right.ensures.tree);
      run = λ k. c.loop-op.invariant.run k ∙ c.in_ok-at.ensures.run (behind_operand 1 false) _ (operator_reads disjunction (left c.loop-op.self) c.in-Some.op 1 false (sym c.in-Some.ensures) refl) k ∙ c.in_ok-right.ensures.run k;
      onward = omega (arith, c.loop-op.invariant.onward, c.in_ok-at.ensures.onward, c.in_ok-right.ensures.onward);
    }

pub expr-returns-clause-run : goal.expr-returns-clause-run
expr-returns-clause-run t c =
    λ k. c.loop-op.invariant.run k ∙ reach_skips c.loop-op.self (behind_operand 1 false) k (no_disjunction (left c.loop-op.self) false (sym c.in_default.ensures))

pub conjunction-loop-op-init : goal.conjunction-loop-op-init
conjunction-loop-op-init t c =
    record { tree = a_comparison c.in_ok-left.ensures.tree; run = λ k. c.in_ok-left.ensures.run k; onward = c.in_ok-left.ensures.onward }

pub conjunction-returns-in_err-at-clause-run : goal.conjunction-returns-in_err-at-clause-run
conjunction-returns-in_err-at-clause-run t c =
    λ k. at_exit c.from_residual-in_err-at.result _ c.from_residual-in_err-at.ensures.1 _ _ _ _ (c.loop-op.invariant.run k) (c.in_err-at.ensures.run (behind_operand 2 false) _ (operator_reads conjunction (left c.loop-op.self) c.in-Some.op 2 false (sym c.in-Some.ensures) refl) k)

pub conjunction-returns-in_err-right-clause-run : goal.conjunction-returns-in_err-right-clause-run
conjunction-returns-in_err-right-clause-run t c =
    λ k. at_exit c.from_residual-in_err-right.result _ c.from_residual-in_err-right.ensures.1 _ _ _ _ (c.loop-op.invariant.run k ∙ c.in_ok-at.ensures.run (behind_operand 2 false) _ (operator_reads conjunction (left c.loop-op.self) c.in-Some.op 2 false (sym c.in-Some.ensures) refl) k) (c.in_err-right.ensures.run k)

pub conjunction-returns-in_err-left-2-clause-run : goal.conjunction-returns-in_err-left-2-clause-run
conjunction-returns-in_err-left-2-clause-run t c =
    λ k. memory_exit c.from_residual-in_err-left-2.result _ c.from_residual-in_err-left-2.ensures.1 c.in_err-left-2.ensures.memory _ _ _

pub conjunction-loop-op-preserved : goal.conjunction-loop-op-preserved
conjunction-loop-op-preserved t c =
    record {
      tree =
          rw c.in_ok-left-2.ensures.node
          (conjoined c.loop-op.invariant.tree (operator_binary conjunction _ c.in-Some.op _ _ (sym c.in-Some.ensures) c.in_ok-at.ensures.head) c.in_ok-right.ensures.tree);
      run = λ k. c.loop-op.invariant.run k ∙ c.in_ok-at.ensures.run (behind_operand 2 false) _ (operator_reads conjunction (left c.loop-op.self) c.in-Some.op 2 false (sym c.in-Some.ensures) refl) k ∙ c.in_ok-right.ensures.run k;
      onward = omega (arith, c.loop-op.invariant.onward, c.in_ok-at.ensures.onward, c.in_ok-right.ensures.onward);
    }

pub conjunction-returns-clause-run : goal.conjunction-returns-clause-run
conjunction-returns-clause-run t c =
    λ k. c.loop-op.invariant.run k ∙ reach_same c.loop-op.self (behind_operand 2 false) (behind_operand 1 false) k (no_operator conjunction (left c.loop-op.self) false (sym c.in_default.ensures))

pub sum-loop-op-init : goal.sum-loop-op-init
sum-loop-op-init t c =
    record { tree = a_term c.in_ok-left.ensures.tree; run = λ b k. c.in_ok-left.ensures.run b k; onward = c.in_ok-left.ensures.onward }

pub sum-returns-in_err-at-clause-run : goal.sum-returns-in_err-at-clause-run
sum-returns-in_err-at-clause-run t c =
    λ b k. at_exit c.from_residual-in_err-at.result _ c.from_residual-in_err-at.ensures.1 _ _ _ _ (c.loop-op.invariant.run b k) (c.in_err-at.ensures.run (behind_operand 4 b) _ (operator_reads sum (left c.loop-op.self) c.in-Some.op 4 b (sym c.in-Some.ensures) refl) k)

pub sum-returns-in_err-right-clause-run : goal.sum-returns-in_err-right-clause-run
sum-returns-in_err-right-clause-run t c =
    λ b k. at_exit c.from_residual-in_err-right.result _ c.from_residual-in_err-right.ensures.1 _ _ _ _ (c.loop-op.invariant.run b k ∙ c.in_ok-at.ensures.run (behind_operand 4 b) _ (operator_reads sum (left c.loop-op.self) c.in-Some.op 4 b (sym c.in-Some.ensures) refl) k) (c.in_err-right.ensures.run b k)

pub sum-returns-in_err-left-2-clause-run : goal.sum-returns-in_err-left-2-clause-run
sum-returns-in_err-left-2-clause-run t c =
    λ b k. memory_exit c.from_residual-in_err-left-2.result _ c.from_residual-in_err-left-2.ensures.1 c.in_err-left-2.ensures.memory _ _ _

pub sum-loop-op-preserved : goal.sum-loop-op-preserved
sum-loop-op-preserved t c =
    record {
      tree =
          rw c.in_ok-left-2.ensures.node
          (added c.loop-op.invariant.tree (operator_binary sum _ c.in-Some.op _ _ (sym c.in-Some.ensures) c.in_ok-at.ensures.head) c.in_ok-right.ensures.tree);
      run = λ b k. c.loop-op.invariant.run b k ∙ c.in_ok-at.ensures.run (behind_operand 4 b) _ (operator_reads sum (left c.loop-op.self) c.in-Some.op 4 b (sym c.in-Some.ensures) refl) k ∙ c.in_ok-right.ensures.run b k;
      onward = omega (arith, c.loop-op.invariant.onward, c.in_ok-at.ensures.onward, c.in_ok-right.ensures.onward);
    }

pub sum-returns-clause-run : goal.sum-returns-clause-run
sum-returns-clause-run t c =
    λ b k. c.loop-op.invariant.run b k ∙ reach_same c.loop-op.self (behind_operand 4 b) (behind_operand 3 b) k (no_operator sum (left c.loop-op.self) b (sym c.in_default.ensures))

pub term-loop-op-init : goal.term-loop-op-init
term-loop-op-init t c =
    record { tree = a_factor c.in_ok-left.ensures.tree; run = λ b k. c.in_ok-left.ensures.run b k; onward = c.in_ok-left.ensures.onward }

pub term-returns-in_err-at-clause-run : goal.term-returns-in_err-at-clause-run
term-returns-in_err-at-clause-run t c =
    λ b k. at_exit c.from_residual-in_err-at.result _ c.from_residual-in_err-at.ensures.1 _ _ _ _ (c.loop-op.invariant.run b k) (c.in_err-at.ensures.run (behind_operand 5 b) _ (operator_reads term (left c.loop-op.self) c.in-Some.op 5 b (sym c.in-Some.ensures) refl) k)

pub term-returns-in_err-right-clause-run : goal.term-returns-in_err-right-clause-run
term-returns-in_err-right-clause-run t c =
    λ b k. at_exit c.from_residual-in_err-right.result _ c.from_residual-in_err-right.ensures.1 _ _ _ _ (c.loop-op.invariant.run b k ∙ c.in_ok-at.ensures.run (behind_operand 5 b) _ (operator_reads term (left c.loop-op.self) c.in-Some.op 5 b (sym c.in-Some.ensures) refl) k) (c.in_err-right.ensures.run b k)

pub term-returns-in_err-left-2-clause-run : goal.term-returns-in_err-left-2-clause-run
term-returns-in_err-left-2-clause-run t c =
    λ b k. memory_exit c.from_residual-in_err-left-2.result _ c.from_residual-in_err-left-2.ensures.1 c.in_err-left-2.ensures.memory _ _ _

pub term-loop-op-preserved : goal.term-loop-op-preserved
term-loop-op-preserved t c =
    record {
      tree =
          rw c.in_ok-left-2.ensures.node
          (multiplied c.loop-op.invariant.tree (operator_binary term _ c.in-Some.op _ _ (sym c.in-Some.ensures) c.in_ok-at.ensures.head) c.in_ok-right.ensures.tree);
      run = λ b k. c.loop-op.invariant.run b k ∙ c.in_ok-at.ensures.run (behind_operand 5 b) _ (operator_reads term (left c.loop-op.self) c.in-Some.op 5 b (sym c.in-Some.ensures) refl) k ∙ c.in_ok-right.ensures.run b k;
      onward = omega (arith, c.loop-op.invariant.onward, c.in_ok-at.ensures.onward, c.in_ok-right.ensures.onward);
    }

pub term-returns-clause-run : goal.term-returns-clause-run
term-returns-clause-run t c =
    λ b k. c.loop-op.invariant.run b k ∙ reach_same c.loop-op.self (behind_operand 5 b) (behind_operand 4 b) k (no_operator term (left c.loop-op.self) b (sym c.in_default.ensures))

pub comparison-returns-in_default-clause-tree : goal.comparison-returns-in_default-clause-tree
comparison-returns-in_default-clause-tree t c =
    a_sum c.in_ok-left.ensures.tree

pub comparison-returns-in_default-clause-run : goal.comparison-returns-in_default-clause-run
comparison-returns-in_default-clause-run t c =
    λ k. c.in_ok-left.ensures.run false k ∙ reach_same c.sum.new.self (behind_operand 3 false) (behind_operand 2 false) k (no_operator comparison (left c.sum.new.self) false (sym c.in_default.ensures))

pub comparison-returns-in_err-at-clause-run : goal.comparison-returns-in_err-at-clause-run
comparison-returns-in_err-at-clause-run t c =
    λ k. at_exit c.from_residual-in_err-at.result _ c.from_residual-in_err-at.ensures.1 _ _ _ _ (c.in_ok-left.ensures.run false k) (c.in_err-at.ensures.run (behind_operand 3 false) _ (operator_reads comparison (left c.sum.new.self) c.in-Some.op 3 false (sym c.in-Some.ensures) refl) k)

pub comparison-returns-in_err-right-clause-run : goal.comparison-returns-in_err-right-clause-run
comparison-returns-in_err-right-clause-run t c =
    λ k. at_exit c.from_residual-in_err-right.result _ c.from_residual-in_err-right.ensures.1 _ _ _ _ (c.in_ok-left.ensures.run false k ∙ c.in_ok-at.ensures.run (behind_operand 3 false) _ (operator_reads comparison (left c.sum.new.self) c.in-Some.op 3 false (sym c.in-Some.ensures) refl) k) (c.in_err-right.ensures.run true k)

pub comparison-returns-clause-tree : goal.comparison-returns-clause-tree
comparison-returns-clause-tree t c =
    let P : tree.Expr → Type 0 = λ e. plain_expr e ≡ binary c.in_ok-at.at c.in-Some.op (plain_expr c.in_ok-left.left) (plain_expr c.in_ok-right.right) in
    let Q : tree.Expr → Type 0 = λ e. IsExpr comparison (left c.args.self.now) (plain_expr e) (left c.sum-2.new.self) in
    let d = compared c.in_ok-left.ensures.tree (operator_binary comparison _ c.in-Some.op _ _ (sym c.in-Some.ensures) c.in_ok-at.ensures.head) c.in_ok-right.ensures.tree in
    if_ok_from P Q c.binary_node.result (λ e h. as_tree (λ (x : Expr). IsExpr comparison (left c.args.self.now) x (left c.sum-2.new.self)) _ _ h d) c.binary_node.ensures.node

pub comparison-returns-clause-run : goal.comparison-returns-clause-run
comparison-returns-clause-run t c =
    λ k. made c.binary_node.result c.binary_node.ensures.memory _ _ _
    (c.in_ok-left.ensures.run false k ∙ c.in_ok-at.ensures.run (behind_operand 3 false) _ (operator_reads comparison (left c.sum.new.self) c.in-Some.op 3 false (sym c.in-Some.ensures) refl) k ∙ c.in_ok-right.ensures.run true k ∙ reach_same c.sum-2.new.self (behind_operand 3 true) (behind_operand 2 false) k (compared_loosely (left c.sum-2.new.self)))

pub factor-returns-in_default-clause-tree : goal.factor-returns-in_default-clause-tree
factor-returns-in_default-clause-tree t c =
    let P : tree.Expr → Type 0 = λ e. IsExpr atom (left c.args.self.now) (plain_expr e) (left c.atom.new.self) in
    let Q : tree.Expr → Type 0 = λ e. IsExpr factor (left c.args.self.now) (plain_expr e) (left c.atom.new.self) in
    if_ok_from P Q c.atom.result (λ e h. an_atom h) c.atom.ensures.tree

pub factor-returns-in_default-clause-run : goal.factor-returns-in_default-clause-run
factor-returns-in_default-clause-run t c =
    λ b k. handed_on c.atom.result _ _ _ _ (reach_same c.args.self.now (operand true b) (operand false b) k (no_unary (left c.args.self.now) b (sym c.in_default.ensures))) (c.atom.ensures.run b k)

pub factor-returns-in_err-operand-clause-run : goal.factor-returns-in_err-operand-clause-run
factor-returns-in_err-operand-clause-run t c =
    λ b k. at_exit c.from_residual-in_err-operand.result _ c.from_residual-in_err-operand.ensures.1 _ _ _ _ (c.in_ok-at.ensures.run (operand true b) _ (unary_reads (left c.args.self.now) c.in-Some.op b (sym c.in-Some.ensures)) k) (c.in_err-operand.ensures.run b k)

pub factor-returns-in_err-at-clause-run : goal.factor-returns-in_err-at-clause-run
factor-returns-in_err-at-clause-run t c =
    λ b k. at_exit c.from_residual.result _ c.from_residual.ensures.1 _ _ _ _ refl (c.in_err-at.ensures.run (operand true b) _ (unary_reads (left c.args.self.now) c.in-Some.op b (sym c.in-Some.ensures)) k)

pub factor-returns-clause-tree : goal.factor-returns-clause-tree
factor-returns-clause-tree t c =
    let P : tree.Expr → Type 0 = λ e. plain_expr e ≡ unary c.in_ok-at.at c.in-Some.op (plain_expr c.in_ok-operand.operand) in
    let Q : tree.Expr → Type 0 = λ e. IsExpr factor (left c.args.self.now) (plain_expr e) (left c.atom-2.new.self) in
    let d = applied (unary_before _ c.in-Some.op _ _ (sym c.in-Some.ensures) c.in_ok-at.ensures.head) c.in_ok-operand.ensures.tree in
    if_ok_from P Q c.unary_node.result (λ e h. as_tree (λ (x : Expr). IsExpr factor (left c.args.self.now) x (left c.atom-2.new.self)) _ _ h d) c.unary_node.ensures.node

pub factor-returns-clause-run : goal.factor-returns-clause-run
factor-returns-clause-run t c =
    λ b k. made c.unary_node.result c.unary_node.ensures.memory _ _ _ (c.in_ok-at.ensures.run (operand true b) _ (unary_reads (left c.args.self.now) c.in-Some.op b (sym c.in-Some.ensures)) k ∙ c.in_ok-operand.ensures.run b k)

pub atom-returns-in_err-at-clause-run : goal.atom-returns-in_err-at-clause-run
atom-returns-in_err-at-clause-run t c =
    λ b k. at_exit c.from_residual.result _ c.from_residual.ensures.1 _ _ _ _ refl (c.in_err-at.ensures.run (operand false b) _ refl k)

pub atom-returns-in_ok-at-clause-tree : goal.atom-returns-in_ok-at-clause-tree
atom-returns-in_ok-at-clause-tree t c =
    as_tree (λ (e : Expr). IsExpr atom (left c.args.self.now) e (left c.take_word.new.self)) _ _ c.truth_node.ensures (yes c.in_ok-at.ensures.tree)

pub atom-returns-in_ok-at-clause-run : goal.atom-returns-in_ok-at-clause-run
atom-returns-in_ok-at-clause-run t c =
    λ b k. c.in_ok-at.ensures.run (operand false b) _ refl k

pub atom-returns-in_err-at-2-clause-run : goal.atom-returns-in_err-at-2-clause-run
atom-returns-in_err-at-2-clause-run t c =
    λ b k. at_exit c.from_residual-in_err-at-2.result _ c.from_residual-in_err-at-2.ensures.1 _ _ _ _ (refl) (c.in_err-at-2.ensures.run (operand false b) _ refl k)

pub atom-returns-in_ok-at-2-clause-tree : goal.atom-returns-in_ok-at-2-clause-tree
atom-returns-in_ok-at-2-clause-tree t c =
    as_tree (λ (e : Expr). IsExpr atom (left c.args.self.now) e (left c.take_word-then-sees_word-2.new.self)) _ _ c.truth_node-then-sees_word-2.ensures (no c.in_ok-at-2.ensures.tree)

pub atom-returns-in_ok-at-2-clause-run : goal.atom-returns-in_ok-at-2-clause-run
atom-returns-in_ok-at-2-clause-run t c =
    λ b k. c.in_ok-at-2.ensures.run (operand false b) _ refl k

pub atom-returns-else-sees_sign-clause-run : goal.atom-returns-else-sees_sign-clause-run
atom-returns-else-sees_sign-clause-run t c =
    λ b k. stop_here c.args.self.now (operand false b) k (no_operand (left c.args.self.now) b (cc) (cc) (cc) (cc) (cc))

pub variable-returns-in_err-name-clause-run : goal.variable-returns-in_err-name-clause-run
variable-returns-in_err-name-clause-run t c =
    λ b k. at_exit c.from_residual.result _ c.from_residual.ensures.1 _ _ _ _ refl (c.in_err-name.ensures.run (operand false b) _ refl k)

pub variable-returns-then-not-sees_sign-clause-tree : goal.variable-returns-then-not-sees_sign-clause-tree
variable-returns-then-not-sees_sign-clause-tree t c =
    as_tree (λ (e : Expr). IsExpr atom (left c.args.self.now) e (left c.take_name.new.self)) _ _ c.variable_node.ensures (a_variable c.in_ok-name.ensures.tree)

pub variable-returns-then-not-sees_sign-clause-run : goal.variable-returns-then-not-sees_sign-clause-run
variable-returns-then-not-sees_sign-clause-run t c =
    λ b k. c.in_ok-name.ensures.run (operand false b) _ refl k ∙ reach_same c.take_name.new.self (behind_name b) (behind_operand 5 b) k (no_index (left c.take_name.new.self) b cc)

pub variable-returns-in_err-take_sign-clause-run : goal.variable-returns-in_err-take_sign-clause-run
variable-returns-in_err-take_sign-clause-run t c =
    λ b k. at_exit c.from_residual-in_err-take_sign.result _ c.from_residual-in_err-take_sign.ensures.1 _ _ _ _ (c.in_ok-name.ensures.run (operand false b) _ refl k) (c.in_err-take_sign.ensures.run (behind_name b) _ refl k)

pub variable-returns-in_err-index-clause-run : goal.variable-returns-in_err-index-clause-run
variable-returns-in_err-index-clause-run t c =
    λ b k. at_exit c.from_residual-in_err-index.result _ c.from_residual-in_err-index.ensures.1 _ _ _ _ (c.in_ok-name.ensures.run (operand false b) _ refl k ∙ c.in_ok-take_sign.ensures.run (behind_name b) _ refl k) (c.in_err-index.ensures.run (this_sign Sign.RightSquare ∷ behind_operand 5 b ∷ k))

pub variable-returns-in_err-expect_sign-clause-run : goal.variable-returns-in_err-expect_sign-clause-run
variable-returns-in_err-expect_sign-clause-run t c =
    λ b k. at_exit c.from_residual-in_err-expect_sign.result _ c.from_residual-in_err-expect_sign.ensures.1 _ _ _ _ (c.in_ok-name.ensures.run (operand false b) _ refl k ∙ c.in_ok-take_sign.ensures.run (behind_name b) _ refl k ∙ c.in_ok-index.ensures.run (this_sign Sign.RightSquare ∷ behind_operand 5 b ∷ k)) (c.in_err-expect_sign.ensures.run (behind_operand 5 b ∷ k))

pub variable-returns-clause-tree : goal.variable-returns-clause-tree
variable-returns-clause-tree t c =
    let P : tree.Expr → Type 0 = λ e. plain_expr e ≡ element c.in_ok-name.name.at c.in_ok-name.name.name (plain_expr c.in_ok-index.index) in
    let Q : tree.Expr → Type 0 = λ e. IsExpr atom (left c.args.self.now) (plain_expr e) (left c.expect_sign.new.self) in
    let d = an_element c.in_ok-name.ensures.tree (placed_token c.in_ok-take_sign.ensures.tree) c.in_ok-index.ensures.tree c.in_ok-expect_sign.ensures.tree in
    if_ok_from P Q c.element_node.result (λ e h. as_tree (λ (x : Expr). IsExpr atom (left c.args.self.now) x (left c.expect_sign.new.self)) _ _ h d) c.element_node.ensures.node

pub variable-returns-clause-run : goal.variable-returns-clause-run
variable-returns-clause-run t c =
    λ b k. made c.element_node.result c.element_node.ensures.memory _ _ _ (c.in_ok-name.ensures.run (operand false b) _ refl k ∙ c.in_ok-take_sign.ensures.run (behind_name b) _ refl k ∙ c.in_ok-index.ensures.run (this_sign Sign.RightSquare ∷ behind_operand 5 b ∷ k) ∙ c.in_ok-expect_sign.ensures.run (behind_operand 5 b ∷ k))

pub bracketed-returns-in_err-take_sign-clause-run : goal.bracketed-returns-in_err-take_sign-clause-run
bracketed-returns-in_err-take_sign-clause-run t c =
    λ b k. at_exit c.from_residual.result _ c.from_residual.ensures.1 _ _ _ _ refl (c.in_err-take_sign.ensures.run (operand false b) _ refl k)

pub bracketed-returns-in_err-inner-clause-run : goal.bracketed-returns-in_err-inner-clause-run
bracketed-returns-in_err-inner-clause-run t c =
    λ b k. at_exit c.from_residual-in_err-inner.result _ c.from_residual-in_err-inner.ensures.1 _ _ _ _ (c.in_ok-take_sign.ensures.run (operand false b) _ refl k) (c.in_err-inner.ensures.run (this_sign Sign.RightRound ∷ behind_operand 5 b ∷ k))

pub bracketed-returns-in_err-expect_sign-clause-run : goal.bracketed-returns-in_err-expect_sign-clause-run
bracketed-returns-in_err-expect_sign-clause-run t c =
    λ b k. at_exit c.from_residual-in_err-expect_sign.result _ c.from_residual-in_err-expect_sign.ensures.1 _ _ _ _ (c.in_ok-take_sign.ensures.run (operand false b) _ refl k ∙ c.in_ok-inner.ensures.run (this_sign Sign.RightRound ∷ behind_operand 5 b ∷ k)) (c.in_err-expect_sign.ensures.run (behind_operand 5 b ∷ k))

pub bracketed-returns-clause-tree : goal.bracketed-returns-clause-tree
bracketed-returns-clause-tree t c =
    bracketed (placed_token c.in_ok-take_sign.ensures.tree) c.in_ok-inner.ensures.tree c.in_ok-expect_sign.ensures.tree

pub bracketed-returns-clause-run : goal.bracketed-returns-clause-run
bracketed-returns-clause-run t c =
    λ b k. c.in_ok-take_sign.ensures.run (operand false b) _ refl k ∙ c.in_ok-inner.ensures.run (this_sign Sign.RightRound ∷ behind_operand 5 b ∷ k) ∙ c.in_ok-expect_sign.ensures.run (behind_operand 5 b ∷ k)
