use Rattle.std.proofs.Common.{◌≡◌, ◌∷◌, Bool, true, false, ◌+◌, ◌*◌, length, List}
use Rattle.tcel_grammar.specs.Expressions.{IsExpr, disjunction, conjunction, sum, term}
use Rattle.tcel_grammar.specs.Machine.{Symbol, operand, behind_operand, expr}
use Rattle.tcel_tree.specs.Plain.{plain_expr}
use Rattle.tcel_parse.specs.Reading.{left, reach, GoesOn}
use Rattle.tcel_parse.proofs.parser.Parser.+expr.Given as goal

abbrev pub decreases-expr : goal.decreases-expr
decreases-expr l = 8 * length l.self.now.rest.now + 7

abbrev pub decreases-conjunction : goal.decreases-conjunction
decreases-conjunction l = 8 * length l.self.now.rest.now + 6

abbrev pub decreases-comparison : goal.decreases-comparison
decreases-comparison l = 8 * length l.self.now.rest.now + 5

abbrev pub decreases-sum : goal.decreases-sum
decreases-sum l = 8 * length l.self.now.rest.now + 4

abbrev pub decreases-term : goal.decreases-term
decreases-term l = 8 * length l.self.now.rest.now + 3

abbrev pub decreases-factor : goal.decreases-factor
decreases-factor l = 8 * length l.self.now.rest.now + 2

abbrev pub decreases-atom : goal.decreases-atom
decreases-atom l = 8 * length l.self.now.rest.now + 1

abbrev pub decreases-variable : goal.decreases-variable
decreases-variable l = 8 * length l.self.now.rest.now

abbrev pub decreases-bracketed : goal.decreases-bracketed
decreases-bracketed l = 8 * length l.self.now.rest.now

abbrev pub invariant-expr-loop-op : goal.invariant-expr-loop-op
invariant-expr-loop-op l = record {
  tree : IsExpr disjunction (left l.fn.self) (plain_expr l.left) (left l.self);
  run : (k : List Symbol) → reach (expr ∷ k) l.fn.self ≡ reach (behind_operand 1 false ∷ k) l.self;
  onward : GoesOn l.fn.self l.self;
}

abbrev pub decreases-expr-loop-op : goal.decreases-expr-loop-op
decreases-expr-loop-op l = length l.self.rest.now

abbrev pub invariant-conjunction-loop-op : goal.invariant-conjunction-loop-op
invariant-conjunction-loop-op l = record {
  tree : IsExpr conjunction (left l.fn.self) (plain_expr l.left) (left l.self);
  run : (k : List Symbol) → reach (expr ∷ k) l.fn.self ≡ reach (behind_operand 2 false ∷ k) l.self;
  onward : GoesOn l.fn.self l.self;
}

abbrev pub decreases-conjunction-loop-op : goal.decreases-conjunction-loop-op
decreases-conjunction-loop-op l = length l.self.rest.now

abbrev pub invariant-sum-loop-op : goal.invariant-sum-loop-op
invariant-sum-loop-op l = record {
  tree : IsExpr sum (left l.fn.self) (plain_expr l.left) (left l.self);
  run : (c : Bool) (k : List Symbol) → reach (operand true c ∷ k) l.fn.self ≡ reach (behind_operand 4 c ∷ k) l.self;
  onward : GoesOn l.fn.self l.self;
}

abbrev pub decreases-sum-loop-op : goal.decreases-sum-loop-op
decreases-sum-loop-op l = length l.self.rest.now

abbrev pub invariant-term-loop-op : goal.invariant-term-loop-op
invariant-term-loop-op l = record {
  tree : IsExpr term (left l.fn.self) (plain_expr l.left) (left l.self);
  run : (c : Bool) (k : List Symbol) → reach (operand true c ∷ k) l.fn.self ≡ reach (behind_operand 5 c ∷ k) l.self;
  onward : GoesOn l.fn.self l.self;
}

abbrev pub decreases-term-loop-op : goal.decreases-term-loop-op
decreases-term-loop-op l = length l.self.rest.now
