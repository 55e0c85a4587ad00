-- Expressions are seen piece by piece.
use Rattle.std.proofs.Common.{◌≡◌, ℕ, ℤ, List, [], ◌∷◌, Bool, Option, Some, ap}
use Rattle.tcel_num.specs.declared.op.Op.{Op}
use Rattle.tcel_core.specs.Typing.{operand_type, result_type}
use Rattle.tcel_tree.specs.declared.expr.Expr as tree
use Rattle.tcel_tree.specs.declared.expr.ExprKind.TheVariants.{Number, Truth, Var, Index, Unary, Binary}
use Rattle.tcel_tree.specs.declared.task.DeclKind.{DeclKind}
use Rattle.tcel_tree.specs.Language.{Expr}
use Rattle.tcel_tree.specs.Plain.{plain_expr}
use Rattle.tcel_check.specs.declared.purpose.Purpose.TheVariants.{Scalar, Element}
use Rattle.tcel_check.specs.declared.value_type.ValueType.{ValueType}
use Rattle.tcel_check.specs.declared.walk.Walk.{Walk}
use Rattle.tcel_check.specs.Sights.{expr_sights, node, literal, value, name}
use Rattle.tcel_check.specs.Types.{named}
use Rattle.tcel_check.specs.Walks.{Saw}
use Rattle.tcel_tree.proofs.Forms.{number_form, truth_form, variable_form, element_form, unary_form, binary_form}
use Rattle.tcel_check.proofs.Walking.{saw_cons, saw_then, saw_same}

-- an expression, and what is wanted there; an operand is read out of its box
module _ (kind : List ℕ → Option DeclKind) (e : tree.Expr) (wanted : Option ValueType) where
  in_form : {a b : Walk} {plain : Expr} → plain_expr e ≡ plain → Saw kind a b (expr_sights plain wanted) → Saw kind a b (expr_sights (plain_expr e) wanted)
  in_form form p = saw_same (ap (λ (x : Expr). expr_sights x wanted) form) p

  pub see_number : (n : ℤ) {a b c : Walk} → e.what ≡ Number n →
      Saw kind a b (node e.at ∷ []) → Saw kind b c (literal e.at n wanted ∷ []) → Saw kind a c (expr_sights (plain_expr e) wanted)
  see_number n is p q = in_form (number_form e n is) (saw_cons p q)

  pub see_truth : (t : Bool) {a b c : Walk} → e.what ≡ Truth t →
      Saw kind a b (node e.at ∷ []) → Saw kind b c (value e.at ValueType.Bool wanted ∷ []) → Saw kind a c (expr_sights (plain_expr e) wanted)
  see_truth t is p q = in_form (truth_form e t is) (saw_cons p q)

  pub see_variable : (x : List ℕ) {a b c : Walk} → e.what ≡ Var x →
      Saw kind a b (node e.at ∷ []) → Saw kind b c (name e.at x (Scalar wanted) ∷ []) → Saw kind a c (expr_sights (plain_expr e) wanted)
  see_variable x is p q = in_form (variable_form e x is) (saw_cons p q)

  pub see_element : (x : List ℕ) (i : tree.Expr) {inner : tree.Expr} {a b c d f : Walk} → e.what ≡ Index x i → inner ≡ i →
      Saw kind a b (node e.at ∷ []) → Saw kind b c (name e.at x Element ∷ []) → Saw kind c d (value e.at ValueType.Int wanted ∷ []) →
      Saw kind d f (expr_sights (plain_expr inner) (Some ValueType.Int)) → Saw kind a f (expr_sights (plain_expr e) wanted)
  see_element x i is same p q r s = in_form (element_form e x i is) (saw_cons p (saw_cons q (saw_cons r (rw same at s))))

  pub see_unary : (op : Op) (x : tree.Expr) {inner : tree.Expr} {given operand : ValueType} {a b c d : Walk} → e.what ≡ Unary op x → inner ≡ x →
      given ≡ named (result_type op) → operand ≡ named (operand_type op) →
      Saw kind a b (node e.at ∷ []) → Saw kind b c (value e.at given wanted ∷ []) →
      Saw kind c d (expr_sights (plain_expr inner) (Some operand)) → Saw kind a d (expr_sights (plain_expr e) wanted)
  see_unary op x is same gives takes p q r =
      in_form (unary_form e op x is) (saw_cons p (saw_cons (rw gives at q) (rw (same, takes) at r)))

  pub see_binary : (op : Op) (x y : tree.Expr) {left right : tree.Expr} {given operand : ValueType} {a b c d f : Walk} →
      e.what ≡ Binary op x y → left ≡ x → right ≡ y → given ≡ named (result_type op) → operand ≡ named (operand_type op) →
      Saw kind a b (expr_sights (plain_expr left) (Some operand)) → Saw kind b c (node e.at ∷ []) → Saw kind c d (value e.at given wanted ∷ []) →
      Saw kind d f (expr_sights (plain_expr right) (Some operand)) → Saw kind a f (expr_sights (plain_expr e) wanted)
  see_binary op x y is first second gives takes p q r s =
      in_form (binary_form e op x y is)
      (saw_then (rw (first, takes) at p) (saw_cons q (saw_cons (rw gives at r) (rw (second, takes) at s))))
