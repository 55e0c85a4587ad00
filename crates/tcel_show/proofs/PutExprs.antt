-- Expressions are put piece by piece.
use Rattle.std.proofs.Common.{◌≡◌, ℕ, List, [], ◌∷◌, Bool, cond, Result, ap}
use Rattle.std.specs.Prelude.{OnOk, nat_lt}
use Rattle.tcel_num.specs.declared.memory.NoMemory.{NoMemory}
use Rattle.tcel_num.specs.declared.op.Op.{Op}
use Rattle.tcel_token.specs.declared.sign.Sign.{Sign}
use Rattle.tcel_token.specs.declared.token.TokenKind.{TokenKind}
use Rattle.tcel_tree.specs.declared.expr.Expr as tree
use Rattle.tcel_tree.specs.declared.expr.ExprKind.TheVariants.{Index, Unary, Binary}
use Rattle.tcel_tree.specs.Language.{Expr}
use Rattle.tcel_tree.specs.Plain.{plain_expr}
use Rattle.tcel_grammar.specs.Expressions.{Level, disjunction, factor, atom, level_of}
use Rattle.tcel_show.specs.declared.writer.Writer.{Writer}
use Rattle.tcel_show.specs.Canonical.{expr_tokens, left_place, right_place, rank, op_token}
use Rattle.tcel_show.specs.Puts.{Puts}
use Rattle.tcel_tree.proofs.Forms.{element_form, unary_form, binary_form}
use Rattle.tcel_show.proofs.Putting.{puts_cons, puts_then, puts_same, puts_enclosed, if_put}

-- an expression and the level that its place takes; an operand is read out of its box
module _ (e : tree.Expr) (place : Level) where
  in_form : {a b : Writer} {plain : Expr} → plain_expr e ≡ plain → Puts a b (expr_tokens plain place) → Puts a b (expr_tokens (plain_expr e) place)
  in_form form p = puts_same (ap (λ (x : Expr). expr_tokens x place) form) p

  pub put_element : (name : List ℕ) (i : tree.Expr) {inner : tree.Expr} {a b c d : Writer} (f : Writer) (result : Result (Unit {0}) NoMemory) →
      e.what ≡ Index name i → inner ≡ i →
      Puts a b (TokenKind.Name name ∷ []) → Puts b c (TokenKind.Sign Sign.LeftSquare ∷ []) → Puts c d (expr_tokens (plain_expr inner) disjunction) →
      OnOk result (Puts d f (TokenKind.Sign Sign.RightSquare ∷ [])) → OnOk result (Puts a f (expr_tokens (plain_expr e) place))
  put_element name i f result is same p q s last =
      if_put result (λ t. in_form (element_form e name i is) (puts_cons p (puts_cons q (puts_then (rw same at s) t)))) last

  pub put_unary : (op : Op) (x : tree.Expr) {inner : tree.Expr} {a b c d : Writer} (f : Writer) (result : Result (Unit {0}) NoMemory) →
      e.what ≡ Unary op x → inner ≡ x → (is : Bool) → is ≡ nat_lt (rank factor) (rank place) →
      Puts a b (cond is (TokenKind.Sign Sign.LeftRound ∷ []) []) → Puts b c (op_token op ∷ []) → Puts c d (expr_tokens (plain_expr inner) atom) →
      OnOk result (Puts d f (cond is (TokenKind.Sign Sign.RightRound ∷ []) [])) → OnOk result (Puts a f (expr_tokens (plain_expr e) place))
  put_unary op x f result form same is low p q s last =
      if_put result
      (λ t.
      in_form (unary_form e op x form)
      (puts_enclosed (nat_lt (rank factor) (rank place)) (TokenKind.Sign Sign.LeftRound) (TokenKind.Sign Sign.RightRound) (rw low at p)
      (puts_cons q (rw same at s)) (rw low at t)))
      last

  pub put_binary : (op : Op) (x y : tree.Expr) (level : Level) {l r : Level} {inner other : tree.Expr} {a b c d f : Writer} (g : Writer)
      (result : Result (Unit {0}) NoMemory) →
      e.what ≡ Binary op x y → inner ≡ x → other ≡ y → level ≡ level_of op → l ≡ left_place level → r ≡ right_place level →
      (is : Bool) → is ≡ nat_lt (rank level) (rank place) →
      Puts a b (cond is (TokenKind.Sign Sign.LeftRound ∷ []) []) → Puts b c (expr_tokens (plain_expr inner) l) →
      Puts c d (op_token op ∷ []) → Puts d f (expr_tokens (plain_expr other) r) →
      OnOk result (Puts f g (cond is (TokenKind.Sign Sign.RightRound ∷ []) [])) → OnOk result (Puts a g (expr_tokens (plain_expr e) place))
  put_binary op x y level g result form first second own left right is low p q s u last =
      if_put result
      (λ t.
      in_form (binary_form e op x y form)
      (puts_enclosed (nat_lt (rank (level_of op)) (rank place)) (TokenKind.Sign Sign.LeftRound) (TokenKind.Sign Sign.RightRound) (rw (low, own) at p)
      (puts_then (rw (first, left, own) at q) (puts_cons s (rw (second, right, own) at u))) (rw (low, own) at t)))
      last
