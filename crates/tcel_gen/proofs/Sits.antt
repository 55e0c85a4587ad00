-- Statements of a checked task fit the stack, the ports and the fields of an image, also over other numbers.
use Rattle.std.proofs.Common.{◌≡◌, ℕ, ◌+◌, ◌<◌, ◌≤◌, ℤ, List, length, Option, None, Some, sym, subst, arith, inl, inr}
use Rattle.std.specs.Prelude.{FitsSigned, IfSome}
use Rattle.std.specs.Int.{w64, IsInRange}
use Rattle.tcel_core.specs.declared.var.Var.{Var}
use Rattle.tcel_core.specs.Cells.{width}
use Rattle.tcel_core.specs.Language.{Expr, number, variable, element, unary, binary, Window, Block, done, next, joined, Stmt, item, choice, timed, Act, assign, assign_at, receive, send, for_loop, while_loop, copy}
use Rattle.tcel_core.specs.Limits.{ActIsWithinBounds, IsCount, IsTime, IsWithinBounds, StmtIsWithinBounds, operators}
use Rattle.tcel_core.specs.Parts.{renamed_act, renamed_block, renamed_expr, renamed_stmt}
use Rattle.tcel_core.specs.Scope.{ActFits, AreTurns, Fits, HasWord, HaveOperands, IsInScope, IsSound, StmtFits}
use Rattle.tcel_core.specs.Typing.{ActIsTyped, HasType, IsNumberOf, IsScalar, IsTyped, StmtIsTyped, ValueType, bool, int, operand_type}
use Rattle.tcel_core.proofs.Scope.{array_within}
use Rattle.tcel_image.specs.Spelling.{IsLength}
use Rattle.tcel_parts.proofs.Alike.{IsRenaming, array_there, scalar_there}
use Rattle.tcel_code.specs.Compilable.{ActIsWithin, IsWithin, StmtIsWithin, height}
use Rattle.tcel_code.specs.Spellable.{ActNumbersFit, ExprFits, NumbersFit, StmtNumbersFit}

-- ---- what is asked of statements

pub record ExprSits (vars : List Var) (e : Expr) : Type 0 where
  pub sound : IsSound vars e
  pub low : height e ≤ 65
  pub numbers : ExprFits e vars

pub record ActSits (vars : List Var) (ins outs : ℕ) (act : Act) : Type 0 where
  pub fits : ActFits act vars
  pub within : ActIsWithin act ins outs
  pub numbers : ActNumbersFit act vars

pub record StmtSits (vars : List Var) (ins outs : ℕ) (s : Stmt) : Type 0 where
  pub fits : StmtFits s vars
  pub within : StmtIsWithin s ins outs
  pub numbers : StmtNumbersFit s vars

pub record Sits (vars : List Var) (ins outs : ℕ) (b : Block) : Type 0 where
  pub fits : Fits b vars
  pub within : IsWithin b ins outs
  pub numbers : NumbersFit b vars

-- ---- one after another

module _ (vars : List Var) (ins outs : ℕ) where
  pub sits_done : Sits vars ins outs done
  sits_done = record { fits = tt; within = tt; numbers = tt }

  pub sits_next : (s : Stmt) (b : Block) → StmtSits vars ins outs s → Sits vars ins outs b → Sits vars ins outs (next s b)
  sits_next s b h g = record { fits = (h.fits, g.fits); within = (h.within, g.within); numbers = (h.numbers, g.numbers) }

  pub sits_item : (id : ℕ) (act : Act) → ActSits vars ins outs act → StmtSits vars ins outs (item id act)
  sits_item id act h = record { fits = h.fits; within = h.within; numbers = h.numbers }

  pub sits_choice : (id : ℕ) (test : Expr) (held other : Block) → ExprSits vars test → Sits vars ins outs held → Sits vars ins outs other → StmtSits vars ins outs (choice id test held other)
  sits_choice id test held other h g k =
      let low = h.low in
      record { fits = (h.sound, g.fits, k.fits); within = (omega arith, g.within, k.within); numbers = (h.numbers, g.numbers, k.numbers) }

  pub sits_timed : (id : ℕ) (window : Window) (body : Block) → IfSome window.after IsTime → Sits vars ins outs body → StmtSits vars ins outs (timed id window body)
  sits_timed id window body h g = record { fits = g.fits; within = g.within; numbers = (in_range window.after h, g.numbers) }
    where
      in_range : (after : Option ℕ) → IfSome after IsTime → IfSome after (IsInRange 1 1000000000)
      in_range None t = tt
      in_range (Some n) t = let some = t.some in let most = t.most in (omega arith, omega arith)

  pub sits_joined : (a b : Block) → Sits vars ins outs a → Sits vars ins outs b → Sits vars ins outs (joined a b)
  sits_joined done b h g = g
  sits_joined (next s rest) b h g =
      let r = sits_joined rest b (record { fits = h.fits.1; within = h.within.1; numbers = h.numbers.1 }) g in
      record { fits = (h.fits.0, r.fits); within = (h.within.0, r.within); numbers = (h.numbers.0, r.numbers) }

  pub sits_copy : (a b : ℕ) → IsLength (width vars a) → width vars a ≡ width vars b → ActSits vars ins outs (copy a b)
  sits_copy a b long same = let some = long.0 in record { fits = record { same = same; some = omega arith }; within = tt; numbers = long }

  pub sits_variable : (v : ℕ) → 0 < width vars v → ExprSits vars (variable v)
  sits_variable v some =
      let within = array_within vars v in
      record { sound = record { operands = tt; scope = omega arith }; low = omega arith; numbers = tt }

  pub sits_assign : (v : ℕ) (e : Expr) → 0 < width vars v → ExprSits vars e → ActSits vars ins outs (assign v e)
  sits_assign v e some h =
      let within = array_within vars v in
      let low = h.low in
      record { fits = (omega arith, h.sound); within = omega arith; numbers = h.numbers }

-- ---- over other numbers

pub number_fits : (type : ValueType) (n : ℤ) → IsNumberOf type n → FitsSigned w64 n
number_fits int n h = h
number_fits bool n (inl e) = subst (FitsSigned w64) (sym e) (record { sfits = omega arith })
number_fits bool n (inr e) = subst (FitsSigned w64) (sym e) (record { sfits = omega arith })

are_turns : (n : ℕ) → IsCount n → AreTurns n
are_turns n h = let some = h.some in let most = h.most in record { some = omega arith; countable = omega arith }

is_length : (n : ℕ) → IsCount n → IsLength n
is_length n h = (h.some, h.most)

module _ (vars vars' : List Var) (f : ℕ → ℕ) (renames : IsRenaming vars vars' f) (sized : (v : ℕ) → v < length vars → IsLength (width vars v)) where
  own_length : (v : ℕ) → v < length vars → IsLength (width vars' (f v))
  own_length v h = subst IsLength (renames.wide v h) (sized v h)

  scalar_word : (v : ℕ) (type : ValueType) → IsScalar vars v type → HasWord vars' (f v)
  scalar_word v type h =
      let some = (own_length v (scalar_there vars v type h)).0 in
      let within = array_within vars' (f v) in
      omega arith

  operands : (e : Expr) (type : ValueType) → HasType vars e type → HaveOperands (renamed_expr f e)
  operands (number n) type h = tt
  operands (variable v) type h = tt
  operands (element v i) type h = operands i int h.2
  operands (unary op e) type h = (h.0, operands e (operand_type op) h.2)
  operands (binary op a b) type h = (h.0, operands a (operand_type op) h.2, operands b (operand_type op) h.3)

  scope : (e : Expr) (type : ValueType) → HasType vars e type → IsInScope vars' (renamed_expr f e)
  scope (number n) type h = tt
  scope (variable v) type h = scalar_word v type h
  scope (element v i) type h = scope i int h.2
  scope (unary op e) type h = scope e (operand_type op) h.2
  scope (binary op a b) type h = (scope a (operand_type op) h.2, scope b (operand_type op) h.3)

  low : (e : Expr) → height (renamed_expr f e) ≤ 1 + operators e
  low (number n) = omega arith
  low (variable v) = omega arith
  low (element v i) = low i
  low (unary op e) = omega (arith, low e)
  low (binary op a b) = omega (arith, low a, low b)

  numbers : (e : Expr) (type : ValueType) → HasType vars e type → ExprFits (renamed_expr f e) vars'
  numbers (number n) type h = number_fits type n h
  numbers (variable v) type h = tt
  numbers (element v i) type h = (own_length v (array_there vars v h.1), numbers i int h.2)
  numbers (unary op e) type h = numbers e (operand_type op) h.2
  numbers (binary op a b) type h = (numbers a (operand_type op) h.2, numbers b (operand_type op) h.3)

  pub expr_sits : (e : Expr) (type : ValueType) → HasType vars e type → operators e ≤ 64 → ExprSits vars' (renamed_expr f e)
  expr_sits e type h few =
      record { sound = record { operands = operands e type h; scope = scope e type h }; low = omega (arith, low e); numbers = numbers e type h }

  module _ (ins outs : ℕ) where
    mutual
      block_sits : (b : Block) → IsTyped (record { vars = vars; inputs = ins; outputs = outs }) b → IsWithinBounds b → Sits vars' ins outs (renamed_block f b)
      block_sits done h k = sits_done vars' ins outs
      block_sits (next t rest) h k = sits_next vars' ins outs (renamed_stmt f t) (renamed_block f rest) (stmt_sits t h.0 k.0) (block_sits rest h.1 k.1)

      stmt_sits : (t : Stmt) → StmtIsTyped (record { vars = vars; inputs = ins; outputs = outs }) t → StmtIsWithinBounds t → StmtSits vars' ins outs (renamed_stmt f t)
      stmt_sits (item id act) h k = sits_item vars' ins outs id (renamed_act f act) (act_sits act h k)
      stmt_sits (choice id test held other) h k =
          sits_choice vars' ins outs id (renamed_expr f test) (renamed_block f held) (renamed_block f other) (expr_sits test bool h.0 k.0) (block_sits held h.1 k.1) (block_sits other h.2 k.2)
      stmt_sits (timed id window body) h k = sits_timed vars' ins outs id window (renamed_block f body) k.0.0 (block_sits body h k.1)

      pub act_sits : (act : Act) → ActIsTyped (record { vars = vars; inputs = ins; outputs = outs }) act → ActIsWithinBounds act → ActSits vars' ins outs (renamed_act f act)
      act_sits (assign v e) h k =
          let value = expr_sits e h.0 h.2 k in
          let few = value.low in
          record { fits = (scalar_word v h.0 h.1, value.sound); within = omega arith; numbers = value.numbers }
      act_sits (assign_at v i e) h k =
          let index = expr_sits i int h.1 k.0 in
          let value = expr_sits e int h.2 k.1 in
          let few = index.low in
          let few_more = value.low in
          record {
            fits = (index.sound, value.sound);
            within = (omega arith, omega arith);
            numbers = (own_length v (array_there vars v h.0), index.numbers, value.numbers);
          }
      act_sits (receive v port) h k = record { fits = scalar_word v int h.0; within = h.1; numbers = tt }
      act_sits (send e port) h k =
          let value = expr_sits e int h.0 k in
          let few = value.low in
          record { fits = value.sound; within = (omega arith, h.1); numbers = value.numbers }
      act_sits (for_loop v n body) h k =
          let inner = block_sits body h.1 k.1 in
          record { fits = (scalar_word v int h.0, are_turns n k.0, inner.fits); within = inner.within; numbers = (is_length n k.0, inner.numbers) }
      act_sits (while_loop test n body) h k =
          let tested = expr_sits test bool h.0 k.0 in
          let few = tested.low in
          let inner = block_sits body h.1 k.2 in
          record {
            fits = (tested.sound, are_turns n k.1, inner.fits);
            within = (omega arith, inner.within);
            numbers = (tested.numbers, is_length n k.1, inner.numbers);
          }
      act_sits (copy from to) h k = absurd h
