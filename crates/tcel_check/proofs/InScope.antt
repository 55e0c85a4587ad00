-- Sound tasks are in scope for the sets' theorem.
use Rattle.std.proofs.Common.{◌≡◌, ℕ, zero, suc, ◌+◌, ◌<◌, ◌≤◌, List, [], ◌∷◌, Option, Some, None, refl, ap, arith, slice_get}
use Rattle.tcel_core.specs.declared.var.Var.{Var}
use Rattle.tcel_core.specs.declared.var.VarKind.{VarKind}
use Rattle.tcel_core.specs.Cells.{all_words, place, words_of}
use Rattle.tcel_core.specs.Language.{Expr, number, variable, element, unary, binary, Block, done, next, Stmt, item, choice, timed, Act, assign, assign_at, receive, send, for_loop, while_loop, copy}
use Rattle.tcel_core.specs.Limits.{operators, IsCount, IsWithinBounds, StmtIsWithinBounds, ActIsWithinBounds}
use Rattle.tcel_core.specs.Scope.{ActFits, AreTurns, Fits, HasWord, HaveOperands, IsInScope, IsSound, StmtFits}
use Rattle.tcel_core.specs.Typing.{ActIsTyped, HasType, IsScalar, IsTyped, Names, StmtIsTyped, ValueType, scalar_type}
use Rattle.tcel_check.specs.Soundness.{FewWords, sound_tasks_are_in_scope, stack_words}

one_word : (kind : VarKind) (type : ValueType) → scalar_type kind ≡ Some type → words_of kind ≡ 1
one_word VarKind.Int type h = refl
one_word VarKind.Bool type h = refl
one_word (VarKind.Array n) type h = cc

var_has_word : (vars : List Var) (v : ℕ) (x : Var) → slice_get vars v ≡ Some x → words_of x.kind ≡ 1 → place vars v < all_words vars
var_has_word [] v x h one = cc
var_has_word (y ∷ vars) zero x h one = let same : words_of y.kind ≡ words_of x.kind = ap (λ (o : Option Var). words_in o) h in omega arith
  where
    words_in : Option Var → ℕ
    words_in None = 0
    words_in (Some w) = words_of w.kind
var_has_word (y ∷ vars) (suc v) x h one = let rest = var_has_word vars v x h one in omega arith

scalar_in_scope : (vars : List Var) (v : ℕ) (type : ValueType) → IsScalar vars v type → HasWord vars v
scalar_in_scope vars v type h = var_has_word vars v h.0 h.1 (one_word (h.0).kind type h.2)

expr_in_scope : (e : Expr) (vars : List Var) (type : ValueType) → HasType vars e type → IsInScope vars e
expr_in_scope (number n) vars type h = tt
expr_in_scope (variable v) vars type h = scalar_in_scope vars v type h
expr_in_scope (element v i) vars type h = expr_in_scope i vars _ h.2
expr_in_scope (unary op e) vars type h = expr_in_scope e vars _ h.2
expr_in_scope (binary op a b) vars type h = (expr_in_scope a vars _ h.2, expr_in_scope b vars _ h.3)

expr_operands : (e : Expr) (vars : List Var) (type : ValueType) → HasType vars e type → HaveOperands e
expr_operands (number n) vars type h = tt
expr_operands (variable v) vars type h = tt
expr_operands (element v i) vars type h = expr_operands i vars _ h.2
expr_operands (unary op e) vars type h = (h.0, expr_operands e vars _ h.2)
expr_operands (binary op a b) vars type h = (h.0, expr_operands a vars _ h.2, expr_operands b vars _ h.3)

expr_sound : (e : Expr) (vars : List Var) (type : ValueType) → HasType vars e type → IsSound vars e
expr_sound e vars type h = record { operands = expr_operands e vars type h; scope = expr_in_scope e vars type h }

are_turns : (n : ℕ) → IsCount n → AreTurns n
are_turns n h = let some = h.some in let most = h.most in record { some = omega arith; countable = omega arith }

mutual
  block_fits : (b : Block) (names : Names) → IsTyped names b → IsWithinBounds b → Fits b names.vars
  block_fits done names h k = tt
  block_fits (next s rest) names h k = (stmt_fits s names h.0 k.0, block_fits rest names h.1 k.1)

  stmt_fits : (s : Stmt) (names : Names) → StmtIsTyped names s → StmtIsWithinBounds s → StmtFits s names.vars
  stmt_fits (item id act) names h k = act_fits act names h k
  stmt_fits (choice id test held other) names h k = (expr_sound test names.vars _ h.0, block_fits held names h.1 k.1, block_fits other names h.2 k.2)
  stmt_fits (timed id window body) names h k = block_fits body names h k.1

  act_fits : (act : Act) (names : Names) → ActIsTyped names act → ActIsWithinBounds act → ActFits act names.vars
  act_fits (assign v e) names h k = (scalar_in_scope names.vars v h.0 h.1, expr_sound e names.vars h.0 h.2)
  act_fits (assign_at v i e) names h k = (expr_sound i names.vars _ h.1, expr_sound e names.vars _ h.2)
  act_fits (receive v port) names h k = scalar_in_scope names.vars v _ h.0
  act_fits (send e port) names h k = expr_sound e names.vars _ h.0
  act_fits (for_loop v n body) names h k = (scalar_in_scope names.vars v _ h.0, are_turns n k.0, block_fits body names h.1 k.1)
  act_fits (while_loop test n body) names h k = (expr_sound test names.vars _ h.0, are_turns n k.1, block_fits body names h.1 k.2)
  act_fits (copy from to) names h k = elim h [ ]

pub tasks_in_scope : sound_tasks_are_in_scope
tasks_in_scope task sound =
    let some = sound.period.some in
    record { period = omega arith; body = block_fits task.body _ sound.body.typed sound.body.bounded; loops = sound.body.untimed }

few_words : (e : Expr) → stack_words e ≤ 1 + operators e
few_words (number n) = omega arith
few_words (variable v) = omega arith
few_words (element v i) = few_words i
few_words (unary op e) = let rest = few_words e in omega arith
few_words (binary op a b) = let left = few_words a in let right = few_words b in omega arith

pub words_are_few : FewWords
words_are_few = record {
  expr = λ e few. let most = few_words e in omega arith;
  assignment = λ v i e few. let left = few_words i in let right = few_words e in let first = few.0 in let second = few.1 in omega arith;
}
