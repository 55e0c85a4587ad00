-- The canonical tokens of an expression are those that it was read from, but for some brackets.
use Rattle.std.proofs.Common.{◌≡◌, ℕ, suc, Bool, true, false, cond, List, [], ◌∷◌, ◌++◌, Some, refl, sym, ap, subst, ◌⊎◌, inl, inr, arith}
use Rattle.std.specs.Prelude.{nat_lt}
use Rattle.std.proofs.lemmas.Bool.{ltb-false, le-ltb}
use Rattle.tcel_num.specs.declared.at.At.{At}
use Rattle.tcel_num.specs.declared.op.Op.{Op}
use Rattle.tcel_token.specs.declared.keyword.Keyword.{Keyword}
use Rattle.tcel_token.specs.declared.sign.Sign.{Sign}
use Rattle.tcel_token.specs.declared.token.TokenKind.{TokenKind}
use Rattle.tcel_token.specs.Terminal.{Terminal}
use Rattle.tcel_tree.specs.Language.{Expr, number, truth, variable, element, unary, binary}
use Rattle.tcel_grammar.specs.Expressions.{IsPlaced, IsToken, binary_of, unary_of, Level, disjunction, conjunction, comparison, sum, term, factor, atom, level_of, IsBinary, between, IsUnary, before, IsExpr, a_conjunction, disjoined, a_comparison, conjoined, a_sum, compared, a_term, added, a_factor, multiplied, an_atom, applied, a_number, yes, no, a_variable, an_element, bracketed}
use Rattle.tcel_show.specs.Canonical.{op_token, rank, left_place, right_place, enclosed, expr_tokens, whole_tokens}
use Rattle.tcel_show.proofs.Lighter.{Lightens, nothing, token_then, placed_then, then, unbracketed}
use Rattle.tcel_show.proofs.ReadExprs.{loosest}

-- ---- the token of an operator

same_op : {a b : Op} → Some a ≡ Some b → a ≡ b
same_op e = cc

binary_token : (kind : TokenKind) (op : Op) → binary_of kind ≡ Some op → kind ≡ op_token op
binary_token (TokenKind.Word Keyword.Or) op e = ap op_token (same_op e)
binary_token (TokenKind.Word Keyword.And) op e = ap op_token (same_op e)
binary_token (TokenKind.Word _) op e = cc
binary_token (TokenKind.Sign Sign.Equal) op e = ap op_token (same_op e)
binary_token (TokenKind.Sign Sign.Unequal) op e = ap op_token (same_op e)
binary_token (TokenKind.Sign Sign.Less) op e = ap op_token (same_op e)
binary_token (TokenKind.Sign Sign.LessOrEqual) op e = ap op_token (same_op e)
binary_token (TokenKind.Sign Sign.Greater) op e = ap op_token (same_op e)
binary_token (TokenKind.Sign Sign.GreaterOrEqual) op e = ap op_token (same_op e)
binary_token (TokenKind.Sign Sign.Plus) op e = ap op_token (same_op e)
binary_token (TokenKind.Sign Sign.Minus) op e = ap op_token (same_op e)
binary_token (TokenKind.Sign Sign.Star) op e = ap op_token (same_op e)
binary_token (TokenKind.Sign Sign.Slash) op e = ap op_token (same_op e)
binary_token (TokenKind.Sign Sign.Percent) op e = ap op_token (same_op e)
binary_token (TokenKind.Sign _) op e = cc
binary_token (TokenKind.Name name) op e = cc
binary_token (TokenKind.Number n) op e = cc

unary_token : (kind : TokenKind) (op : Op) → unary_of kind ≡ Some op → kind ≡ op_token op
unary_token (TokenKind.Word Keyword.Not) op e = ap op_token (same_op e)
unary_token (TokenKind.Word _) op e = cc
unary_token (TokenKind.Sign Sign.Minus) op e = ap op_token (same_op e)
unary_token (TokenKind.Sign _) op e = cc
unary_token (TokenKind.Name name) op e = cc
unary_token (TokenKind.Number n) op e = cc

-- ---- brackets

abbrev bracketed_tokens : List TokenKind → List TokenKind
bracketed_tokens ks = TokenKind.Sign Sign.LeftRound ∷ (ks ++ TokenKind.Sign Sign.RightRound ∷ [])

bare : (level place : Level) (ks : List TokenKind) → nat_lt (rank level) (rank place) ≡ false → enclosed level place ks ≡ ks
bare level place ks h = ap (λ (lower : Bool). cond lower (bracketed_tokens ks) ks) h

-- tokens are as they are where nothing is tighter, or have brackets around them
abbrev IsOneOf : List TokenKind → List TokenKind → Type 0
IsOneOf ks loose = (ks ≡ loose) ⊎ (ks ≡ bracketed_tokens loose)

one_by : (ks : List TokenKind) (lower : Bool) → IsOneOf (cond lower (bracketed_tokens ks) ks) ks
one_by ks true = inr refl
one_by ks false = inl refl

one_of : (level place : Level) (ks : List TokenKind) → IsOneOf (enclosed level place ks) (enclosed level disjunction ks)
one_of level place ks =
    subst (λ (loose : List TokenKind). IsOneOf (enclosed level place ks) loose) (sym (bare level disjunction ks (loosest level))) (one_by ks (nat_lt (rank level) (rank place)))

placed_tokens : (e : Expr) (place : Level) → IsOneOf (expr_tokens e place) (whole_tokens e)
placed_tokens (number at n) place = inl refl
placed_tokens (truth at b) place = inl refl
placed_tokens (variable at name) place = inl refl
placed_tokens (element at name i) place = inl refl
placed_tokens (unary at op e) place = one_of factor place _
placed_tokens (binary at op a b) place = one_of (level_of op) place _

-- an expression in brackets, which stay where its place takes a tighter one
in_brackets : (e : Expr) (place : Level) {ts a b rest : List Terminal} → IsToken (TokenKind.Sign Sign.LeftRound) ts a → Lightens (whole_tokens e) a b →
    IsToken (TokenKind.Sign Sign.RightRound) b rest → Lightens (expr_tokens e place) ts rest
in_brackets e place {ts} {a} {b} {rest} l inner r =
    elim (placed_tokens e place) [
      | inl same ↦ subst (λ (ks : List TokenKind). Lightens ks ts rest) (sym same) (unbracketed l inner r)
      | inr same ↦ subst (λ (ks : List TokenKind). Lightens ks ts rest) (sym same) (token_then l (then inner (token_then r nothing)))
    ]

-- ---- operators

-- an expression stands where no tighter one is taken
abbrev Fitting : Level → Expr → List Terminal → List Terminal → Type 0
Fitting level e ts rest = (place : Level) → nat_lt (rank level) (rank place) ≡ false → Lightens (expr_tokens e place) ts rest

as_tight : (level : Level) → nat_lt (rank level) (rank level) ≡ false
as_tight disjunction = refl
as_tight conjunction = refl
as_tight comparison = refl
as_tight sum = refl
as_tight term = refl
as_tight factor = refl
as_tight atom = refl

own_place : {level place : Level} → place ≡ level → nat_lt (rank level) (rank place) ≡ false
own_place {level} {place} e = subst (λ (l : Level). nat_lt (rank level) (rank l) ≡ false) (sym e) (as_tight level)

binary_fits : (left right : Expr) {level : Level} {ts a b rest : List Terminal} {at : At} {op : Op} → Fitting (left_place level) left ts a → IsBinary level a at op b →
    Fitting (right_place level) right b rest → Fitting level (binary at op left right) ts rest
binary_fits left right {level} {ts} {a} {b} {rest} {at} {op} l (between {kind} p e own) r place h =
    let xs = expr_tokens left (left_place (level_of op)) in
    let ys = expr_tokens right (right_place (level_of op)) in
    let lower = subst (λ (m : Level). nat_lt (rank m) (rank place) ≡ false) (sym own) h in
    let first = l (left_place (level_of op)) (own_place (ap left_place own)) in
    let last = r (right_place (level_of op)) (own_place (ap right_place own)) in
    let sign = subst (λ (k : TokenKind). IsPlaced k a at b) (binary_token kind op e) p in
    subst (λ (ks : List TokenKind). Lightens ks ts rest) (sym (bare (level_of op) place (xs ++ op_token op ∷ ys) lower))
    (then first (placed_then sign last))

unary_fits : (operand : Expr) {ts a rest : List Terminal} {at : At} {op : Op} → IsUnary ts at op a → Fitting atom operand a rest → Fitting factor (unary at op operand) ts rest
unary_fits operand {ts} {a} {rest} {at} {op} (before {kind} p e) h place lower =
    let sign = subst (λ (k : TokenKind). IsPlaced k ts at a) (unary_token kind op e) p in
    subst (λ (ks : List TokenKind). Lightens ks ts rest) (sym (bare factor place (op_token op ∷ expr_tokens operand atom) lower))
    (placed_then sign (h atom refl))

looser : (m n : ℕ) → nat_lt m n ≡ false → nat_lt (suc m) n ≡ false
looser m n h = let far = ltb-false m n h in le-ltb (suc m) n (omega arith)

-- what the grammar reads as an expression is no lighter than its canonical tokens
pub expr_fits : {level : Level} {ts rest : List Terminal} {e : Expr} → IsExpr level ts e rest → Fitting level e ts rest
expr_fits (a_conjunction d) place h = expr_fits d place (looser 0 (rank place) h)
expr_fits (disjoined {left = left} {right = right} l o r) place h = binary_fits left right (expr_fits l) o (expr_fits r) place h
expr_fits (a_comparison d) place h = expr_fits d place (looser 1 (rank place) h)
expr_fits (conjoined {left = left} {right = right} l o r) place h = binary_fits left right (expr_fits l) o (expr_fits r) place h
expr_fits (a_sum d) place h = expr_fits d place (looser 2 (rank place) h)
expr_fits (compared {left = left} {right = right} l o r) place h = binary_fits left right (expr_fits l) o (expr_fits r) place h
expr_fits (a_term d) place h = expr_fits d place (looser 3 (rank place) h)
expr_fits (added {left = left} {right = right} l o r) place h = binary_fits left right (expr_fits l) o (expr_fits r) place h
expr_fits (a_factor d) place h = expr_fits d place (looser 4 (rank place) h)
expr_fits (multiplied {left = left} {right = right} l o r) place h = binary_fits left right (expr_fits l) o (expr_fits r) place h
expr_fits (an_atom d) place h = expr_fits d place (looser 5 (rank place) h)
expr_fits (applied {operand = operand} o d) place h = unary_fits operand o (expr_fits d) place h
expr_fits (a_number p) place h = placed_then p nothing
expr_fits (yes p) place h = placed_then p nothing
expr_fits (no p) place h = placed_then p nothing
expr_fits (a_variable p) place h = placed_then p nothing
expr_fits (an_element n l i r) place h =
    placed_then n (token_then l (then (expr_fits i disjunction refl) (token_then r nothing)))
expr_fits (bracketed {e = e} l d r) place h = in_brackets e place l (expr_fits d disjunction refl) r
