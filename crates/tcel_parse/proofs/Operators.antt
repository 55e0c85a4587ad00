-- What the machine does at operators and operands where a parser stands.
use Rattle.std.proofs.Common.{◌≡◌, ◌==◌, ℕ, suc, Bool, true, false, cond, List, [], ◌∷◌, Option, Some, None, refl, sym, ◌∙◌, subst, nat_lt, arith, eq-eqb}
use Rattle.std.proofs.lemmas.Bool.{true≢false, ltb-true, ltb-false, lt-ltb, le-ltb}
use Rattle.std.proofs.lemmas.Option.{same_Some}
use Rattle.tcel_num.specs.declared.at.At.{At}
use Rattle.tcel_num.specs.declared.op.Op.{Op}
use Rattle.tcel_token.specs.declared.keyword.Keyword.{Keyword}
use Rattle.tcel_token.specs.declared.sign.Sign.{Sign}
use Rattle.tcel_token.specs.Terminal.{Terminal}
use Rattle.tcel_grammar.specs.Expressions.{Level, disjunction, conjunction, comparison, sum, term, factor, atom, here, IsBinary, between, IsUnary, before, IsExpr, a_number, binary_of, unary_of, level_of}
use Rattle.tcel_grammar.specs.Statements.{IsNumber, numbered}
use Rattle.tcel_tree.specs.Language.{number}
use Rattle.tcel_tree.specs.declared.placed.Placed.{Placed}
use Rattle.tcel_grammar.specs.Machine.{reads, skips, stops, first, operand, behind_operand, behind_name, goes_on, compared_after, rank, at_operator, at_name_end, at_operand, is_word, is_sign, is_name, is_numeral}
use Rattle.tcel_parse.specs.Reading.{sees, IsHead, of_level, operator_at, unary_at}

-- ---- an operator between operands

same_level : (l m : Level) → (rank l == rank m) ≡ true → l ≡ m
same_level disjunction disjunction e = refl
same_level conjunction conjunction e = refl
same_level comparison comparison e = refl
same_level sum sum e = refl
same_level term term e = refl
same_level factor factor e = refl
same_level atom atom e = refl
same_level _ _ e = cc

-- an operator of the level that is asked for
of_this_level : (level : Level) (o : Option Op) (op : Op) → of_level level o ≡ Some op → (o ≡ Some op) × (level_of op ≡ level)
of_this_level level None op e = cc
of_this_level level (Some o) op e = go (rank (level_of o) == rank level) refl e
  where
    go : (b : Bool) → (rank (level_of o) == rank level) ≡ b → cond b (Some o) None ≡ Some op → (Some o ≡ Some op) × (level_of op ≡ level)
    go true f g = let P : Op → Type 0 = λ p. level_of p ≡ level in (g, subst P (same_Some _ _ g) (same_level (level_of o) level f))
    go false f g = cc

pub operator_binary : (level : Level) (ts : List Terminal) (op : Op) (at : At) (rest : List Terminal) → operator_at level ts ≡ Some op → IsHead ts at rest → IsBinary level ts at op rest
operator_binary level ts op at rest e (kind, here) = let h = of_this_level level (binary_of kind) op e in between here h.0 h.1

pub operator_reads : (level : Level) (ts : List Terminal) (op : Op) (below : ℕ) (c : Bool) → operator_at level ts ≡ Some op → goes_on below c level ≡ true →
    first (behind_operand below c) ts ≡ reads (operand true (compared_after c level) ∷ [])
operator_reads level [] op below c e g = cc
operator_reads level (t ∷ ts) op below c e g = let h = of_this_level level (binary_of t.kind) op e in rw (h.0, h.1, g) refl

-- ---- no operator of a level

below_next : (a b : ℕ) → (a == b) ≡ false → nat_lt a (suc b) ≡ nat_lt a b
below_next a b e = go (nat_lt a b) refl
  where
    differ : a ≡ b → ⊥
    differ h = absurd (true≢false (sym (eq-eqb a b h) ∙ e))

    go : (c : Bool) → nat_lt a b ≡ c → nat_lt a (suc b) ≡ c
    go true f = let l = ltb-true a b f in lt-ltb a (suc b) (omega arith)
    go false f = let l = ltb-false a b f in le-ltb a (suc b) (omega (arith, differ))

no_operator_here : (level : Level) (c : Bool) (o : Option Op) → of_level level o ≡ None → at_operator (suc (rank level)) c o ≡ at_operator (rank level) c o
no_operator_here level c None e = refl
no_operator_here level c (Some op) e = go (rank (level_of op) == rank level) refl e
  where
    go : (b : Bool) → (rank (level_of op) == rank level) ≡ b → cond b (Some op) None ≡ None → at_operator (suc (rank level)) c (Some op) ≡ at_operator (rank level) c (Some op)
    go true f g = cc
    go false f g = rw (below_next (rank (level_of op)) (rank level) f) refl

-- without an operator of a level, those of looser levels may come
pub no_operator : (level : Level) (ts : List Terminal) (c : Bool) → operator_at level ts ≡ None → first (behind_operand (suc (rank level)) c) ts ≡ first (behind_operand (rank level) c) ts
no_operator level [] c e = refl
no_operator level (t ∷ ts) c e = no_operator_here level c (binary_of t.kind) e

none_below : (c : Bool) (o : Option Op) → at_operator 0 c o ≡ skips
none_below c None = refl
none_below c (Some op) = rw (le-ltb (rank (level_of op)) 0 (omega arith)) refl

pub no_disjunction : (ts : List Terminal) (c : Bool) → operator_at disjunction ts ≡ None → first (behind_operand 1 c) ts ≡ skips
no_disjunction [] c e = refl
no_disjunction (t ∷ ts) c e = no_operator_here disjunction c (binary_of t.kind) e ∙ none_below c (binary_of t.kind)

compared_once : (level : Level) (op : Op) → level_of op ≡ level → at_operator 3 true (Some op) ≡ at_operator 2 false (Some op)
compared_once disjunction op e = rw e refl
compared_once conjunction op e = rw e refl
compared_once comparison op e = rw e refl
compared_once sum op e = rw e refl
compared_once term op e = rw e refl
compared_once factor op e = rw e refl
compared_once atom op e = rw e refl

at_compared : (o : Option Op) → at_operator 3 true o ≡ at_operator 2 false o
at_compared None = refl
at_compared (Some op) = compared_once (level_of op) op refl

-- behind a comparison the looser operators may come
pub compared_loosely : (ts : List Terminal) → first (behind_operand 3 true) ts ≡ first (behind_operand 2 false) ts
compared_loosely [] = refl
compared_loosely (t ∷ ts) = at_compared (binary_of t.kind)

-- ---- operands

pub unary_reads : (ts : List Terminal) (op : Op) (c : Bool) → unary_at ts ≡ Some op → first (operand true c) ts ≡ reads (operand false c ∷ [])
unary_reads [] op c e = cc
unary_reads (t ∷ ts) op c e = rw e refl

pub no_unary : (ts : List Terminal) (c : Bool) → unary_at ts ≡ None → first (operand true c) ts ≡ first (operand false c) ts
no_unary [] c e = refl
no_unary (t ∷ ts) c e = rw e refl

pub unary_before : (ts : List Terminal) (op : Op) (at : At) (rest : List Terminal) → unary_at ts ≡ Some op → IsHead ts at rest → IsUnary ts at op rest
unary_before ts op at rest e (kind, here) = before here e

-- behind a name without an index
pub no_index : (ts : List Terminal) (c : Bool) → sees (is_sign Sign.LeftSquare) ts ≡ false → first (behind_name c) ts ≡ first (behind_operand 5 c) ts
no_index [] c e = refl
no_index (t ∷ ts) c e = go (binary_of t.kind)
  where
    go : (o : Option Op) → at_name_end c (is_sign Sign.LeftSquare t.kind) o ≡ at_operator 5 c o
    go None = rw e refl
    go (Some op) = refl

-- no operand
pub no_operand : (ts : List Terminal) (c : Bool) → sees is_numeral ts ≡ false → sees is_name ts ≡ false → sees (is_word Keyword.True) ts ≡ false → sees (is_word Keyword.False) ts ≡ false →
    sees (is_sign Sign.LeftRound) ts ≡ false → first (operand false c) ts ≡ stops
no_operand [] c e f g h i = refl
no_operand (t ∷ ts) c e f g h i = go (unary_of t.kind)
  where
    go : (o : Option Op) → at_operand false c o t.kind ≡ stops
    go None = rw (e, f, g, h, i) refl
    go (Some op) = refl

-- ---- atoms

pub number_atom : {ts rest : List Terminal} {n : Placed} → IsNumber ts n rest → IsExpr atom ts (number n.at n.value) rest
number_atom (numbered d) = a_number d
