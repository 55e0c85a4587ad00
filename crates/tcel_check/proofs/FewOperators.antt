-- An expression of an accepted text has at most 64 operators, each with its operands.
use Rattle.std.proofs.Common.{◌≡◌, ℕ, ◌+◌, ◌≤◌, Bool, true, false, cond, List, [], ◌∷◌, ◌++◌, Some, refl, sym, ◌∙◌, arith}
use Rattle.std.proofs.lemmas.List.{append_assoc}
use Rattle.tcel_num.specs.Arithmetic.{is_unary}
use Rattle.tcel_num.specs.declared.at.At.{At}
use Rattle.tcel_num.specs.declared.op.Op.{Op}
use Rattle.tcel_check.specs.Answers.{HaveOperands, IsFitExpr}
use Rattle.tcel_check.specs.Answers.{operators as operators_of}
use Rattle.tcel_grammar.proofs.Counting.{operators-push}
use Rattle.tcel_grammar.specs.Expressions.{Level, IsBinary, between, before, IsExpr, here, there, binary_of, unary_of, disjunction, a_conjunction, disjoined, a_comparison, conjoined, a_sum, compared, a_term, added, a_factor, multiplied, an_atom, applied, a_number, yes, no, a_variable, an_element, bracketed}
use Rattle.tcel_grammar.specs.Faults.{IsShallow, is_border, is_operator, operators}
use Rattle.tcel_grammar.specs.declared.deep.Deep.TheVariants.{Operators}
use Rattle.tcel_token.specs.Terminal.{Terminal}
use Rattle.tcel_token.specs.declared.keyword.Keyword.{Keyword}
use Rattle.tcel_token.specs.declared.sign.Sign.{Sign}
use Rattle.tcel_token.specs.declared.token.TokenKind.{TokenKind}
use Rattle.tcel_tree.specs.Language.{Expr, binary}

-- ---- tokens that are operators

-- no outermost expression ends at an operator, and it takes its operands
pub record Joins (kind : TokenKind) (one : Bool) (op : Op) : Type 0 where
  pub inside : is_border kind ≡ false
  pub counted : is_operator kind ≡ true
  pub operands : is_unary op ≡ one

joins : (kind : TokenKind) (one : Bool) (a b : Op) → Some a ≡ Some b → is_border kind ≡ false → is_operator kind ≡ true → is_unary a ≡ one → Joins kind one b
joins kind one a b e p q r = record { inside = p; counted = q; operands = cc }

binary_joins : (kind : TokenKind) (op : Op) → binary_of kind ≡ Some op → Joins kind false op
binary_joins (TokenKind.Word Keyword.Or) op e = joins _ false _ op e refl refl refl
binary_joins (TokenKind.Word Keyword.And) op e = joins _ false _ op e refl refl refl
binary_joins (TokenKind.Word _) op e = cc
binary_joins (TokenKind.Sign Sign.Equal) op e = joins _ false _ op e refl refl refl
binary_joins (TokenKind.Sign Sign.Unequal) op e = joins _ false _ op e refl refl refl
binary_joins (TokenKind.Sign Sign.Less) op e = joins _ false _ op e refl refl refl
binary_joins (TokenKind.Sign Sign.LessOrEqual) op e = joins _ false _ op e refl refl refl
binary_joins (TokenKind.Sign Sign.Greater) op e = joins _ false _ op e refl refl refl
binary_joins (TokenKind.Sign Sign.GreaterOrEqual) op e = joins _ false _ op e refl refl refl
binary_joins (TokenKind.Sign Sign.Plus) op e = joins _ false _ op e refl refl refl
binary_joins (TokenKind.Sign Sign.Minus) op e = joins _ false _ op e refl refl refl
binary_joins (TokenKind.Sign Sign.Star) op e = joins _ false _ op e refl refl refl
binary_joins (TokenKind.Sign Sign.Slash) op e = joins _ false _ op e refl refl refl
binary_joins (TokenKind.Sign Sign.Percent) op e = joins _ false _ op e refl refl refl
binary_joins (TokenKind.Sign _) op e = cc
binary_joins (TokenKind.Name name) op e = cc
binary_joins (TokenKind.Number n) op e = cc

unary_joins : (kind : TokenKind) (op : Op) → unary_of kind ≡ Some op → Joins kind true op
unary_joins (TokenKind.Sign Sign.Minus) op e = joins _ true _ op e refl refl refl
unary_joins (TokenKind.Sign _) op e = cc
unary_joins (TokenKind.Word Keyword.Not) op e = joins _ true _ op e refl refl refl
unary_joins (TokenKind.Word _) op e = cc
unary_joins (TokenKind.Name name) op e = cc
unary_joins (TokenKind.Number n) op e = cc

-- ---- what stands in front

-- these tokens stand in a text behind at least so many operators of one outermost expression, 64 at the most
pub record Behind (all : List Terminal) (k : ℕ) (ts : List Terminal) : Type 0 where
  pub front : List Terminal
  pub split : all ≡ front ++ ts
  pub counted : k ≤ operators front
  pub few : k ≤ 64

-- the whole text stands behind nothing
pub begun : (all : List Terminal) → Behind all 0 all
begun all = record { front = []; split = refl; counted = omega arith; few = omega arith }

pub fewer : {all : List Terminal} {k : ℕ} {ts : List Terminal} (n : ℕ) → n ≤ k → Behind all k ts → Behind all n ts
fewer n less b =
    let counted = b.counted in
    let few = b.few in
    record { front = b.front; split = b.split; counted = omega arith; few = omega arith }

-- the list is split behind one more token
split_on : (all front : List Terminal) (t : Terminal) (ts : List Terminal) → all ≡ front ++ t ∷ ts → all ≡ (front ++ t ∷ []) ++ ts
split_on all front t ts e = e ∙ sym (append_assoc front (t ∷ []) ts)

no_less : (p : Bool) (k n m : ℕ) → k ≤ n → m ≡ cond p (n + 1) n → k ≤ m
no_less true k n m h e = omega arith
no_less false k n m h e = omega arith

-- behind any token no operator counts
pub past : {all : List Terminal} {k : ℕ} {t : Terminal} {ts : List Terminal} → Behind all k (t ∷ ts) → Behind all 0 ts
past {all} {k} {t} {ts} b = record { front = b.front ++ t ∷ []; split = split_on all b.front t ts b.split; counted = omega arith; few = omega arith }

-- behind a token in an expression as many count as in front of it
pub within : {all : List Terminal} {k : ℕ} {t : Terminal} {ts : List Terminal} → is_border t.kind ≡ false → Behind all k (t ∷ ts) → Behind all k ts
within {all} {k} {t} {ts} inside b =
    record {
      front = b.front ++ t ∷ [];
      split = split_on all b.front t ts b.split;
      counted = no_less (is_operator t.kind) k (operators b.front) (operators (b.front ++ t ∷ [])) b.counted (operators-push b.front t ∙ rw inside refl);
      few = b.few;
    }

at_most : (k n : ℕ) → k ≤ n → ¬ (64 ≤ n) → k + 1 ≤ 64
at_most k n h shallow = omega (arith, shallow)

module _ {all : List Terminal} (shallow : IsShallow all) where
  -- and behind an operator one more
  behind_operator : {k : ℕ} {t : Terminal} {ts : List Terminal} {one : Bool} {op : Op} → Joins t.kind one op → Behind all k (t ∷ ts) → Behind all (k + 1) ts
  behind_operator {k} {t} {ts} j b =
      let counted = b.counted in
      let more : operators (b.front ++ t ∷ []) ≡ operators b.front + 1 = operators-push b.front t ∙ rw (j.inside, j.counted) refl in
      record {
        front = b.front ++ t ∷ [];
        split = split_on all b.front t ts b.split;
        counted = omega arith;
        few = at_most k (operators b.front) counted (λ deep. shallow.at_each b.front t ts Operators b.split (j.counted, deep));
      }

  -- an expression was read behind so many operators
  pub record Reads (k : ℕ) (e : Expr) (rest : List Terminal) : Type 0 where
    pub behind : Behind all (k + operators_of e) rest
    pub operands : HaveOperands e

  -- two operands and the operator between them
  joined : {k : ℕ} {level : Level} {ts rest : List Terminal} {at : At} {op : Op} {a b : Expr} →
      HaveOperands a → IsBinary level ts at op rest → Behind all (k + operators_of a) ts → (later : List Terminal) → (Behind all (k + operators_of a + 1) rest → Reads (k + operators_of a + 1) b later) → Reads k (binary at op a b) later
  joined {k} {a = a} {b = b} operands (between here e own) here_behind later right =
      let j = binary_joins _ _ e in
      let r = right (behind_operator j here_behind) in
      record { behind = fewer (k + (1 + (operators_of a + operators_of b))) (omega arith) r.behind; operands = (j.operands, operands, r.operands) }

  reads_expr : {level : Level} {ts rest : List Terminal} {e : Expr} → IsExpr level ts e rest → (k : ℕ) → Behind all k ts → Reads k e rest
  reads_expr (a_conjunction d) k b = reads_expr d k b
  reads_expr (disjoined left by right) k b = let a = reads_expr left k b in joined a.operands by a.behind _ (reads_expr right _)
  reads_expr (a_comparison d) k b = reads_expr d k b
  reads_expr (conjoined left by right) k b = let a = reads_expr left k b in joined a.operands by a.behind _ (reads_expr right _)
  reads_expr (a_sum d) k b = reads_expr d k b
  reads_expr (compared left by right) k b = let a = reads_expr left k b in joined a.operands by a.behind _ (reads_expr right _)
  reads_expr (a_term d) k b = reads_expr d k b
  reads_expr (added left by right) k b = let a = reads_expr left k b in joined a.operands by a.behind _ (reads_expr right _)
  reads_expr (a_factor d) k b = reads_expr d k b
  reads_expr (multiplied left by right) k b = let a = reads_expr left k b in joined a.operands by a.behind _ (reads_expr right _)
  reads_expr (an_atom d) k b = reads_expr d k b
  reads_expr (applied {operand = operand} (before here e) d) k b =
      let j = unary_joins _ _ e in
      let a = reads_expr d (k + 1) (behind_operator j b) in
      record { behind = fewer (k + (1 + operators_of operand)) (omega arith) a.behind; operands = (j.operands, a.operands) }
  reads_expr (a_number here) k b = record { behind = fewer (k + 0) (omega arith) (within refl b); operands = tt }
  reads_expr (yes here) k b = record { behind = fewer (k + 0) (omega arith) (within refl b); operands = tt }
  reads_expr (no here) k b = record { behind = fewer (k + 0) (omega arith) (within refl b); operands = tt }
  reads_expr (a_variable here) k b = record { behind = fewer (k + 0) (omega arith) (within refl b); operands = tt }
  reads_expr (an_element here there index there) k b =
      let a = reads_expr index k (within refl (within refl b)) in
      record { behind = within refl a.behind; operands = a.operands }
  reads_expr (bracketed there d there) k b =
      let a = reads_expr d k (within refl b) in
      record { behind = within refl a.behind; operands = a.operands }

  -- an outermost expression was read
  pub record ReadsWhole (e : Expr) (rest : List Terminal) : Type 0 where
    pub behind : Behind all 0 rest
    pub fit : IsFitExpr e

  pub reads_whole : {ts rest : List Terminal} {e : Expr} → IsExpr disjunction ts e rest → Behind all 0 ts → ReadsWhole e rest
  reads_whole d b =
      let a = reads_expr d 0 b in
      let few = a.behind.few in
      record { behind = fewer 0 (omega arith) a.behind; fit = record { few = omega arith; operands = a.operands } }
