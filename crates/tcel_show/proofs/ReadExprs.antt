-- Canonical tokens are read as the tree that they were made of: expressions.
use Rattle.std.proofs.Common.{◌≡◌, ℕ, Bool, true, false, cond, List, [], ◌∷◌, ◌++◌, Some, refl, sym, ap, ◌∙◌, subst}
use Rattle.std.specs.Prelude.{ℤ, nat_lt}
use Rattle.std.specs.List.{AllByRecursion}
use Rattle.tcel_num.specs.Arithmetic.{is_unary}
use Rattle.tcel_num.specs.declared.at.At.{At}
use Rattle.tcel_num.specs.declared.op.Op.{Op}
use Rattle.tcel_token.specs.declared.keyword.Keyword.{Keyword}
use Rattle.tcel_token.specs.declared.sign.Sign.{Sign}
use Rattle.tcel_token.specs.declared.token.TokenKind.{TokenKind}
use Rattle.tcel_token.specs.Terminal.{Terminal, kinds}
use Rattle.tcel_token.specs.WellFormed.{IsWritable}
use Rattle.tcel_tree.specs.Language.{Expr, number, truth, variable, element, unary, binary}
use Rattle.tcel_tree.specs.Unplaced.{nowhere, unplaced_expr}
use Rattle.tcel_grammar.specs.Expressions.{placed, IsPlaced, here, IsToken, there, unary_of, Level, disjunction, conjunction, comparison, sum, term, factor, atom, level_of, IsBinary, between, IsUnary, before, IsExpr, a_conjunction, disjoined, a_comparison, conjoined, a_sum, compared, a_term, added, a_factor, multiplied, an_atom, applied, a_number, yes, no, a_variable, an_element, bracketed}
use Rattle.tcel_show.specs.Canonical.{op_token, rank, left_place, right_place, enclosed, truth_token, expr_tokens}

-- a token of this kind stands in front of a rest
pub record Front (kind : TokenKind) (ts rest : List Terminal) : Type 0 where
  pub at : At
  pub is : ts ≡ placed kind at ∷ rest

-- tokens of these kinds stand in front of a rest
abbrev pub Spells : List TokenKind → List Terminal → List Terminal → Type 0
Spells [] ts rest = ts ≡ rest
Spells (kind ∷ kinds) ts rest = (more : List Terminal) × Front kind ts more × Spells kinds more rest

pub record Split (xs ys : List TokenKind) (ts rest : List Terminal) : Type 0 where
  pub middle : List Terminal
  pub first : Spells xs ts middle
  pub last : Spells ys middle rest

pub split : (xs ys : List TokenKind) {ts rest : List Terminal} → Spells (xs ++ ys) ts rest → Split xs ys ts rest
split [] ys {ts} s = record { middle = ts; first = refl; last = s }
split (x ∷ xs) ys s =
    let more = split xs ys s.2 in
    record { middle = more.middle; first = (s.0, s.1, more.first); last = more.last }

pub front_placed : {kind : TokenKind} {ts rest : List Terminal} (f : Front kind ts rest) → IsPlaced kind ts f.at rest
front_placed {kind} {ts} {rest} f = subst (λ (xs : List Terminal). IsPlaced kind xs f.at rest) (sym f.is) here

pub front_token : {kind : TokenKind} {ts rest : List Terminal} → Front kind ts rest → IsToken kind ts rest
front_token {kind} {ts} {rest} f = subst (λ (xs : List Terminal). IsToken kind xs rest) (sym f.is) there

-- a last token, of these kinds
pub last_placed : {kind : TokenKind} {ts rest : List Terminal} (s : Spells (kind ∷ []) ts rest) → IsPlaced kind ts s.1.at rest
last_placed {kind} {ts} s = subst (λ (xs : List Terminal). IsPlaced kind ts s.1.at xs) s.2 (front_placed s.1)

pub last_token : {kind : TokenKind} {ts rest : List Terminal} → Spells (kind ∷ []) ts rest → IsToken kind ts rest
last_token {kind} {ts} s = subst (λ (xs : List Terminal). IsToken kind ts xs) s.2 (front_token s.1)

-- an expression of a tighter level is one of a looser level
loosen_disjunction : {ts rest : List Terminal} {e : Expr} (m : Level) → nat_lt (rank m) 0 ≡ false → IsExpr m ts e rest → IsExpr disjunction ts e rest
loosen_disjunction disjunction h d = d
loosen_disjunction conjunction h d = a_conjunction d
loosen_disjunction comparison h d = a_conjunction (a_comparison d)
loosen_disjunction sum h d = a_conjunction (a_comparison (a_sum d))
loosen_disjunction term h d = a_conjunction (a_comparison (a_sum (a_term d)))
loosen_disjunction factor h d = a_conjunction (a_comparison (a_sum (a_term (a_factor d))))
loosen_disjunction atom h d = a_conjunction (a_comparison (a_sum (a_term (a_factor (an_atom d)))))

loosen_conjunction : {ts rest : List Terminal} {e : Expr} (m : Level) → nat_lt (rank m) 1 ≡ false → IsExpr m ts e rest → IsExpr conjunction ts e rest
loosen_conjunction disjunction h d = cc
loosen_conjunction conjunction h d = d
loosen_conjunction comparison h d = a_comparison d
loosen_conjunction sum h d = a_comparison (a_sum d)
loosen_conjunction term h d = a_comparison (a_sum (a_term d))
loosen_conjunction factor h d = a_comparison (a_sum (a_term (a_factor d)))
loosen_conjunction atom h d = a_comparison (a_sum (a_term (a_factor (an_atom d))))

loosen_comparison : {ts rest : List Terminal} {e : Expr} (m : Level) → nat_lt (rank m) 2 ≡ false → IsExpr m ts e rest → IsExpr comparison ts e rest
loosen_comparison disjunction h d = cc
loosen_comparison conjunction h d = cc
loosen_comparison comparison h d = d
loosen_comparison sum h d = a_sum d
loosen_comparison term h d = a_sum (a_term d)
loosen_comparison factor h d = a_sum (a_term (a_factor d))
loosen_comparison atom h d = a_sum (a_term (a_factor (an_atom d)))

loosen_sum : {ts rest : List Terminal} {e : Expr} (m : Level) → nat_lt (rank m) 3 ≡ false → IsExpr m ts e rest → IsExpr sum ts e rest
loosen_sum disjunction h d = cc
loosen_sum conjunction h d = cc
loosen_sum comparison h d = cc
loosen_sum sum h d = d
loosen_sum term h d = a_term d
loosen_sum factor h d = a_term (a_factor d)
loosen_sum atom h d = a_term (a_factor (an_atom d))

loosen_term : {ts rest : List Terminal} {e : Expr} (m : Level) → nat_lt (rank m) 4 ≡ false → IsExpr m ts e rest → IsExpr term ts e rest
loosen_term disjunction h d = cc
loosen_term conjunction h d = cc
loosen_term comparison h d = cc
loosen_term sum h d = cc
loosen_term term h d = d
loosen_term factor h d = a_factor d
loosen_term atom h d = a_factor (an_atom d)

loosen_factor : {ts rest : List Terminal} {e : Expr} (m : Level) → nat_lt (rank m) 5 ≡ false → IsExpr m ts e rest → IsExpr factor ts e rest
loosen_factor disjunction h d = cc
loosen_factor conjunction h d = cc
loosen_factor comparison h d = cc
loosen_factor sum h d = cc
loosen_factor term h d = cc
loosen_factor factor h d = d
loosen_factor atom h d = an_atom d

pub loosen : {ts rest : List Terminal} {e : Expr} (l m : Level) → nat_lt (rank m) (rank l) ≡ false → IsExpr m ts e rest → IsExpr l ts e rest
loosen disjunction m h d = loosen_disjunction m h d
loosen conjunction m h d = loosen_conjunction m h d
loosen comparison m h d = loosen_comparison m h d
loosen sum m h d = loosen_sum m h d
loosen term m h d = loosen_term m h d
loosen factor m h d = loosen_factor m h d
loosen atom disjunction h d = cc
loosen atom conjunction h d = cc
loosen atom comparison h d = cc
loosen atom sum h d = cc
loosen atom term h d = cc
loosen atom factor h d = cc
loosen atom atom h d = d

-- what is read is the expression but for places
pub record Reads (level : Level) (e : Expr) (ts rest : List Terminal) : Type 0 where
  pub tree : Expr
  pub grammar : IsExpr level ts tree rest
  pub same : unplaced_expr tree ≡ unplaced_expr e

loosen_reads : {ts rest : List Terminal} {e : Expr} (l m : Level) → nat_lt (rank m) (rank l) ≡ false → Reads m e ts rest → Reads l e ts rest
loosen_reads l m h r = record { tree = r.tree; grammar = loosen l m h r.grammar; same = r.same }

tightest : (l : Level) → nat_lt (rank atom) (rank l) ≡ false
tightest disjunction = refl
tightest _ = refl

at_atom : {ts rest : List Terminal} {e : Expr} (l : Level) → Reads atom e ts rest → Reads l e ts rest
at_atom l r = loosen_reads l atom (tightest l) r

pub loosest : (l : Level) → nat_lt (rank l) 0 ≡ false
loosest disjunction = refl
loosest _ = refl

enclosed_by : (level place : Level) (kinds : List TokenKind) (e : Expr) (is : Bool) {ts rest : List Terminal} → nat_lt (rank level) (rank place) ≡ is →
    ((us vs : List Terminal) → Spells kinds us vs → Reads level e us vs) →
    Spells (cond is (TokenKind.Sign Sign.LeftRound ∷ (kinds ++ TokenKind.Sign Sign.RightRound ∷ [])) kinds) ts rest → Reads place e ts rest
enclosed_by level place kinds e true lower inner s =
    let parts = split kinds (TokenKind.Sign Sign.RightRound ∷ []) s.2 in
    let read = loosen_reads disjunction level (loosest level) (inner _ _ parts.first) in
    at_atom place (record { tree = read.tree; grammar = bracketed (front_token s.1) read.grammar (last_token parts.last); same = read.same })
enclosed_by level place kinds e false lower inner s = loosen_reads place level lower (inner _ _ s)

-- tokens of a level, in brackets where the place wants them
enclosed_reads : (level place : Level) (kinds : List TokenKind) (e : Expr) {ts rest : List Terminal} →
    ((us vs : List Terminal) → Spells kinds us vs → Reads level e us vs) → Spells (enclosed level place kinds) ts rest → Reads place e ts rest
enclosed_reads level place kinds e inner s = enclosed_by level place kinds e (nat_lt (rank level) (rank place)) refl inner s

-- an operator between its operands, by its level
binary_rule : (op : Op) {ts a b rest : List Terminal} {at : At} {left right : Expr} → is_unary op ≡ false →
    IsExpr (left_place (level_of op)) ts left a → IsPlaced (op_token op) a at b → IsExpr (right_place (level_of op)) b right rest →
    IsExpr (level_of op) ts (binary at op left right) rest
binary_rule Op.Or two l o r = disjoined l (between o refl refl) r
binary_rule Op.And two l o r = conjoined l (between o refl refl) r
binary_rule Op.Equal two l o r = compared l (between o refl refl) r
binary_rule Op.Unequal two l o r = compared l (between o refl refl) r
binary_rule Op.Less two l o r = compared l (between o refl refl) r
binary_rule Op.LessOrEqual two l o r = compared l (between o refl refl) r
binary_rule Op.Greater two l o r = compared l (between o refl refl) r
binary_rule Op.GreaterOrEqual two l o r = compared l (between o refl refl) r
binary_rule Op.Add two l o r = added l (between o refl refl) r
binary_rule Op.Sub two l o r = added l (between o refl refl) r
binary_rule Op.Mul two l o r = multiplied l (between o refl refl) r
binary_rule Op.Div two l o r = multiplied l (between o refl refl) r
binary_rule Op.Rem two l o r = multiplied l (between o refl refl) r
binary_rule Op.Neg two l o r = cc
binary_rule Op.Not two l o r = cc

unary_rule : (op : Op) {ts a rest : List Terminal} {at : At} {operand : Expr} → is_unary op ≡ true →
    IsPlaced (op_token op) ts at a → IsExpr atom a operand rest → IsExpr factor ts (unary at op operand) rest
unary_rule Op.Neg one o e = applied (before o refl) e
unary_rule Op.Not one o e = applied (before o refl) e
unary_rule _ one o e = cc

-- kinds that a text can spell
abbrev pub Writable : List TokenKind → Type 0
Writable kinds = AllByRecursion IsWritable kinds

pub writable_then : (xs ys : List TokenKind) → Writable xs → Writable ys → Writable (xs ++ ys)
writable_then [] ys p q = q
writable_then (x ∷ xs) ys p q = (p.0, writable_then xs ys p.1 q)

op_writable : (op : Op) → IsWritable (op_token op)
op_writable Op.Or = tt
op_writable _ = tt

truth_writable : (b : Bool) → IsWritable (truth_token b)
truth_writable true = tt
truth_writable false = tt

writable_by : (kinds : List TokenKind) (is : Bool) → Writable kinds → Writable (cond is (TokenKind.Sign Sign.LeftRound ∷ (kinds ++ TokenKind.Sign Sign.RightRound ∷ [])) kinds)
writable_by kinds true w = (tt, writable_then kinds (TokenKind.Sign Sign.RightRound ∷ []) w (tt, tt))
writable_by kinds false w = w

enclosed_writable : (level place : Level) (kinds : List TokenKind) → Writable kinds → Writable (enclosed level place kinds)
enclosed_writable level place kinds w = writable_by kinds (nat_lt (rank level) (rank place)) w

-- what holds of the kinds of the tokens that stand in front holds of those behind
pub placed_writable : {kind : TokenKind} {ts rest : List Terminal} {at : At} → IsPlaced kind ts at rest → Writable (kinds ts) →
    IsWritable kind × Writable (kinds rest)
placed_writable here w = w

pub token_writable : {kind : TokenKind} {ts rest : List Terminal} → IsToken kind ts rest → Writable (kinds ts) → Writable (kinds rest)
token_writable there w = w.1

level_two : (op : Op) → nat_lt (rank (level_of op)) 5 ≡ true → is_unary op ≡ false
level_two Op.Neg h = cc
level_two Op.Not h = cc
level_two _ h = refl

record Between (level : Level) (op : Op) (rest : List Terminal) : Type 0 where
  pub own : level_of op ≡ level
  pub behind : Writable (kinds rest)

binary_between : {level : Level} {ts rest : List Terminal} {at : At} {op : Op} → IsBinary level ts at op rest → Writable (kinds ts) → Between level op rest
binary_between (between p e own) w = record { own = own; behind = (placed_writable p w).1 }

one_by : {a b : Op} → Some a ≡ Some b → is_unary a ≡ true → is_unary b ≡ true
one_by e h = cc

unary_one : (kind : TokenKind) (op : Op) → unary_of kind ≡ Some op → is_unary op ≡ true
unary_one (TokenKind.Sign Sign.Minus) op e = one_by e refl
unary_one (TokenKind.Sign _) op e = cc
unary_one (TokenKind.Word Keyword.Not) op e = one_by e refl
unary_one (TokenKind.Word _) op e = cc
unary_one (TokenKind.Name name) op e = cc
unary_one (TokenKind.Number n) op e = cc

record Before (op : Op) (rest : List Terminal) : Type 0 where
  pub one : is_unary op ≡ true
  pub behind : Writable (kinds rest)

unary_before : {ts rest : List Terminal} {at : At} {op : Op} → IsUnary ts at op rest → Writable (kinds ts) → Before op rest
unary_before {op = op} (before {kind} p e) w = record { one = unary_one kind op e; behind = (placed_writable p w).1 }

-- the canonical tokens of an expression, wherever it stands
pub record Known (e : Expr) : Type 0 where
  pub writable : (place : Level) → Writable (expr_tokens e place)
  pub reads : (place : Level) (ts rest : List Terminal) → Spells (expr_tokens e place) ts rest → Reads place e ts rest

pub record Knows (e : Expr) (rest : List Terminal) : Type 0 where
  pub known : Known e
  pub behind : Writable (kinds rest)

number_known : (at : At) (n : ℤ) → IsWritable (TokenKind.Number n) → Known (number at n)
number_known at n w =
    record {
      writable = λ place. (w, tt);
      reads = λ place ts rest s. at_atom place (record { tree = number s.1.at n; grammar = a_number (last_placed s); same = refl });
    }

truth_known : (at : At) (b : Bool) → Known (truth at b)
truth_known at true =
    record {
      writable = λ place. (tt, tt);
      reads = λ place ts rest s. at_atom place (record { tree = truth s.1.at true; grammar = yes (last_placed s); same = refl });
    }
truth_known at false =
    record {
      writable = λ place. (tt, tt);
      reads = λ place ts rest s. at_atom place (record { tree = truth s.1.at false; grammar = no (last_placed s); same = refl });
    }

variable_known : (at : At) (name : List ℕ) → IsWritable (TokenKind.Name name) → Known (variable at name)
variable_known at name w =
    record {
      writable = λ place. (w, tt);
      reads = λ place ts rest s. at_atom place (record { tree = variable s.1.at name; grammar = a_variable (last_placed s); same = refl });
    }

element_reads : (at : At) (name : List ℕ) (i : Expr) → Known i → {ts rest : List Terminal} →
    Spells
    (TokenKind.Name name ∷ TokenKind.Sign Sign.LeftSquare ∷ (expr_tokens i disjunction ++ TokenKind.Sign Sign.RightSquare ∷ []))
    ts rest → Reads atom (element at name i) ts rest
element_reads at name i known s =
    let parts = split (expr_tokens i disjunction) (TokenKind.Sign Sign.RightSquare ∷ []) s.2.2 in
    let index = known.reads disjunction _ _ parts.first in
    record {
      tree = element s.1.at name index.tree;
      grammar = an_element (front_placed s.1) (front_token s.2.1) index.grammar (last_token parts.last);
      same = ap (λ (x : Expr). element nowhere name x) index.same;
    }

element_known : (at : At) (name : List ℕ) (i : Expr) → IsWritable (TokenKind.Name name) → Known i → Known (element at name i)
element_known at name i w known =
    record {
      writable = λ place. (w, (tt, writable_then (expr_tokens i disjunction) (TokenKind.Sign Sign.RightSquare ∷ []) (known.writable disjunction) (tt, tt)));
      reads = λ place ts rest s. at_atom place (element_reads at name i known s);
    }

unary_reads : (at : At) (op : Op) (e : Expr) → is_unary op ≡ true → Known e → (us vs : List Terminal) → Spells (op_token op ∷ expr_tokens e atom) us vs →
    Reads factor (unary at op e) us vs
unary_reads at op e one known us vs s =
    let operand = known.reads atom s.0 vs s.2 in
    record {
      tree = unary s.1.at op operand.tree;
      grammar = unary_rule op one (front_placed s.1) operand.grammar;
      same = ap (λ (x : Expr). unary nowhere op x) operand.same;
    }

unary_known : (at : At) (op : Op) (e : Expr) → is_unary op ≡ true → Known e → Known (unary at op e)
unary_known at op e one known =
    let kinds = op_token op ∷ expr_tokens e atom in
    record {
      writable = λ place. enclosed_writable factor place kinds (op_writable op, known.writable atom);
      reads = λ place ts rest s. enclosed_reads factor place kinds (unary at op e) (unary_reads at op e one known) s;
    }

binary_reads : (at : At) (op : Op) (a b : Expr) → is_unary op ≡ false → Known a → Known b → (us vs : List Terminal) →
    Spells (expr_tokens a (left_place (level_of op)) ++ op_token op ∷ expr_tokens b (right_place (level_of op))) us vs →
    Reads (level_of op) (binary at op a b) us vs
binary_reads at op a b two left right us vs s =
    let parts = split (expr_tokens a (left_place (level_of op))) (op_token op ∷ expr_tokens b (right_place (level_of op))) s in
    let l = left.reads (left_place (level_of op)) us parts.middle parts.first in
    let r = right.reads (right_place (level_of op)) parts.last.0 vs parts.last.2 in
    record {
      tree = binary parts.last.1.at op l.tree r.tree;
      grammar = binary_rule op two l.grammar (front_placed parts.last.1) r.grammar;
      same = ap (λ (x : Expr). binary nowhere op x (unplaced_expr r.tree)) l.same ∙ ap (λ (x : Expr). binary nowhere op (unplaced_expr a) x) r.same;
    }

binary_known : (at : At) (op : Op) (a b : Expr) → is_unary op ≡ false → Known a → Known b → Known (binary at op a b)
binary_known at op a b two left right =
    let l = expr_tokens a (left_place (level_of op)) in
    let r = expr_tokens b (right_place (level_of op)) in
    record {
      writable = λ place. enclosed_writable (level_of op) place (l ++ op_token op ∷ r)
          (writable_then l (op_token op ∷ r) (left.writable (left_place (level_of op))) (op_writable op, right.writable (right_place (level_of op))));
      reads = λ place ts rest s. enclosed_reads (level_of op) place (l ++ op_token op ∷ r) (binary at op a b) (binary_reads at op a b two left right) s;
    }

two_at : (op : Op) (level : Level) → level_of op ≡ level → nat_lt (rank level) 5 ≡ true → is_unary op ≡ false
two_at op level own h = level_two op (rw own h)

-- both operands and the operator of a chain
chain_known : {rest b : List Terminal} {op : Op} (level : Level) (at : At) (left right : Expr) → nat_lt (rank level) 5 ≡ true → Known left → Between level op b →
    Knows right rest → Knows (binary at op left right) rest
chain_known {op = op} level at left right h l o r =
    record { known = binary_known at op left right (two_at op level o.own h) l r.known; behind = r.behind }

-- an expression of the grammar is known by its canonical tokens
pub expr_known : {level : Level} {ts rest : List Terminal} {e : Expr} → IsExpr level ts e rest → Writable (kinds ts) → Knows e rest
expr_known (a_conjunction d) w = expr_known d w
expr_known (a_comparison d) w = expr_known d w
expr_known (a_sum d) w = expr_known d w
expr_known (a_term d) w = expr_known d w
expr_known (a_factor d) w = expr_known d w
expr_known (an_atom d) w = expr_known d w
expr_known (disjoined {at = at} {left = left} {right = right} l o r) w =
    let a = expr_known l w in
    let op = binary_between o a.behind in
    chain_known disjunction at left right refl a.known op (expr_known r op.behind)
expr_known (conjoined {at = at} {left = left} {right = right} l o r) w =
    let a = expr_known l w in
    let op = binary_between o a.behind in
    chain_known conjunction at left right refl a.known op (expr_known r op.behind)
expr_known (compared {at = at} {left = left} {right = right} l o r) w =
    let a = expr_known l w in
    let op = binary_between o a.behind in
    chain_known comparison at left right refl a.known op (expr_known r op.behind)
expr_known (added {at = at} {left = left} {right = right} l o r) w =
    let a = expr_known l w in
    let op = binary_between o a.behind in
    chain_known sum at left right refl a.known op (expr_known r op.behind)
expr_known (multiplied {at = at} {left = left} {right = right} l o r) w =
    let a = expr_known l w in
    let op = binary_between o a.behind in
    chain_known term at left right refl a.known op (expr_known r op.behind)
expr_known (applied {at = at} {op = op} {operand = e} o d) w =
    let sign = unary_before o w in
    let operand = expr_known d sign.behind in
    record { known = unary_known at op e sign.one operand.known; behind = operand.behind }
expr_known (a_number {at = at} {n = n} p) w = let q = placed_writable p w in record { known = number_known at n q.0; behind = q.1 }
expr_known (yes {at = at} p) w = record { known = truth_known at true; behind = (placed_writable p w).1 }
expr_known (no {at = at} p) w = record { known = truth_known at false; behind = (placed_writable p w).1 }
expr_known (a_variable {at = at} {name = name} p) w = let q = placed_writable p w in record { known = variable_known at name q.0; behind = q.1 }
expr_known (an_element {at = at} {name = name} {index = i} p l d r) w =
    let q = placed_writable p w in
    let index = expr_known d (token_writable l q.1) in
    record { known = element_known at name i q.0 index.known; behind = token_writable r index.behind }
expr_known (bracketed l d r) w =
    let inner = expr_known d (token_writable l w) in
    record { known = inner.known; behind = token_writable r inner.behind }
