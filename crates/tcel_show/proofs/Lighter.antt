-- Tokens of which some brackets and signs are left out are nowhere deeper.
use Rattle.std.proofs.Common.{◌≡◌, ℕ, suc, ◌+◌, ◌≤◌, Bool, cond, not, ◌&&◌, ◌||◌, List, [], ◌∷◌, ◌++◌, refl, sym, ap, ◌∙◌, subst, arith}
use Rattle.std.specs.List.{list_any}
use Rattle.std.proofs.Math.Bool.{false-or}
use Rattle.std.proofs.lemmas.List.Sums.{sum_by-cons}
use Rattle.tcel_num.specs.declared.at.At.{At}
use Rattle.tcel_token.specs.declared.sign.Sign.{Sign}
use Rattle.tcel_token.specs.declared.token.TokenKind.{TokenKind}
use Rattle.tcel_token.specs.Terminal.{Terminal}
use Rattle.tcel_grammar.specs.declared.deep.Deep.{Deep}
use Rattle.tcel_grammar.specs.Expressions.{placed, IsPlaced, here, IsToken, there}
use Rattle.tcel_grammar.specs.Faults.{is_opening, is_closing, is_border, is_operator, operators, IsTooDeep, IsShallow}
use Rattle.tcel_grammar.proofs.Counting.{openings, closings}
use Rattle.tcel_show.proofs.ReadExprs.{Front, Spells, split}

-- the second tokens are the first ones without some pairs of round brackets, of which so many are open, and some minus signs
pub data Lighter : ℕ → List Terminal → List Terminal → Type 0 where
  none : {n : ℕ} → Lighter n [] []
  kept : {n : ℕ} {kind : TokenKind} {a b : At} {ts us : List Terminal} → Lighter n ts us → Lighter n (placed kind a ∷ ts) (placed kind b ∷ us)
  opened : {n : ℕ} {a : At} {ts us : List Terminal} → Lighter (suc n) ts us → Lighter n (placed (TokenKind.Sign Sign.LeftRound) a ∷ ts) us
  closed : {n : ℕ} {a : At} {ts us : List Terminal} → Lighter n ts us → Lighter (suc n) (placed (TokenKind.Sign Sign.RightRound) a ∷ ts) us
  unsigned : {n : ℕ} {a : At} {ts us : List Terminal} → Lighter n ts us → Lighter n (placed (TokenKind.Sign Sign.Minus) a ∷ ts) us

abbrev has_border : List Terminal → Bool
has_border ts = list_any (λ (u : Terminal). is_border u.kind) ts

-- a token of the lighter list, with what stands in front of it in the heavier one
record Found (n : ℕ) (ts front : List Terminal) (t : Terminal) : Type 0 where
  pub before : List Terminal
  pub at : At
  pub back : List Terminal
  pub is : ts ≡ before ++ placed t.kind at ∷ back
  pub brackets : closings before + openings front ≤ openings before + closings front + n
  pub borders : has_border before ≡ has_border front
  pub operators : operators front ≤ operators before

cons_openings : (t : Terminal) (ts : List Terminal) → openings (t ∷ ts) ≡ cond (is_opening t.kind) 1 0 + openings ts
cons_openings t ts = sum_by-cons (λ (u : Terminal). cond (is_opening u.kind) 1 0) t ts

cons_closings : (t : Terminal) (ts : List Terminal) → closings (t ∷ ts) ≡ cond (is_closing t.kind) 1 0 + closings ts
cons_closings t ts = sum_by-cons (λ (u : Terminal). cond (is_closing u.kind) 1 0) t ts

more_operators : (p a b : Bool) (m n : ℕ) → b ≡ a → m ≤ n → cond (p && not a) 1 0 + m ≤ cond (p && not b) 1 0 + n
more_operators p a b m n e l = rw e (omega arith)

find : {n : ℕ} {ts us : List Terminal} → Lighter n ts us → (front : List Terminal) (t : Terminal) (back : List Terminal) → us ≡ front ++ t ∷ back → Found n ts front t
find none [] t back e = cc
find none (x ∷ front) t back e = cc
find (kept {kind = kind} {a = a} {ts = ts} l) [] t back e =
    let same : kind ≡ t.kind = cc in
    record { before = []; at = a; back = ts; is = ap (λ (k : TokenKind). placed k a ∷ ts) same; brackets = omega arith; borders = refl; operators = omega arith }
find (kept {kind = kind} {a = a} {ts = ts} {us = us} l) (x ∷ front) t back e =
    let same : kind ≡ x.kind = cc in
    let behind : us ≡ front ++ t ∷ back = cc in
    let f = find l front t back behind in
    let less = f.brackets in
    let more_open = cons_openings (placed x.kind a) f.before in
    let more_closed = cons_closings (placed x.kind a) f.before in
    let front_open = cons_openings x front in
    let front_closed = cons_closings x front in
    record {
      before = placed x.kind a ∷ f.before;
      at = f.at;
      back = f.back;
      is = ap (λ (k : TokenKind). placed k a ∷ ts) same ∙ ap (λ (xs : List Terminal). placed x.kind a ∷ xs) f.is;
      brackets = omega arith;
      borders = ap (λ (b : Bool). is_border x.kind || b) f.borders;
      operators = more_operators (is_operator x.kind) (has_border front) (has_border f.before) (operators front) (operators f.before) f.borders f.operators;
    }
find (opened {a = a} l) front t back e =
    let f = find l front t back e in
    let less = f.brackets in
    let more_open = cons_openings (placed (TokenKind.Sign Sign.LeftRound) a) f.before in
    let more_closed = cons_closings (placed (TokenKind.Sign Sign.LeftRound) a) f.before in
    record {
      before = placed (TokenKind.Sign Sign.LeftRound) a ∷ f.before;
      at = f.at;
      back = f.back;
      is = ap (λ (xs : List Terminal). placed (TokenKind.Sign Sign.LeftRound) a ∷ xs) f.is;
      brackets = omega arith;
      borders = false-or (has_border f.before) ∙ f.borders;
      operators = let more = f.operators in omega arith;
    }
find (closed {a = a} l) front t back e =
    let f = find l front t back e in
    let less = f.brackets in
    let more_open = cons_openings (placed (TokenKind.Sign Sign.RightRound) a) f.before in
    let more_closed = cons_closings (placed (TokenKind.Sign Sign.RightRound) a) f.before in
    record {
      before = placed (TokenKind.Sign Sign.RightRound) a ∷ f.before;
      at = f.at;
      back = f.back;
      is = ap (λ (xs : List Terminal). placed (TokenKind.Sign Sign.RightRound) a ∷ xs) f.is;
      brackets = omega arith;
      borders = false-or (has_border f.before) ∙ f.borders;
      operators = let more = f.operators in omega arith;
    }
find (unsigned {a = a} l) front t back e =
    let f = find l front t back e in
    let less = f.brackets in
    let more = f.operators in
    let more_open = cons_openings (placed (TokenKind.Sign Sign.Minus) a) f.before in
    let more_closed = cons_closings (placed (TokenKind.Sign Sign.Minus) a) f.before in
    record {
      before = placed (TokenKind.Sign Sign.Minus) a ∷ f.before;
      at = f.at;
      back = f.back;
      is = ap (λ (xs : List Terminal). placed (TokenKind.Sign Sign.Minus) a ∷ xs) f.is;
      brackets = omega arith;
      borders = false-or (has_border f.before) ∙ f.borders;
      operators = omega arith;
    }

deeper : (what : Deep) {ts front : List Terminal} {t : Terminal} (f : Found 0 ts front t) → IsTooDeep what front t → IsTooDeep what f.before (placed t.kind f.at)
deeper Deep.Nesting f bad = let less = f.brackets in let deep = bad.1 in (bad.0, omega arith)
deeper Deep.Operators f bad = let more = f.operators in let deep = bad.1 in (bad.0, omega arith)

pub shallow : {ts us : List Terminal} → Lighter 0 ts us → IsShallow ts → IsShallow us
shallow l h = record { at_each = λ front t back what e bad. let f = find l front t back e in h.at_each f.before (placed t.kind f.at) f.back what f.is (deeper what f bad) }

-- ---- canonical tokens against those that the grammar read

-- tokens of these kinds are lighter than those in front of a rest, if what follows is lighter than the rest
pub record Lightens (kinds : List TokenKind) (ts rest : List Terminal) : Type 0 where
  pub so : (us vs : List Terminal) → Spells kinds us vs → (n : ℕ) → Lighter n rest vs → Lighter n ts us

front_kept : {kind : TokenKind} {at : At} {ts us vs : List Terminal} → Front kind us vs → (n : ℕ) → Lighter n ts vs → Lighter n (placed kind at ∷ ts) us
front_kept {kind} {at} {ts} f n l = subst (λ (xs : List Terminal). Lighter n (placed kind at ∷ ts) xs) (sym f.is) (kept l)

pub nothing : {ts : List Terminal} → Lightens [] ts ts
nothing {ts} = record { so = λ us vs s n l. subst (λ (xs : List Terminal). Lighter n ts xs) (sym s) l }

pub token_then : {kind : TokenKind} {ks : List TokenKind} {ts more rest : List Terminal} → IsToken kind ts more → Lightens ks more rest → Lightens (kind ∷ ks) ts rest
token_then there h = record { so = λ us vs s n l. front_kept s.1 n (h.so s.0 vs s.2 n l) }

pub placed_then : {kind : TokenKind} {ks : List TokenKind} {at : At} {ts more rest : List Terminal} → IsPlaced kind ts at more → Lightens ks more rest →
    Lightens (kind ∷ ks) ts rest
placed_then here h = record { so = λ us vs s n l. front_kept s.1 n (h.so s.0 vs s.2 n l) }

pub then : {xs ys : List TokenKind} {ts more rest : List Terminal} → Lightens xs ts more → Lightens ys more rest → Lightens (xs ++ ys) ts rest
then {xs} {ys} f g =
    record { so = λ us vs s n l. let parts = split xs ys s in f.so us parts.middle parts.first n (g.so parts.middle vs parts.last n l) }

-- brackets and a sign that are left out
pub unbracketed : {ks : List TokenKind} {ts a b rest : List Terminal} → IsToken (TokenKind.Sign Sign.LeftRound) ts a → Lightens ks a b →
    IsToken (TokenKind.Sign Sign.RightRound) b rest → Lightens ks ts rest
unbracketed there h there = record { so = λ us vs s n l. opened (h.so us vs s (suc n) (closed l)) }

pub unsigned_then : {ks : List TokenKind} {ts more rest : List Terminal} → IsToken (TokenKind.Sign Sign.Minus) ts more → Lightens ks more rest → Lightens ks ts rest
unsigned_then there h = record { so = λ us vs s n l. unsigned (h.so us vs s n l) }
