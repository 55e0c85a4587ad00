-- The machine's counts are those of the tokens read.
use Rattle.std.proofs.Common.{◌≡◌, ℕ, ◌+◌, ◌-◌, ◌≤◌, Bool, true, false, cond, not, ◌&&◌, ◌||◌, List, [], ◌∷◌, ◌++◌, refl, sym, subst, arith, nat_lt, ◌⊎◌, inl, inr}
use Rattle.std.specs.Prelude.{count_by}
use Rattle.std.specs.List.{list_any}
use Rattle.std.proofs.lemmas.List.Folds.{list_any-append}
use Rattle.std.proofs.lemmas.List.Sums.{sum_by-append}
use Rattle.tcel_token.specs.declared.sign.Sign.{Sign}
use Rattle.tcel_token.specs.declared.token.TokenKind.{TokenKind}
use Rattle.tcel_token.specs.Terminal.{Terminal}
use Rattle.tcel_grammar.specs.declared.deep.Deep.{Deep}
use Rattle.tcel_grammar.specs.Faults.{is_opening, is_closing, is_operator, is_border, unclosed, operators, IsTooDeep, IsShallow}
use Rattle.tcel_grammar.specs.Machine.{Counts, Entered, within_limits, too_deep, enter, counts_after, brackets_after, operators_after}
use Rattle.tcel_grammar.proofs.Weights.{bit}

-- ---- brackets

abbrev pub openings : List Terminal → ℕ
openings ts = count_by (λ (t : Terminal). is_opening t.kind) ts

abbrev pub closings : List Terminal → ℕ
closings ts = count_by (λ (t : Terminal). is_closing t.kind) ts

one_or_zero : (b : Bool) → cond b 1 0 ≡ bit b
one_or_zero true = refl
one_or_zero false = refl

pub openings-push : (ts : List Terminal) (t : Terminal) → openings (ts ++ t ∷ []) ≡ openings ts + bit (is_opening t.kind)
openings-push ts t =
    let e = sum_by-append (λ (u : Terminal). cond (is_opening u.kind) 1 0) ts (t ∷ []) in
    let f = one_or_zero (is_opening t.kind) in
    omega arith

pub closings-push : (ts : List Terminal) (t : Terminal) → closings (ts ++ t ∷ []) ≡ closings ts + bit (is_closing t.kind)
closings-push ts t =
    let e = sum_by-append (λ (u : Terminal). cond (is_closing u.kind) 1 0) ts (t ∷ []) in
    let f = one_or_zero (is_closing t.kind) in
    omega arith

-- no bracket opens and closes
apart : (kind : TokenKind) → is_opening kind ≡ true → is_closing kind ≡ false
apart (TokenKind.Sign Sign.RightBrace) e = cc
apart (TokenKind.Sign Sign.RightRound) e = cc
apart (TokenKind.Sign Sign.RightSquare) e = cc
apart (TokenKind.Sign _) e = refl
apart (TokenKind.Word w) e = refl
apart (TokenKind.Name n) e = refl
apart (TokenKind.Number n) e = refl

abbrev brackets_by : ℕ → Bool → Bool → ℕ
brackets_by n o c = cond o (n + 1) (cond c (n - 1) n)

by_bits : (o c : Bool) (m n : ℕ) → (o ≡ true → c ≡ false) → n ≤ m → (m + bit o) - (n + bit c) ≡ brackets_by (m - n) o c
by_bits true true m n h l = cc (h refl)
by_bits true false m n h l = omega arith
by_bits false true m n h l = omega arith
by_bits false false m n h l = omega arith

pub unclosed-push : (ts : List Terminal) (t : Terminal) → closings ts ≤ openings ts → unclosed (ts ++ t ∷ []) ≡ brackets_after (unclosed ts) t.kind
unclosed-push ts t l =
    let e = openings-push ts t in
    let f = closings-push ts t in
    let g = by_bits (is_opening t.kind) (is_closing t.kind) (openings ts) (closings ts) (apart t.kind) l in
    rw (e, f) g

-- ---- operators

-- no operator ends an outermost expression
border_apart : (kind : TokenKind) → is_border kind ≡ true → is_operator kind ≡ false
border_apart (TokenKind.Sign Sign.Becomes) e = refl
border_apart (TokenKind.Sign Sign.Semicolon) e = refl
border_apart (TokenKind.Sign Sign.LeftBrace) e = refl
border_apart (TokenKind.Sign _) e = cc
border_apart (TokenKind.Word w) e = cc
border_apart (TokenKind.Name n) e = cc
border_apart (TokenKind.Number n) e = cc

abbrev operators_by : ℕ → Bool → Bool → ℕ
operators_by n b p = cond b 0 (cond p (n + 1) n)

behind_border : (o a b p : Bool) (n m : ℕ) → m ≡ operators_by n b p →
    cond (o && not (a || (b || false))) 1 0 + m ≡ operators_by (cond (o && not a) 1 0 + n) b p
behind_border true true true p n m e = omega arith
behind_border true false true p n m e = omega arith
behind_border false a true p n m e = omega arith
behind_border true true false true n m e = omega arith
behind_border true true false false n m e = omega arith
behind_border true false false true n m e = omega arith
behind_border true false false false n m e = omega arith
behind_border false a false true n m e = omega arith
behind_border false a false false n m e = omega arith

last_one : (b p : Bool) → (b ≡ true → p ≡ false) → cond (p && true) 1 0 + 0 ≡ operators_by 0 b p
last_one true true h = cc (h refl)
last_one true false h = refl
last_one false true h = refl
last_one false false h = refl

pub operators-push : (ts : List Terminal) (t : Terminal) → operators (ts ++ t ∷ []) ≡ operators_after (operators ts) t.kind
operators-push [] t = last_one (is_border t.kind) (is_operator t.kind) (border_apart t.kind)
operators-push (x ∷ ts) t =
    let e = list_any-append (λ (u : Terminal). is_border u.kind) ts (t ∷ []) in
    rw e (behind_border (is_operator x.kind) (list_any (λ (u : Terminal). is_border u.kind) ts) (is_border t.kind) (is_operator t.kind) (operators ts) (operators (ts ++ t ∷ [])) (operators-push ts t))

-- ---- entering

abbrev entered_by : Bool → Bool → Bool → Bool → Counts → Entered
entered_by o b p q c = cond (o && not b) (too_deep Deep.Nesting) (cond (p && not q) (too_deep Deep.Operators) (within_limits c))

abbrev pub EnteredBy : Bool → Bool → Bool → Bool → Counts → Entered → Type 0
EnteredBy o b p q c (within_limits d) = (d ≡ c) × (o ≡ true → b ≡ true) × (p ≡ true → q ≡ true)
EnteredBy o b p q c (too_deep Deep.Nesting) = (o ≡ true) × (b ≡ false)
EnteredBy o b p q c (too_deep Deep.Operators) = (p ≡ true) × (q ≡ false)

entered : (o b p q : Bool) (c : Counts) → EnteredBy o b p q c (entered_by o b p q c)
entered true false p q c = (refl, refl)
entered true true true false c = (refl, refl)
entered true true true true c = (refl, (λ _. refl), λ _. refl)
entered true true false q c = (refl, (λ _. refl), λ e. cc)
entered false b true false c = (refl, refl)
entered false b true true c = (refl, (λ e. cc), λ _. refl)
entered false b false q c = (refl, (λ e. cc), λ e. cc)

-- what entering a token says of its kind and of the counts before it
pub enters : (c : Counts) (kind : TokenKind) → EnteredBy (is_opening kind) (nat_lt c.brackets 32) (is_operator kind) (nat_lt c.operators 64) (counts_after c kind) (enter c kind)
enters c kind = entered (is_opening kind) (nat_lt c.brackets 32) (is_operator kind) (nat_lt c.operators 64) (counts_after c kind)

-- ---- no token is too deep

-- a list's last element is the one, or stands behind it
push_splits : (front : List Terminal) (t : Terminal) (a : List Terminal) (u : Terminal) (b : List Terminal) → front ++ t ∷ [] ≡ a ++ u ∷ b →
    ((front ≡ a) × (t ≡ u)) ⊎ ((c : List Terminal) × (front ≡ a ++ u ∷ c))
push_splits [] t [] u b e = inl (refl, cc)
push_splits [] t (y ∷ []) u b e = cc
push_splits [] t (y ∷ z ∷ a) u b e = cc
push_splits (x ∷ front) t [] u b e = inr (front, cc)
push_splits (x ∷ front) t (y ∷ a) u b e =
    let tail_of : front ++ t ∷ [] ≡ a ++ u ∷ b = cc in
    elim (push_splits front t a u b tail_of) [ inl h ↦ inl (let f = h.0 in cc, h.1) | inr h ↦ inr (h.0, let f = h.1 in cc) ]

pub shallow-push : (front : List Terminal) (t : Terminal) → IsShallow front → ((what : Deep) → ¬ IsTooDeep what front t) → IsShallow (front ++ t ∷ [])
shallow-push front t h fine = record { at_each = λ a u b what e bad. go a u what (push_splits front t a u b e) bad }
  where
    go : (a : List Terminal) (u : Terminal) (what : Deep) → (((front ≡ a) × (t ≡ u)) ⊎ ((c : List Terminal) × (front ≡ a ++ u ∷ c))) → ¬ IsTooDeep what a u
    go a u what (inl (e, f)) bad =
        let P : List Terminal → Type 0 = λ y. IsTooDeep what y t in
        let Q : Terminal → Type 0 = λ v. IsTooDeep what a v in
        fine what (subst P (sym e) (subst Q (sym f) bad))
    go a u what (inr (c, e)) bad = h.at_each a u c what e bad

pub shallow-nil : IsShallow []
shallow-nil = record { at_each = no_split }
  where
    no_split : (a : List Terminal) (u : Terminal) (b : List Terminal) (what : Deep) → [] ≡ a ++ u ∷ b → ¬ IsTooDeep what a u
    no_split [] u b what e bad = cc
    no_split (x ∷ a) u b what e bad = cc
