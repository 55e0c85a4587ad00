-- Tokens that are put one after another.
use Rattle.std.proofs.Common.{◌≡◌, ℕ, ◌+◌, ◌*◌, ◌<◌, ◌≤◌, length, get_or, map, take, Bool, true, false, cond, List, [], ◌∷◌, ◌++◌, replicate, Result, Ok, Err, subst, refl, sym, ap, ◌∙◌, arith, append_assoc}
use Rattle.std.specs.Prelude.{OnOk, flat_map}
use Rattle.std.proofs.lemmas.List.{append-nil, replicate-append-replicate, take_all, take_more}
use Rattle.tcel_token.specs.declared.token.TokenKind.{TokenKind}
use Rattle.tcel_show.specs.declared.writer.Writer.{Writer}
use Rattle.tcel_show.specs.Layout.{Layout, laid, behind, behind_all, gap_behind, spelling}
use Rattle.tcel_show.specs.Puts.{Puts, layout}

-- one more level of indentation
pub indent_more : (front : List ℕ) (n : ℕ) → (front ++ (10 ∷ replicate (2 * n) 32)) ++ (32 ∷ 32 ∷ []) ≡ front ++ (10 ∷ replicate (2 * (n + 1)) 32)
indent_more front n =
    let more : 2 * n + 2 ≡ 2 * (n + 1) = omega arith in
    append_assoc front (10 ∷ replicate (2 * n) 32) (32 ∷ 32 ∷ [])
    ∙ ap (λ (xs : List ℕ). front ++ (10 ∷ xs)) (replicate-append-replicate (2 * n) 2 32 ∙ rw more refl)

behind_append : (xs ys : List TokenKind) (l : Layout) → behind_all l (xs ++ ys) ≡ behind_all (behind_all l xs) ys
behind_append [] ys l = refl
behind_append (x ∷ xs) ys l = behind_append xs ys (behind l x)

laid_append : (xs ys : List TokenKind) (l : Layout) → laid l (xs ++ ys) ≡ laid l xs ++ laid (behind_all l xs) ys
laid_append [] ys l = refl
laid_append (x ∷ xs) ys l =
    let first = gap_behind l.before l.depth x ++ spelling x in
    ap (λ (zs : List ℕ). first ++ zs) (laid_append xs ys (behind l x))
    ∙ sym (append_assoc first (laid (behind l x) xs) (laid (behind_all (behind l x) xs) ys))

pub puts_none : (w : Writer) → Puts w w []
puts_none w = record { text = sym (append-nil w.text.items); layout = refl }

pub puts_then : {a b c : Writer} {xs ys : List TokenKind} → Puts a b xs → Puts b c ys → Puts a c (xs ++ ys)
puts_then {a} {b} {c} {xs} {ys} p q =
    let back = laid_append xs ys (layout a) in
    let text : c.text.items ≡ (a.text.items ++ laid (layout a) xs) ++ laid (behind_all (layout a) xs) ys = rw (← p.text, ← p.layout) q.text in
    record {
      text = text ∙ append_assoc a.text.items (laid (layout a) xs) (laid (behind_all (layout a) xs) ys) ∙ rw (← back) refl;
      layout = q.layout ∙ rw p.layout (sym (behind_append xs ys (layout a)));
    }

-- one token, and then others
pub puts_cons : {a b c : Writer} {x : TokenKind} {ys : List TokenKind} → Puts a b (x ∷ []) → Puts b c ys → Puts a c (x ∷ ys)
puts_cons p q = puts_then p q

-- the tokens that are put may be told in other words
pub puts_same : {a b : Writer} {xs ys : List TokenKind} → ys ≡ xs → Puts a b xs → Puts a b ys
puts_same {a} {b} e p = subst (λ (zs : List TokenKind). Puts a b zs) (sym e) p

-- tokens in brackets, where they are enclosed
pub puts_enclosed : {a b c d : Writer} (is : Bool) (opening closing : TokenKind) {xs : List TokenKind} →
    Puts a b (cond is (opening ∷ []) []) → Puts b c xs → Puts c d (cond is (closing ∷ []) []) → Puts a d (cond is (opening ∷ (xs ++ closing ∷ [])) xs)
puts_enclosed true opening closing p q r = puts_cons p (puts_then q r)
puts_enclosed false opening closing {xs = xs} p q r = puts_same (sym (append-nil xs)) (puts_then p (puts_then q r))

-- and they were put if the last one was
pub if_put : {E : Type 0} {P Q : Type 0} (r : Result (Unit {0}) E) → (P → Q) → OnOk r P → OnOk r Q
if_put (Ok u) f p = f p
if_put (Err e) f p = tt

pub ruleset putting = (puts_cons, puts_then)

flat_map_push : {X : Type 0} (f : X → List TokenKind) (xs : List X) (x : X) → flat_map f (xs ++ x ∷ []) ≡ flat_map f xs ++ f x
flat_map_push f [] x = append-nil (f x)
flat_map_push f (y ∷ xs) x = ap (λ (ts : List TokenKind). f y ++ ts) (flat_map_push f xs x) ∙ sym (append_assoc (f y) (flat_map f xs) (f x))

-- one more of a list whose members are put one after another
pub put_each : {X : Type 0} (f : X → List TokenKind) (xs : List X) (i : ℕ) (x : X) {a b c : Writer} → i < length xs → x ≡ get_or xs i x →
    Puts a b (flat_map f (take i xs)) → Puts b c (f x) → Puts a c (flat_map f (take (i + 1) xs))
put_each f xs i x lt is p q =
    let more : take (i + 1) xs ≡ take i xs ++ x ∷ [] = take_more xs i x lt ∙ rw (← is) refl in
    puts_same (ap (flat_map f) more ∙ flat_map_push f (take i xs) x) (puts_then p q)

-- and all of them
pub put_all : {X : Type 0} (f : X → List TokenKind) (xs : List X) (i : ℕ) {a b : Writer} → length xs ≤ i → Puts a b (flat_map f (take i xs)) → Puts a b (flat_map f xs)
put_all f xs i end p = puts_same (ap (flat_map f) (sym (take_all i xs end))) p

pub flat_map_map : {X Y : Type 0} (f : Y → List TokenKind) (g : X → Y) (xs : List X) → flat_map f (map g xs) ≡ flat_map (λ x. f (g x)) xs
flat_map_map f g [] = refl
flat_map_map f g (x ∷ xs) = ap (λ (ts : List TokenKind). f (g x) ++ ts) (flat_map_map f g xs)

-- a task: its head, an opening brace, its declarations, its frame and a closing brace
pub put_task : {a b c d e f g h i : Writer} {w n p v l r : TokenKind} {decls every : List TokenKind} →
    Puts a b (w ∷ []) → Puts b c (n ∷ []) → Puts c d (p ∷ []) → Puts d e (v ∷ []) → Puts e f (l ∷ []) → Puts f g decls → Puts g h every → Puts h i (r ∷ []) →
    Puts a i (w ∷ n ∷ p ∷ v ∷ l ∷ ((decls ++ every) ++ r ∷ []))
put_task q1 q2 q3 q4 q5 q6 q7 q8 = puts_cons q1 (puts_cons q2 (puts_cons q3 (puts_cons q4 (puts_cons q5 (puts_then (puts_then q6 q7) q8)))))
