-- The numbers that the lists give are those of the definitions.
use Rattle.std.proofs.Common.{◌≡◌, ℕ, zero, suc, ◌+◌, ◌-◌, ◌<◌, ◌≤◌, Bool, true, false, cond, not, ◌==◌, List, [], ◌∷◌, ◌++◌, length, get_or, map, refl, sym, ap, ◌∙◌, append_assoc, arith, eq-eqb, eqb-true, inl, inr}
use Rattle.std.specs.Prelude.{filter}
use Rattle.std.specs.List.{position_or_len}
use Rattle.std.proofs.lemmas.Bool.{true≢false}
use Rattle.std.proofs.lemmas.List.{map-append}
use Rattle.tcel_core.specs.Numbering.{numbers_from}
use Rattle.tcel_core.specs.Parts.{Added, is_same}
use Rattle.tcel_parts.proofs.Members.{In, in_mapped, in_filtered, numbers_within}
use Rattle.tcel_rename.proofs.NumberLists.{filter-append}

-- ---- numbers in two pieces

pub numbers_split : (a k m : ℕ) → numbers_from a (k + m) ≡ numbers_from a k ++ numbers_from (a + k) m
numbers_split a zero m = ap (λ j. numbers_from a j) (zero_add m) ∙ ap (λ j. numbers_from j m) (plus_zero a)
  where
    zero_add : (j : ℕ) → 0 + j ≡ j
    zero_add j = omega arith

    plus_zero : (j : ℕ) → j ≡ j + 0
    plus_zero j = omega arith
numbers_split a (suc k) m =
    ap (numbers_from a) (suc_add k m) ∙ ap (λ l. a ∷ l) (numbers_split (a + 1) k m ∙ ap (λ j. numbers_from (a + 1) k ++ numbers_from j m) (moved a k))
  where
    suc_add : (i j : ℕ) → suc i + j ≡ suc (i + j)
    suc_add i j = omega arith

    moved : (i j : ℕ) → (i + 1) + j ≡ i + suc j
    moved i j = omega arith

pub numbers_at : (count v : ℕ) → v < count → numbers_from 0 count ≡ numbers_from 0 v ++ (v ∷ numbers_from (v + 1) (count - (v + 1)))
numbers_at count v less =
    ap (numbers_from 0) whole ∙ (numbers_split 0 v (suc (count - (v + 1))) ∙ ap (λ j. numbers_from 0 v ++ numbers_from j (suc (count - (v + 1)))) (zero_add v))
  where
    whole : count ≡ v + suc (count - (v + 1))
    whole = omega arith

    zero_add : (j : ℕ) → 0 + j ≡ j
    zero_add j = omega arith

pub mapped_at : (f : ℕ → ℕ) (count n d : ℕ) → n < count → get_or (map f (numbers_from 0 count)) n d ≡ f n
mapped_at f count n d less = by_first f 0 count n d less ∙ ap f (zero_add n)
  where
    zero_add : (j : ℕ) → 0 + j ≡ j
    zero_add j = omega arith

    shifted : (a j : ℕ) → (a + 1) + j ≡ a + suc j
    shifted a j = omega arith

    plus_zero : (a : ℕ) → a ≡ a + 0
    plus_zero a = omega arith

    by_first : (g : ℕ → ℕ) (a c k e : ℕ) → k < c → get_or (map g (numbers_from a c)) k e ≡ g (a + k)
    by_first g a zero k e h = absurd (omega arith)
    by_first g a (suc c) zero e h = ap g (plus_zero a)
    by_first g a (suc c) (suc k) e h = by_first g (a + 1) c k e (omega arith) ∙ ap g (shifted a k)

pub mapped_past : (f : ℕ → ℕ) (count n d : ℕ) → count ≤ n → get_or (map f (numbers_from 0 count)) n d ≡ d
mapped_past f count n d past = by_first f 0 count n d past
  where
    by_first : (g : ℕ → ℕ) (a c k e : ℕ) → c ≤ k → get_or (map g (numbers_from a c)) k e ≡ e
    by_first g a zero k e h = refl
    by_first g a (suc c) zero e h = absurd (omega arith)
    by_first g a (suc c) (suc k) e h = by_first g (a + 1) c k e (omega arith)

-- ---- the place of one in a list

pub place_past : (p : Added → Bool) (xs ys : List Added) → ((x : Added) → In xs x → p x ≡ false) → position_or_len p (xs ++ ys) ≡ length xs + position_or_len p ys
place_past p [] ys none = zero_add (position_or_len p ys)
  where
    zero_add : (j : ℕ) → j ≡ 0 + j
    zero_add j = omega arith
place_past p (x ∷ xs) ys none = by_test (p x) (none x (inl refl)) (place_past p xs ys (λ y h. none y (inr h)))
  where
    by_test : (b : Bool) → b ≡ false → position_or_len p (xs ++ ys) ≡ length xs + position_or_len p ys → cond (not b) (1 + position_or_len p (xs ++ ys)) 0 ≡ length (x ∷ xs) + position_or_len p ys
    by_test true e h = absurd (true≢false e)
    by_test false e h = omega arith

place_here : (p : Added → Bool) (x : Added) (ys : List Added) → p x ≡ true → position_or_len p (x ∷ ys) ≡ 0
place_here p x ys h = ap (λ b. cond (not b) (1 + position_or_len p ys) 0) h

other_number : (v u : ℕ) → u < v → (v == u) ≡ false
other_number v u less = by_test (v == u) refl
  where
    by_test : (b : Bool) → (v == u) ≡ b → (v == u) ≡ false
    by_test false e = e
    by_test true e = let same = eqb-true v u e in absurd (omega arith)

-- among variables that pass a test, in order
pub rank : (mk : ℕ → Added) → ((v u : ℕ) → is_same (mk v) (mk u) ≡ (v == u)) → (p : ℕ → Bool) (count v : ℕ) → v < count → p v ≡ true → (rest : List Added) →
    position_or_len (is_same (mk v)) (map mk (filter p (numbers_from 0 count)) ++ rest) ≡ length (filter p (numbers_from 0 v))
rank mk same p count v less passes rest =
    let behind = filter p (numbers_from (v + 1) (count - (v + 1))) in
    let all : filter p (numbers_from 0 count) ≡ filter p (numbers_from 0 v) ++ (v ∷ behind) =
    ap (filter p) (numbers_at count v less) ∙ (filter-append p (numbers_from 0 v) (v ∷ numbers_from (v + 1) (count - (v + 1))) ∙ ap (λ b. filter p (numbers_from 0 v) ++ cond b (v ∷ behind) behind) passes)
    in
    ap (λ l. position_or_len (is_same (mk v)) (map mk l ++ rest)) all
    ∙ (ap (λ l. position_or_len (is_same (mk v)) (l ++ rest)) (map-append mk (filter p (numbers_from 0 v)) (v ∷ behind))
    ∙ (ap (position_or_len (is_same (mk v))) (append_assoc (map mk (filter p (numbers_from 0 v))) (map mk (v ∷ behind)) rest)
    ∙ (place_past (is_same (mk v)) (map mk (filter p (numbers_from 0 v))) (map mk (v ∷ behind) ++ rest) earlier
    ∙ (ap (λ k. length (map mk (filter p (numbers_from 0 v))) + k) (place_here (is_same (mk v)) (mk v) (map mk behind ++ rest) (same v v ∙ eq-eqb v v refl))
    ∙ (plus_zero (length (map mk (filter p (numbers_from 0 v)))) ∙ mapped_length mk (filter p (numbers_from 0 v)))))))
  where
    plus_zero : (j : ℕ) → j + 0 ≡ j
    plus_zero j = omega arith

    mapped_length : (f : ℕ → Added) (l : List ℕ) → length (map f l) ≡ length l
    mapped_length f [] = refl
    mapped_length f (y ∷ l) = let more = mapped_length f l in omega arith

    earlier : (x : Added) → In (map mk (filter p (numbers_from 0 v))) x → is_same (mk v) x ≡ false
    earlier x there =
        let r = in_mapped mk (filter p (numbers_from 0 v)) x there in
        let before = (numbers_within 0 v r.0 (in_filtered p (numbers_from 0 v) r.0 r.1).0).1 in
        ap (is_same (mk v)) (sym r.2) ∙ (same v r.0 ∙ other_number v r.0 (omega arith))
