-- Lists over the numbers from 0, one number more.
use Rattle.std.proofs.Common.{◌≡◌, ℕ, zero, suc, ◌+◌, ◌<◌, ◌≤◌, Bool, true, false, cond, List, [], ◌∷◌, ◌++◌, length, get_or, map, refl, sym, ap, ◌∙◌, append_assoc, append-nil, length-append, arith}
use Rattle.std.specs.Prelude.{filter, flat_map}
use Rattle.std.proofs.lemmas.List.{map-append}
use Rattle.tcel_core.specs.declared.var.Var.{Var}
use Rattle.tcel_core.specs.Numbering.{numbers_from}
use Rattle.tcel_core.specs.Parts.{kind_of}
use Rattle.tcel_rename.specs.Numbers.{temporary, starts_of, inside_numbers}

one_more : (a n : ℕ) → numbers_from a (suc n) ≡ numbers_from a n ++ (a + n) ∷ []
one_more a zero = ap (λ k. k ∷ []) (plus_zero a)
  where
    plus_zero : (b : ℕ) → b ≡ b + 0
    plus_zero b = omega arith
one_more a (suc n) = ap (λ l. a ∷ l) (one_more (a + 1) n ∙ ap (λ k. numbers_from (a + 1) n ++ k ∷ []) (moved a n))
  where
    moved : (b m : ℕ) → (b + 1) + m ≡ b + suc m
    moved b m = omega arith

pub number_more : (n : ℕ) → numbers_from 0 (n + 1) ≡ numbers_from 0 n ++ n ∷ []
number_more n = ap (numbers_from 0) (add_one n) ∙ (one_more 0 n ∙ ap (λ k. numbers_from 0 n ++ k ∷ []) (zero_add n))
  where
    add_one : (k : ℕ) → k + 1 ≡ suc k
    add_one k = omega arith

    zero_add : (k : ℕ) → 0 + k ≡ k
    zero_add k = omega arith

pub filter-append : {X : Type 0} (p : X → Bool) (xs ys : List X) → filter p (xs ++ ys) ≡ filter p xs ++ filter p ys
filter-append p [] ys = refl
filter-append {X} p (x ∷ xs) ys = by_test (p x) (filter-append p xs ys)
  where
    by_test : (b : Bool) → filter p (xs ++ ys) ≡ filter p xs ++ filter p ys → cond b (x ∷ filter p (xs ++ ys)) (filter p (xs ++ ys)) ≡ cond b (x ∷ filter p xs) (filter p xs) ++ filter p ys
    by_test true e = ap (λ l. x ∷ l) e
    by_test false e = e

pub flat_map-append : {X Y : Type 0} (g : X → List Y) (xs ys : List X) → flat_map g (xs ++ ys) ≡ flat_map g xs ++ flat_map g ys
flat_map-append g [] ys = refl
flat_map-append g (x ∷ xs) ys = ap (λ l. g x ++ l) (flat_map-append g xs ys) ∙ sym (append_assoc (g x) (flat_map g xs) (flat_map g ys))

pub filter_more : (p : ℕ → Bool) (n : ℕ) → filter p (numbers_from 0 (n + 1)) ≡ filter p (numbers_from 0 n) ++ cond (p n) (n ∷ []) []
filter_more p n = ap (filter p) (number_more n) ∙ filter-append p (numbers_from 0 n) (n ∷ [])

pub flat_more : {Y : Type 0} (g : ℕ → List Y) (n : ℕ) → flat_map g (numbers_from 0 (n + 1)) ≡ flat_map g (numbers_from 0 n) ++ g n
flat_more g n = ap (flat_map g) (number_more n) ∙ (flat_map-append g (numbers_from 0 n) (n ∷ []) ∙ ap (λ l. flat_map g (numbers_from 0 n) ++ l) (append-nil (g n)))

pub map_more : {Y : Type 0} (g : ℕ → Y) (n : ℕ) → map g (numbers_from 0 (n + 1)) ≡ map g (numbers_from 0 n) ++ g n ∷ []
map_more g n = ap (map g) (number_more n) ∙ map-append g (numbers_from 0 n) (n ∷ [])

-- ---- what the loops keep

pub count_more : (p : ℕ → Bool) (n copies : ℕ) (so : Bool) → so ≡ p n → copies ≡ length (filter p (numbers_from 0 n)) → copies + cond so 1 0 ≡ length (filter p (numbers_from 0 (n + 1)))
count_more p n copies so e f =
    ap (λ b. copies + cond b 1 0) e
    ∙ (ap (λ k. k + cond (p n) 1 0) f
    ∙ (ap (λ k. length (filter p (numbers_from 0 n)) + k) (one (p n))
    ∙ (sym (length-append (filter p (numbers_from 0 n)) (cond (p n) (n ∷ []) [])) ∙ ap (λ l. length l) (sym (filter_more p n)))))
  where
    one : (b : Bool) → cond b 1 0 ≡ length (cond b (n ∷ []) [])
    one true = refl
    one false = refl

pub inside_more : (p : ℕ → Bool) (count n copies x : ℕ) (so : Bool) (numbers : List ℕ) → so ≡ p n → copies ≡ length (filter p (numbers_from 0 n)) → x ≡ cond so (count + copies) n →
    numbers ≡ inside_numbers p count n → numbers ++ x ∷ [] ≡ inside_numbers p count (n + 1)
inside_more p count n copies x so numbers e f g h =
    ap (λ l. l ++ x ∷ []) h
    ∙ (ap (λ k. inside_numbers p count n ++ k ∷ []) (g ∙ (ap (λ b. cond b (count + copies) n) e ∙ ap (λ k. cond (p n) (count + k) n) f))
    ∙ sym (map_more (λ v. cond (p v) (count + length (filter p (numbers_from 0 v))) v) n))

kind_at : (own : List Var) (i : ℕ) (x : Var) → i < length own → x ≡ get_or own i x → kind_of own i ≡ x.kind
kind_at [] i x less is = absurd (omega arith)
kind_at (y ∷ own) zero x less is = ap (λ (z : Var). z.kind) (sym is)
kind_at (y ∷ own) (suc i) x less is = kind_at own i x (omega arith) is

pub temporaries_more : (own : List Var) (p : ℕ → Bool) (i : ℕ) (x : Var) (so : Bool) (old new before : List Var) → i < length own → x ≡ get_or own i x → so ≡ p i →
    old ≡ before ++ map (λ v. temporary (kind_of own v)) (filter p (numbers_from 0 i)) → new ≡ old ++ cond so (temporary x.kind ∷ []) [] →
    new ≡ before ++ map (λ v. temporary (kind_of own v)) (filter p (numbers_from 0 (i + 1)))
temporaries_more own p i x so old new before less is e f g =
    let m = λ (v : ℕ). temporary (kind_of own v) in
    g
    ∙ (ap (λ l. l ++ cond so (temporary x.kind ∷ []) []) f
    ∙ (append_assoc before (map m (filter p (numbers_from 0 i))) (cond so (temporary x.kind ∷ []) [])
    ∙ (ap (λ l. before ++ (map m (filter p (numbers_from 0 i)) ++ l)) (ap (λ b. cond b (temporary x.kind ∷ []) []) e ∙ (ap (λ k. cond (p i) (temporary k ∷ []) []) (sym (kind_at own i x less is)) ∙ mapped (p i)))
    ∙ ap (λ l. before ++ l) (sym (map-append m (filter p (numbers_from 0 i)) (cond (p i) (i ∷ []) [])) ∙ ap (map m) (sym (filter_more p i))))))
  where
    mapped : (b : Bool) → cond b (temporary (kind_of own i) ∷ []) [] ≡ map (λ v. temporary (kind_of own v)) (cond b (i ∷ []) [])
    mapped true = refl
    mapped false = refl

pub flat_kept : (g : ℕ → List Var) (n : ℕ) (old new before : List Var) → old ≡ before ++ flat_map g (numbers_from 0 n) → new ≡ old ++ g n → new ≡ before ++ flat_map g (numbers_from 0 (n + 1))
flat_kept g n old new before e f =
    f ∙ (ap (λ l. l ++ g n) e ∙ (append_assoc before (flat_map g (numbers_from 0 n)) (g n) ∙ ap (λ l. before ++ l) (sym (flat_more g n))))

pub starts_more : (g : ℕ → List Var) (n x : ℕ) (old before : List Var) (starts : List ℕ) → old ≡ before ++ flat_map g (numbers_from 0 n) → x ≡ length old → starts ≡ starts_of (length before) g n →
    starts ++ x ∷ [] ≡ starts_of (length before) g (n + 1)
starts_more g n x old before starts e f h =
    ap (λ l. l ++ x ∷ []) h
    ∙ (ap (λ k. starts_of (length before) g n ++ k ∷ []) (f ∙ (ap (λ (l : List Var). length l) e ∙ length-append before (flat_map g (numbers_from 0 n))))
    ∙ sym (map_more (λ m. length before + length (flat_map g (numbers_from 0 m))) n))

pub most_one : (b : Bool) (x : ℕ) → x ≡ cond b 1 0 → x ≤ 1
most_one true x e = omega arith
most_one false x e = omega arith
