-- The variables that slicing adds: where they stand, and that no two are one.
use Rattle.std.proofs.Common.{◌≡◌, ◌≢◌, ℕ, zero, suc, ◌+◌, ◌<◌, ◌≤◌, Bool, true, false, cond, not, ◌&&◌, ◌==◌, List, [], ◌∷◌, ◌++◌, map, length, refl, sym, ap, ◌∙◌, subst, arith, ◌⊎◌, inl, inr, eq-eqb, eqb-true}
use Rattle.std.specs.Prelude.{Some, IfSome, slice_get, filter, flat_map, take, drop}
use Rattle.std.specs.List.{position_or_len}
use Rattle.std.proofs.lemmas.Bool.{true≢false, cond-true, cond-false}
use Rattle.std.proofs.lemmas.List.{take-append-le, drop-append-le, length-drop}
use Rattle.std.proofs.lemmas.Option.{none-some}
use Rattle.tcel_core.specs.declared.var.Var.{Var}
use Rattle.tcel_core.specs.Cells.{all_words, place, width, words_of}
use Rattle.tcel_core.specs.Kinds.{Slicing, is_kind_3, is_live}
use Rattle.tcel_core.specs.Language.{Expr, Block, Act}
use Rattle.tcel_core.specs.Parts.{Added, copy_of, saved, truth_of, is_same, variables, live_variables, is_split, saved_at, truth_at, added, number_of, kind_of, added_kind, added_variable, all_variables, inside_number}
use Rattle.tcel_core.specs.Paths.{at_item, at_test, points}
use Rattle.tcel_parts.proofs.Alike.{IsRenaming, width_there}
use Rattle.tcel_parts.proofs.Members.{In, in_left, in_right, in_map, in_filter, in_flat, in_numbers}

-- ---- which is which

both : (a b : Bool) → (a && b) ≡ true → (a ≡ true) × (b ≡ true)
both true b h = (refl, h)
both false b h = absurd (true≢false (sym h))

same_is : (a b : Added) → is_same a b ≡ true → a ≡ b
same_is (copy_of v) (copy_of w) h = ap copy_of (eqb-true v w h)
same_is (copy_of v) (saved m w) h = absurd (true≢false (sym h))
same_is (copy_of v) (truth_of m) h = absurd (true≢false (sym h))
same_is (saved n v) (copy_of w) h = absurd (true≢false (sym h))
same_is (saved n v) (saved m w) h =
    let e = both (n == m) (v == w) h in ap (λ k. saved k v) (eqb-true n m e.0) ∙ ap (saved m) (eqb-true v w e.1)
same_is (saved n v) (truth_of m) h = absurd (true≢false (sym h))
same_is (truth_of n) (copy_of w) h = absurd (true≢false (sym h))
same_is (truth_of n) (saved m w) h = absurd (true≢false (sym h))
same_is (truth_of n) (truth_of m) h = ap truth_of (eqb-true n m h)

is_itself : (a : Added) → is_same a a ≡ true
is_itself (copy_of v) = eq-eqb v v refl
is_itself (saved n v) = ap (λ b. b && (v == v)) (eq-eqb n n refl) ∙ eq-eqb v v refl
is_itself (truth_of n) = eq-eqb n n refl

-- ---- the place of one in a list

one_more : (n : ℕ) → suc n ≡ 1 + n
one_more n = omega arith

place_in : (a : Added) (xs : List Added) → In xs a → slice_get xs (position_or_len (is_same a) xs) ≡ Some a
place_in a [] h = absurd h
place_in a (x ∷ xs) h = first (is_same a x) refl h (place_in a xs)
  where
    first : (b : Bool) → is_same a x ≡ b → In (x ∷ xs) a → (In xs a → slice_get xs (position_or_len (is_same a) xs) ≡ Some a) →
        slice_get (x ∷ xs) (cond (not b) (1 + position_or_len (is_same a) xs) 0) ≡ Some a
    first true e _ later = ap Some (sym (same_is a x e))
    first false e (inl one) later = absurd (true≢false (sym (subst (λ y. is_same a y ≡ true) (sym one) (is_itself a)) ∙ e))
    first false e (inr there) later =
        subst (λ n. slice_get (x ∷ xs) n ≡ Some a) (one_more (position_or_len (is_same a) xs)) (later there)

get_behind : {X : Type 0} (xs ys : List X) (n : ℕ) → slice_get (xs ++ ys) (length xs + n) ≡ slice_get ys n
get_behind [] ys n = ap (slice_get ys) (none n)
  where
    none : (k : ℕ) → 0 + k ≡ k
    none k = omega arith
get_behind (x ∷ xs) ys n = ap (slice_get (x ∷ (xs ++ ys))) (shifted (length xs) n) ∙ get_behind xs ys n
  where
    shifted : (a k : ℕ) → suc a + k ≡ suc (a + k)
    shifted a k = omega arith

get_mapped : {X Y : Type 0} (f : X → Y) (xs : List X) (n : ℕ) (x : X) → slice_get xs n ≡ Some x → slice_get (map f xs) n ≡ Some (f x)
get_mapped f [] n x h = absurd (none-some x h)
get_mapped f (y ∷ xs) zero x h = ap Some (subst (λ o. IfSome o (λ z. f y ≡ f z)) h refl)
get_mapped f (y ∷ xs) (suc n) x h = get_mapped f xs n x h

-- ---- the variables of both parts

words_of_kind : (vars : List Var) (v : ℕ) → v < length vars → words_of (kind_of vars v) ≡ width vars v
words_of_kind [] v h = absurd (omega arith)
words_of_kind (x ∷ vars) zero h = omega arith
words_of_kind (x ∷ vars) (suc v) h = words_of_kind vars v (omega arith)

pub place_own : (vars more : List Var) (v : ℕ) → v ≤ length vars → place (vars ++ more) v ≡ place vars v
place_own vars more v h = ap all_words (take-append-le v vars more h)

pub width_own : (vars more : List Var) (v : ℕ) → v < length vars → width (vars ++ more) v ≡ width vars v
width_own vars more v h =
    ap (λ l. all_words (take 1 l)) (drop-append-le v vars more (omega arith))
    ∙ ap all_words (take-append-le 1 (drop v vars) more (omega (arith, length-drop v vars)))

pub number_there : (s : Slicing) (a : Added) → In (added s) a → slice_get (all_variables s) (number_of s a) ≡ Some (added_variable s.vars a)
number_there s a h =
    get_behind s.vars (map (added_variable s.vars) (added s)) (position_or_len (is_same a) (added s))
    ∙ get_mapped (added_variable s.vars) (added s) (position_or_len (is_same a) (added s)) a (place_in a (added s) h)

pub width_added : (s : Slicing) (a : Added) → In (added s) a → width (all_variables s) (number_of s a) ≡ words_of (added_kind s.vars a)
width_added s a h = width_there (all_variables s) (number_of s a) (added_variable s.vars a) (number_there s a h)

-- no two of them are one
pub one_number : (s : Slicing) (a b : Added) → In (added s) a → In (added s) b → number_of s a ≡ number_of s b → a ≡ b
one_number s a b h g e =
    let p = position_or_len (is_same a) (added s) in
    let q = position_or_len (is_same b) (added s) in
    let same : p ≡ q = omega arith in
    subst (λ o. IfSome o (λ c. a ≡ c)) (sym (place_in a (added s) h) ∙ (ap (slice_get (added s)) same ∙ place_in b (added s) g)) refl

pub above_own : (s : Slicing) (a : Added) → length s.vars ≤ number_of s a
above_own s a = omega arith

pub not_own : (s : Slicing) (a : Added) (v : ℕ) → v < length s.vars → v ≢ number_of s a
not_own s a v h e = let r = above_own s a in omega arith

-- ---- which are added

pub copy_in : (s : Slicing) (v : ℕ) → v < length s.vars → is_kind_3 s v ≡ true → In (added s) (copy_of v)
copy_in s v h kind =
    in_left (map copy_of (filter (is_kind_3 s) (variables s))) (flat_map (saved_at s) (points s.body) ++ flat_map (truth_at s) (points s.body)) (copy_of v)
    (in_map copy_of (filter (is_kind_3 s) (variables s)) v (in_filter (is_kind_3 s) (variables s) v (in_numbers 0 (length s.vars) v (omega arith) (omega arith)) kind))

pub saved_in : (s : Slicing) (n v : ℕ) (act : Act) → In (points s.body) (at_item n act) → s.kept n ≡ true → v < length s.vars → is_live s n v ≡ true → In (added s) (saved n v)
saved_in s n v act there kept h live =
    in_right (map copy_of (filter (is_kind_3 s) (variables s))) (flat_map (saved_at s) (points s.body) ++ flat_map (truth_at s) (points s.body)) (saved n v)
    (in_left (flat_map (saved_at s) (points s.body)) (flat_map (truth_at s) (points s.body)) (saved n v)
    (in_flat (saved_at s) (points s.body) (at_item n act) (saved n v) there
    (subst (λ b. In (map (saved n) (cond b (live_variables s n) [])) (saved n v)) (sym kept)
    (in_map (saved n) (live_variables s n) v (in_filter (is_live s n) (variables s) v (in_numbers 0 (length s.vars) v (omega arith) (omega arith)) live)))))

pub truth_in : (s : Slicing) (n : ℕ) (test : Expr) (held other : Block) → In (points s.body) (at_test n test held other) → is_split s held other ≡ true → In (added s) (truth_of n)
truth_in s n test held other there split =
    in_right (map copy_of (filter (is_kind_3 s) (variables s))) (flat_map (saved_at s) (points s.body) ++ flat_map (truth_at s) (points s.body)) (truth_of n)
    (in_right (flat_map (saved_at s) (points s.body)) (flat_map (truth_at s) (points s.body)) (truth_of n)
    (in_flat (truth_at s) (points s.body) (at_test n test held other) (truth_of n) there
    (subst (λ b. In (cond b (truth_of n ∷ []) []) (truth_of n)) (sym split) (inl refl))))

-- ---- the numbers that kept items name

pub width_copy : (s : Slicing) (v : ℕ) → v < length s.vars → is_kind_3 s v ≡ true → width s.vars v ≡ width (all_variables s) (number_of s (copy_of v))
width_copy s v h kind = sym (words_of_kind s.vars v h) ∙ sym (width_added s (copy_of v) (copy_in s v h kind))

pub width_saved : (s : Slicing) (n v : ℕ) (act : Act) → In (points s.body) (at_item n act) → s.kept n ≡ true → v < length s.vars → is_live s n v ≡ true →
    width s.vars v ≡ width (all_variables s) (number_of s (saved n v))
width_saved s n v act there kept h live = sym (words_of_kind s.vars v h) ∙ sym (width_added s (saved n v) (saved_in s n v act there kept h live))

-- a variable of kind 3 goes by its copy's number, any other by its own
pub inside_is : (s : Slicing) (v : ℕ) → ((is_kind_3 s v ≡ true) × (inside_number s v ≡ number_of s (copy_of v))) ⊎ ((is_kind_3 s v ≡ false) × (inside_number s v ≡ v))
inside_is s v = chosen (is_kind_3 s v) refl
  where
    chosen : (b : Bool) → is_kind_3 s v ≡ b →
        ((is_kind_3 s v ≡ true) × (inside_number s v ≡ number_of s (copy_of v))) ⊎ ((is_kind_3 s v ≡ false) × (inside_number s v ≡ v))
    chosen true e = inl (e, cond-true _ _ _ e)
    chosen false e = inr (e, cond-false _ _ _ e)

pub inside_renames : (s : Slicing) → IsRenaming s.vars (all_variables s) (inside_number s)
inside_renames s =
    record {
      wide = λ v h.
          elim (inside_is s v) [
            | inl c ↦ width_copy s v h c.0 ∙ ap (width (all_variables s)) (sym c.1)
            | inr o ↦ sym (width_own s.vars (map (added_variable s.vars) (added s)) v h) ∙ ap (width (all_variables s)) (sym o.1)
          ];
      distinct = λ u v h g other e. other (one u v h g (inside_is s u) (inside_is s v) e);
    }
  where
    one : (u v : ℕ) → u < length s.vars → v < length s.vars →
        ((is_kind_3 s u ≡ true) × (inside_number s u ≡ number_of s (copy_of u))) ⊎ ((is_kind_3 s u ≡ false) × (inside_number s u ≡ u)) →
        ((is_kind_3 s v ≡ true) × (inside_number s v ≡ number_of s (copy_of v))) ⊎ ((is_kind_3 s v ≡ false) × (inside_number s v ≡ v)) →
        inside_number s u ≡ inside_number s v → u ≡ v
    one u v h g (inl a) (inl b) e = copied_one (one_number s (copy_of u) (copy_of v) (copy_in s u h a.0) (copy_in s v g b.0) (sym a.1 ∙ (e ∙ b.1)))
      where
        number_in : Added → ℕ
        number_in (copy_of w) = w
        number_in (saved n w) = w
        number_in (truth_of n) = n

        copied_one : copy_of u ≡ copy_of v → u ≡ v
        copied_one same = ap number_in same
    one u v h g (inl a) (inr b) e = absurd (not_own s (copy_of u) v g (sym b.1 ∙ (sym e ∙ a.1)))
    one u v h g (inr a) (inl b) e = absurd (not_own s (copy_of v) u h (sym a.1 ∙ (e ∙ b.1)))
    one u v h g (inr a) (inr b) e = sym a.1 ∙ (e ∙ b.1)

pub own_renames : (s : Slicing) → IsRenaming s.vars (all_variables s) (λ v. v)
own_renames s =
    record {
      wide = λ v h. sym (width_own s.vars (map (added_variable s.vars) (added s)) v h);
      distinct = λ u v h g other. other;
    }
