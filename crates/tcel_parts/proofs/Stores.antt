-- The words of variables, one at a time: what setting and copying leaves of them.
use Rattle.std.proofs.Common.{◌≡◌, ◌≢◌, ℕ, zero, suc, ◌+◌, ◌-◌, ◌<◌, ◌≤◌, ◌⊎◌, inl, inr, ℤ, pos, negsuc, List, [], ◌∷◌, ◌++◌, length, get_or, set, refl, sym, ap, ◌∙◌, subst, arith}
use Rattle.std.specs.Prelude.{take, drop}
use Rattle.std.proofs.lemmas.Bool.{cases_lt, lt-ltb, le-ltb, cond-true, cond-false}
use Rattle.std.proofs.lemmas.List.{get_or-set_same, get_or-set_other, get_or-take, get_or-drop, get_or_append_left, get_or-append_right, length-take-le, length-drop}
use Rattle.tcel_num.specs.Words.{copied}
use Rattle.tcel_core.specs.declared.var.Var.{Var}
use Rattle.tcel_core.specs.Cells.{all_words, place, width, word, set_word, element_at, set_element, copy_words}
use Rattle.tcel_core.proofs.Scope.{array_within}

-- the i-th word of a variable
abbrev pub at : List Var → List ℤ → ℕ → ℕ → ℤ
at vars cells v i = get_or cells (place vars v + i) (pos 0)

-- ---- variables stand apart

in_order : (vars : List Var) (u v : ℕ) → u < v → place vars u + width vars u ≤ place vars v
in_order vars u zero h = absurd (omega arith)
in_order [] zero (suc v) h = omega arith
in_order [] (suc u) (suc v) h = omega arith
in_order (x ∷ vars) zero (suc v) h = omega arith
in_order (x ∷ vars) (suc u) (suc v) h = let r = in_order vars u v (omega arith) in omega arith

pub apart : (vars : List Var) (u v i j : ℕ) → u ≢ v → i < width vars u → j < width vars v → place vars u + i ≢ place vars v + j
apart vars u v i j other h g e =
    elim (cases_lt u v) [
      | inl less ↦ let r = in_order vars u v less in absurd (omega arith)
      | inr past ↦ let r = in_order vars v u (strict past) in absurd (omega arith)
    ]
  where
    strict : v ≤ u → v < u
    strict h =
        elim (cases_lt v u) [
          | inl less ↦ less
          | inr same ↦ absurd (other (omega arith))
        ]

pub within : (vars : List Var) (cells : List ℤ) (v i : ℕ) → length cells ≡ all_words vars → i < width vars v → place vars v + i < length cells
within vars cells v i long h = let r = array_within vars v in omega arith

-- ---- scalars

front : (n : ℕ) → n + 0 ≡ n
front n = omega arith

pub word_at : (vars : List Var) (cells : List ℤ) (v : ℕ) → word vars cells v ≡ at vars cells v 0
word_at vars cells v = ap (λ n. get_or cells n (pos 0)) (sym (front (place vars v)))

pub at_set_same : (vars : List Var) (cells : List ℤ) (v : ℕ) (x : ℤ) → length cells ≡ all_words vars → 0 < width vars v → at vars (set_word vars cells v x) v 0 ≡ x
at_set_same vars cells v x long some =
    sym (word_at vars (set_word vars cells v x) v) ∙ get_or-set_same cells (place vars v) x (pos 0) (let r = within vars cells v 0 long some in omega arith)

pub at_set_other : (vars : List Var) (cells : List ℤ) (v u i : ℕ) (x : ℤ) → u ≢ v → i < width vars u → 0 < width vars v → at vars (set_word vars cells v x) u i ≡ at vars cells u i
at_set_other vars cells v u i x other h some =
    get_or-set_other cells (place vars v) (place vars u + i) x (pos 0) (λ e. apart vars u v i 0 other h some (e ∙ sym (front (place vars v))))

-- ---- elements

pub element_read : (vars : List Var) (cells : List ℤ) (v : ℕ) (vars' : List Var) (cells' : List ℤ) (v' : ℕ) (k : ℤ) → width vars v ≡ width vars' v' →
    ((i : ℕ) → i < width vars v → at vars cells v i ≡ at vars' cells' v' i) → element_at vars cells v k ≡ element_at vars' cells' v' k
element_read vars cells v vars' cells' v' (pos k) wide same =
    elim (cases_lt k (width vars v)) [
      | inl less ↦
          cond-true _ _ _ (lt-ltb k (width vars v) less) ∙ same k less ∙ sym (cond-true _ _ _ (lt-ltb k (width vars' v') (subst (λ n. k < n) wide less)))
      | inr past ↦ cond-false _ _ _ (le-ltb k (width vars v) past) ∙ sym (cond-false _ _ _ (le-ltb k (width vars' v') (subst (λ n. n ≤ k) wide past)))
    ]
element_read vars cells v vars' cells' v' (negsuc k) wide same = refl

pub at_element_other : (vars : List Var) (cells : List ℤ) (v u i : ℕ) (k x : ℤ) → u ≢ v → i < width vars u → at vars (set_element vars cells v k x) u i ≡ at vars cells u i
at_element_other vars cells v u i (pos k) x other h =
    elim (cases_lt k (width vars v)) [
      | inl less ↦
          ap (λ l. get_or l (place vars u + i) (pos 0)) (cond-true _ _ _ (lt-ltb k (width vars v) less))
          ∙ get_or-set_other cells (place vars v + k) (place vars u + i) x (pos 0) (apart vars u v i k other h less)
      | inr past ↦ ap (λ l. get_or l (place vars u + i) (pos 0)) (cond-false _ _ _ (le-ltb k (width vars v) past))
    ]
at_element_other vars cells v u i (negsuc k) x other h = refl

-- a word where one is set
set_one : (vars : List Var) (cells : List ℤ) (v k i : ℕ) (x : ℤ) → length cells ≡ all_words vars → k < width vars v → i < width vars v →
    ((i ≡ k) × (get_or (set cells (place vars v + k) x) (place vars v + i) (pos 0) ≡ x))
    ⊎ ((i ≢ k) × (get_or (set cells (place vars v + k) x) (place vars v + i) (pos 0) ≡ at vars cells v i))
set_one vars cells v k i x long less h =
    elim (cases_lt i k) [
      | inl below ↦ inr ((λ e. absurd (omega arith)), get_or-set_other cells (place vars v + k) (place vars v + i) x (pos 0) (λ e. absurd (omega arith)))
      | inr past ↦
          elim (cases_lt k i) [
            | inl above ↦ inr ((λ e. absurd (omega arith)), get_or-set_other cells (place vars v + k) (place vars v + i) x (pos 0) (λ e. absurd (omega arith)))
            | inr up ↦
                let same : i ≡ k = omega arith in
                inl (
                  same,
                  ap (λ n. get_or (set cells (place vars v + k) x) (place vars v + n) (pos 0)) same
                      ∙ get_or-set_same cells (place vars v + k) x (pos 0) (within vars cells v k long less),
                )
          ]
    ]

pub element_written : (vars : List Var) (cells : List ℤ) (v : ℕ) (vars' : List Var) (cells' : List ℤ) (v' : ℕ) (k x : ℤ) →
    length cells ≡ all_words vars → length cells' ≡ all_words vars' → width vars v ≡ width vars' v' →
    ((i : ℕ) → i < width vars v → at vars cells v i ≡ at vars' cells' v' i) →
    (i : ℕ) → i < width vars v → at vars (set_element vars cells v k x) v i ≡ at vars' (set_element vars' cells' v' k x) v' i
element_written vars cells v vars' cells' v' (pos k) x long long' wide same i h =
    elim (cases_lt k (width vars v)) [
      | inl less ↦
          let less' = subst (λ n. k < n) wide less in
          ap (λ l. get_or l (place vars v + i) (pos 0)) (cond-true _ _ _ (lt-ltb k (width vars v) less))
          ∙ (both less less' (set_one vars cells v k i x long less h) (set_one vars' cells' v' k i x long' less' (subst (λ n. i < n) wide h))
          ∙ sym (ap (λ l. get_or l (place vars' v' + i) (pos 0)) (cond-true _ _ _ (lt-ltb k (width vars' v') less'))))
      | inr past ↦
          ap (λ l. get_or l (place vars v + i) (pos 0)) (cond-false _ _ _ (le-ltb k (width vars v) past))
          ∙ (same i h
          ∙ sym (ap (λ l. get_or l (place vars' v' + i) (pos 0)) (cond-false _ _ _ (le-ltb k (width vars' v') (subst (λ n. n ≤ k) wide past)))))
    ]
  where
    both : k < width vars v → k < width vars' v' →
        ((i ≡ k) × (get_or (set cells (place vars v + k) x) (place vars v + i) (pos 0) ≡ x))
        ⊎ ((i ≢ k) × (get_or (set cells (place vars v + k) x) (place vars v + i) (pos 0) ≡ at vars cells v i)) →
        ((i ≡ k) × (get_or (set cells' (place vars' v' + k) x) (place vars' v' + i) (pos 0) ≡ x))
        ⊎ ((i ≢ k) × (get_or (set cells' (place vars' v' + k) x) (place vars' v' + i) (pos 0) ≡ at vars' cells' v' i)) →
        get_or (set cells (place vars v + k) x) (place vars v + i) (pos 0) ≡ get_or (set cells' (place vars' v' + k) x) (place vars' v' + i) (pos 0)
    both less less' (inl a) (inl b) = a.1 ∙ sym b.1
    both less less' (inl a) (inr b) = absurd (b.0 a.0)
    both less less' (inr a) (inl b) = absurd (a.0 b.0)
    both less less' (inr a) (inr b) = a.1 ∙ (same i h ∙ sym b.1)
element_written vars cells v vars' cells' v' (negsuc k) x long long' wide same i h = same i h

-- ---- copies

copied_below : (cells : List ℤ) (from to many j : ℕ) → to ≤ length cells → j < to → get_or (copied cells from to many) j (pos 0) ≡ get_or cells j (pos 0)
copied_below cells from to many j h less =
    get_or_append_left (take to cells) (take many (drop from cells) ++ drop (to + many) cells) (pos 0) j (subst (λ n. j < n) (sym (length-take-le to cells h)) less)
    ∙ get_or-take to cells j (pos 0) less

copied_inside : (cells : List ℤ) (from to many i : ℕ) → to ≤ length cells → from + many ≤ length cells → i < many → get_or (copied cells from to many) (to + i) (pos 0) ≡ get_or cells (from + i) (pos 0)
copied_inside cells from to many i h g less =
    let part = take many (drop from cells) in
    let long : length part ≡ many = length-take-le many (drop from cells) (omega (arith, length-drop from cells)) in
    get_or-append_right (take to cells) (part ++ drop (to + many) cells) to (to + i) (pos 0) (length-take-le to cells h) (omega arith)
    ∙ (ap (λ n. get_or (part ++ drop (to + many) cells) n (pos 0)) (the_rest to i)
    ∙ (get_or_append_left part (drop (to + many) cells) (pos 0) i (subst (λ n. i < n) (sym long) less)
    ∙ (get_or-take many (drop from cells) i (pos 0) less ∙ get_or-drop from cells i (pos 0))))
  where
    the_rest : (a b : ℕ) → a + b - a ≡ b
    the_rest a b = omega arith

copied_above : (cells : List ℤ) (from to many j : ℕ) → to ≤ length cells → from + many ≤ length cells → to + many ≤ j → get_or (copied cells from to many) j (pos 0) ≡ get_or cells j (pos 0)
copied_above cells from to many j h g past =
    let part = take many (drop from cells) in
    let long : length part ≡ many = length-take-le many (drop from cells) (omega (arith, length-drop from cells)) in
    get_or-append_right (take to cells) (part ++ drop (to + many) cells) to j (pos 0) (length-take-le to cells h) (omega arith)
    ∙ (get_or-append_right part (drop (to + many) cells) many (j - to) (pos 0) long (omega arith)
    ∙ (get_or-drop (to + many) cells (j - to - many) (pos 0) ∙ ap (λ n. get_or cells n (pos 0)) (back to many j past)))
  where
    back : (a b j : ℕ) → a + b ≤ j → a + b + (j - a - b) ≡ j
    back a b j h = omega arith

pub at_copy_same : (vars : List Var) (cells : List ℤ) (from to i : ℕ) → length cells ≡ all_words vars → width vars from ≡ width vars to → i < width vars to →
    at vars (copy_words vars cells from to) to i ≡ at vars cells from i
at_copy_same vars cells from to i long wide h =
    let a = array_within vars from in
    let b = array_within vars to in
    copied_inside cells (place vars from) (place vars to) (width vars from) i (omega arith) (omega arith) (omega arith)

pub at_copy_other : (vars : List Var) (cells : List ℤ) (from to u i : ℕ) → length cells ≡ all_words vars → width vars from ≡ width vars to → u ≢ to → i < width vars u →
    at vars (copy_words vars cells from to) u i ≡ at vars cells u i
at_copy_other vars cells from to u i long wide other h =
    let a = array_within vars from in
    let b = array_within vars to in
    elim (cases_lt u to) [
      | inl less ↦ let r = in_order vars u to less in copied_below cells (place vars from) (place vars to) (width vars from) (place vars u + i) (omega arith) (omega arith)
      | inr past ↦
          let r = in_order vars to u (strict past) in
          copied_above cells (place vars from) (place vars to) (width vars from) (place vars u + i) (omega arith) (omega arith) (omega arith)
    ]
  where
    strict : to ≤ u → to < u
    strict h =
        elim (cases_lt to u) [
          | inl less ↦ less
          | inr same ↦ absurd (other (omega arith))
        ]
