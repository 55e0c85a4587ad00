-- Members of lists.
use Rattle.std.proofs.Common.{◌≡◌, ℕ, zero, suc, ◌+◌, ◌<◌, ◌≤◌, Bool, true, false, cond, ◌||◌, List, [], ◌∷◌, ◌++◌, map, refl, sym, ap, ◌∙◌, subst, arith, ◌⊎◌, inl, inr}
use Rattle.std.specs.Prelude.{Contains, filter, flat_map}
use Rattle.std.specs.List.{list_any}
use Rattle.std.proofs.lemmas.Bool.{true≢false, or_left, or_right, cases_lt}
use Rattle.tcel_core.specs.Numbering.{numbers_from}

-- one of the elements
abbrev pub In : {X : Type 0} → List X → X → Type 0
In [] x = ⊥
In (y ∷ ys) x = (y ≡ x) ⊎ In ys x

pub in_left : {X : Type 0} (xs ys : List X) (x : X) → In xs x → In (xs ++ ys) x
in_left [] ys x h = absurd h
in_left (y ∷ xs) ys x (inl e) = inl e
in_left (y ∷ xs) ys x (inr h) = inr (in_left xs ys x h)

pub in_right : {X : Type 0} (xs ys : List X) (x : X) → In ys x → In (xs ++ ys) x
in_right [] ys x h = h
in_right (y ∷ xs) ys x h = inr (in_right xs ys x h)

pub in_either : {X : Type 0} (xs ys : List X) (x : X) → In (xs ++ ys) x → In xs x ⊎ In ys x
in_either [] ys x h = inr h
in_either (y ∷ xs) ys x (inl e) = inl (inl e)
in_either (y ∷ xs) ys x (inr h) =
    elim (in_either xs ys x h) [
      | inl there ↦ inl (inr there)
      | inr there ↦ inr there
    ]

pub in_contained : {X : Type 0} (xs : List X) (x : X) → In xs x → Contains xs x
in_contained [] x h = absurd h
in_contained (y ∷ xs) x (inl e) = (0, omega arith, e)
in_contained (y ∷ xs) x (inr h) = let r = in_contained xs x h in (suc r.0, (let less = r.1 in omega arith), r.2)

-- a test that some element passes
pub any_from_in : {X : Type 0} (test : X → Bool) (xs : List X) (x : X) → In xs x → test x ≡ true → list_any test xs ≡ true
any_from_in test [] x h passes = absurd h
any_from_in test (y ∷ xs) x (inl e) passes = or_left (test y) (list_any test xs) (subst (λ z. test z ≡ true) (sym e) passes)
any_from_in test (y ∷ xs) x (inr h) passes = or_right (test y) (list_any test xs) (any_from_in test xs x h passes)

pub in_from_any : {X : Type 0} (test : X → Bool) (xs : List X) → list_any test xs ≡ true → (x : X) × In xs x × (test x ≡ true)
in_from_any test [] h = absurd (true≢false (sym h))
in_from_any {X} test (y ∷ xs) h = first (test y) refl (in_from_any test xs)
  where
    first : (b : Bool) → test y ≡ b → (list_any test xs ≡ true → (x : X) × In xs x × (test x ≡ true)) → (x : X) × In (y ∷ xs) x × (test x ≡ true)
    first true e later = (y, inl refl, e)
    first false e later = let r = later (sym (ap (λ b. b || list_any test xs) e) ∙ h) in (r.0, inr r.1, r.2)

pub none_from_any : {X : Type 0} (test : X → Bool) (xs : List X) (x : X) → list_any test xs ≡ false → In xs x → test x ≡ false
none_from_any test [] x none h = absurd h
none_from_any test (y ∷ xs) x none (inl e) = subst (λ z. test z ≡ false) e (first (test y) (list_any test xs) none)
  where
    first : (a b : Bool) → (a || b) ≡ false → a ≡ false
    first true b h = absurd (true≢false h)
    first false b h = refl
none_from_any test (y ∷ xs) x none (inr h) = none_from_any test xs x (second (test y) (list_any test xs) none) h
  where
    second : (a b : Bool) → (a || b) ≡ false → b ≡ false
    second true b h = absurd (true≢false h)
    second false b h = h

-- what maps, filters and numbers hold
pub in_map : {X Y : Type 0} (f : X → Y) (xs : List X) (x : X) → In xs x → In (map f xs) (f x)
in_map f [] x h = absurd h
in_map f (y ∷ xs) x (inl e) = inl (ap f e)
in_map f (y ∷ xs) x (inr h) = inr (in_map f xs x h)

pub in_mapped : {X Y : Type 0} (f : X → Y) (xs : List X) (y : Y) → In (map f xs) y → (x : X) × In xs x × (f x ≡ y)
in_mapped f [] y h = absurd h
in_mapped f (x ∷ xs) y (inl e) = (x, inl refl, e)
in_mapped f (x ∷ xs) y (inr h) = let r = in_mapped f xs y h in (r.0, inr r.1, r.2)

pub in_filter : {X : Type 0} (test : X → Bool) (xs : List X) (x : X) → In xs x → test x ≡ true → In (filter test xs) x
in_filter test [] x h passes = absurd h
in_filter test (y ∷ xs) x (inl e) passes =
    subst (λ b. In (cond b (y ∷ filter test xs) (filter test xs)) x) (sym (ap test e ∙ passes)) (inl e)
in_filter {X} test (y ∷ xs) x (inr h) passes = chosen (test y) (in_filter test xs x h passes)
  where
    chosen : (b : Bool) → In (filter test xs) x → In (cond b (y ∷ filter test xs) (filter test xs)) x
    chosen true later = inr later
    chosen false later = later

pub in_filtered : {X : Type 0} (test : X → Bool) (xs : List X) (x : X) → In (filter test xs) x → In xs x × (test x ≡ true)
in_filtered test [] x h = absurd h
in_filtered {X} test (y ∷ xs) x h = chosen (test y) refl h (in_filtered test xs x)
  where
    chosen : (b : Bool) → test y ≡ b → In (cond b (y ∷ filter test xs) (filter test xs)) x → (In (filter test xs) x → In xs x × (test x ≡ true)) → In (y ∷ xs) x × (test x ≡ true)
    chosen true e (inl same) later = (inl same, sym (ap test same) ∙ e)
    chosen true e (inr there) later = let r = later there in (inr r.0, r.1)
    chosen false e there later = let r = later there in (inr r.0, r.1)

pub in_flat : {X Y : Type 0} (f : X → List Y) (xs : List X) (x : X) (y : Y) → In xs x → In (f x) y → In (flat_map f xs) y
in_flat f [] x y h g = absurd h
in_flat f (z ∷ xs) x y (inl e) g = in_left (f z) (flat_map f xs) y (subst (λ w. In (f w) y) (sym e) g)
in_flat f (z ∷ xs) x y (inr h) g = in_right (f z) (flat_map f xs) y (in_flat f xs x y h g)

pub in_numbers : (first count n : ℕ) → first ≤ n → n < first + count → In (numbers_from first count) n
in_numbers first zero n h g = absurd (omega arith)
in_numbers first (suc count) n h g =
    elim (same_or first n h) [
      | inl e ↦ inl e
      | inr above ↦ inr (in_numbers (first + 1) count n (omega arith) (omega arith))
    ]
  where
    same_or : (a b : ℕ) → a ≤ b → (a ≡ b) ⊎ (a < b)
    same_or a b h =
        elim (cases_lt a b) [
          | inl less ↦ inr less
          | inr past ↦ inl (omega arith)
        ]

pub numbers_within : (first count n : ℕ) → In (numbers_from first count) n → (first ≤ n) × (n < first + count)
numbers_within first zero n h = absurd h
numbers_within first (suc count) n (inl e) = (omega arith, omega arith)
numbers_within first (suc count) n (inr h) = let r = numbers_within (first + 1) count n h in let low = r.0 in let high = r.1 in (omega arith, omega arith)
