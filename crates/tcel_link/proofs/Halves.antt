-- Lists of which a front is changed, element by element.
use Rattle.std.proofs.Common.{◌≡◌, ℕ, zero, suc, ◌+◌, ◌<◌, ◌≤◌, List, [], ◌∷◌, length, map, get_or, set, refl, sym, ap, ◌∙◌, arith}
use Rattle.std.proofs.lemmas.List.{get_or-map, length-map, map-set}

-- the first so many elements are changed
abbrev pub half : {X : Type 0} → (X → X) → ℕ → List X → List X
half f zero xs = xs
half f (suc i) [] = []
half f (suc i) (x ∷ xs) = f x ∷ half f i xs

pub length-half : {X : Type 0} (f : X → X) (i : ℕ) (xs : List X) → length (half f i xs) ≡ length xs
length-half f zero xs = refl
length-half f (suc i) [] = refl
length-half f (suc i) (x ∷ xs) = ap suc (length-half f i xs)

-- the next element is as it was
pub half_at : {X : Type 0} (f : X → X) (i : ℕ) (xs : List X) (d : X) → get_or (half f i xs) i d ≡ get_or xs i d
half_at f zero xs d = refl
half_at f (suc i) [] d = refl
half_at f (suc i) (x ∷ xs) d = half_at f i xs d

pub half_set : {X : Type 0} (f : X → X) (i : ℕ) (xs : List X) (d : X) → i < length xs → set (half f i xs) i (f (get_or xs i d)) ≡ half f (suc i) xs
half_set f zero [] d h = absurd (omega arith)
half_set f zero (x ∷ xs) d h = refl
half_set f (suc i) [] d h = absurd (omega arith)
half_set f (suc i) (x ∷ xs) d h = ap (λ ys. f x ∷ ys) (half_set f i xs d (omega (arith, h)))

-- at the end all are
pub half_all : {X : Type 0} (f : X → X) (i : ℕ) (xs : List X) → length xs ≤ i → half f i xs ≡ map f xs
half_all f zero [] h = refl
half_all f (suc i) [] h = refl
half_all f zero (x ∷ xs) h = absurd (omega arith)
half_all f (suc i) (x ∷ xs) h = ap (λ ys. f x ∷ ys) (half_all f i xs (omega (arith, h)))

-- the next element, seen through a view
pub viewed : {X Y : Type 0} (view : Y → X) (f : X → X) (i : ℕ) (xs : List X) (ys : List Y) (y : Y) → map view ys ≡ half f i xs → i < length ys → y ≡ get_or ys i y → view y ≡ get_or xs i (view y)
viewed view f i xs ys y so_far within is =
    ap view is ∙ sym (get_or-map view ys i y (view y) within) ∙ ap (λ zs. get_or zs i (view y)) so_far ∙ half_at f i xs (view y)

-- one element more was changed, where elements are seen through a view
pub half_more : {X Y : Type 0} (view : Y → X) (f : X → X) (i : ℕ) (xs : List X) (ys : List Y) (y new : Y) → map view ys ≡ half f i xs → i < length ys → y ≡ get_or ys i y → view new ≡ f (view y) →
    map view (set ys i new) ≡ half f (i + 1) xs
half_more view f i xs ys y new so_far within is changed =
    let there = viewed view f i xs ys y so_far within is in
    let more : suc i ≡ i + 1 = omega arith in
    map-set view ys i new ∙ ap (λ zs. set zs i (view new)) so_far ∙ ap (set (half f i xs) i) (changed ∙ ap f there)
    ∙ half_set f i xs (view y) (omega (arith, within, length-map ys view, ap (λ zs. length zs) so_far, length-half f i xs)) ∙ ap (λ n. half f n xs) more
