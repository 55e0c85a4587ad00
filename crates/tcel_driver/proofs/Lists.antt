-- Lists side by side, and what is read out of the front of one.
use Rattle.std.proofs.Common.{◌≡◌, ℕ, zero, suc, ◌+◌, ◌<◌, List, [], ◌∷◌, ◌++◌, map, length, get_or, take, drop, refl, sym, ap, ◌∙◌, subst, arith, Some}
use Rattle.std.specs.List.{All, AllZip, sum, sum_by}
use Rattle.std.specs.Option.{option_map}
use Rattle.std.specs.Prelude.{slice_get}
use Rattle.std.proofs.lemmas.List.{get_or-map, length-map, map-append, map_more, map_push, take-map, drop-map, take-append-drop}
use Rattle.std.proofs.lemmas.List.Sums.{sum-map}
use Rattle.std.proofs.lemmas.Option.{none-some, slice_get-map, slice_get_read}

pub same_some : {X : Type 0} (x y : X) → Some x ≡ Some y → x ≡ y
same_some x y e = cc

pub slice_get_take : {X : Type 0} (xs : List X) (i n : ℕ) → i < n → slice_get (take n xs) i ≡ slice_get xs i
slice_get_take xs i zero h = absurd (omega arith)
slice_get_take [] i (suc n) h = refl
slice_get_take (x ∷ xs) zero (suc n) h = refl
slice_get_take (x ∷ xs) (suc i) (suc n) h = slice_get_take xs i n (omega arith)

-- beside an element of one list stands one of the other
pub zip_at : {A B : Type 0} (R : A → B → Type 0) (xs : List A) (ys : List B) (i : ℕ) (x : A) → AllZip R xs ys → slice_get xs i ≡ Some x → (y : B) × (slice_get ys i ≡ Some y) × R x y
zip_at R [] ys i x h e = absurd (none-some x e)
zip_at R (a ∷ xs) [] i x h e = absurd h
zip_at R (a ∷ xs) (b ∷ ys) zero x h e = (b, refl, subst (λ z. R z b) (same_some a x e) h.0)
zip_at R (a ∷ xs) (b ∷ ys) (suc i) x h e = zip_at R xs ys i x h.1 e

pub zip_push : {A B : Type 0} (R : A → B → Type 0) (xs : List A) (ys : List B) (x : A) (y : B) → AllZip R xs ys → R x y → AllZip R (xs ++ x ∷ []) (ys ++ y ∷ [])
zip_push R [] [] x y h r = (r, tt)
zip_push R [] (b ∷ ys) x y h r = absurd h
zip_push R (a ∷ xs) [] x y h r = absurd h
zip_push R (a ∷ xs) (b ∷ ys) x y h r = (h.0, zip_push R xs ys x y h.1 r)

pub zip_long : {A B : Type 0} (R : A → B → Type 0) (xs : List A) (ys : List B) → AllZip R xs ys → length ys ≡ length xs
zip_long R [] [] h = refl
zip_long R [] (b ∷ ys) h = absurd h
zip_long R (a ∷ xs) [] h = absurd h
zip_long R (a ∷ xs) (b ∷ ys) h = ap (λ n. suc n) (zip_long R xs ys h.1)

-- a list has one other beside it, where each element has one
pub zip_one : {A B : Type 0} (R : A → B → Type 0) → ((x : A) (y z : B) → R x y → R x z → y ≡ z) → (xs : List A) (ys zs : List B) → AllZip R xs ys → AllZip R xs zs → ys ≡ zs
zip_one R one [] [] [] h g = refl
zip_one R one [] [] (c ∷ zs) h g = absurd g
zip_one R one [] (b ∷ ys) zs h g = absurd h
zip_one R one (a ∷ xs) [] zs h g = absurd h
zip_one R one (a ∷ xs) (b ∷ ys) [] h g = absurd g
zip_one R one (a ∷ xs) (b ∷ ys) (c ∷ zs) h g = λ i. one a b c h.0 g.0 i ∷ zip_one R one xs ys zs h.1 g.1 i

map_map : {A B C : Type 0} (f : B → C) (g : A → B) (xs : List A) → map f (map g xs) ≡ map (λ x. f (g x)) xs
map_map f g [] = refl
map_map f g (x ∷ xs) = λ i. f (g x) ∷ map_map f g xs i

-- a sum over what is seen of each element
pub sum_seen : {A B : Type 0} (f : B → ℕ) (g : A → B) (xs : List A) → sum_by (λ x. f (g x)) xs ≡ sum (map f (map g xs))
sum_seen f g xs = sym (sum-map (λ x. f (g x)) xs) ∙ ap sum (sym (map_map f g xs))

-- the front of one list and the back of another are seen as one list, where both are
pub seen_joint : {A B : Type 0} (f : A → B) (n : ℕ) (xs ys : List A) → map f ys ≡ map f xs → map f (take n xs ++ drop n ys) ≡ map f xs
seen_joint f n xs ys e =
    map-append f (take n xs) (drop n ys)
    ∙ ((λ i. sym (take-map f n xs) i ++ sym (drop-map f n ys) i)
    ∙ ((λ i. take n (map f xs) ++ drop n (e i)) ∙ take-append-drop n (map f xs)))

-- ---- loops over a list that is seen through a function

pub read_map : {X A : Type 0} (f : X → A) (xs : List X) (i : ℕ) (x : X) → i < length xs → x ≡ get_or xs i x → slice_get (map f xs) i ≡ Some (f x)
read_map f xs i x within is = slice_get-map f xs i ∙ ap (option_map f) (slice_get_read xs (length xs) i x refl within is)

pub map_step : {X A : Type 0} (f : X → A) (xs : List X) (i : ℕ) (x : X) → i < length xs → x ≡ get_or xs i x → map f (take (i + 1) xs) ≡ map f (take i xs) ++ f x ∷ []
map_step f xs i x within is = map_more f xs i x within ∙ ap (λ y. map f (take i xs) ++ f y ∷ []) (sym is)

pub zip_step : {X A Y B : Type 0} (R : A → B → Type 0) (f : X → A) (g : Y → B) (xs : List X) (ys : List Y) (i : ℕ) (x : X) (y : Y) → i < length xs → x ≡ get_or xs i x → AllZip R (map f (take i xs)) (map g ys)
    → R (f x) (g y) → AllZip R (map f (take (i + 1) xs)) (map g (ys ++ y ∷ []))
zip_step R f g xs ys i x y within is h r =
    subst (λ l. AllZip R l (map g (ys ++ y ∷ []))) (sym (map_step f xs i x within is))
    (subst (λ l. AllZip R (map f (take i xs) ++ f x ∷ []) l) (sym (map_push g ys y)) (zip_push R (map f (take i xs)) (map g ys) (f x) (g y) h r))

-- what stands side by side in two such lists
pub zip_read : {X A Y B : Type 0} (R : A → B → Type 0) (f : X → A) (g : Y → B) (xs : List X) (ys : List Y) (i : ℕ) (x : X) (y : Y) → i < length xs → i < length ys → x ≡ get_or xs i x → y ≡ get_or ys i y
    → AllZip R (map f xs) (map g ys) → R (f x) (g y)
zip_read R f g xs ys i x y within there is at h =
    let beside = zip_at R (map f xs) (map g ys) i (f x) h (read_map f xs i x within is) in
    subst (λ b. R (f x) b) (same_some beside.0 (g y) (sym beside.1 ∙ read_map g ys i y there at)) beside.2

pub seen_long : {X A Y B : Type 0} (R : A → B → Type 0) (f : X → A) (g : Y → B) (xs : List X) (ys : List Y) → AllZip R (map f xs) (map g ys) → length ys ≡ length xs
seen_long R f g xs ys h = sym (length-map ys g) ∙ (zip_long R (map f xs) (map g ys) h ∙ length-map xs f)

pub all_seen : {X A : Type 0} (P : A → Type 0) (f : X → A) (xs : List X) → All P (map f xs) → All (λ x. P (f x)) xs
all_seen P f xs h = λ k d within. subst P (get_or-map f xs k d (f d) within) (h k (f d) (subst (λ n. k < n) (sym (length-map xs f)) within))
