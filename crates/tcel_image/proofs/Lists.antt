-- Lists that are spelled one thing after the other.
use Rattle.std.proofs.Common.{◌≡◌, ℕ, ◌+◌, ◌<◌, List, [], ◌∷◌, ◌++◌, length, get_or, take, ap, ◌∙◌, sym, append_assoc}
use Rattle.std.specs.List.{flat_map}
use Rattle.std.proofs.lemmas.List.{take_more, append-nil}
use Rattle.std.proofs.lemmas.List.Concat.{flat_map-append}

-- one more thing is written behind those before it
pub flat_map_next : {A : Type 0} (f : A → List ℕ) (xs : List A) (i : ℕ) (d : A) (before out new : List ℕ) → i < length xs
    → out ≡ before ++ flat_map f (take i xs) → new ≡ out ++ f (get_or xs i d) → new ≡ before ++ flat_map f (take (i + 1) xs)
flat_map_next f xs i d before out new lt so_far one =
    let x = get_or xs i d in
    let last : flat_map f (take (i + 1) xs) ≡ flat_map f (take i xs) ++ (f x ++ []) = ap (flat_map f) (take_more xs i d lt) ∙ flat_map-append f (take i xs) (x ∷ []) in
    one ∙ ap (λ (o : List ℕ). o ++ f x) so_far ∙ append_assoc before (flat_map f (take i xs)) (f x)
    ∙ ap (λ (l : List ℕ). before ++ (flat_map f (take i xs) ++ l)) (sym (append-nil (f x)))
    ∙ ap (λ (l : List ℕ). before ++ l) (sym last)
