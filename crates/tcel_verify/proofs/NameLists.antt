-- Lists of names, part by part.
use Rattle.std.proofs.Common.{◌≡◌, ℕ, suc, ◌+◌, ◌-◌, ◌<◌, Bool, true, false, ◌||◌, List, [], ◌∷◌, ◌++◌, length, get_or, take, drop, refl, ap, sym, ◌∙◌, add-one, drop-cons}
use Rattle.std.specs.List.{list_any}
use Rattle.std.proofs.lemmas.List.{take_rest}
use Rattle.std.proofs.lemmas.List.Folds.{list_any-append}
use Rattle.tcel_image.specs.declared.image.ImageState.{ImageState}
use Rattle.tcel_image.specs.Validity.{same_name, has_twice}
use Rattle.tcel_verify.specs.Names.{stands_again, state_names}

or_assoc : (a b c : Bool) → ((a || b) || c) ≡ (a || (b || c))
or_assoc true b c = refl
or_assoc false b c = refl

any_state : (name : List ℕ) (states : List ImageState) → list_any (same_name name) (state_names states) ≡ list_any (λ (state : ImageState). same_name name state.name) states
any_state name [] = refl
any_state name (state ∷ states) = ap (λ b. same_name name state.name || b) (any_state name states)

-- a name among all names of a task, part by part
pub among_all : (name : List ℕ) (names others : List (List ℕ)) (states : List ImageState)
    → list_any (same_name name) (names ++ (others ++ state_names states))
    ≡ (list_any (same_name name) names || (list_any (same_name name) others || list_any (λ (state : ImageState). same_name name state.name) states))
among_all name names others states =
    list_any-append (same_name name) names (others ++ state_names states)
    ∙ ap (λ b. list_any (same_name name) names || b)
    (list_any-append (same_name name) others (state_names states) ∙ ap (λ b. list_any (same_name name) others || b) (any_state name states))

-- the names from a place on, by the first of them
pub one_more : (names others : List (List ℕ)) (place : ℕ) (d : List ℕ) → place < length names
    → stands_again (drop place names) others
    ≡ (list_any (same_name (get_or names place d)) (drop (place + 1) names ++ others) || stands_again (drop (place + 1) names) others)
one_more names others place d h = rw (add-one, drop-cons names place d) refl

pub one_more_state : (states : List ImageState) (place : ℕ) (state : ImageState) → state ≡ get_or states place state → place < length states
    → has_twice (state_names (drop place states))
    ≡ (list_any (λ (other : ImageState). same_name state.name other.name) (take (length states - (place + 1)) (drop (place + 1) states))
    || has_twice (state_names (drop (place + 1) states)))
one_more_state states place state e h =
    rw (take_rest states (place + 1), add-one, drop-cons states place state, ← e)
    (ap (λ b. b || has_twice (state_names (drop (suc place) states))) (any_state state.name (drop (suc place) states)))

pub skip : (a b : Bool) → a ≡ false → (a || b) ≡ b
skip a b e = ap (λ x. x || b) e

-- two of the names are one where one of the first part stands again, or two of the others are one
pub in_two_parts : (names others : List (List ℕ)) → has_twice (names ++ others) ≡ (stands_again names others || has_twice others)
in_two_parts [] others = refl
in_two_parts (name ∷ names) others =
    ap (λ b. list_any (same_name name) (names ++ others) || b) (in_two_parts names others)
    ∙ sym (or_assoc (list_any (same_name name) (names ++ others)) (stands_again names others) (has_twice others))
