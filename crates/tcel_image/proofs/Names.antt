-- Lists in which no name stands twice.
use Rattle.std.proofs.Common.{◌≡◌, ℕ, Bool, false, List, [], ◌∷◌, ◌++◌, ◌∙◌}
use Rattle.std.specs.List.{list_any}
use Rattle.std.proofs.lemmas.Bool.{or_from, or_parts}
use Rattle.std.proofs.lemmas.Cmp.{nat_list_eq_equiv}
use Rattle.tcel_image.specs.Validity.{has_twice, same_name}

any_inserted : (test : List ℕ → Bool) (a b : List (List ℕ)) (name : List ℕ) → test name ≡ false → list_any test (a ++ b) ≡ false → list_any test (a ++ name ∷ b) ≡ false
any_inserted test [] b name here none = or_from _ _ here none
any_inserted test (x ∷ a) b name here none =
    let both = or_parts (test x) (list_any test (a ++ b)) none in
    or_from _ _ both.0 (any_inserted test a b name here both.1)

-- a name that isn't among them may stand anywhere between them
pub twice_inserted : (a b : List (List ℕ)) (name : List ℕ) → list_any (same_name name) (a ++ b) ≡ false → has_twice (a ++ b) ≡ false → has_twice (a ++ name ∷ b) ≡ false
twice_inserted [] b name other none = or_from _ _ other none
twice_inserted (x ∷ a) b name other none =
    let apart = or_parts (same_name name x) (list_any (same_name name) (a ++ b)) other in
    let both = or_parts (list_any (same_name x) (a ++ b)) (has_twice (a ++ b)) none in
    or_from _ _ (any_inserted (same_name x) a b name (nat_list_eq_equiv.symm x name ∙ apart.0) both.0) (twice_inserted a b name apart.1 both.1)
