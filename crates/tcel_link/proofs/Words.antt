-- Words that are pushed, one for each receive.
use Rattle.std.proofs.Common.{◌≡◌, ℕ, ◌+◌, ℤ, pos, List, ◌++◌, replicate, ap, ◌∙◌, Result, Ok, Err, IfOk}
use Rattle.std.proofs.lemmas.List.{append_assoc, replicate-append-replicate}

-- those of a branch, and then those of the other
pub both_pushed : {A E : Type 0} (r : Result A E) (old one new : List ℤ) (a b : ℕ) → one ≡ old ++ replicate a (pos 0) → IfOk r (λ _. new ≡ one ++ replicate b (pos 0)) → IfOk r (λ _. new ≡ old ++ replicate (a + b) (pos 0))
both_pushed (Err e) old one new a b first h = tt
both_pushed (Ok x) old one new a b first h =
    h ∙ ap (λ xs. xs ++ replicate b (pos 0)) first ∙ append_assoc old (replicate a (pos 0)) (replicate b (pos 0)) ∙ ap (λ xs. old ++ xs) (replicate-append-replicate a b (pos 0))

-- those of a statement, where others are still to come
pub words_step : (now new all : List ℤ) (a b : ℕ) → new ≡ now ++ replicate a (pos 0) → now ++ replicate (a + b) (pos 0) ≡ all → new ++ replicate b (pos 0) ≡ all
words_step now new all a b is h =
    ap (λ xs. xs ++ replicate b (pos 0)) is ∙ append_assoc now (replicate a (pos 0)) (replicate b (pos 0)) ∙ ap (λ xs. now ++ xs) (replicate-append-replicate a b (pos 0)) ∙ h
