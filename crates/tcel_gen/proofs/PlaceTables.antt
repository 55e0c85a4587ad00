-- Tables of the places where variables begin.
use Rattle.std.proofs.Common.{◌≡◌, ℕ, zero, suc, ◌+◌, ◌<◌, ◌≤◌, List, [], ◌∷◌, length, get_or, drop, sym, ap, ◌∙◌, arith, inl, inr}
use Rattle.std.specs.Prelude.{min}
use Rattle.std.proofs.lemmas.Bool.{cases_lt}
use Rattle.std.proofs.lemmas.List.{take_all}
use Rattle.tcel_core.specs.declared.var.Var.{Var}
use Rattle.tcel_core.specs.Cells.{all_words, place, words_of}
use Rattle.tcel_gen.specs.Places.{starts_from}

pub starts_long : (vars : List Var) (n : ℕ) → length (starts_from n vars) ≡ length vars + 1
starts_long [] n = omega arith
starts_long (v ∷ vars) n = omega (arith, starts_long vars (n + words_of v.kind))

pub starts_at : (vars : List Var) (n v : ℕ) → v ≤ length vars → get_or (starts_from n vars) v 0 ≡ n + place vars v
starts_at [] n zero h = omega arith
starts_at [] n (suc v) h = absurd (omega arith)
starts_at (x ∷ vars) n zero h = omega arith
starts_at (x ∷ vars) n (suc v) h = let rest = starts_at vars (n + words_of x.kind) v (omega arith) in omega arith

-- behind the last variable begins nothing more
pub place_past : (vars : List Var) (v : ℕ) → length vars ≤ v → place vars v ≡ all_words vars
place_past vars v h = ap all_words (take_all v vars h)

-- the words of a variable are among those that are left
pub words_next : (vars : List Var) (i : ℕ) (d : Var) → i < length vars → words_of (get_or vars i d).kind ≤ all_words (drop i vars)
words_next [] i d h = absurd (omega arith)
words_next (x ∷ vars) zero d h = omega arith
words_next (x ∷ vars) (suc i) d h = words_next vars i d (omega (arith, h))

-- a number of no variable is the place of the last one's end
pub place_least : (vars : List Var) (v n : ℕ) → n ≡ min v (length vars) → place vars n ≡ place vars v
place_least vars v n e =
    elim (cases_lt v (length vars)) [
      | inl less ↦ let same : n ≡ v = omega arith in ap (λ k. place vars k) same
      | inr past ↦ let last : n ≡ length vars = omega arith in ap (λ k. place vars k) last ∙ place_past vars (length vars) (omega arith) ∙ sym (place_past vars v past)
    ]
