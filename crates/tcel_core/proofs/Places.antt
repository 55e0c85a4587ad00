-- Where the words of variables begin, one variable after another.
use Rattle.std.proofs.Common.{◌≡◌, ℕ, zero, suc, ◌+◌, ◌<◌, ◌≤◌, List, [], ◌∷◌, length, get_or, set, refl, sym, ap, subst, ◌∙◌, take, drop, cond, inl, inr, arith}
use Rattle.std.proofs.Math.Nat.{eq-or-lt_of_le}
use Rattle.std.proofs.lemmas.List.{take_all, drop_all, get_or-set_same, get_or-set_other}
use Rattle.tcel_core.specs.declared.var.Var.{Var}
use Rattle.tcel_core.specs.Cells.{all_words, place, width, words_of}
use Rattle.tcel_core.specs.Frames.{is_state, state_words}

-- the words of a variable end where those of the next one begin
pub place_after : (vars : List Var) (v : ℕ) → place vars (suc v) ≡ place vars v + width vars v
place_after [] zero = refl
place_after [] (suc v) = refl
place_after (x ∷ vars) zero = omega arith
place_after (x ∷ vars) (suc v) = let rest = place_after vars v in omega arith

-- where a variable's words end
pub place_end : (vars : List Var) (v : ℕ) → place vars (v + 1) ≡ place vars v + width vars v
place_end vars v = let next : v + 1 ≡ suc v = omega arith in ap (place vars) next ∙ place_after vars v

-- behind the last variable begins nothing more
pub place_past : (vars : List Var) (v : ℕ) → length vars ≤ v → place vars v ≡ all_words vars
place_past vars v h = ap all_words (take_all v vars h)

-- a number of no variable has no words
pub width_past : (vars : List Var) (v : ℕ) → length vars ≤ v → width vars v ≡ 0
width_past vars v h = ap (λ rest. all_words (take 1 rest)) (drop_all v vars h)

-- where the words of the next variable begin
pub place_next : (vars : List Var) (v : ℕ) (d : Var) → v < length vars → place vars (suc v) ≡ place vars v + words_of (get_or vars v d).kind
place_next [] v d h = absurd (omega arith)
place_next (y ∷ vars) zero d h = omega arith
place_next (y ∷ vars) (suc v) d h = let rest = place_next vars v d (omega (arith, h)) in omega arith

-- a table of places with one place more
pub placed_next : (vars : List Var) (places : List ℕ) (v words : ℕ) → suc v < length places → words ≡ place vars (suc v) →
    ((u : ℕ) → u ≤ v → get_or places u 0 ≡ place vars u) → (u : ℕ) → u ≤ suc v → get_or (set places (suc v) words) u 0 ≡ place vars u
placed_next vars places v words h e each u less =
    elim (eq-or-lt_of_le less) [
      | inl same ↦ subst (λ w. get_or (set places (suc v) words) w 0 ≡ place vars w) (sym same) (get_or-set_same places (suc v) words 0 h ∙ e)
      | inr before ↦ get_or-set_other places (suc v) u words 0 (λ p. absurd (omega (arith, p, before))) ∙ each u (omega (arith, before))
    ]

pub place_within : (vars : List Var) (v : ℕ) → place vars v ≤ all_words vars
place_within [] zero = omega arith
place_within [] (suc v) = omega arith
place_within (x ∷ vars) zero = omega arith
place_within (x ∷ vars) (suc v) = let rest = place_within vars v in omega arith

-- the words of a variable are among those that are left
pub words_next : (vars : List Var) (i : ℕ) (d : Var) → i < length vars → words_of (get_or vars i d).kind ≤ all_words (drop i vars)
words_next [] i d h = absurd (omega arith)
words_next (x ∷ vars) zero d h = omega arith
words_next (x ∷ vars) (suc i) d h = words_next vars i d (omega (arith, h))

pub state_words_next : (vars : List Var) (i : ℕ) (d : Var) → i < length vars →
    cond (is_state (get_or vars i d).keep) (words_of (get_or vars i d).kind) 0 ≤ state_words (drop i vars)
state_words_next [] i d h = absurd (omega arith)
state_words_next (x ∷ vars) zero d h = omega arith
state_words_next (x ∷ vars) (suc i) d h = state_words_next vars i d (omega (arith, h))
