-- Variables below 256 that two sets have in common.
use Rattle.std.proofs.Common.{◌≡◌, ℕ, ◌<◌, Bool, true, false, ◌&&◌, refl, sym, ◌∙◌, arith}
use Rattle.std.specs.Prelude.{◌↔◌}
use Rattle.tcel_core.specs.declared.row.Row.{Row}
use Rattle.tcel_core.specs.Numbering.{numbers_from}
use Rattle.tcel_core.specs.Rows.{stands_in}
use Rattle.tcel_flow.specs.Shape.{IsRow}
use Rattle.tcel_parts.proofs.Hits.{and_both, and_true}
use Rattle.tcel_parts.proofs.Members.{any_from_in, in_from_any, in_numbers, numbers_within}
use Rattle.tcel_slice.specs.Keeping.{have_common}

pub common_some : (f g : ℕ → Bool) (v : ℕ) → v < 256 → f v ≡ true → g v ≡ true → have_common f g ≡ true
unfolding have_common
common_some f g v small h k = any_from_in (λ u. f u && g u) (numbers_from 0 256) v (in_numbers 0 256 v (omega arith) (omega arith)) (and_true (f v) (g v) h k)

pub record Shared (f g : ℕ → Bool) : Type 0 where
  pub variable : ℕ
  pub small : variable < 256
  pub first : f variable ≡ true
  pub second : g variable ≡ true

pub common_found : (f g : ℕ → Bool) → have_common f g ≡ true → Shared f g
unfolding have_common
common_found f g h =
    let r = in_from_any (λ u. f u && g u) (numbers_from 0 256) h in
    let both = and_both (f r.0) (g r.0) r.2 in
    let within = (numbers_within 0 256 r.0 r.1).1 in
    record { variable = r.0; small = omega arith; first = both.0; second = both.1 }

-- two truth values that follow from each other
pub same_truth : (a b : Bool) → (a ≡ true → b ≡ true) → (b ≡ true → a ≡ true) → a ≡ b
same_truth true b f g = sym (f refl)
same_truth false true f g = g refl
same_truth false false f g = refl

-- whether two rows meet
pub meets_is : (row writes : Row) (f : ℕ → Bool) (b : Bool) → IsRow row f →
    (b ≡ true ↔ ((v : ℕ) × (v < 256) × (stands_in row v ≡ true) × (stands_in writes v ≡ true))) → b ≡ have_common (stands_in writes) f
meets_is row writes f b is h =
    same_truth b (have_common (stands_in writes) f)
    (λ e. let r = h.0 e in common_some (stands_in writes) f r.0 r.1 r.3 (sym (is r.0 r.1) ∙ r.2))
    (λ e. let r = common_found (stands_in writes) f e in h.1 (r.variable, r.small, is r.variable r.small ∙ r.second, r.first))
