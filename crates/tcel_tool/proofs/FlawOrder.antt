-- An image has one first flaw.
use Rattle.std.proofs.Common.{◌≡◌, ℕ, ◌<◌, refl, sym, ap, ◌∙◌, inl, inr, arith}
use Rattle.std.specs.Prelude.{◌==◌, if◌then◌else◌}
use Rattle.std.proofs.lemmas.Bool.{cases_lt}
use Rattle.tcel_image.specs.Validity.{IsFirstFlaw, Precedes, in_code, kind_number}
use Rattle.tcel_image.specs.declared.flaw.Flaw.{Flaw}
use Rattle.tcel_image.specs.declared.flaw.FlawKind.{FlawKind}
use Rattle.tcel_image.specs.declared.flaw.FlawKind.TheVariants.{BadPeriod, SameName, JumpOut, BadCell, BadPort, BadDepth, FallsOff}
use Rattle.tcel_image.specs.declared.image.Image.{Image}

equal_of : (m n : ℕ) → (m < n → ⊥) → (n < m → ⊥) → m ≡ n
equal_of m n before other =
    elim (cases_lt m n) [
      | inl less ↦ absurd (before less)
      | inr more ↦ elim (cases_lt n m) [ inl less ↦ absurd (other less) | inr again ↦ omega arith ]
    ]

-- the kind of a number
abbrev kind_at : ℕ → FlawKind
kind_at n =
    if n == 0 then BadPeriod else (if n == 1 then SameName else (if n == 2 then JumpOut else (if n == 3 then BadCell else (if n == 4 then BadPort else (if n == 5 then BadDepth else FallsOff)))))

kind_again : (kind : FlawKind) → kind_at (kind_number kind) ≡ kind
kind_again BadPeriod = refl
kind_again SameName = refl
kind_again JumpOut = refl
kind_again BadCell = refl
kind_again BadPort = refl
kind_again BadDepth = refl
kind_again FallsOff = refl

same_flaw : (a b : Flaw) → a.kind ≡ b.kind → a.task ≡ b.task → a.pc ≡ b.pc → a ≡ b
same_flaw a b kind task pc =
    let by_kind : FlawKind → Flaw = λ k. record { kind = k; task = a.task; pc = a.pc } in
    let by_task : ℕ → Flaw = λ t. record { kind = b.kind; task = t; pc = a.pc } in
    let by_pc : ℕ → Flaw = λ p. record { kind = b.kind; task = b.task; pc = p } in
    ap by_kind kind ∙ ap by_task task ∙ ap by_pc pc

not_before : (image : Image) (a b : Flaw) → IsFirstFlaw image a → IsFirstFlaw image b → Precedes a b → ⊥
not_before image a b first second before = let there = first.there in let none = second.first a before in cc

pub one_flaw : (image : Image) (a b : Flaw) → IsFirstFlaw image a → IsFirstFlaw image b → a ≡ b
one_flaw image a b first second =
    let before = not_before image a b first second in
    let other = not_before image b a second first in
    let task = equal_of a.task b.task (λ lt. before (inl lt)) (λ lt. other (inl lt)) in
    let place = equal_of (in_code a.kind) (in_code b.kind) (λ lt. before (inr (inl (task, lt)))) (λ lt. other (inr (inl (sym task, lt)))) in
    let pc = equal_of a.pc b.pc (λ lt. before (inr (inr (inl (task, place, lt))))) (λ lt. other (inr (inr (inl (sym task, sym place, lt))))) in
    let kind = equal_of (kind_number a.kind) (kind_number b.kind) (λ lt. before (inr (inr (inr (task, place, pc, lt))))) (λ lt. other (inr (inr (inr (sym task, sym place, sym pc, lt))))) in
    same_flaw a b (sym (kind_again a.kind) ∙ ap kind_at kind ∙ kind_again b.kind) task pc
