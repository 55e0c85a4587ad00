-- What all of the bytes spell.
use Rattle.std.proofs.Common.{◌≡◌, ℕ, ◌-◌, ◌<◌, ◌≤◌, List, [], ◌∷◌, ◌++◌, length, Result, Ok, Err, sym, ap, ◌∙◌, arith, length-append, All, inl, inr, eqb}
use Rattle.std.proofs.lemmas.Bool.{cases_lt, cond-false, ne_eqb}
use Rattle.std.proofs.lemmas.List.{append-nil, get_or_past}
use Rattle.std.specs.Prelude.{IfOk}
use Rattle.tcel_image.specs.declared.fault.Fault.{Fault}
use Rattle.tcel_image.specs.declared.fault.Fault.TheVariants as faults
use Rattle.tcel_image.specs.declared.fault.ImageFail.{ImageFail}
use Rattle.tcel_image.specs.declared.fault.ImageFail.TheVariants as fails
use Rattle.tcel_image.specs.declared.image.Image.{Image}
use Rattle.tcel_image.specs.Spelling.{spelling, InRange}
use Rattle.tcel_image.specs.Reading.{image_at, ended, placed, reading, Answers}
use Rattle.tcel_image.proofs.Readers.{IsBytes, given_value, given_rest}
use Rattle.tcel_image.proofs.ImageFields.{image_takes, image_again, image_cut, whole_again}

placed_ok : {A : Type 0} (total : ℕ) (r : Result A Fault) (x : A) → placed total r ≡ Ok x → r ≡ Ok x
placed_ok total (Ok y) x e = cc
placed_ok total (Err f) x e = absurd cc

pub reading_takes : (bytes : List ℕ) (i : Image) → IsBytes bytes → reading bytes ≡ Ok i → InRange i × (bytes ≡ spelling i)
unfolding reading
reading_takes bytes i fits e = image_takes bytes i fits (placed_ok (length bytes) (ended (image_at bytes)) i e)

pub reading_again : (i : Image) → InRange i → reading (spelling i) ≡ Ok i
unfolding reading
reading_again i h = ap (placed (length (spelling i))) (whole_again i h)

pub is_found : (bytes : List ℕ) (r : Result Image ImageFail) → IsBytes bytes → Answers r (reading bytes) → IfOk r (λ i. InRange i × (bytes ≡ spelling i))
is_found bytes (Ok i) fits e = reading_takes bytes i fits e
is_found bytes (Err e) fits h = tt

-- ---- laws

module _ (i j : Image) (in_range : InRange i) (in_range' : InRange j) where
  pub prefix_free : (more : List ℕ) → spelling j ≡ spelling i ++ more → more ≡ []
  prefix_free more e =
      let one : image_at (spelling j) ≡ Ok (j, []) = ap image_at (sym (append-nil (spelling j))) ∙ image_again j [] in_range' in
      let other : image_at (spelling j) ≡ Ok (i, more) = ap image_at e ∙ image_again i more in_range in
      given_rest i j more [] (sym other ∙ one)

  pub told_apart : spelling i ≡ spelling j → i ≡ j
  told_apart e =
      let one : image_at (spelling i) ≡ Ok (i, []) = ap image_at (sym (append-nil (spelling i))) ∙ image_again i [] in_range in
      let other : image_at (spelling i) ≡ Ok (j, []) = ap image_at (e ∙ sym (append-nil (spelling j))) ∙ image_again j [] in_range' in
      given_value i j [] [] (sym one ∙ other)

pub bytes_from_all : (bytes : List ℕ) → All (λ b. b < 256) bytes → IsBytes bytes
bytes_from_all bytes h k =
    elim (cases_lt k (length bytes)) [
      | inl lt ↦ h k 0 lt
      | inr past ↦ rw (get_or_past bytes k 0 past) (omega arith)
    ]

ended_more : {A : Type 0} (x : A) (b : ℕ) (more : List ℕ) → ended (Ok (x, b ∷ more)) ≡ Err (faults.Surplus (length (b ∷ more)))
ended_more {A} x b more = cond-false {A = Result A Fault} (eqb (length (b ∷ more)) 0) (Ok x) (Err (faults.Surplus (length (b ∷ more)))) (ne_eqb (length (b ∷ more)) 0 (λ e. absurd (omega (arith, e))))

pub extra_behind : (i : Image) (b : ℕ) (more : List ℕ) → InRange i → reading (spelling i ++ b ∷ more) ≡ Err (fails.Extra (length (spelling i)))
unfolding reading
extra_behind i b more h =
    let all = spelling i ++ b ∷ more in
    let place : length all - length (b ∷ more) ≡ length (spelling i) = omega (arith, length-append (spelling i) (b ∷ more)) in
    ap (λ r. placed (length all) (ended r)) (image_again i (b ∷ more) h) ∙ ap (placed (length all)) (ended_more i b more) ∙ ap (λ (n : ℕ). Err (fails.Extra n)) place

pub short_front : (i : Image) (front : List ℕ) (b : ℕ) (more : List ℕ) → InRange i → spelling i ≡ front ++ b ∷ more → 4 ≤ length front → reading front ≡ Err (fails.Short (length front))
unfolding reading
short_front i front b more h e long = ap (placed (length front)) (image_cut i front b more h e long)
