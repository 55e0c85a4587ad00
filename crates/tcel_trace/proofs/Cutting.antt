-- Texts are cut at the first byte of a kind.
use Rattle.std.proofs.Common.{◌≡◌, ℕ, suc, ◌+◌, ◌<◌, ◌==◌, Bool, true, false, List, [], ◌∷◌, ◌++◌, length, take, drop, get_or, Option, Some, None, refl, sym, ap, ◌∙◌, arith, length-append, take-append-drop, drop-cons, add-one}
use Rattle.std.specs.Prelude.{◌||◌, position}
use Rattle.std.specs.List.{list_any, slice_split, onto_first, position_or_len}
use Rattle.std.proofs.Math.Seq.{take-append_seam, drop-append_seam, drop-append-add}
use Rattle.std.proofs.lemmas.Option.{cond_some}
use Rattle.std.proofs.lemmas.Bool.{lt-ltb, eq-eqb, eqb-true}
use Rattle.std.proofs.lemmas.List.Folds.{list_any-append}
use Rattle.std.proofs.lemmas.List.Quantifiers.{position-Some}
use Rattle.std.proofs.lemmas.List.Splits.{slice_split-cons_yes, slice_split-cons_no}
use Rattle.tcel_trace.specs.Reading.{cut, behind}
use Rattle.tcel_script.specs.Script.{same}
use Rattle.std.proofs.lemmas.Slice.Eq.{bytes_eq-Decides}

-- the byte stands in the text
abbrev pub has : ℕ → List ℕ → Bool
has byte text = list_any (λ b. b == byte) text

-- neither holds
pub neither : (a b : Bool) → (a || b) ≡ false → (a ≡ false) × (b ≡ false)
neither false false h = (refl, refl)
neither false true h = absurd cc
neither true b h = absurd cc

pub lacks_both : (byte : ℕ) (front rest : List ℕ) → has byte front ≡ false → has byte rest ≡ false → has byte (front ++ rest) ≡ false
lacks_both byte front rest f r = list_any-append (λ b. b == byte) front rest ∙ rw (f, r) refl

-- the first such byte stands behind what has none
place_there : (byte : ℕ) (front rest : List ℕ) → has byte front ≡ false → position_or_len (λ b. b == byte) (front ++ byte ∷ rest) ≡ length front
place_there byte [] rest lacks = rw (eq-eqb byte byte refl) refl
place_there byte (b ∷ front) rest lacks =
    let parts = neither (b == byte) (has byte front) lacks in
    rw (parts.0, place_there byte front rest parts.1) (omega arith)

pub cut_there : (byte : ℕ) (front rest : List ℕ) → has byte front ≡ false → cut byte (front ++ byte ∷ rest) ≡ Some (front, rest)
cut_there byte front rest lacks =
    let inside : length front < length (front ++ byte ∷ rest) = omega (arith, length-append front (byte ∷ rest)) in
    rw (
      place_there byte front rest lacks,
      lt-ltb (length front) (length (front ++ byte ∷ rest)) inside,
      take-append_seam front
          (byte ∷ rest),
      drop-append-add front (byte ∷ rest) 1,
    ) refl

pub cut_sound : (byte : ℕ) (text : List ℕ) (parts : List ℕ × List ℕ) → cut byte text ≡ Some parts → text ≡ parts.0 ++ byte ∷ parts.1
cut_sound byte text parts h = by_place (position (λ b. b == byte) text) refl
  where
    by_place : (o : Option ℕ) → position (λ b. b == byte) text ≡ o → text ≡ parts.0 ++ byte ∷ parts.1
    by_place None e = let none : cut byte text ≡ None = rw e refl in absurd cc
    by_place (Some place) e =
        let found = position-Some (λ b. b == byte) text place 0 e in
        let is : get_or text place 0 ≡ byte = eqb-true (get_or text place 0) byte found.1 in
        let there : cut byte text ≡ Some (take place text, drop (place + 1) text) = rw e refl in
        let same_parts : parts ≡ (take place text, drop (place + 1) text) = cc in
        let rest : drop place text ≡ byte ∷ drop (place + 1) text = rw add-one (drop-cons text place 0 found.0 ∙ ap (λ b. b ∷ drop (suc place) text) is) in
        rw same_parts (sym (take-append-drop place text) ∙ ap (λ more. take place text ++ more) rest)

-- the parts of a text that is cut at each such byte
pub split_there : (byte : ℕ) (front rest : List ℕ) → has byte front ≡ false
    → slice_split (λ b. b == byte) (front ++ byte ∷ rest) ≡ front ∷ slice_split (λ b. b == byte) rest
split_there byte [] rest lacks = slice_split-cons_yes (λ b. b == byte) byte rest (eq-eqb byte byte refl)
split_there byte (b ∷ front) rest lacks =
    let parts = neither (b == byte) (has byte front) lacks in
    slice_split-cons_no (λ b. b == byte) b (front ++ byte ∷ rest) parts.0 ∙ ap (onto_first b) (split_there byte front rest parts.1)

pub split_whole : (byte : ℕ) (text : List ℕ) → has byte text ≡ false → slice_split (λ b. b == byte) text ≡ text ∷ []
split_whole byte [] lacks = refl
split_whole byte (b ∷ text) lacks =
    let parts = neither (b == byte) (has byte text) lacks in
    slice_split-cons_no (λ b. b == byte) b text parts.0 ∙ ap (onto_first b) (split_whole byte text parts.1)

-- ---- what stands behind a front

pub behind_there : (front rest : List ℕ) → behind front (front ++ rest) ≡ Some rest
behind_there front rest =
    rw (take-append_seam front rest, (bytes_eq-Decides front front).1 refl, drop-append_seam front rest) refl

pub behind_sound : (front text rest : List ℕ) → behind front text ≡ Some rest → text ≡ front ++ rest
behind_sound front text rest h =
    let chosen = cond_some (same (take (length front) text) front) (drop (length front) text) rest h in
    let is = (bytes_eq-Decides (take (length front) text) front).0 chosen.0 in
    sym (take-append-drop (length front) text) ∙ rw (is, chosen.1) refl
