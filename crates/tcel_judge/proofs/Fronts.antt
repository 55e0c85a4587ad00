-- What stands behind the front of a text, piece by piece.
use Rattle.std.proofs.Common.{◌≡◌, ℕ, Bool, true, false, cond, List, [], ◌∷◌, ◌++◌, length, Some, None, drop, take, refl, sym, ap, ◌∙◌}
use Rattle.std.specs.Prelude.{◌&&◌, nat_eq, option_and_then}
use Rattle.std.specs.Option.{option_map_or}
use Rattle.tcel_script.specs.Script.{same}
use Rattle.tcel_trace.specs.Reading.{behind}

by_test : (b c : Bool) (rest : List ℕ) → cond (b && c) (Some rest) None ≡ cond b (cond c (Some rest) None) None
by_test true c rest = refl
by_test false c rest = refl

behind_next : (x y : ℕ) (front text : List ℕ) → behind (x ∷ front) (y ∷ text) ≡ cond (nat_eq y x) (behind front text) None
behind_next x y front text = by_test (nat_eq y x) (same (take (length front) text) front) (drop (length front) text)

behind_then : (a b text : List ℕ) → behind (a ++ b) text ≡ option_and_then (behind b) (behind a text)
behind_then [] b text = refl
behind_then (x ∷ a) b [] = refl
behind_then (x ∷ a) b (y ∷ text) =
    behind_next x y (a ++ b) text ∙ both (nat_eq y x) (behind_then a b text) ∙ ap (option_and_then (behind b)) (sym (behind_next x y a text))
  where
    both : (t : Bool) → behind (a ++ b) text ≡ option_and_then (behind b) (behind a text)
        → cond t (behind (a ++ b) text) None ≡ option_and_then (behind b) (cond t (behind a text) None)
    both true less = less
    both false less = refl

-- the text has the first piece, so the second has to stand behind it
pub goes : (a b text rest : List ℕ) → behind a text ≡ Some rest → behind (a ++ b) text ≡ behind b rest
goes a b text rest is = behind_then a b text ∙ ap (option_and_then (behind b)) is

pub stops : (a b text : List ℕ) → behind a text ≡ None → behind (a ++ b) text ≡ None
stops a b text is = behind_then a b text ∙ ap (option_and_then (behind b)) is

abbrev pub is_whole : List ℕ → Bool
is_whole [] = true
is_whole (y ∷ rest) = false

-- the whole text is the front where nothing stands behind it
pub same_whole : (front text : List ℕ) → same text front ≡ option_map_or is_whole (behind front text) false
same_whole [] [] = refl
same_whole [] (y ∷ text) = refl
same_whole (x ∷ front) [] = refl
same_whole (x ∷ front) (y ∷ text) = both (nat_eq y x) (same_whole front text) ∙ ap (λ rest. option_map_or is_whole rest false) (sym (behind_next x y front text))
  where
    both : (t : Bool) → same text front ≡ option_map_or is_whole (behind front text) false
        → (t && same text front) ≡ option_map_or is_whole (cond t (behind front text) None) false
    both true less = less
    both false less = refl
