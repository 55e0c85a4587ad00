-- Tasks by their names.
use Rattle.std.proofs.Common.{◌≡◌, ℕ, zero, suc, ◌<◌, List, [], ◌∷◌, map, refl, sym, ap, ◌∙◌, Some, ⊎_elim}
use Rattle.std.specs.Prelude.{◌≢◌, Bool, true, false, cond, AllPairs, slice_get, find, option_map}
use Rattle.std.proofs.lemmas.Bool.{cases_order, cond-true}
use Rattle.std.proofs.lemmas.Bool.Decides.{Decides-eqb}
use Rattle.std.proofs.lemmas.Option.{same_Some, slice_get_within, slice_get-map, get_or_from_slice_get}
use Rattle.std.proofs.lemmas.Slice.Eq.{slice_eq-Decides}
use Rattle.tcel_script.specs.Script.{same}
use Rattle.tcel_judge.specs.FirstBreach.{Judged}

-- the test of two texts
pub same_equal : (a b : List ℕ) → same a b ≡ true → a ≡ b
same_equal a b h = (slice_eq-Decides Decides-eqb a b (same a b) refl).0 h

pub same_self : (a : List ℕ) → same a a ≡ true
same_self a = (slice_eq-Decides Decides-eqb a a (same a a) refl).1 refl

-- what is found stands in the list and passes
pub find_place : {A : Type 0} (p : A → Bool) (xs : List A) (y : A) → find p xs ≡ Some y → (i : ℕ) × (slice_get xs i ≡ Some y) × (p y ≡ true)
find_place p [] y e = absurd cc
find_place {A} p (x ∷ xs) y e = go (p x) refl e (find_place p xs y)
  where
    go : (b : Bool) → p x ≡ b → cond b (Some x) (find p xs) ≡ Some y → (find p xs ≡ Some y → (i : ℕ) × (slice_get xs i ≡ Some y) × (p y ≡ true))
        → (i : ℕ) × (slice_get (x ∷ xs) i ≡ Some y) × (p y ≡ true)
    go true is h more = (0, h, ap p (sym (same_Some x y h)) ∙ is)
    go false is h more = let found = more h in (suc found.0, found.1, found.2)

-- where one passes, one is found
pub find_some : {A : Type 0} (p : A → Bool) (xs : List A) (i : ℕ) (x : A) → slice_get xs i ≡ Some x → p x ≡ true → (y : A) × (find p xs ≡ Some y)
find_some p [] i x e h = absurd cc
find_some p (y ∷ xs) zero x e h = (y, cond-true (p y) (Some y) (find p xs) (ap p (same_Some y x e) ∙ h))
find_some {A} p (y ∷ xs) (suc i) x e h = go (p y) (find_some p xs i x e h)
  where
    go : (b : Bool) → (z : A) × (find p xs ≡ Some z) → (z : A) × (cond b (Some y) (find p xs) ≡ Some z)
    go true more = (y, refl)
    go false more = more

abbrev pub names : List Judged → List (List ℕ)
names set = map (λ (j : Judged). j.task.name) set

module _ (set : List Judged) (apart : AllPairs ◌≢◌ (names set)) where
  name_at : (i : ℕ) (j : Judged) → slice_get set i ≡ Some j → slice_get (names set) i ≡ Some j.task.name
  name_at i j at = slice_get-map (λ (g : Judged). g.task.name) set i ∙ ap (λ o. option_map (λ (g : Judged). g.task.name) o) at

  not_below : (i k : ℕ) (j g : Judged) → slice_get set i ≡ Some j → slice_get set k ≡ Some g → j.task.name ≡ g.task.name → i < k → ⊥
  not_below i k j g at also is lt =
      apart i k [] lt (let within = slice_get_within (names set) k g.task.name (name_at k g also) in within)
      (get_or_from_slice_get (names set) i j.task.name [] (name_at i j at) ∙ is ∙ sym (get_or_from_slice_get (names set) k g.task.name [] (name_at k g also)))

  -- a name is that of one task
  pub one_named : (i k : ℕ) (j g : Judged) → slice_get set i ≡ Some j → slice_get set k ≡ Some g → j.task.name ≡ g.task.name → i ≡ k
  one_named i k j g at also is =
      ⊎_elim (λ (e : i ≡ k). e)
      (⊎_elim (λ (lt : i < k). absurd (not_below i k j g at also is lt)) (λ (lt : k < i). absurd (not_below k i g j also at (sym is) lt)))
      (cases_order i k)

  -- which is found by it
  pub found : (i : ℕ) (j : Judged) → slice_get set i ≡ Some j → find (λ (g : Judged). same g.task.name j.task.name) set ≡ Some j
  found i j at =
      let some = find_some (λ (g : Judged). same g.task.name j.task.name) set i j at (same_self j.task.name) in
      let place = find_place (λ (g : Judged). same g.task.name j.task.name) set some.0 some.1 in
      let one = one_named place.0 i some.0 j place.1 at (same_equal some.0.task.name j.task.name place.2) in
      some.1 ∙ sym place.1 ∙ ap (slice_get set) one ∙ at
