-- Walks one after another.
use Rattle.std.proofs.Common.{◌≡◌, ℕ, List, [], ◌∷◌, ◌++◌, Option, refl, sym, subst, ◌∙◌}
use Rattle.std.specs.List.{fold, AllByRecursion}
use Rattle.tcel_tree.specs.declared.task.DeclKind.{DeclKind}
use Rattle.tcel_check.specs.declared.walk.Walk.{Walk}
use Rattle.tcel_check.specs.Sights.{Sight}
use Rattle.tcel_check.specs.Spelled.{IsSpelled}
use Rattle.tcel_check.specs.Walks.{Saw, behind}

pub fold_append : {A B : Type 0} (f : B → A → B) (xs ys : List A) (b : B) → fold f b (xs ++ ys) ≡ fold f (fold f b xs) ys
fold_append f [] ys b = refl
fold_append f (x ∷ xs) ys b = fold_append f xs ys (f b x)

pub all_append : {A : Type 0} (P : A → Type 0) (xs ys : List A) → AllByRecursion P xs → AllByRecursion P ys → AllByRecursion P (xs ++ ys)
all_append P [] ys p q = q
all_append P (x ∷ xs) ys p q = (p.0, all_append P xs ys p.1 q)

module _ {kind : List ℕ → Option DeclKind} where
  pub saw_none : (w : Walk) → Saw kind w w []
  saw_none w = record { state = refl; spelled = tt }

  pub saw_then : {a b c : Walk} {xs ys : List Sight} → Saw kind a b xs → Saw kind b c ys → Saw kind a c (xs ++ ys)
  saw_then {a} {b} {c} {xs} {ys} p q = record {
    state = q.state ∙ rw p.state (sym (fold_append (behind kind) xs ys a));
    spelled = all_append IsSpelled xs ys p.spelled q.spelled;
  }

  -- one sight, and then others
  pub saw_cons : {a b c : Walk} {x : Sight} {ys : List Sight} → Saw kind a b (x ∷ []) → Saw kind b c ys → Saw kind a c (x ∷ ys)
  saw_cons p q = saw_then p q

  -- what is seen may be told in other words
  pub saw_same : {a b : Walk} {xs ys : List Sight} → ys ≡ xs → Saw kind a b xs → Saw kind a b ys
  saw_same {a} {b} e p = subst (λ (zs : List Sight). Saw kind a b zs) (sym e) p

pub ruleset walking = (saw_cons, saw_then)
