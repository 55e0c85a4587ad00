-- Names that are the same, and what is known of them.
use Rattle.std.proofs.Common.{◌≡◌, ℕ, ℤ, Bool, true, false, List, [], ◌∷◌, ◌++◌, ◌&&◌, ◌||◌, Option, Some, None, cond, refl, ap, ◌∙◌, arith, nat_eq, is_some}
use Rattle.std.specs.List.{list_any}
use Rattle.std.specs.Ordering.{int_eq}
use Rattle.std.proofs.lemmas.Bool.Decides.{nat_tests}
use Rattle.tcel_tree.specs.declared.task.Decl.{Decl}
use Rattle.tcel_tree.specs.declared.task.DeclKind.{DeclKind}
use Rattle.tcel_check.specs.Known.{known_behind}
use Rattle.tcel_check.specs.Rows.{same_decl}
use Rattle.tcel_check.specs.Types.{same_name, kind_of}

same_digit : (a b : ℕ) → nat_eq a b ≡ true → a ≡ b
same_digit a b h = grind (arith, nat_tests)

same_digit_sym : (a b : ℕ) → nat_eq a b ≡ nat_eq b a
same_digit_sym a b = grind (arith, nat_tests)

and_left : (a b : Bool) → (a && b) ≡ true → a ≡ true
and_left true b h = refl
and_left false b h = h

and_right : (a b : Bool) → (a && b) ≡ true → b ≡ true
and_right true b h = h
and_right false b h = cc

pub name_equal : (a b : List ℕ) → same_name a b ≡ true → a ≡ b
name_equal [] [] h = refl
name_equal [] (y ∷ ys) h = cc
name_equal (x ∷ xs) [] h = cc
name_equal (x ∷ xs) (y ∷ ys) h =
    let first = same_digit x y (and_left (nat_eq x y) (same_name xs ys) h) in
    let others = name_equal xs ys (and_right (nat_eq x y) (same_name xs ys) h) in cc

pub name_self : (a : List ℕ) → same_name a a ≡ true
name_self [] = refl
name_self (x ∷ xs) = let first : nat_eq x x ≡ true = grind (arith, nat_tests) in rw (first, name_self xs) refl

pub name_sym : (a b : List ℕ) → same_name a b ≡ same_name b a
name_sym [] [] = refl
name_sym [] (y ∷ ys) = refl
name_sym (x ∷ xs) [] = refl
name_sym (x ∷ xs) (y ∷ ys) = rw (same_digit_sym x y, name_sym xs ys) refl

pub int_sym : (a b : ℤ) → int_eq a b ≡ int_eq b a
int_sym a b = grind arith

pub known_step : (f : List ℕ → Option DeclKind) (d : Decl) (name : List ℕ) (new : Option DeclKind) → f d.name ≡ None →
    new ≡ cond (same_name d.name name) (Some d.kind) (f name) → new ≡ known_behind (f name) d name
known_step f d name new absent is = by_known (f name) refl
  where
    impossible : (k : DeclKind) (b : Bool) → same_name d.name name ≡ b → f name ≡ Some k → cond b (Some d.kind) (Some k) ≡ Some k
    impossible k false other known = refl
    impossible k true same known =
        let other : f d.name ≡ f name = ap f (name_equal d.name name same) in cc

    by_known : (known : Option DeclKind) → f name ≡ known → new ≡ known_behind known d name
    by_known None e = is ∙ rw e refl
    by_known (Some k) e = is ∙ rw e (impossible k (same_name d.name name) refl e)

pub kind_of_push : (ds : List Decl) (d : Decl) (name : List ℕ) → kind_of (ds ++ d ∷ []) name ≡ known_behind (kind_of ds name) d name
kind_of_push [] d name = refl
kind_of_push (x ∷ ds) d name = by_first (same_name x.name name) (kind_of_push ds d name)
  where
    by_first : (b : Bool) → kind_of (ds ++ d ∷ []) name ≡ known_behind (kind_of ds name) d name →
        cond b (Some x.kind) (kind_of (ds ++ d ∷ []) name) ≡ known_behind (cond b (Some x.kind) (kind_of ds name)) d name
    by_first true h = refl
    by_first false h = h

pub declared_before : (ds : List Decl) (d : Decl) → is_some (kind_of ds d.name) ≡ list_any (same_decl d) ds
declared_before [] d = refl
declared_before (x ∷ ds) d = rw (name_sym d.name x.name) (by_first (same_name x.name d.name) (declared_before ds d))
  where
    by_first : (b : Bool) → is_some (kind_of ds d.name) ≡ list_any (same_decl d) ds →
        is_some (cond b (Some x.kind) (kind_of ds d.name)) ≡ (b || list_any (same_decl d) ds)
    by_first true h = refl
    by_first false h = h
