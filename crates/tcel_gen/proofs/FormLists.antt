-- The forms of a set, one task after another.
use Rattle.std.proofs.Common.{◌≡◌, ℕ, zero, suc, ◌+◌, ◌-◌, ◌<◌, List, [], ◌∷◌, ◌++◌, length, length-drop, get_or, drop, drop-cons, map, All, sym, ap, ◌∙◌, subst, arith, append_assoc}
use Rattle.std.specs.Prelude.{nat_le}
use Rattle.std.specs.List.{AllByRecursion, AllZip}
use Rattle.std.proofs.lemmas.List.{length-map}
use Rattle.std.proofs.lemmas.List.Elements.{recursion_from_All}
use Rattle.std.proofs.lemmas.Slice.Zip.{AllZip-long}
use Rattle.tcel_core.specs.declared.parts.Parts.{Parts}
use Rattle.tcel_core.specs.declared.set.CoreTask.{CoreTask}
use Rattle.tcel_core.specs.Parts.{AreOwnParts, plain_parts}
use Rattle.tcel_core.specs.Plain.{plain_task}
use Rattle.tcel_core.specs.Sound.{IsSoundTask}
use Rattle.tcel_image.specs.declared.image.ImageTask.{ImageTask}
use Rattle.tcel_cost.specs.Forms.{form_of, forms_of}
use Rattle.tcel_code.specs.Layout.{form_task}

-- ---- a task and its parts, by their place

by_place : (tasks : List CoreTask) (i : ℕ) (t : CoreTask) → AllByRecursion IsSoundTask (map plain_task tasks) → i < length tasks → t ≡ get_or tasks i t → IsSoundTask (plain_task t)
by_place [] i t h less e = absurd (omega arith)
by_place (x ∷ tasks) zero t h less e = subst (λ y. IsSoundTask (plain_task y)) (sym e) h.0
by_place (x ∷ tasks) (suc i) t h less e = by_place tasks i t h.1 (omega arith) e

pub sound_at : (tasks : List CoreTask) (i : ℕ) (t : CoreTask) → All IsSoundTask (map plain_task tasks) → i < length tasks → t ≡ get_or tasks i t → IsSoundTask (plain_task t)
sound_at tasks i t h = by_place tasks i t (recursion_from_All IsSoundTask (map plain_task tasks) h)

pub own_at : (tasks : List CoreTask) (parts : List Parts) (i : ℕ) (t : CoreTask) (p : Parts) → AllZip AreOwnParts (map plain_task tasks) (map plain_parts parts) → i < length tasks →
    t ≡ get_or tasks i t → p ≡ get_or parts i p → AreOwnParts (plain_task t) (plain_parts p)
own_at [] parts i t p h less e f = absurd (omega arith)
own_at (x ∷ tasks) [] i t p h less e f = absurd h
own_at (x ∷ tasks) (y ∷ parts) zero t p h less e f = subst (λ u. AreOwnParts (plain_task u) (plain_parts p)) (sym e) (subst (λ q. AreOwnParts (plain_task x) (plain_parts q)) (sym f) h.0)
own_at (x ∷ tasks) (y ∷ parts) (suc i) t p h less e f = own_at tasks parts i t p h.1 (omega arith) e f

pub as_many : (tasks : List CoreTask) (parts : List Parts) → AllZip AreOwnParts (map plain_task tasks) (map plain_parts parts) → length parts ≡ length tasks
as_many tasks parts h = omega (arith, AllZip-long AreOwnParts (map plain_task tasks) (map plain_parts parts) h, length-map tasks plain_task, length-map parts plain_parts)

-- ---- one more form

drop_next : {X : Type 0} (xs : List X) (i : ℕ) (x : X) → i < length xs → x ≡ get_or xs i x → drop i xs ≡ x ∷ drop (i + 1) xs
drop_next {X} xs i x less e =
    let more : suc i ≡ i + 1 = omega arith in
    drop-cons xs i x less ∙ ap (λ (y : X). y ∷ drop (suc i) xs) (sym e) ∙ ap (λ k. x ∷ drop k xs) more

pub forms_next : (sliced : ℕ) (tasks : List CoreTask) (parts : List Parts) (i : ℕ) (t : CoreTask) (p : Parts) (all new : List ImageTask) (x : ImageTask) →
    i < length tasks → i < length parts → t ≡ get_or tasks i t → p ≡ get_or parts i p → x ≡ form_task (form_of (plain_task t) (nat_le (length tasks - i) sliced) (plain_parts p)) → new ≡ all ++ x ∷ [] →
    new ++ map form_task (forms_of sliced (map plain_task (drop (i + 1) tasks)) (map plain_parts (drop (i + 1) parts)))
    ≡ all ++ map form_task (forms_of sliced (map plain_task (drop i tasks)) (map plain_parts (drop i parts)))
forms_next sliced tasks parts i t p all new x less less' e f is added =
    let ts = map plain_task (drop (i + 1) tasks) in
    let ps = map plain_parts (drop (i + 1) parts) in
    let rest = map form_task (forms_of sliced ts ps) in
    let left : length tasks - i ≡ length (plain_task t ∷ ts) = omega (arith, length-map (drop (i + 1) tasks) plain_task, length-drop (i + 1) tasks) in
    ap (λ (l : List ImageTask). l ++ rest) added ∙ append_assoc all (x ∷ []) rest
    ∙ ap (λ (y : ImageTask). all ++ (y ∷ rest)) (is ∙ ap (λ n. form_task (form_of (plain_task t) (nat_le n sliced) (plain_parts p))) left)
    ∙ ap (λ (l : List CoreTask). all ++ map form_task (forms_of sliced (map plain_task l) (map plain_parts (p ∷ drop (i + 1) parts)))) (sym (drop_next tasks i t less e))
    ∙ ap (λ (l : List Parts). all ++ map form_task (forms_of sliced (map plain_task (drop i tasks)) (map plain_parts l))) (sym (drop_next parts i p less' f))
