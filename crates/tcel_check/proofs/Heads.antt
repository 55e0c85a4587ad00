-- Rows of the table that a walk over a list meets one element at a time.
use Rattle.std.proofs.Common.{◌≡◌, ℕ, ◌+◌, ◌<◌, ◌≤◌, Bool, true, false, ◌||◌, List, [], ◌∷◌, ◌++◌, map, Option, refl, sym, ap, ◌∙◌, arith, append_assoc, nat_le, nat_lt, slice_get, option_map, not, cond}
use Rattle.std.specs.List.{list_any}
use Rattle.std.proofs.lemmas.Bool.Decides.{nat_tests}
use Rattle.std.proofs.lemmas.List.{append-nil, map-append}
use Rattle.std.proofs.lemmas.Option.{slice_get-map}
use Rattle.std.proofs.lemmas.List.Folds.{list_any-append}
use Rattle.tcel_num.specs.declared.at.At.{At}
use Rattle.tcel_tree.specs.declared.task.Decl.{Decl}
use Rattle.tcel_check.specs.declared.fail.LimitKind.{LimitKind}
use Rattle.tcel_check.specs.declared.mark.Mark.{Mark}
use Rattle.tcel_check.specs.Least.{Adds, kept_all}
use Rattle.tcel_check.specs.Rows.{when, limit_at, past, repeats, repeats_behind, passing, word_mark, words_of}
use Rattle.tcel_check.proofs.Firsts.{adds_all, adds_then}

-- the element with a number, and where it stands
pub past_map : {A : Type 0} (kind : LimitKind) (place : A → At) (n : ℕ) (xs : List A) → past kind n (map place xs) ≡ limit_at kind (option_map place (slice_get xs n))
past_map kind place n xs = ap (limit_at kind) (slice_get-map place xs n)

pub past_adds : {A : Type 0} (kind : LimitKind) (place : A → At) (n : ℕ) (xs : List A) (x : Option A) {a b : Option Mark} → x ≡ slice_get xs n →
    b ≡ kept_all a (limit_at kind (option_map place x)) → Adds a b (past kind n (map place xs))
past_adds kind place n xs x {a} {b} is new =
    let all = adds_all a (limit_at kind (option_map place x)) in
    rw (past_map kind place n xs, ← is, new) all

when_map : {A B : Type 0} (f : A → B) (found : Bool) (x : A) → map f (when found x) ≡ when found (f x)
when_map f true x = refl
when_map f false x = refl

repeats_push : {A : Type 0} (like : A → A → Bool) (before xs : List A) (x : A) →
    repeats_behind like before (xs ++ x ∷ []) ≡ repeats_behind like before xs ++ when (list_any (like x) (before ++ xs)) x
repeats_push like before [] x = rw (append-nil before) (append-nil (when (list_any (like x) before) x))
repeats_push like before (y ∷ xs) x =
    rw (repeats_push like (before ++ y ∷ []) xs x, append_assoc before (y ∷ []) xs)
    (sym (append_assoc (when (list_any (like y) before) y) (repeats_behind like (before ++ y ∷ []) xs) (when (list_any (like x) (before ++ (y ∷ xs))) x)))

-- one more element, which may be like one before it
pub repeats_more : {A : Type 0} (like : A → A → Bool) (mark : A → Mark) (front : List A) (x : A) (found : Bool) {a b c : Option Mark} →
    found ≡ list_any (like x) front → c ≡ kept_all b (when found (mark x)) →
    Adds a b (map mark (repeats like front)) → Adds a c (map mark (repeats like (front ++ x ∷ [])))
repeats_more like mark front x found {a} {b} {c} is new h =
    let step : Adds b c (when found (mark x)) = rw new (adds_all b (when found (mark x))) in
    let all : map mark (repeats like (front ++ x ∷ [])) ≡ map mark (repeats like front) ++ when found (mark x) =
    ap (map mark) (repeats_push like [] front x) ∙ map-append mark (repeats like front) (when (list_any (like x) front) x)
    ∙ rw (← is) (ap (λ ms. map mark (repeats like front) ++ ms) (when_map mark found x))
    in
    rw all (adds_then h step)

-- behind the limit of words none stands any more
pub passing_past : (before : ℕ) (ds : List Decl) → 4096 < before → passing before ds ≡ []
passing_past before [] lt = refl
passing_past before (d ∷ ds) lt =
    let no_more : nat_le before 4096 ≡ false = grind (arith, nat_tests) in
    rw no_more (passing_past (before + words_of d.kind) ds (omega arith))

pub passing_more : (before : ℕ) (d : Decl) (ds : List Decl) → before ≤ 4096 →
    passing before (d ∷ ds) ≡ when (nat_lt 4096 (before + words_of d.kind)) d ++ passing (before + words_of d.kind) ds
passing_more before d ds le =
    let still : nat_le before 4096 ≡ true = grind (arith, nat_tests) in rw still refl

-- one declaration, and then those that are left
pub words_more : (words : ℕ) (d : Decl) {a b c : Option Mark} (left : List Decl) → words ≤ 4096 →
    b ≡ kept_all a (when (nat_lt 4096 (words + words_of d.kind)) (word_mark d)) →
    Adds b c (map word_mark (passing (words + words_of d.kind) left)) → Adds a c (map word_mark (passing words (d ∷ left)))
words_more words d {a} {b} left le new rest =
    let found = nat_lt 4096 (words + words_of d.kind) in
    let step : Adds a b (when found (word_mark d)) = rw new (adds_all a (when found (word_mark d))) in
    rw (passing_more words d left le, map-append word_mark (when found d) (passing (words + words_of d.kind) left), when_map word_mark found d)
    (adds_then step rest)

pub words_past : (words : ℕ) (d : Decl) {a b : Option Mark} (left : List Decl) → 4096 < words →
    Adds a b (map word_mark (passing words left)) → Adds a b (map word_mark (passing words (d ∷ left)))
words_past words d left lt rest = rw (passing_past words (d ∷ left) lt) (rw (passing_past words left lt) at rest)

-- what was seen before, with one element more
pub seen_more : {A : Type 0} (like : A → A → Bool) (front : List A) (x q : A) (same old new : Bool) → like q x ≡ same → new ≡ cond same true old →
    old ≡ list_any (like q) front → new ≡ list_any (like q) (front ++ x ∷ [])
seen_more like front x q same old new is step h = rw (list_any-append (like q) front (x ∷ []), is, step, h) (by_same same (list_any (like q) front))
  where
    by_same : (same any : Bool) → cond same true any ≡ (any || (same || false))
    by_same true true = refl
    by_same true false = refl
    by_same false true = refl
    by_same false false = refl

not_not : (b : Bool) → not (not b) ≡ b
not_not true = refl
not_not false = refl

-- what isn't new was seen before
pub was_seen : (new old any : Bool) → new ≡ not old → old ≡ any → not new ≡ any
was_seen new old any is same = rw (is, same) (not_not any)
