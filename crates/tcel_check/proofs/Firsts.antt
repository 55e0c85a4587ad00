-- The first mark of a list: of which marks it is the first, and not how they came.
use Rattle.std.proofs.Common.{◌≡◌, zero, suc, ⊎_elim, Bool, true, false, List, [], ◌∷◌, ◌++◌, Option, Some, None, Contains, refl, sym, subst, arith, append_assoc}
use Rattle.std.proofs.lemmas.Bool.Decides.{nat_tests}
use Rattle.std.proofs.lemmas.List.{append-nil}
use Rattle.std.proofs.lemmas.List.Elements.{Contains-append_left, Contains-append_right, Contains-append_cases, Contains-push, Contains-push_cases}
use Rattle.tcel_check.specs.declared.mark.Mark.{Mark}
use Rattle.tcel_check.specs.Marks.{IsFirst, precedes}
use Rattle.tcel_check.specs.Least.{Adds, kept, kept_all}

pub precedes_asym : (a b : Mark) → precedes a b ≡ true → precedes b a ≡ false
precedes_asym a b h = grind (arith, nat_tests)

-- where none of two marks precedes the one before it, the last one doesn't precede the first
pub precedes_trans : (a b c : Mark) → precedes b a ≡ false → precedes c b ≡ false → precedes c a ≡ false
precedes_trans a b c h k = grind (arith, nat_tests)

pub precedes_self : (a : Mark) → precedes a a ≡ false
precedes_self a = grind (arith, nat_tests)

none_in : {x : Mark} → Contains {X = Mark} [] x → ⊥
none_in c = omega (arith, c.1)

only : (m other : Mark) → Contains (m ∷ []) other → m ≡ other
only m other (zero, lt, is) = is
only m other (suc k, lt, is) = absurd (omega arith)

-- one more mark
first_more : (ms : List Mark) (least : Option Mark) (m : Mark) → IsFirst ms least → IsFirst (ms ++ m ∷ []) (kept least m)
first_more ms None m h = rw h (first_alone m)
  where
    first_alone : (m : Mark) → IsFirst (m ∷ []) (Some m)
    first_alone m = ((0, omega arith, refl), λ other c. subst (λ o. precedes o m ≡ false) (only m other c) (precedes_self m))
first_more ms (Some first) m h = by_test (precedes m first) refl
  where
    not_before : (n : Mark) → ((other : Mark) → Contains ms other → precedes other n ≡ false) → precedes m n ≡ false →
        (other : Mark) → Contains (ms ++ m ∷ []) other → precedes other n ≡ false
    not_before n old new other c =
        ⊎_elim (λ there. old other there) (λ same. subst (λ o. precedes o n ≡ false) same new) (Contains-push_cases ms m other c)

    by_test : (b : Bool) → precedes m first ≡ b → IsFirst (ms ++ m ∷ []) (kept (Some first) m)
    by_test true is =
        rw is (
          Contains-push ms m,
          not_before m (λ other there. precedes_trans m first other (precedes_asym m first is) (h.1 other there)) (precedes_self m),
        )
    by_test false is = rw is (Contains-append_left ms (m ∷ []) first h.0, not_before first h.1 is)

pub first_all : (ms more : List Mark) (least : Option Mark) → IsFirst ms least → IsFirst (ms ++ more) (kept_all least more)
first_all ms [] least h = rw (append-nil ms) h
first_all ms (m ∷ more) least h =
    subst (λ all. IsFirst all (kept_all (kept least m) more)) (append_assoc ms (m ∷ []) more) (first_all (ms ++ m ∷ []) more (kept least m) (first_more ms least m h))

-- two lists have the same marks
pub record Same (xs ys : List Mark) : Type 0 where
  pub there : (m : Mark) → Contains xs m → Contains ys m
  pub back : (m : Mark) → Contains ys m → Contains xs m

pub same_of : {xs ys : List Mark} → xs ≡ ys → Same xs ys
same_of {xs} e = subst (λ zs. Same xs zs) e (record { there = λ m c. c; back = λ m c. c })

pub same_sym : {xs ys : List Mark} → Same xs ys → Same ys xs
same_sym h = record { there = h.back; back = h.there }

pub same_then : {xs ys zs : List Mark} → Same xs ys → Same ys zs → Same xs zs
same_then h k = record { there = λ m c. k.there m (h.there m c); back = λ m c. h.back m (k.back m c) }

in_either : (xs ys zs : List Mark) (m : Mark) → (Contains xs m → Contains zs m) → (Contains ys m → Contains zs m) → Contains (xs ++ ys) m → Contains zs m
in_either xs ys zs m f g c = ⊎_elim f g (Contains-append_cases xs ys m c)

pub same_append : {xs ys xs' ys' : List Mark} → Same xs xs' → Same ys ys' → Same (xs ++ ys) (xs' ++ ys')
same_append {xs} {ys} {xs'} {ys'} h k = record {
  there =
      λ m.
      in_either xs ys (xs' ++ ys') m (λ c. Contains-append_left xs' ys' m (h.there m c)) (λ c. Contains-append_right xs' ys' m (k.there m c));
  back =
      λ m.
      in_either xs' ys' (xs ++ ys) m (λ c. Contains-append_left xs ys m (h.back m c)) (λ c. Contains-append_right xs ys m (k.back m c));
}

swapped : (xs ys : List Mark) (m : Mark) → Contains (xs ++ ys) m → Contains (ys ++ xs) m
swapped xs ys m = in_either xs ys (ys ++ xs) m (Contains-append_right ys xs m) (Contains-append_left ys xs m)

pub same_swap : (xs ys : List Mark) → Same (xs ++ ys) (ys ++ xs)
same_swap xs ys = record { there = swapped xs ys; back = swapped ys xs }

pub same_self : (xs : List Mark) → Same xs xs
same_self xs = record { there = λ m c. c; back = λ m c. c }

-- the middle two of four change places
pub same_middle : (a b c d : List Mark) → Same ((a ++ b) ++ (c ++ d)) ((a ++ c) ++ (b ++ d))
same_middle a b c d =
    same_then (same_of (append_assoc a b (c ++ d)))
    (same_then
    (same_append (same_self a)
    (same_then (same_of (sym (append_assoc b c d))) (same_then (same_append (same_swap b c) (same_self d)) (same_of (append_assoc c b d)))))
    (same_of (sym (append_assoc a c (b ++ d)))))

empty_of : (ms : List Mark) → ((m : Mark) → Contains ms m → ⊥) → ms ≡ []
empty_of [] none = refl
empty_of (m ∷ ms) none = absurd (none m (0, omega arith, refl))

-- the first mark is that of any list with the same ones
pub first_same : {ms ns : List Mark} (least : Option Mark) → Same ms ns → IsFirst ms least → IsFirst ns least
first_same {ms} {ns} None h first = empty_of ns (λ m c. none_in (subst (λ all. Contains all m) first (h.back m c)))
first_same (Some least) h first = (h.there least first.0, λ other c. first.1 other (h.back other c))

pub adds_all : (least : Option Mark) (more : List Mark) → Adds least (kept_all least more) more
adds_all least more = record { first = λ before h. first_all before more least h }

pub adds_none : (least : Option Mark) → Adds least least []
adds_none least = adds_all least []

pub adds_then : {a b c : Option Mark} {ms ns : List Mark} → Adds a b ms → Adds b c ns → Adds a c (ms ++ ns)
adds_then {a} {b} {c} {ms} {ns} p q =
    record { first = λ before h. subst (λ all. IsFirst all c) (append_assoc before ms ns) (q.first (before ++ ms) (p.first before h)) }

pub adds_same : {a b : Option Mark} {ms ns : List Mark} → Same ms ns → Adds a b ms → Adds a b ns
adds_same {b = b} h p = record { first = λ before first. first_same b (same_append (same_self before) h) (p.first before first) }
