-- Laws of costs: costs are joined in any grouping, and each step adds as much behind any cost.
use Rattle.std.proofs.Common.{◌≡◌, ℕ, ◌+◌, ◌-◌, ◌*◌, ◌≤◌, max, refl, sym, ap, ◌∙◌, arith, Option, Some, None}
use Rattle.std.specs.Prelude.{IfSome}
use Rattle.tcel_cost.specs.declared.numbers.Cost.{Cost}
use Rattle.tcel_cost.specs.CostSteps.{both, either, entered, from_start, greater, joined, passed, quiet_rounds, rounds, shown, times, where_some}

-- ---- counts that may be absent

pub greater_none : (a : Option ℕ) → greater a None ≡ a
greater_none None = refl
greater_none (Some a) = refl

greater_same : (a : Option ℕ) → greater a a ≡ a
greater_same None = refl
greater_same (Some a) = let e : max a a ≡ a = omega arith in ap Some e

greater_swap : (a b : Option ℕ) → greater a b ≡ greater b a
greater_swap None None = refl
greater_swap None (Some b) = refl
greater_swap (Some a) None = refl
greater_swap (Some a) (Some b) = let e : max a b ≡ max b a = omega arith in ap Some e

greater_assoc : (a b c : Option ℕ) → greater (greater a b) c ≡ greater a (greater b c)
greater_assoc None b c = refl
greater_assoc (Some a) None c = refl
greater_assoc (Some a) (Some b) None = refl
greater_assoc (Some a) (Some b) (Some c) = let e : max (max a b) c ≡ max a (max b c) = omega arith in ap Some e

-- four, in pairs one way or the other
greater_pairs : (a b c d : Option ℕ) → greater (greater a b) (greater c d) ≡ greater (greater a c) (greater b d)
greater_pairs a b c d =
    greater_assoc a b (greater c d)
    ∙ ap (greater a) (sym (greater_assoc b c d) ∙ ap (λ x. greater x d) (greater_swap b c) ∙ greater_assoc c b d)
    ∙ sym (greater_assoc a c (greater b d))

from_sum : (s t : ℕ) (a : Option ℕ) → from_start s (from_start t a) ≡ from_start (s + t) a
from_sum s t None = refl
from_sum s t (Some a) = let e : s + (t + a) ≡ s + t + a = omega arith in ap Some e

from_greater : (s : ℕ) (a b : Option ℕ) → from_start s (greater a b) ≡ greater (from_start s a) (from_start s b)
from_greater s None b = refl
from_greater s (Some a) None = refl
from_greater s (Some a) (Some b) = let e : s + max a b ≡ max (s + a) (s + b) = omega arith in ap Some e

pub both_none : (a : Option ℕ) → both a None ≡ None
both_none None = refl
both_none (Some a) = refl

both_zero : (a : Option ℕ) → both a (Some 0) ≡ a
both_zero None = refl
both_zero (Some a) = let e : a + 0 ≡ a = omega arith in ap Some e

both_assoc : (a b c : Option ℕ) → both (both a b) c ≡ both a (both b c)
both_assoc None b c = refl
both_assoc (Some a) None c = refl
both_assoc (Some a) (Some b) c = sym (from_sum a b c)

both_greater : (a b c : Option ℕ) → both a (greater b c) ≡ greater (both a b) (both a c)
both_greater None b c = refl
both_greater (Some a) b c = from_greater a b c

-- a count after more cycles
both_from : (k : ℕ) (a b : Option ℕ) → from_start k (both a b) ≡ both a (from_start k b)
both_from k None b = refl
both_from k (Some a) None = refl
both_from k (Some a) (Some b) = let e : k + (a + b) ≡ a + (k + b) = omega arith in ap Some e

both_some : (k : ℕ) (a : Option ℕ) → from_start k a ≡ both a (Some k)
both_some k None = refl
both_some k (Some a) = let e : k + a ≡ a + k = omega arith in ap Some e

pub where_none : (a : Option ℕ) → where_some a None ≡ None
where_none None = refl
where_none (Some a) = refl

where_from : (k : ℕ) (a b : Option ℕ) → where_some (from_start k a) b ≡ where_some a b
where_from k None b = refl
where_from k (Some a) b = refl

where_both : (a b c : Option ℕ) → where_some (both a b) c ≡ where_some b (where_some a c)
where_both None b c = sym (where_none b)
where_both (Some a) b c = where_from a b c

where_greater : (a b c : Option ℕ) → where_some (greater a b) c ≡ greater (where_some a c) (where_some b c)
where_greater None b c = refl
where_greater (Some a) None c = sym (greater_none c)
where_greater (Some a) (Some b) c = sym (greater_same c)

where_pair : (a b c : Option ℕ) → where_some a (greater b c) ≡ greater (where_some a b) (where_some a c)
where_pair None b c = refl
where_pair (Some a) b c = refl

from_where : (k : ℕ) (a b : Option ℕ) → from_start k (where_some a b) ≡ where_some a (from_start k b)
from_where k None b = refl
from_where k (Some a) b = refl

-- ---- costs

-- two costs are the same where their numbers are
pub same_cost : (a b : Cost) → a.total ≡ b.total → a.first ≡ b.first → a.last ≡ b.last → a.quiet ≡ b.quiet → a ≡ b
same_cost a b total first last quiet =
    ap (λ n. let c : Cost = record { total = n; first = a.first; last = a.last; quiet = a.quiet } in c) total
    ∙ ap (λ n. let c : Cost = record { total = b.total; first = n; last = a.last; quiet = a.quiet } in c) first
    ∙ ap (λ n. let c : Cost = record { total = b.total; first = b.first; last = n; quiet = a.quiet } in c) last
    ∙ ap (λ n. let c : Cost = record { total = b.total; first = b.first; last = b.last; quiet = n } in c) quiet

pub joined_assoc : (a b c : Cost) → joined (joined a b) c ≡ joined a (joined b c)
joined_assoc a b c =
    same_cost (joined (joined a b) c) (joined a (joined b c)) (omega arith)
    (greater_assoc a.first (both a.quiet b.first) (both (both a.quiet b.quiet) c.first)
    ∙ ap (greater a.first) (ap (greater (both a.quiet b.first)) (both_assoc a.quiet b.quiet c.first) ∙ sym (both_greater a.quiet b.first (both b.quiet c.first))))
    (ap (λ x. greater (from_start (a.total + b.total) c.last) x) (where_pair c.quiet (from_start a.total b.last) (where_some b.quiet a.last))
    ∙ sym (greater_assoc (from_start (a.total + b.total) c.last) (where_some c.quiet (from_start a.total b.last)) (where_some c.quiet (where_some b.quiet a.last)))
    ∙ ap (λ x. greater x (where_some c.quiet (where_some b.quiet a.last)))
    (ap (λ x. greater x (where_some c.quiet (from_start a.total b.last))) (sym (from_sum a.total b.total c.last))
    ∙ ap (greater (from_start a.total (from_start b.total c.last))) (sym (from_where a.total c.quiet b.last))
    ∙ sym (from_greater a.total (from_start b.total c.last) (where_some c.quiet b.last)))
    ∙ ap (greater (from_start a.total (greater (from_start b.total c.last) (where_some c.quiet b.last)))) (sym (where_both b.quiet c.quiet a.last)))
    (both_assoc a.quiet b.quiet c.quiet)

pub passed_joined : (k : ℕ) (c r : Cost) → passed k (joined c r) ≡ joined c (passed k r)
passed_joined k c r =
    same_cost (passed k (joined c r)) (joined c (passed k r)) (omega arith) refl
    (ap (greater (from_start c.total r.last)) (sym (where_from k r.quiet c.last)))
    (both_from k c.quiet r.quiet)

pub shown_joined : (k : ℕ) (c r : Cost) → shown k (joined c r) ≡ joined c (shown k r)
shown_joined k c r =
    let e : k + (c.total + r.total) ≡ c.total + (k + r.total) = omega arith in
    same_cost (shown k (joined c r)) (joined c (shown k r)) e
    (greater_assoc c.first (both c.quiet r.first) (from_start k (both c.quiet r.quiet))
    ∙ ap (greater c.first) (ap (greater (both c.quiet r.first)) (both_from k c.quiet r.quiet) ∙ sym (both_greater c.quiet r.first (from_start k r.quiet))))
    (ap Some e)
    (sym (both_none c.quiet))

pub either_joined : (c a b : Cost) → either (joined c a) (joined c b) ≡ joined c (either a b)
either_joined c a b =
    same_cost (either (joined c a) (joined c b)) (joined c (either a b)) (omega arith)
    (greater_pairs c.first (both c.quiet a.first) c.first (both c.quiet b.first)
    ∙ ap (λ x. greater x (greater (both c.quiet a.first) (both c.quiet b.first))) (greater_same c.first)
    ∙ ap (greater c.first) (sym (both_greater c.quiet a.first b.first)))
    (greater_pairs (from_start c.total a.last) (where_some a.quiet c.last) (from_start c.total b.last) (where_some b.quiet c.last)
    ∙ ap (λ x. greater x (greater (where_some a.quiet c.last) (where_some b.quiet c.last))) (sym (from_greater c.total a.last b.last))
    ∙ ap (greater (from_start c.total (greater a.last b.last))) (sym (where_greater a.quiet b.quiet c.last)))
    (sym (both_greater c.quiet a.quiet b.quiet))

-- some cycles more
pub passed_as_joined : (k : ℕ) (c : Cost) → passed k c ≡ joined c (entered k)
passed_as_joined k c =
    same_cost (passed k c) (joined c (entered k)) (omega arith)
    (sym (ap (greater c.first) (both_none c.quiet) ∙ greater_none c.first))
    refl
    (both_some k c.quiet)

-- nothing more
pub entered_joined : (c : Cost) → joined c (entered 0) ≡ c
entered_joined c =
    same_cost (joined c (entered 0)) c (omega arith) (ap (greater c.first) (both_none c.quiet) ∙ greater_none c.first) refl (both_zero c.quiet)

-- ---- rounds

-- so many rounds and one more
abbrev pub counted : ℕ → Cost → Cost
counted n r =
    record {
      total = (n + 1) * r.total;
      first = from_start (quiet_rounds n r.quiet) r.first;
      last = from_start (n * r.total) r.last;
      quiet = times (n + 1) r.quiet;
    }

pub rounds_counted : (n : ℕ) (r : Cost) → rounds (n + 1) r ≡ counted n r
rounds_counted n r =
    let e : n + 1 - 1 ≡ n = omega arith in
    ap (λ m. let c : Cost = record {
      total = (n + 1) * r.total;
      first = from_start (quiet_rounds m r.quiet) r.first;
      last = from_start (m * r.total) r.last;
      quiet = times (n + 1) r.quiet;
    } in c) e

from_zero : (s : ℕ) (a : Option ℕ) → s ≡ 0 → from_start s a ≡ a
from_zero s None e = refl
from_zero s (Some a) e = let d : s + a ≡ a = omega arith in ap Some d

no_rounds : (q : Option ℕ) → quiet_rounds 0 q ≡ 0
no_rounds None = refl
no_rounds (Some q) = omega arith

times_one : (n : ℕ) (q : Option ℕ) → n ≡ 1 → times n q ≡ q
times_one n None e = refl
times_one n (Some q) e = let d : n * q ≡ q = ap (λ m. m * q) e ∙ omega arith in ap Some d

pub counted_none : (r : Cost) → counted 0 r ≡ r
counted_none r =
    same_cost (counted 0 r) r (omega arith) (from_zero (quiet_rounds 0 r.quiet) r.first (no_rounds r.quiet)) (from_zero (0 * r.total) r.last (omega arith))
    (times_one (0 + 1) r.quiet refl)

-- the first event of one round more
first_more : (n : ℕ) (first quiet : Option ℕ) →
    greater first (both quiet (from_start (quiet_rounds n quiet) first)) ≡ from_start (quiet_rounds (n + 1) quiet) first
first_more n None quiet = both_none quiet
first_more n (Some f) None = let e : f ≡ 0 + f = omega arith in ap Some e
first_more n (Some f) (Some q) = let e : max f (q + (n * q + f)) ≡ (n + 1) * q + f = omega arith in ap Some e

last_more : (n t : ℕ) (last quiet : Option ℕ) → greater (from_start t (from_start (n * t) last)) (where_some quiet last) ≡ from_start ((n + 1) * t) last
last_more n t None quiet = where_none quiet
last_more n t (Some l) None = let e : t + (n * t + l) ≡ (n + 1) * t + l = omega arith in ap Some e
last_more n t (Some l) (Some q) = let e : max (t + (n * t + l)) l ≡ (n + 1) * t + l = omega arith in ap Some e

times_more : (n : ℕ) (q : Option ℕ) → both q (times n q) ≡ times (n + 1) q
times_more n None = refl
times_more n (Some q) = let e : q + n * q ≡ (n + 1) * q = omega arith in ap Some e

where_times : (n : ℕ) (q l : Option ℕ) → where_some (times n q) l ≡ where_some q l
where_times n None l = refl
where_times n (Some q) l = refl

pub counted_more : (n : ℕ) (r : Cost) → joined r (counted n r) ≡ counted (n + 1) r
counted_more n r =
    same_cost (joined r (counted n r)) (counted (n + 1) r) (omega arith)
    (first_more n r.first r.quiet)
    (ap (greater (from_start r.total (from_start (n * r.total) r.last))) (where_times (n + 1) r.quiet r.last) ∙ last_more n r.total r.last r.quiet)
    (times_more (n + 1) r.quiet)

-- a last test is no dearer than a round
pub record IsCheaper (k : ℕ) (r : Cost) : Type 0 where
  pub total : k ≤ r.total
  pub quiet : IfSome r.quiet (λ q. k ≤ q)

quiet_least : (n k : ℕ) (q : Option ℕ) → IfSome q (λ q. k ≤ q) →
    greater (Some k) (greater (from_start k q) (times (n + 1 + 1) q)) ≡ greater (Some k) (times (n + 1 + 1) q)
quiet_least n k None h = refl
quiet_least n k (Some q) h = let e : max k (max (k + q) ((n + 1 + 1) * q)) ≡ max k ((n + 1 + 1) * q) = omega (arith, h) in ap Some e

first_least : (n : ℕ) (first quiet : Option ℕ) → greater first (from_start (quiet_rounds n quiet) first) ≡ from_start (quiet_rounds n quiet) first
first_least n None quiet = refl
first_least n (Some f) quiet = let e : max f (quiet_rounds n quiet + f) ≡ quiet_rounds n quiet + f = omega arith in ap Some e

last_least : (s : ℕ) (last : Option ℕ) → greater last (from_start s last) ≡ from_start s last
last_least s None = refl
last_least s (Some l) = let e : max l (s + l) ≡ s + l = omega arith in ap Some e

-- a test behind one round is passed by two rounds and more
pub test_passed : (n k : ℕ) (r : Cost) → IsCheaper k r → either (entered k) (either (passed k r) (counted (n + 1) r)) ≡ either (entered k) (counted (n + 1) r)
test_passed n k r h =
    let cheap = h.total in
    let total : max k (max (k + r.total) ((n + 1 + 1) * r.total)) ≡ max k ((n + 1 + 1) * r.total) = omega arith in
    same_cost (either (entered k) (either (passed k r) (counted (n + 1) r))) (either (entered k) (counted (n + 1) r)) total
    (first_least (n + 1) r.first r.quiet)
    (last_least ((n + 1) * r.total) r.last)
    (quiet_least n k r.quiet h.quiet)

-- a round that begins with the test
pub cheaper : (k more : ℕ) (r : Cost) → IsCheaper k (passed more (joined (entered k) r))
cheaper k more r = record { total = omega arith; quiet = longer r.quiet }
  where
    longer : (q : Option ℕ) → IfSome (from_start more (both (Some k) q)) (λ n. k ≤ n)
    longer None = tt
    longer (Some q) = omega arith
