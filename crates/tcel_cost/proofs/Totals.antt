-- Walks of which each takes as many cycles.
use Rattle.std.proofs.Common.{◌≡◌, ℕ, ◌+◌, List, [], ◌∷◌, ◌++◌, refl, subst, arith}
use Rattle.tcel_cost.specs.Walks.{Counts, EndsAt, IsTotal, Passes, Shows, Then}

-- every walk takes so many cycles, and from each entry there is one
pub record Lasts (walks : Counts) (n : ℕ) : Type 0 where
  pub ends : (entry end : ℕ) (events : List ℕ) → walks entry end events → end ≡ entry + n
  pub there : (entry : ℕ) → EndsAt walks entry (entry + n)

pub passes_last : (n : ℕ) → Lasts (Passes n) n
passes_last n = record { ends = λ entry end events h. h.0; there = λ entry. ([], (refl, refl)) }

pub shows_last : (n : ℕ) → Lasts (Shows n) n
shows_last n = record { ends = λ entry end events h. h.0; there = λ entry. ((entry + n) ∷ [], (refl, refl)) }

pub then_last : {first second : Counts} {a b : ℕ} → Lasts first a → Lasts second b → Lasts (Then first second) (a + b)
then_last {first = first} {second = second} {a = a} {b = b} one two = record {
  ends = λ entry end events h. omega (arith, one.ends entry h.middle h.before h.one, two.ends h.middle end h.after h.two);
  there = λ entry.
      let before = one.there entry in
      let after = two.there (entry + a) in
      let all : entry + a + b ≡ entry + (a + b) = omega arith in (
        before.0 ++ after.0,
        record { middle = entry + a; before = before.0; after = after.0; one = before.1; two = subst (λ n. second (entry + a) n after.0) all after.1; joined = refl },
      );
}

-- their total
pub total_of : {walks : Counts} {n : ℕ} (entry : ℕ) → Lasts walks n → IsTotal walks entry (entry + n)
total_of entry lasts = record { there = lasts.there entry; greatest = λ m h. let e = lasts.ends entry m h.0 h.1 in omega arith }

pub passes_total : (cycles entry : ℕ) → IsTotal (Passes cycles) entry (entry + cycles)
passes_total cycles entry = total_of entry (passes_last cycles)

pub shows_total : (cycles entry : ℕ) → IsTotal (Shows cycles) entry (entry + cycles)
shows_total cycles entry = total_of entry (shows_last cycles)
