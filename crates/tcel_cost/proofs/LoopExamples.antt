-- The walks of loops without events, worked out.
use Rattle.std.proofs.Common.{◌≡◌, ◌≤◌, ◌+◌, ◌*◌, ◌++◌, ℕ, zero, suc, [], ◌∷◌, List, Some, None, refl, sym, ap, ◌∙◌, subst, inl, inr, arith}
use Rattle.tcel_core.specs.Examples.{for_body, while_body, loop_vars}
use Rattle.tcel_target.specs.Examples.{many_costs}
use Rattle.tcel_cost.specs.Walks.{Counts, Walks, IsTotal, IsQuietCount, IsFirstCount, Passes, Rounds, RoundsUpTo, Then}

-- every walk takes so many cycles and has no event
record Takes (walks : Counts) (n : ℕ) : Type 0 where
  end_is : (entry end : ℕ) (events : List ℕ) → walks entry end events → end ≡ entry + n
  quiet : (entry end : ℕ) (events : List ℕ) → walks entry end events → events ≡ []
  there : (entry : ℕ) → walks entry (entry + n) []

passes_take : (n : ℕ) → Takes (Passes n) n
passes_take n = record { end_is = λ entry end events h. h.0; quiet = λ entry end events h. h.1; there = λ entry. (refl, refl) }

then_take : (first second : Counts) (a b : ℕ) → Takes first a → Takes second b → Takes (Then first second) (a + b)
then_take first second a b one two = record {
  end_is = λ entry end events h. omega (arith, one.end_is entry h.middle h.before h.one, two.end_is h.middle end h.after h.two);
  quiet = λ entry end events h. h.joined ∙ ap (λ l. l ++ h.after) (one.quiet entry h.middle h.before h.one) ∙ two.quiet h.middle end h.after h.two;
  there = λ entry.
      let ends : entry + a + b ≡ entry + (a + b) = omega arith in
      record { middle = entry + a; before = []; after = []; one = one.there entry; two = subst (λ n. second (entry + a) n []) ends (two.there (entry + a)); joined = refl };
}

rounds_take : (k : ℕ) (round : Counts) (n : ℕ) → Takes round n → Takes (Rounds k round) (k * n)
rounds_take zero round n one = let none : 0 ≡ 0 * n = omega arith in subst (Takes (Passes 0)) none (passes_take 0)
rounds_take (suc k) round n one =
    let all : n + k * n ≡ suc k * n = omega arith in
    subst (Takes (Then round (Rounds k round))) all (then_take round (Rounds k round) n (k * n) one (rounds_take k round n one))

abbrev HasSome : List ℕ → Type 0
HasSome [] = ⊥
HasSome (c ∷ cs) = Unit {0}

module _ (walks : Counts) (n : ℕ) (takes : Takes walks n) (entry : ℕ) where
  total_of : IsTotal walks entry (entry + n)
  total_of = record { there = ([], takes.there entry); greatest = λ m h. let e = takes.end_is entry m h.0 h.1 in omega arith }

  quiet_of : IsQuietCount walks entry (Some (entry + n))
  quiet_of = record { there = takes.there entry; greatest = λ m h. let e = takes.end_is entry m [] h in omega arith }

  no_first : IsFirstCount walks entry None
  no_first = λ count h. let none = takes.quiet entry h.0 h.1 h.2 in subst HasSome (sym h.3.1 ∙ none) tt

-- for i < 3 { n := n + i; i := 7; }
for_takes : Takes (Walks for_body loop_vars many_costs) 103
for_takes =
    then_take _ _ 103 0
    (then_take _ _ 4 99 (passes_take 4)
    (rounds_take 3 _ 33 (then_take _ _ 5 28 (passes_take 5) (then_take _ _ 17 11 (then_take _ _ 13 4 (passes_take 13) (then_take _ _ 4 0 (passes_take 4) (passes_take 0))) (passes_take 11)))))
    (passes_take 0)

pub for-total : IsTotal (Walks for_body loop_vars many_costs) 15 118
for-total = total_of (Walks for_body loop_vars many_costs) 103 for_takes 15

pub for-quiet : IsQuietCount (Walks for_body loop_vars many_costs) 15 (Some 118)
for-quiet = quiet_of (Walks for_body loop_vars many_costs) 103 for_takes 15

pub for-first : IsFirstCount (Walks for_body loop_vars many_costs) 15 None
for-first = no_first (Walks for_body loop_vars many_costs) 103 for_takes 15

-- ---- while n < 10 limit 5 { n := n + 4; }

abbrev test : Counts
test = Passes 18

abbrev round : Counts
round = Then test (Then (Then (Passes 12) (Passes 0)) (Passes 11))

round_takes : Takes round 41
round_takes = then_take _ _ 18 23 (passes_take 18) (then_take _ _ 12 11 (then_take _ _ 12 0 (passes_take 12) (passes_take 0)) (passes_take 11))

-- after fewer rounds a last test takes less than a round
up_to : (entry end : ℕ) (events : List ℕ) → RoundsUpTo 5 round test entry end events → end ≤ entry + 205
up_to entry end events (inl h) =
    let less = rounds_take h.0 round 41 round_takes in
    let rounds = less.end_is entry h.2.middle h.2.before h.2.one in
    let last = h.2.two.0 in
    let few : h.0 ≤ 4 = let b = h.1 in omega arith in
    omega arith
up_to entry end events (inr h) = let e = (rounds_take 5 round 41 round_takes).end_is entry end events h in omega arith

pub while-total : IsTotal (Walks (while_body 5) loop_vars many_costs) 15 224
while-total = record {
  there = (
    [],
    record {
      middle = 224;
      before = [];
      after = [];
      one = record { middle = 19; before = []; after = []; one = (refl, refl); two = inr ((rounds_take 5 round 41 round_takes).there 19); joined = refl };
      two = (refl, refl);
      joined = refl;
    },
  );
  greatest = λ m h.
      let most = up_to h.1.one.middle h.1.middle h.1.one.after h.1.one.two in
      let begins = h.1.one.one.0 in
      let ends = h.1.two.0 in
      omega arith;
}
