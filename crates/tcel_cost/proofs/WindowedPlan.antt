-- The plan of the worked task with a `do` block.
use Rattle.std.proofs.Common.{◌≡◌, ℕ, ◌+◌, List, [], ◌∷◌, ◌++◌, Some, refl, sym, ap, ◌∙◌, subst, arith}
use Rattle.tcel_num.specs.Plan.{Point, before, within}
use Rattle.tcel_target.specs.Costs.{unit_costs}
use Rattle.tcel_cost.specs.Examples.{passing_body, windowed_task, windowed_plan}
use Rattle.tcel_cost.specs.Walks.{Counts, Walks, IsTotal, IsFirst, IsFirstCount, IsLastCount}
use Rattle.tcel_cost.specs.Plans.{AreBlockPoints}
use Rattle.tcel_cost.specs.WholePlan.{AreWholePlans, IsWholePlan}
use Rattle.tcel_cost.proofs.Totals.{passes_total, shows_total}

-- ---- its walks

abbrev passing : Counts
passing = Walks passing_body windowed_task.vars unit_costs

-- the one walk of the block's body
record Passed (entry end : ℕ) (events : List ℕ) : Type 0 where
  ends : end ≡ entry + 3
  shows : events ≡ (entry + 1) ∷ (entry + 3) ∷ []

passed : (entry end : ℕ) (events : List ℕ) → passing entry end events → Passed entry end events
passed entry end events walk =
    let first = walk.one.0 in
    let second = walk.two.one.0 in
    let last = walk.two.two.0 in
    let behind : walk.after ≡ walk.two.middle ∷ [] = walk.two.joined ∙ ap (λ l. l ++ walk.two.after) walk.two.one.1 ∙ ap (λ l. walk.two.middle ∷ l) walk.two.two.1 in
    let all : events ≡ walk.middle ∷ walk.two.middle ∷ [] = walk.joined ∙ ap (λ l. l ++ walk.after) walk.one.1 ∙ ap (λ l. walk.middle ∷ l) behind in
    let at_second : walk.two.middle ≡ entry + 3 = omega arith in
    record { ends = omega arith; shows = all ∙ ap (λ n. n ∷ walk.two.middle ∷ []) first ∙ ap (λ n. (entry + 1) ∷ n ∷ []) at_second }

there : (entry : ℕ) → passing entry (entry + 3) ((entry + 1) ∷ (entry + 3) ∷ [])
there entry =
    record {
      middle = entry + 1;
      before = (entry + 1) ∷ [];
      after = (entry + 3) ∷ [];
      one = (refl, refl);
      two = record { middle = entry + 3; before = (entry + 3) ∷ []; after = []; one = (omega arith, refl); two = (omega arith, refl); joined = refl };
      joined = refl;
    }

-- the first of two numbers, and the last
first_of_two : (a b n : ℕ) → IsFirst (a ∷ b ∷ []) n → n ≡ a
first_of_two a b n h = let e = h.1 in cc

last_of_two : (a b n : ℕ) (others : List ℕ) → a ∷ b ∷ [] ≡ others ++ n ∷ [] → n ≡ b
last_of_two a b n [] e = absurd cc
last_of_two a b n (o ∷ []) e = cc
last_of_two a b n (o ∷ (p ∷ [])) e = absurd cc
last_of_two a b n (o ∷ (p ∷ (q ∷ others))) e = absurd cc

first_at : IsFirstCount passing 3 (Some 4)
first_at = record {
  there = (6, 4 ∷ 6 ∷ [], there 3, (6 ∷ [], refl));
  greatest =
      λ n h.
      let walk = passed 3 h.0 h.1 h.2 in
      let first = first_of_two 4 6 n (subst (λ l. IsFirst l n) walk.shows h.3) in
      omega arith;
}

last_at : IsLastCount passing 3 (Some 6)
last_at = record {
  there = (6, 4 ∷ 6 ∷ [], there 3, (4 ∷ [], refl));
  greatest =
      λ n h.
      let walk = passed 3 h.0 h.1 h.2 in
      let last = last_of_two 4 6 n h.3.0 (sym walk.shows ∙ h.3.1) in
      omega arith;
}

-- ---- its plan

block_total : IsTotal passing 3 6
block_total = record { there = (4 ∷ 6 ∷ [], there 3); greatest = λ n h. let walk = passed 3 n h.0 h.1 in let e = walk.ends in omega arith }

body_total : IsTotal (Walks windowed_task.body windowed_task.vars unit_costs) 0 6
body_total = record {
  there = (4 ∷ 6 ∷ [], record { middle = 6; before = 4 ∷ 6 ∷ []; after = []; one = there 3; two = (refl, refl); joined = refl });
  greatest = λ n h. let walk = passed 3 h.1.middle h.1.before h.1.one in let e = walk.ends in let same = h.1.two.0 in omega arith;
}

abbrev starts : Point
starts = record { prefix = 4; bound = 5; name = before 1 }

abbrev finishes : Point
finishes = record { prefix = 6; bound = 6; name = within 1 }

block_points : AreBlockPoints passing 3 (record { after = Some 3; before = Some 5; within = Some 6 }) 1 (starts ∷ finishes ∷ [])
block_points = (starts ∷ [], finishes ∷ [], (4, first_at, refl), (6, last_at, refl), refl)

whole : IsWholePlan windowed_task unit_costs windowed_plan
whole = record {
  period = refl;
  first = 6;
  first_total = body_total;
  rest = 0;
  rest_total = passes_total 0 0;
  total = refl;
  windows = starts ∷ finishes ∷ [];
  in_text = (starts ∷ finishes ∷ [], 6, [], (starts ∷ finishes ∷ [], [], block_points, ([], 4, [], refl, shows_total 1 3, ([], 6, [], refl, shows_total 2 4, refl, refl), refl), refl), block_total, refl, refl);
  points = refl;
}

pub windowed-plan : AreWholePlans (windowed_task ∷ []) unit_costs (windowed_plan ∷ [])
windowed-plan = (whole, refl)
