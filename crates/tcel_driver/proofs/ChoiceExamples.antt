-- The worked examples of choices.
use Rattle.std.proofs.Common.{◌≡◌, ℕ, zero, suc, ◌/◌, ◌^◌, ◌<◌, ◌≤◌, Bool, true, false, List, [], ◌∷◌, refl, ap, subst, arith, lit<, lit≤, inl, inr}
use Rattle.std.specs.Prelude.{Contains}
use Rattle.std.proofs.lemmas.Bool.{false≢true}
use Rattle.tcel_num.specs.Lateness.{IsLate}
use Rattle.tcel_num.specs.Plan.{Point, frame}
use Rattle.tcel_core.specs.Examples.{one}
use Rattle.tcel_core.specs.Kept.{IsKeptSet}
use Rattle.tcel_core.specs.Language.{Act, choice, done}
use Rattle.tcel_core.specs.Parts.{AreOwnParts}
use Rattle.tcel_core.specs.Paths.{at_item, at_test, points, Point as BodyPoint}
use Rattle.tcel_demand.proofs.Hyperperiods.{own_hyperperiod}
use Rattle.tcel_demand.proofs.Responses.{always_within, never_late, no_more}
use Rattle.tcel_target.specs.Costs.{unit_costs}
use Rattle.tcel_cost.specs.Forms.{form_of}
use Rattle.tcel_cost.specs.Plans.{IsPlan}
use Rattle.tcel_cost.specs.Walks.{IsTotal, StmtWalks, Walks}
use Rattle.tcel_driver.specs.Choice.{AreInTime, Fits, IsChosen}
use Rattle.tcel_driver.specs.Examples.{branching, branching_parts, branching_sliced, branching_task, branching_whole}
use Rattle.tcel_driver.specs.Forms.{AreForms, IsCosted}
use Rattle.tcel_driver.specs.Refusals.{IsOverloaded, IsTooDear}
use Rattle.tcel_driver.proofs.Chosen.{has_time}

-- ---- parts

abbrev is_an_item : BodyPoint → Bool
is_an_item (at_item n act) = true
is_an_item (at_test n test held other) = false

no_item : (n : ℕ) (act : Act) → Contains (points branching) (at_item n act) → ⊥
no_item n act (zero, within, e) = false≢true (ap is_an_item e)
no_item n act (suc k, within, e) = omega arith

none_kept : IsKeptSet branching (λ n. false)
none_kept =
    record {
      closed = record {
        events = λ n act there event. absurd (no_item n act there);
        for_items = λ from n v kept reached. absurd (false≢true kept);
        for_tests = λ from n test v kept around reached. absurd (false≢true kept);
      };
      least = λ other closed n kept. absurd (false≢true kept);
    }

own : (period : ℕ) → AreOwnParts (branching_task period) branching_parts
own period = record { kept = λ n. false; least = none_kept; are = refl; few = lit≤ tt }

-- ---- plans

nothing_more : (entry : ℕ) → IsTotal (Walks done [] unit_costs) entry entry
nothing_more entry = record { there = ([], (omega arith, refl)); greatest = λ m walk. let end = walk.1.0 in omega arith }

test_walk : StmtWalks (choice 0 one done done) [] unit_costs 0 2 []
test_walk = record { middle = 2; before = []; after = []; one = (refl, refl); two = inr (refl, refl); joined = refl }

test_most : (end : ℕ) (events : List ℕ) → StmtWalks (choice 0 one done done) [] unit_costs 0 end events → end ≤ 2
test_most end events walk =
    let start = walk.one.0 in
    elim walk.two [
      | inl held ↦ let body = held.one.0 in let jump = held.two.0 in omega arith
      | inr other ↦ let body = other.0 in omega arith
    ]

test_total : IsTotal (StmtWalks (choice 0 one done done) [] unit_costs) 0 2
test_total = record { there = ([], test_walk); greatest = λ m walk. test_most m walk.0 walk.1 }

whole_total : IsTotal (Walks branching [] unit_costs) 0 2
whole_total =
    record {
      there = ([], record { middle = 2; before = []; after = []; one = test_walk; two = (refl, refl); joined = refl });
      greatest = λ m walk. let most = test_most walk.1.middle walk.1.before walk.1.one in let end = walk.1.two.0 in omega arith;
    }

whole_plan : (period : ℕ) → IsPlan (form_of (branching_task period) false branching_parts) unit_costs (branching_whole period)
whole_plan period =
    record {
      period = refl;
      first = 2;
      first_total = whole_total;
      rest = 0;
      rest_total = nothing_more 0;
      total = refl;
      windows = [];
      in_text = ([], 2, [], ([], [], refl, refl, refl), test_total, refl, refl);
      points = refl;
    }

sliced_plan : (period : ℕ) → IsPlan (form_of (branching_task period) true branching_parts) unit_costs (branching_sliced period)
sliced_plan period =
    record {
      period = refl;
      first = 0;
      first_total = nothing_more 0;
      rest = 0;
      rest_total = nothing_more 0;
      total = refl;
      windows = [];
      in_text = refl;
      points = refl;
    }

costed : (period : ℕ) → IsCosted unit_costs (branching_task period) branching_parts (branching_whole period) (branching_sliced period)
costed period =
    record {
      at_once = record { is = whole_plan period; few = lit≤ tt };
      in_parts = record { is = sliced_plan period; few = lit≤ tt };
    }

forms : (period : ℕ) → 0 < period → period ≤ 10 ^ 12 → period / period ≤ 10 ^ 6
    → AreForms (branching_task period ∷ []) unit_costs (branching_parts ∷ []) (branching_whole period ∷ []) (branching_sliced period ∷ []) period
forms period some most few =
    record {
      split = (own period, tt);
      costed = (costed period, tt);
      period = own_hyperperiod (branching_whole period) some;
      most = most;
      frames = omega arith;
    }

-- ---- each 3 ticks

sliced_in_time : (task at point : ℕ) → IsLate (branching_sliced 3 ∷ []) (record { task = task; frame = at; point = point }) → ⊥
sliced_in_time zero at zero late =
    let mark : Point = record { prefix = 1; bound = 3; name = frame } in
    never_late (branching_sliced 3 ∷ []) (record { task = 0; frame = at; point = 0 }) (branching_sliced 3) mark refl refl
    (λ response r. always_within (branching_sliced 3 ∷ []) 3 0 at 0 (branching_sliced 3) mark response 3 (refl, refl, lit< tt, tt) (lit< tt) refl r) late
sliced_in_time zero at (suc k) late =
    no_more (branching_sliced 3 ∷ []) (record { task = 0; frame = at; point = suc k }) (branching_sliced 3) (record { prefix = 1; bound = 3; name = frame }) k refl refl refl late
sliced_in_time (suc k) at point late = let e = late.3.of_task in cc

in_time : AreInTime (branching_sliced 3 ∷ [])
in_time =
    record {
      hyper = 3;
      period = own_hyperperiod (branching_sliced 3) (lit< tt);
      room = lit≤ tt;
      never = λ place late. sliced_in_time place.task place.frame place.point late;
    }

three : AreForms (branching_task 3 ∷ []) unit_costs (branching_parts ∷ []) (branching_whole 3 ∷ []) (branching_sliced 3 ∷ []) 3
three = forms 3 (lit< tt) (lit≤ tt) (lit≤ tt)

pub not_whole : Fits (branching_task 3 ∷ []) unit_costs (branching_parts ∷ []) 0 → ⊥
not_whole fits =
    let time = has_time (branching_task 3 ∷ []) unit_costs (branching_parts ∷ []) (branching_whole 3 ∷ []) (branching_sliced 3 ∷ []) 3 three 0 (lit≤ tt) fits in
    let room : 4 ≤ 3 = time.room in
    omega arith

pub chosen_example : IsChosen (branching_task 3 ∷ []) unit_costs 1 (branching_sliced 3 ∷ []) (branching_parts ∷ [])
chosen_example =
    record {
      at_once = branching_whole 3 ∷ [];
      in_parts = branching_sliced 3 ∷ [];
      hyper = 3;
      forms = three;
      most = lit≤ tt;
      are = (sliced_plan 3, refl);
      in_time = in_time;
      least = λ fewer less fits. let none : fewer ≡ 0 = omega arith in not_whole (subst (Fits (branching_task 3 ∷ []) unit_costs (branching_parts ∷ [])) none fits);
    }

-- ---- each tick

one_tick : AreForms (branching_task 1 ∷ []) unit_costs (branching_parts ∷ []) (branching_whole 1 ∷ []) (branching_sliced 1 ∷ []) 1
one_tick = forms 1 (lit< tt) (lit≤ tt) (lit≤ tt)

no_number : (k : ℕ) → k ≤ 1 → Fits (branching_task 1 ∷ []) unit_costs (branching_parts ∷ []) k → ⊥
no_number zero most fits =
    let time = has_time (branching_task 1 ∷ []) unit_costs (branching_parts ∷ []) (branching_whole 1 ∷ []) (branching_sliced 1 ∷ []) 1 one_tick 0 (lit≤ tt) fits in
    let room : 4 ≤ 1 = time.room in
    omega arith
no_number (suc zero) most fits =
    let time = has_time (branching_task 1 ∷ []) unit_costs (branching_parts ∷ []) (branching_whole 1 ∷ []) (branching_sliced 1 ∷ []) 1 one_tick 1 (lit≤ tt) fits in
    let room : 2 ≤ 1 = time.room in
    omega arith
no_number (suc (suc k)) most fits = omega arith

pub overload_example : IsOverloaded (branching_task 1 ∷ []) unit_costs 2 1
overload_example =
    record {
      sliced = branching_sliced 1 ∷ [];
      none = record { parts = branching_parts ∷ []; whole = branching_whole 1 ∷ []; forms = one_tick; none = no_number };
      counted = refl;
      above = lit< tt;
    }

pub not_dear : IsTooDear (branching_task 3 ∷ []) unit_costs 0 4 → ⊥
not_dear dear = elim dear.dear [ inl whole ↦ let above = whole.above in omega arith | inr sliced ↦ let above = sliced.2.above in omega arith ]
