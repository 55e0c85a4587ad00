-- What the code's walk knows at each step.
use Rattle.std.proofs.Common.{◌≡◌, ℕ, ◌-◌, ◌<◌, ◌≤◌, Bool, false, List, [], length, get_or, refl, ◌∙◌}
use Rattle.tcel_core.specs.declared.row.Row.{Row}
use Rattle.tcel_flow.specs.declared.step.Step.{Step}
use Rattle.tcel_flow.specs.declared.step.Step.TheVariants as steps
use Rattle.tcel_flow.specs.Backward.{IsStart, from_end}
use Rattle.tcel_flow.proofs.Backward.{past_item, past_choice, passes, passes_all, passes_none}
use Rattle.tcel_slice.specs.declared.keeping.Needed.{Needed}
use Rattle.tcel_slice.specs.Keeping.{Known, before_test, test_reads, keep_item, keeping, IsNeeded, IsKnown, Went, Keeps, Leaves, Steps}

-- ---- along steps

module _ (xs : List Step) where
  pub keeps_item : (c n id : ℕ) (reads writes : Row) (event : Bool) (d : Step) (before : Needed) (list : List Bool) (state : Needed) (list' : List Bool) (after : Needed) (list'' : List Bool) →
      0 < n → n ≤ length xs → get_or xs (n - 1) d ≡ steps.Item id reads writes event → Keeps (from_end xs c) (from_end xs n) before list state list' →
      Steps state list' after list'' (keep_item (get_or xs (n - 1) d)) → Keeps (from_end xs c) (from_end xs (n - 1)) before list after list''
  keeps_item c n id reads writes event d before list state list' after list'' some most is g step =
      record {
        went = λ s h.
            let w = g.went s h in
            record {
              known = keep_item (get_or xs (n - 1) d) w.known;
              is = step.known w.known w.is;
              goes = past_item keeping xs c n id reads writes event d s w.known (keep_item (get_or xs (n - 1) d) w.known) some most is refl w.goes;
            };
        long = step.long ∙ g.long;
      }

  pub keeps_choice : (c n m : ℕ) (d : Step) (before : Needed) (list : List Bool) (state : Needed) (list' : List Bool) (after : Needed) (list'' : List Bool) →
      0 < n → n ≤ length xs → get_or xs (n - 1) d ≡ steps.Close → Keeps (from_end xs c) (from_end xs n) before list state list' →
      Leaves (from_end xs (n - 1)) (from_end xs m) state list' after list'' → Keeps (from_end xs c) (from_end xs m) before list after list''
  keeps_choice c n m d before list state list' after list'' some most is g h =
      record {
        went = λ s k.
            let w = g.went s k in
            let p = h.passed w.known w.is in
            record { known = p.known; is = p.is; goes = past_choice keeping xs c n m d s w.known p.known some most is w.goes p.passes };
        long = h.long ∙ g.long;
      }

  -- ---- an `if`

  module _ (c m : ℕ) (behind second : Needed) (list list' : List Bool) (g : Keeps (from_end xs c) (from_end xs m) (record { row = behind.row; holds = false }) list second list') where
    at_end : (s : Known) → IsKnown behind list s → Went (from_end xs c) (from_end xs m) (keeping.enter s) second list'
    at_end s h = g.went (keeping.enter s) (record { needed = record { row = h.needed.row; holds = refl }; marks = h.marks })

    at_first : (s t : Known) → IsKnown behind list s → IsKnown second list' t → IsKnown (record { row = behind.row; holds = second.holds }) list' (keeping.again s t)
    at_first s t h k = record { needed = record { row = h.needed.row; holds = k.needed.holds }; marks = k.marks }

    -- all steps end in the second branch
    pub leaves_second : m ≡ 0 → Leaves (from_end xs c) [] behind list (record { row = behind.row; holds = second.holds }) list'
    leaves_second none =
        record {
          passed = λ s h.
              let w = at_end s h in
              record {
                known = keeping.again s w.known;
                is = at_first s w.known h w.is;
                passes = passes_none keeping xs c m s w.known none w.goes;
              };
          long = g.long;
        }

    -- all steps end in the first branch
    pub leaves_first : (o : ℕ) (first : Needed) (list'' : List Bool) → o ≡ 0 → 0 < m → m ≤ length xs → IsStart (from_end xs m) →
        Keeps (from_end xs (m - 1)) (from_end xs o) (record { row = behind.row; holds = second.holds }) list' first list'' → Leaves (from_end xs c) [] behind list first list''
    leaves_first o first list'' none some most start f =
        record {
          passed = λ s h.
              let w = at_end s h in
              let u = f.went (keeping.again s w.known) (at_first s w.known h w.is) in
              record { known = u.known; is = u.is; passes = passes_all keeping xs c m o s w.known u.known none some most start w.goes u.goes };
          long = f.long ∙ g.long;
        }

    pub leaves : (o : ℕ) (d : Step) (first after : Needed) (list'' : List Bool) → 0 < m → m ≤ length xs → 0 < o → o ≤ length xs → IsStart (from_end xs m) → IsStart (from_end xs o) →
        Keeps (from_end xs (m - 1)) (from_end xs o) (record { row = behind.row; holds = second.holds }) list' first list'' →
        ((x y z : Known) → IsNeeded behind x → IsNeeded second y → IsNeeded first z → IsNeeded after (before_test (test_reads (get_or xs (o - 1) d)) x y z)) →
        Leaves (from_end xs c) (from_end xs (o - 1)) behind list after list''
    leaves o d first after list'' some most some' most' start start' f test =
        record {
          passed = λ s h.
              let w = at_end s h in
              let u = f.went (keeping.again s w.known) (at_first s w.known h w.is) in
              let all = keeping.join (get_or xs (o - 1) d) s w.known u.known in
              record {
                known = all;
                is = record { needed = test s w.known u.known h.needed w.is.needed u.is.needed; marks = u.is.marks };
                passes = passes keeping xs c m o d s w.known u.known all some most some' most' start start' w.goes u.goes refl;
              };
          long = f.long ∙ g.long;
        }
