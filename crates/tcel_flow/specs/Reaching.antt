-- Whether an item reaches a use of a variable, as a walk from the end finds it.
use Rattle.std.specs.Prelude.{ℕ, Bool, false, not, ◌==◌, ◌&&◌, ◌||◌}
use Rattle.tcel_core.specs.Kept.{Use, by_item, by_test}
use Rattle.tcel_core.specs.Rows.{stands_in}
use Rattle.tcel_flow.specs.declared.reaching.Found.{Found}
use Rattle.tcel_flow.specs.declared.reaching.Question.{Question}
use Rattle.tcel_flow.specs.declared.reaching.Use.{Use as CodeUse}
use Rattle.tcel_flow.specs.declared.reaching.Use.TheVariants as uses
use Rattle.tcel_flow.specs.declared.step.Step.{Step}
use Rattle.tcel_flow.specs.declared.step.Step.TheVariants as steps
use Rattle.tcel_flow.specs.Backward.{Pass}

-- what uses a variable
abbrev pub plain_use : CodeUse → Use
plain_use (uses.Item n) = by_item n
plain_use (uses.Test n) = by_test n

-- whether this is the item, or the test, of that number
abbrev pub is_item_use : CodeUse → ℕ → Bool
is_item_use (uses.Item n) id = id == n
is_item_use (uses.Test n) id = false

abbrev pub is_test_use : CodeUse → ℕ → Bool
is_test_use (uses.Item n) id = false
is_test_use (uses.Test n) id = id == n

-- whether the step is the use that is asked for, and reads the variable
abbrev pub is_asked : Question → Step → Bool
is_asked q (steps.Item id reads writes event) = is_item_use q.to id && stands_in reads q.var
is_asked q (steps.Open id reads) = is_test_use q.to id && stands_in reads q.var
is_asked q _ = false

-- whether the step writes the variable
abbrev pub writes_it : Question → Step → Bool
writes_it q (steps.Item id reads writes event) = stands_in writes q.var
writes_it q _ = false

-- whether the step is the item from which the value is to come
abbrev pub is_source : Question → Step → Bool
is_source q (steps.Item id reads writes event) = id == q.from
is_source q _ = false

-- a walk that knows whether some path from here meets the use before a write, and whether one does behind a write by the item
abbrev pub reaching : Question → Pass Found
reaching q =
    record {
      item = λ x s.
          record {
            ends = is_asked q x || (not (writes_it q x) && s.ends);
            found = s.found || ((is_source q x && writes_it q x) && s.ends);
          };
      enter = λ a. a;
      again = λ a b. record { ends = a.ends; found = b.found };
      join = λ x a b c. record { ends = is_asked q x || (c.ends || b.ends); found = c.found };
    }
