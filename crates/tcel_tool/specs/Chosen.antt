-- The choice that the code holds, as plain data.
use Rattle.std.specs.Prelude.{map}
use Rattle.tcel_core.specs.Parts.{plain_parts}
use Rattle.tcel_core.specs.Plain.{plain_set}
use Rattle.tcel_tool.specs.SetChoice.{Choice}
use Rattle.tcel_tool.specs.declared.choice.ChosenSet.{ChosenSet}

abbrev pub plain_choice : ChosenSet → Choice
plain_choice c =
    record {
      set = plain_set c.set;
      costs = c.costs;
      sliced = c.choice.sliced;
      plans = c.choice.plans;
      parts = map plain_parts c.choice.parts;
    }
