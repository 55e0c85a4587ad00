-- The forms that the code holds, as plain data.
use Rattle.std.specs.Prelude.{map}
use Rattle.tcel_core.specs.Parts.{plain_parts}
use Rattle.tcel_core.specs.Plain.{plain_set}
use Rattle.tcel_tool.specs.SetForms.{SetForms}
use Rattle.tcel_tool.specs.declared.formed.FormedSet.{FormedSet}

abbrev pub plain_forms : FormedSet → SetForms
plain_forms f =
    record {
      set = plain_set f.set;
      costs = f.costs;
      parts = map plain_parts f.forms.parts;
      whole = f.forms.whole;
      sliced = f.forms.sliced;
      hyper = f.forms.hyper;
    }
