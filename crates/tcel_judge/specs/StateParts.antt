-- The part of a variable in the text of a state.
use Rattle.std.specs.Prelude.{ℕ, ℤ, List, [], ◌++◌, Option, take, unwrap_or, codes, if◌then◌else◌}
use Rattle.tcel_code.specs.Layout.{kind_of}
use Rattle.tcel_core.specs.declared.var.Var.{Var}
use Rattle.tcel_core.specs.Cells.{words_of}
use Rattle.tcel_core.specs.Frames.{is_state}
use Rattle.tcel_image.specs.TraceText.{value_text}

-- its words in the state
abbrev pub own_words : Var → ℕ
own_words v = if is_state v.keep then words_of v.kind else 0

abbrev pub name_text : Option (List ℕ) → List ℕ
name_text name = unwrap_or name []

-- the name and the value of a state variable, whose words stand first, and nothing for any other
abbrev pub own_text : Var → List ℤ → List ℕ
own_text v words =
    if is_state v.keep then codes " " ++ (name_text v.name ++ (codes "=" ++ value_text (kind_of v.kind) (take (words_of v.kind) words))) else []
