-- The script that `make_script` writes.
use Rattle.std.specs.Prelude.{ℕ, ◌+◌, ◌*◌, List, [], ◌∷◌, ◌++◌, codes}
use Rattle.std.specs.Fmt.{decimal}
use Rattle.std.specs.List.{concat, flat_map, range_with_len}

-- the m-th value of task j, both from 0, with a space before it
abbrev pub value_text : ℕ → ℕ → List ℕ
value_text j m = codes " " ++ decimal ((j + 1) * (m + 1))

-- the line of task j: a hundred values of its input
unfoldable pub line_text : ℕ → List ℕ
line_text j = concat (codes "t" ∷ decimal j ∷ codes " s" ∷ flat_map (value_text j) (range_with_len 0 100) ∷ codes "\n" ∷ [])

-- the lines of the tasks from 0 on, so many
abbrev pub script_text : ℕ → List ℕ
script_text tasks = flat_map line_text (range_with_len 0 tasks)
