-- The program that `make` writes.
use Rattle.std.specs.Prelude.{ℕ, ◌+◌, ◌-◌, ◌*◌, ◌%◌, ◌^◌, List, [], ◌∷◌, codes}
use Rattle.std.specs.Fmt.{decimal}
use Rattle.std.specs.List.{concat, flat_map, range_with_len, repeat}

-- the priority of task j
abbrev pub priority : ℕ → ℕ
priority j = 100 - j

-- its period, in ticks
abbrev pub period : ℕ → ℕ
period j = 4000 * 2 ^ (j % 3)

-- its deadline, in ticks
abbrev pub deadline : ℕ → ℕ
deadline j = 140 * j + 100

-- the turns of its loop
abbrev pub turns : ℕ → ℕ → ℕ
turns seed j = 1 + (seed % 1000 + 3 * j) % 7

-- its pieces, in order
abbrev pub task_pieces : ℕ → ℕ → List (List ℕ)
task_pieces seed j =
    codes "task t" ∷ decimal j ∷ codes " priority " ∷ decimal (priority j) ∷ codes " {\n"
    ∷ codes "  input s;\n"
    ∷ codes "  output o;\n"
    ∷ codes "  state int n;\n"
    ∷ codes "  local int x;\n"
    ∷ codes "  local int i;\n"
    ∷ codes "  every " ∷ decimal (period j) ∷ codes " finish within " ∷ decimal (deadline j) ∷ codes " {\n"
    ∷ codes "    receive x from s;\n"
    ∷ codes "    send x + " ∷ decimal j ∷ codes " to o;\n"
    ∷ codes "    for i < " ∷ decimal (turns seed j) ∷ codes " {\n"
    ∷ codes "      n := n + x;\n"
    ∷ codes "    }\n"
    ∷ repeat 20 (codes "    n := n + x;\n")
    ∷ codes "  }\n"
    ∷ codes "}\n"
    ∷ []

-- its text
unfoldable pub task_text : ℕ → ℕ → List ℕ
task_text seed j = concat (task_pieces seed j)

-- the tasks from 0 on, so many
abbrev pub program_text : ℕ → ℕ → List ℕ
program_text seed tasks = flat_map (task_text seed) (range_with_len 0 tasks)
