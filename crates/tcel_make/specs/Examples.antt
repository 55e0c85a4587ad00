-- A worked program and a worked script.
use Rattle.std.specs.Prelude.{ℕ, List, [], ◌∷◌, ◌++◌, codes}
use Rattle.std.specs.List.{flat_map}

-- the text of lines
abbrev pub text_of : List (List ℕ) → List ℕ
text_of lines = flat_map (λ line. line ++ codes "\n") lines

-- the first task of the program of seed 1 with two tasks
abbrev pub first_task : List (List ℕ)
first_task =
    codes "task t0 priority 100 {"
    ∷ codes "  input s;"
    ∷ codes "  output o;"
    ∷ codes "  state int n;"
    ∷ codes "  local int x;"
    ∷ codes "  local int i;"
    ∷ codes "  every 4000 finish within 100 {"
    ∷ codes "    receive x from s;"
    ∷ codes "    send x + 0 to o;"
    ∷ codes "    for i < 2 {"
    ∷ codes "      n := n + x;"
    ∷ codes "    }"
    ∷ codes "    n := n + x;"
    ∷ codes "    n := n + x;"
    ∷ codes "    n := n + x;"
    ∷ codes "    n := n + x;"
    ∷ codes "    n := n + x;"
    ∷ codes "    n := n + x;"
    ∷ codes "    n := n + x;"
    ∷ codes "    n := n + x;"
    ∷ codes "    n := n + x;"
    ∷ codes "    n := n + x;"
    ∷ codes "    n := n + x;"
    ∷ codes "    n := n + x;"
    ∷ codes "    n := n + x;"
    ∷ codes "    n := n + x;"
    ∷ codes "    n := n + x;"
    ∷ codes "    n := n + x;"
    ∷ codes "    n := n + x;"
    ∷ codes "    n := n + x;"
    ∷ codes "    n := n + x;"
    ∷ codes "    n := n + x;"
    ∷ codes "  }"
    ∷ codes "}"
    ∷ []

-- the second one
abbrev pub second_task : List (List ℕ)
second_task =
    codes "task t1 priority 99 {"
    ∷ codes "  input s;"
    ∷ codes "  output o;"
    ∷ codes "  state int n;"
    ∷ codes "  local int x;"
    ∷ codes "  local int i;"
    ∷ codes "  every 8000 finish within 240 {"
    ∷ codes "    receive x from s;"
    ∷ codes "    send x + 1 to o;"
    ∷ codes "    for i < 5 {"
    ∷ codes "      n := n + x;"
    ∷ codes "    }"
    ∷ codes "    n := n + x;"
    ∷ codes "    n := n + x;"
    ∷ codes "    n := n + x;"
    ∷ codes "    n := n + x;"
    ∷ codes "    n := n + x;"
    ∷ codes "    n := n + x;"
    ∷ codes "    n := n + x;"
    ∷ codes "    n := n + x;"
    ∷ codes "    n := n + x;"
    ∷ codes "    n := n + x;"
    ∷ codes "    n := n + x;"
    ∷ codes "    n := n + x;"
    ∷ codes "    n := n + x;"
    ∷ codes "    n := n + x;"
    ∷ codes "    n := n + x;"
    ∷ codes "    n := n + x;"
    ∷ codes "    n := n + x;"
    ∷ codes "    n := n + x;"
    ∷ codes "    n := n + x;"
    ∷ codes "    n := n + x;"
    ∷ codes "  }"
    ∷ codes "}"
    ∷ []

-- the first line of a script, with its line feed
abbrev pub first_line : List ℕ
first_line =
    (codes "t0 s 1 2 3 4 5 6 7 8 9 10 11 12 13 14 15 16 17 18 19 20"
    ++ (codes " 21 22 23 24 25 26 27 28 29 30 31 32 33 34 35 36 37 38 39 40"
    ++ (codes " 41 42 43 44 45 46 47 48 49 50 51 52 53 54 55 56 57 58 59 60"
    ++ (codes " 61 62 63 64 65 66 67 68 69 70 71 72 73 74 75 76 77 78 79 80"
    ++ codes " 81 82 83 84 85 86 87 88 89 90 91 92 93 94 95 96 97 98 99 100\n"))))

-- the second line
abbrev pub second_line : List ℕ
second_line =
    (codes "t1 s 2 4 6 8 10 12 14 16 18 20 22 24 26 28 30 32 34 36 38 40"
    ++ (codes " 42 44 46 48 50 52 54 56 58 60 62 64 66 68 70 72 74 76 78 80"
    ++ (codes " 82 84 86 88 90 92 94 96 98 100 102 104 106 108 110 112 114 116 118 120"
    ++ (codes " 122 124 126 128 130 132 134 136 138 140 142 144 146 148 150 152 154 156 158 160"
    ++ codes " 162 164 166 168 170 172 174 176 178 180 182 184 186 188 190 192 194 196 198 200\n"))))
