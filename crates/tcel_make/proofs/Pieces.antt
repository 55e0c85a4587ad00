-- The texts of tasks and lines, put piece by piece.
use Rattle.std.proofs.Common.{◌≡◌, ℕ, List, ◌++◌, ap, ◌∙◌}
use Rattle.std.specs.Prelude.{codes}
use Rattle.std.specs.Fmt.{decimal}
use Rattle.std.specs.List.{flat_map, range_with_len, repeat}
use Rattle.std.proofs.lemmas.List.{append_assoc}
use Rattle.tcel_make.specs.Program.{deadline, period, priority, task_text, turns}
use Rattle.tcel_make.specs.Script.{line_text, value_text}

-- a piece and a number behind it
abbrev with_number : List ℕ → ℕ → List ℕ
with_number before number = before ++ decimal number

-- the longer pieces
abbrev declarations : List ℕ
declarations = codes " {\n  input s;\n  output o;\n  state int n;\n  local int x;\n  local int i;\n  every "

abbrev receipt : List ℕ
receipt = codes " {\n    receive x from s;\n    send x + "

abbrev loop_head : List ℕ
loop_head = codes " to o;\n    for i < "

abbrev loop_body : List ℕ
loop_body = codes " {\n      n := n + x;\n    }\n"

abbrev additions : List ℕ
additions = repeat 20 (codes "    n := n + x;\n")

abbrev closing : List ℕ
closing = codes "  }\n}\n"

-- what six pieces with numbers and three more leave
task_joined : (text a b c d e f g h i j k l m n o : List ℕ) →
    ((((((((text ++ (a ++ b)) ++ (c ++ d)) ++ (e ++ f)) ++ (g ++ h)) ++ (i ++ j)) ++ (k ++ l)) ++ m) ++ n) ++ o
    ≡ text ++ (a ++ (b ++ (c ++ (d ++ (e ++ (f ++ (g ++ (h ++ (i ++ (j ++ (k ++ (l ++ (m ++ (n ++ o))))))))))))))
task_joined text a b c d e f g h i j k l m n o = simp append_assoc

-- the pieces of a task, put one behind another
pub task_put : (seed j every loops : ℕ) (text named placed declared timed received looped filled added closed : List ℕ) →
    every ≡ period j →
    loops ≡ turns seed j →
    named ≡ text ++ with_number (codes "task t") j →
    placed ≡ named ++ with_number (codes " priority ") (priority j) →
    declared ≡ placed ++ with_number declarations every →
    timed ≡ declared ++ with_number (codes " finish within ") (deadline j) →
    received ≡ timed ++ with_number receipt j →
    looped ≡ received ++ with_number loop_head loops →
    filled ≡ looped ++ loop_body →
    added ≡ filled ++ additions →
    closed ≡ added ++ closing →
    closed ≡ text ++ task_text seed j
unfolding task_text
task_put seed j every loops text named placed declared timed received looped filled added closed is_every is_loops p1 p2 p3 p4 p5 p6 p7 p8 p9 =
    let e2 = p2 ∙ ap (λ t. t ++ with_number (codes " priority ") (priority j)) p1 in
    let e3 = p3 ∙ ap (λ n. placed ++ with_number declarations n) is_every ∙ ap (λ t. t ++ with_number declarations (period j)) e2 in
    let e5 = p5 ∙ ap (λ t. t ++ with_number receipt j) (p4 ∙ ap (λ t. t ++ with_number (codes " finish within ") (deadline j)) e3) in
    let e6 = p6 ∙ ap (λ n. received ++ with_number loop_head n) is_loops ∙ ap (λ t. t ++ with_number loop_head (turns seed j)) e5 in
    p9 ∙ ap (λ t. t ++ closing) (p8 ∙ ap (λ t. t ++ additions) (p7 ∙ ap (λ t. t ++ loop_body) e6))
    ∙ task_joined text (codes "task t") (decimal j) (codes " priority ") (decimal (priority j)) declarations (decimal (period j))
    (codes " finish within ") (decimal (deadline j)) receipt (decimal j) loop_head (decimal (turns seed j)) loop_body additions closing

line_joined : (text a b c d e : List ℕ) → (((text ++ (a ++ b)) ++ c) ++ d) ++ e ≡ text ++ (a ++ (b ++ (c ++ (d ++ e))))
line_joined text a b c d e = simp append_assoc

-- those of a line
pub line_put : (j : ℕ) (text named placed filled closed : List ℕ) →
    named ≡ text ++ with_number (codes "t") j →
    placed ≡ named ++ codes " s" →
    filled ≡ placed ++ flat_map (value_text j) (range_with_len 0 100) →
    closed ≡ filled ++ codes "\n" →
    closed ≡ text ++ line_text j
unfolding line_text
line_put j text named placed filled closed p1 p2 p3 p4 =
    let values = flat_map (value_text j) (range_with_len 0 100) in
    p4 ∙ ap (λ t. t ++ codes "\n") (p3 ∙ ap (λ t. t ++ values) (p2 ∙ ap (λ t. t ++ codes " s") p1))
    ∙ line_joined text (codes "t") (decimal j) (codes " s") values (codes "\n")
