-- No text is longer than 65,536 bytes.
use Rattle.std.proofs.Common.{◌≡◌, ℕ, ◌+◌, ◌*◌, ◌%◌, ◌^◌, ◌<◌, ◌≤◌, List, [], ◌∷◌, length, ap, ◌∙◌, arith}
use Rattle.std.specs.Prelude.{codes}
use Rattle.std.specs.Fmt.{decimal}
use Rattle.std.specs.List.{concat, flat_map, range_with_len, sum_by}
use Rattle.std.proofs.Math.Pow.{pow_mono}
use Rattle.std.proofs.lemmas.Fmt.{length-decimal-le}
use Rattle.std.proofs.lemmas.List.{length-append}
use Rattle.std.proofs.lemmas.List.Concat.{concat_is, length-flat_map}
use Rattle.std.proofs.lemmas.Nat.{mul-le}
use Rattle.tcel_make.specs.Program.{deadline, period, priority, program_text, task_pieces, task_text, turns}
use Rattle.tcel_make.specs.Script.{line_text, script_text, value_text}
use Rattle.tcel_make.proofs.Ranges.{flat_short}

-- all bytes of the pieces
length_concat : (pieces : List (List ℕ)) → length (concat pieces) ≡ sum_by length pieces
length_concat pieces = ap length (concat_is pieces) ∙ length-flat_map (λ piece. piece) pieces

period_small : (j : ℕ) → period j ≤ 16000
period_small j =
    let most : 2 ^ (j % 3) ≤ 2 ^ 2 = pow_mono {i = j % 3} {j = 2} (omega arith) in
    omega arith

task_short : (seed j : ℕ) → j < 16 → length (task_text seed j) ≤ 4096
unfolding task_text
task_short seed j less =
    let number : length (decimal j) ≤ 2 = length-decimal-le 2 j (omega arith) (omega arith) (omega arith) in
    let priorities : length (decimal (priority j)) ≤ 3 = length-decimal-le 3 (priority j) (omega arith) (omega arith) (omega arith) in
    let small = period_small j in
    let periods : length (decimal (period j)) ≤ 5 = length-decimal-le 5 (period j) (omega arith) (omega arith) (omega arith) in
    let deadlines : length (decimal (deadline j)) ≤ 4 = length-decimal-le 4 (deadline j) (omega arith) (omega arith) (omega arith) in
    let loops : length (decimal (turns seed j)) ≤ 1 = length-decimal-le 1 (turns seed j) (omega arith) (omega arith) (omega arith) in
    omega (arith, length_concat (task_pieces seed j))

pub program_short : (seed tasks : ℕ) → tasks ≤ 16 → length (program_text seed tasks) ≤ 65536
program_short seed tasks most =
    let all = flat_short (task_text seed) 4096 0 tasks (λ j less. task_short seed j (omega arith)) in
    omega arith

value_short : (j m : ℕ) → j < 16 → m < 100 → length (value_text j m) ≤ 5
value_short j m less short =
    let product : (j + 1) * (m + 1) ≤ 16 * 100 = mul-le (j + 1) (m + 1) 16 100 (omega arith) (omega arith) in
    let number : length (decimal ((j + 1) * (m + 1))) ≤ 4 = length-decimal-le 4 ((j + 1) * (m + 1)) (omega arith) (omega arith) (omega arith) in
    omega (arith, length-append (codes " ") (decimal ((j + 1) * (m + 1))))

line_short : (j : ℕ) → j < 16 → length (line_text j) ≤ 4096
unfolding line_text
line_short j less =
    let number : length (decimal j) ≤ 2 = length-decimal-le 2 j (omega arith) (omega arith) (omega arith) in
    let values = flat_short (value_text j) 5 0 100 (λ m short. value_short j m less (omega arith)) in
    omega (arith, length_concat (codes "t" ∷ decimal j ∷ codes " s" ∷ flat_map (value_text j) (range_with_len 0 100) ∷ codes "\n" ∷ []))

pub script_short : (tasks : ℕ) → tasks ≤ 16 → length (script_text tasks) ≤ 65536
script_short tasks most =
    let all = flat_short line_text 4096 0 tasks (λ j less. line_short j (omega arith)) in
    omega arith
