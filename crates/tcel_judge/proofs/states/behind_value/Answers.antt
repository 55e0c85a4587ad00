use Rattle.std.proofs.Common.{◌≡◌, ℕ, ◌+◌, ◌-◌, ◌++◌, map, take, drop, sym, ap, ◌∙◌, arith}
use Rattle.std.specs.Prelude.{codes}
use Rattle.std.specs.Fmt.{signed_decimal}
use Rattle.std.specs.List.{join_with_byte}
use Rattle.std.specs.Option.{option_copied}
use Rattle.tcel_judge.proofs.Fronts.{goes, stops}
use Rattle.tcel_trace.specs.Reading.{behind}
use Rattle.tcel_judge.proofs.states.behind_value.Goals as goal

pub returns-in_err-end-in-Array : goal.returns-in_err-end-in-Array
returns-in_err-end-in-Array c =
    let place = c.args.place in
    let count = c.in-Array.count in
    let few : place + count - place ≡ count = omega arith in
    let numbers = λ (n : ℕ). join_with_byte 44 (map signed_decimal (take n (drop place c.args.cells.now))) in
    let lost = ap (λ n. behind (numbers n) c.in_ok-numbers-in-Array.numbers.now) (sym few) ∙ sym c.in_err-end-in-Array.ensures in
    rw c.in-Array.is
    (ap option_copied c.from_residual-in_err-end-in-Array.ensures
    ∙ sym (goes (codes "[") (numbers count ++ codes "]") c.args.text.now c.in_ok-numbers-in-Array.numbers.now (sym c.in_ok-numbers-in-Array.ensures)
    ∙ stops (numbers count) (codes "]") c.in_ok-numbers-in-Array.numbers.now lost))

pub returns-in_ok-end-in-Array : goal.returns-in_ok-end-in-Array
returns-in_ok-end-in-Array c =
    let place = c.args.place in
    let count = c.in-Array.count in
    let few : place + count - place ≡ count = omega arith in
    let numbers = λ (n : ℕ). join_with_byte 44 (map signed_decimal (take n (drop place c.args.cells.now))) in
    let there = ap (λ n. behind (numbers n) c.in_ok-numbers-in-Array.numbers.now) (sym few) ∙ sym c.in_ok-end-in-Array.ensures in
    rw c.in-Array.is
    (c.behind-in-Array-2.ensures
    ∙ sym (goes (codes "[") (numbers count ++ codes "]") c.args.text.now c.in_ok-numbers-in-Array.numbers.now (sym c.in_ok-numbers-in-Array.ensures)
    ∙ goes (numbers count) (codes "]") c.in_ok-numbers-in-Array.numbers.now c.in_ok-end-in-Array.end.now there))
