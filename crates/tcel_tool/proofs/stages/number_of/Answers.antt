use Rattle.std.proofs.Common.{get_or, sym, arith}
use Rattle.tcel_script.proofs.Digits.{nineteen_fit, digit_most}
use Rattle.tcel_tool.proofs.Forms.{few_digits, is_digit_at}
use Rattle.tcel_tool.proofs.stages.number_of.Goals as goal

pub overflow_mul-number : goal.overflow_mul-number
overflow_mul-number c =
    let few = few_digits c.args.word.now c.requires in
    let fits = nineteen_fit c.loop-byte.number c.loop-byte.byte-index c.loop-byte.invariant.small (omega arith) in
    omega arith

pub overflow_add-number : goal.overflow_add-number
overflow_add-number c =
    let few = few_digits c.args.word.now c.requires in
    let fits = nineteen_fit c.loop-byte.number c.loop-byte.byte-index c.loop-byte.invariant.small (omega arith) in
    let digit = is_digit_at c.args.word.now c.loop-byte.byte-index c.requires (omega arith) in
    omega (arith, digit_most (get_or c.args.word.now c.loop-byte.byte-index 0) (sym digit))
