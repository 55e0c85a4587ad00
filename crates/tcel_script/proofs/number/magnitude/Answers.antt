use Rattle.std.proofs.Common.{get_or, arith}
use Rattle.tcel_script.proofs.Digits.{nineteen_fit, digit_most}
use Rattle.tcel_script.proofs.number.magnitude.Goals as goal

pub overflow_mul-n : goal.overflow_mul-n
overflow_mul-n c = let fits = nineteen_fit c.loop-byte.n c.loop-byte.byte-index c.loop-byte.invariant.small (omega arith) in omega arith

pub overflow_add-n : goal.overflow_add-n
overflow_add-n c = let fits = nineteen_fit c.loop-byte.n c.loop-byte.byte-index c.loop-byte.invariant.small (omega arith) in omega (arith, digit_most (get_or c.args.word.now c.loop-byte.byte-index 0) c.if-not-is_ascii_digit.ensures.value)
