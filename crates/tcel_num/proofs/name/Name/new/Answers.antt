use Rattle.std.proofs.Common.{arith, sym}
use Rattle.tcel_num.specs.Name.{IsName}
use Rattle.tcel_num.proofs.Padding.{kept}
use Rattle.tcel_num.proofs.name.Name.new.Goals as goal

pub invariant_of-result : goal.invariant_of-result
invariant_of-result c =
    let name : IsName c.args.bytes.now = record { word = sym c.if-not-is_word.ensures; short = omega arith; free = sym c.if-is_reserved.ensures } in
    rw c.copy_from_slice.ensures.after (kept c.args.bytes.now name)
