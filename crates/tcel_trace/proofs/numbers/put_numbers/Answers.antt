use Rattle.std.proofs.Common.{append_assoc, rules}
use Rattle.tcel_trace.proofs.Pieces.{numbers_split}
use Rattle.tcel_trace.proofs.numbers.put_numbers.Goals as goal

pub returns-in-len1-up-clause-bytes : goal.returns-in-len1-up-clause-bytes
returns-in-len1-up-clause-bytes c =
    let numbers = c.args.numbers.now in
    rw (numbers_split numbers c.in-len1-up.len_at_least, c.put_more.ensures.bytes, c.put_signed.ensures.bytes) (search (rules, append_assoc))
