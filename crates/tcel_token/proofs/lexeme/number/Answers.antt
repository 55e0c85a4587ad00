use Rattle.std.proofs.Common.{rules}
use Rattle.tcel_token.proofs.Runs.{run_passes}
use Rattle.tcel_token.proofs.Firsts.{read_is_first}
use Rattle.tcel_token.proofs.lexeme.number.Goals as goal

pub value_of-requires : goal.value_of-requires
value_of-requires c = search (rules, run_passes)

pub returns-in-Some-clause-first : goal.returns-in-Some-clause-first
returns-in-Some-clause-first c =
    rw c.number_length-length.ensures (read_is_first c.args.bytes.now c.in-Some.value c.requires (rw (← c.number_length-length.ensures) c.in-Some.ensures))
