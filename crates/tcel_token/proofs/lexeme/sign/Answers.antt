use Rattle.std.proofs.Common.{rules}
use Rattle.tcel_token.proofs.Firsts.{sign_is_first}
use Rattle.tcel_token.proofs.lexeme.sign.Goals as goal

pub returns-in-Some-clause-first : goal.returns-in-Some-clause-first
returns-in-Some-clause-first c = search (rules, sign_is_first)
