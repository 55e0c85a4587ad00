use Rattle.std.proofs.Common.{◌∷◌, take}
use Rattle.tcel_token.specs.declared.sign.Sign.{Sign}
use Rattle.tcel_tree.specs.Plain.{plain_block}
use Rattle.tcel_show.specs.Canonical.{block_tokens, sign}
use Rattle.tcel_show.specs.Puts.{Puts}
use Rattle.tcel_show.proofs.writer.Writer.+blocks.Given as goal

abbrev pub invariant-braced-loop-stmt : goal.invariant-braced-loop-stmt
invariant-braced-loop-stmt l = Puts l.fn.self l.self (sign Sign.LeftBrace ∷ block_tokens (plain_block (take l.stmt-index l.stmts)))
