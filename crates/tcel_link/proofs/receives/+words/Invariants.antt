use Rattle.std.proofs.Common.{◌≡◌, ◌++◌, pos, replicate, map, drop}
use Rattle.tcel_core.specs.Plain.{block_of, plain_body, plain_stmt}
use Rattle.tcel_link.specs.Receives.{receives}
use Rattle.tcel_link.proofs.receives.+words.Given as goal

abbrev pub invariant-push_words-loop-stmt : goal.invariant-push_words-loop-stmt
invariant-push_words-loop-stmt l =
    l.words.items ++ replicate (receives (block_of (map plain_stmt (drop l.stmt-index l.body.list))) l.input) (pos 0) ≡ l.fn.words.items ++ replicate (receives (plain_body l.body) l.input) (pos 0)
