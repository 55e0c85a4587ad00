use Rattle.std.proofs.Common.{rules, sym}
use Rattle.tcel_token.proofs.Firsts.{blank_is_first, comment_is_first}
use Rattle.tcel_token.proofs.lexeme.first_lexeme.Goals as goal

pub returns-then-is_blank-clause-first : goal.returns-then-is_blank-clause-first
returns-then-is_blank-clause-first c = blank_is_first c.args.bytes.now c.requires (sym c.if-is_blank.ensures)

pub returns-then-opens_comment-clause-first : goal.returns-then-opens_comment-clause-first
returns-then-opens_comment-clause-first c = search (rules, comment_is_first)
