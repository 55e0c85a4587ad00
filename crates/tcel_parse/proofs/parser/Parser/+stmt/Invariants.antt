use Rattle.std.proofs.Common.{◌≡◌, ◌∷◌, false, ◌+◌, ◌*◌, length, List}
use Rattle.tcel_grammar.specs.Machine.{Symbol, more_stmts, one_block}
use Rattle.tcel_tree.specs.Plain.{plain_block}
use Rattle.tcel_parse.specs.Reading.{left, reach, GoesOn}
use Rattle.tcel_parse.proofs.Lists.{IsOpened}
use Rattle.tcel_parse.proofs.parser.Parser.+stmt.Given as goal

abbrev pub decreases-block : goal.decreases-block
decreases-block l = 2 * length l.self.now.rest.now

abbrev pub decreases-statement : goal.decreases-statement
decreases-statement l = 2 * length l.self.now.rest.now + 1

abbrev pub decreases-choice : goal.decreases-choice
decreases-choice l = 2 * length l.self.now.rest.now

abbrev pub decreases-branch : goal.decreases-branch
decreases-branch l = 2 * length l.self.now.rest.now

abbrev pub decreases-counted : goal.decreases-counted
decreases-counted l = 2 * length l.self.now.rest.now

abbrev pub decreases-repeated : goal.decreases-repeated
decreases-repeated l = 2 * length l.self.now.rest.now

abbrev pub decreases-timed : goal.decreases-timed
decreases-timed l = 2 * length l.self.now.rest.now

abbrev pub invariant-block-statements : goal.invariant-block-statements
invariant-block-statements l = record {
  tree : IsOpened (left l.fn.self) (plain_block l.list) (left l.self);
  run : (k : List Symbol) → reach (one_block ∷ k) l.fn.self ≡ reach (more_stmts false ∷ k) l.self;
  onward : GoesOn l.fn.self l.self;
}

abbrev pub decreases-block-statements : goal.decreases-block-statements
decreases-block-statements l = length l.self.rest.now
