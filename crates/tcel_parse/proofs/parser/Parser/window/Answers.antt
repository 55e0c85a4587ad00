use Rattle.std.proofs.Common.{◌∙◌}
use Rattle.tcel_grammar.specs.Statements.{unsaid, window}
use Rattle.tcel_grammar.specs.Machine.{do_clauses, last_clause}
use Rattle.tcel_parse.specs.Reading.{left}
use Rattle.tcel_parse.proofs.Options.{no_start}
use Rattle.tcel_parse.proofs.Reaches.{at_exit, reach_same}
use Rattle.tcel_parse.proofs.parser.Parser.window.Goals as goal

pub returns-in_err-within-clause-run : goal.returns-in_err-within-clause-run
returns-in_err-within-clause-run c =
    λ k. at_exit c.from_residual.result _ c.from_residual.ensures.1 _ _ _ _ (reach_same c.args.self.now do_clauses last_clause k (no_start (left c.args.self.now) (cc))) (c.in_err-within.ensures.run k)

pub returns-clause-tree : goal.returns-clause-tree
returns-clause-tree c =
    window unsaid unsaid c.in_ok-within.ensures.tree

pub returns-clause-run : goal.returns-clause-run
returns-clause-run c =
    λ k. reach_same c.args.self.now do_clauses last_clause k (no_start (left c.args.self.now) (cc)) ∙ c.in_ok-within.ensures.run k
