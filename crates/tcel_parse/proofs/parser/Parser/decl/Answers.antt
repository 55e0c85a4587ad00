use Rattle.tcel_grammar.specs.Machine.{more_decls}
use Rattle.tcel_parse.specs.Reading.{left}
use Rattle.tcel_parse.proofs.Heads.{stop_here}
use Rattle.tcel_parse.proofs.Options.{no_decl_here}
use Rattle.tcel_parse.proofs.parser.Parser.decl.Goals as goal

pub returns-else-sees_word-4-clause-run : goal.returns-else-sees_word-4-clause-run
returns-else-sees_word-4-clause-run c =
    λ k. stop_here c.args.self.now more_decls k (no_decl_here (left c.args.self.now) c.requires (cc) (cc) (cc) (cc))
