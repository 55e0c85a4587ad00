use Rattle.std.proofs.Common.{◌≡◌, ◌∷◌, length, List}
use Rattle.tcel_grammar.specs.Programs.{IsDecls}
use Rattle.tcel_grammar.specs.Machine.{Symbol, more_decls}
use Rattle.tcel_parse.specs.Reading.{left, reach, GoesNotBack}
use Rattle.tcel_parse.proofs.parser.Parser.decls.Given as goal

abbrev pub invariant-decls : goal.invariant-decls
invariant-decls l = record {
  tree : IsDecls (left l.fn.self) l.list (left l.self);
  run : (k : List Symbol) → reach (more_decls ∷ k) l.fn.self ≡ reach (more_decls ∷ k) l.self;
  onward : GoesNotBack l.fn.self l.self;
}

abbrev pub decreases-decls : goal.decreases-decls
decreases-decls l = length l.self.rest.now
