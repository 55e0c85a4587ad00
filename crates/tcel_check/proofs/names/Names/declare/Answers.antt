use Rattle.std.proofs.Common.{sym, ◌∙◌}
use Rattle.tcel_check.specs.Known.{kind_in}
use Rattle.tcel_check.proofs.SameNames.{known_step}
use Rattle.tcel_check.proofs.names.Names.declare.Goals as goal

pub returns-in_ok-insert-in-None-clause-known : goal.returns-in_ok-insert-in-None-clause-known
returns-in_ok-insert-in-None-clause-known c = λ name.
    known_step (kind_in c.args.self.now) c.args.decl.now name _ (sym c.kind.ensures ∙ c.in-None.is) (c.in_ok-insert-in-None.ensures.updates.0 name)
