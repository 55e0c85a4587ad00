use Rattle.std.proofs.Common.{refl, ◌∙◌, arith}
use Rattle.tcel_grammar.specs.Programs.{no_decl}
use Rattle.tcel_parse.proofs.Lists.{decls_push}
use Rattle.tcel_parse.proofs.Reaches.{at_exit, memory_exit}
use Rattle.tcel_parse.proofs.parser.Parser.decls.Goals as goal

pub decls-init : goal.decls-init
decls-init c =
    record { tree = rw c.new-list.ensures no_decl; run = λ k. refl; onward = omega arith }

pub returns-in_err-decl-clause-run : goal.returns-in_err-decl-clause-run
returns-in_err-decl-clause-run c =
    λ k. at_exit c.from_residual.result _ c.from_residual.ensures.1 _ _ _ _ (c.decls.invariant.run k) (c.in_err-decl.ensures.run k)

pub returns-in_err-push-clause-run : goal.returns-in_err-push-clause-run
returns-in_err-push-clause-run c =
    λ k. memory_exit c.from_residual-in_err-push.result _ c.from_residual-in_err-push.ensures.1 refl _ _ _

pub decls-preserved : goal.decls-preserved
decls-preserved c =
    record { tree = rw c.in_ok-push.ensures.ok (decls_push _ _ c.decls.invariant.tree c.in_ok-decl.ensures.tree); run = λ k. c.decls.invariant.run k ∙ c.in_ok-decl.ensures.run k; onward = omega (arith, c.decls.invariant.onward, c.in_ok-decl.ensures.onward) }
