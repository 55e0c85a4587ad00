-- The bodies of the forms of a checked set have code.
use Rattle.std.proofs.Common.{ℕ, ◌+◌, ◌<◌, ◌≤◌, ◌^◌, true, List, Option, None, Some, arith}
use Rattle.std.specs.Prelude.{IfSome}
use Rattle.std.specs.Int.{IsInRange}
use Rattle.tcel_core.specs.declared.var.Var.{Var}
use Rattle.tcel_core.specs.Cells.{all_words}
use Rattle.tcel_core.specs.Contents.{loops}
use Rattle.tcel_core.specs.Language.{Block, done, next, Stmt, item, choice, timed, Act, assign, assign_at, receive, send, for_loop, while_loop, copy, Task}
use Rattle.tcel_core.specs.Parts.{AreOwnParts, TaskParts}
use Rattle.tcel_core.specs.Sound.{IsSoundTask}
use Rattle.tcel_cost.specs.Forms.{Form, whole_form}
use Rattle.tcel_code.specs.Compilable.{ActIsWithin, IsWithin, StmtIsWithin}
use Rattle.tcel_code.specs.Spellable.{ActNumbersFit, NumbersFit, StmtNumbersFit}
use Rattle.tcel_gen.specs.Codable.{ActIsCodable, IsCodable, StmtIsCodable}
use Rattle.tcel_gen.proofs.ReadyForms.{IsReady, own_ready, whole_ready}

module _ (vars : List Var) (ins outs : ℕ) where
  mutual
    codable : (b : Block) → IsWithin b ins outs → NumbersFit b vars → IsCodable b
    codable done h g = tt
    codable (next t rest) h g = (stmt_codable t h.0 g.0, codable rest h.1 g.1)

    stmt_codable : (t : Stmt) → StmtIsWithin t ins outs → StmtNumbersFit t vars → StmtIsCodable t
    stmt_codable (item id act) h g = act_codable act h g
    stmt_codable (choice id test held other) h g = (h.0, codable held h.1 g.1, codable other h.2 g.2)
    stmt_codable (timed id window body) h g = (below window.after g.0, codable body h g.1)
      where
        below : (after : Option ℕ) → IfSome after (IsInRange 1 1000000000) → IfSome after (λ bound. bound < 2 ^ 32)
        below None k = tt
        below (Some bound) k = let most = k.1 in omega arith

    act_codable : (act : Act) → ActIsWithin act ins outs → ActNumbersFit act vars → ActIsCodable act
    act_codable (assign v e) h g = h
    act_codable (assign_at v i e) h g = h
    act_codable (receive v port) h g = tt
    act_codable (send e port) h g = h.0
    act_codable (for_loop v n body) h g = codable body h g.1
    act_codable (while_loop test n body) h g = (h.0, codable body h.1 g.2)
    act_codable (copy from to) h g = tt

-- what the generator asks of a form
pub record HasCode (form : Form) : Type 0 where
  pub few : all_words form.parts.vars + loops form.task.body ≤ 65536
  pub first : IsCodable form.parts.first
  pub rest : IsCodable form.parts.rest

has_code : (form : Form) → IsReady form → HasCode form
has_code form h = record {
  few = h.spellable.cells;
  first = codable form.parts.vars _ _ form.parts.first h.compilable.first_within h.spellable.first;
  rest = codable form.parts.vars _ _ form.parts.rest h.compilable.rest_within h.spellable.rest;
}

pub whole_has_code : (task : Task) → IsSoundTask task → HasCode (whole_form task)
whole_has_code task sound = has_code (whole_form task) (whole_ready task sound)

pub own_has_code : (task : Task) (parts : TaskParts) → IsSoundTask task → AreOwnParts task parts → HasCode (record { task = task; sliced = true; parts = parts })
own_has_code task parts sound own = has_code (record { task = task; sliced = true; parts = parts }) (own_ready task sound parts own)
