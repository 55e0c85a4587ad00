-- Runs one after another.
use Rattle.std.proofs.Common.{◌≡◌, List, refl, sym, ap, ◌∙◌, append_assoc}
use Rattle.tcel_core.specs.declared.var.Var.{Var}
use Rattle.tcel_core.specs.Language.{Block, done, next, joined}
use Rattle.tcel_core.specs.Meaning.{exec, exec_stmt}
use Rattle.tcel_core.specs.Outcome.{Memory, Occurrence, Outcome, after, then_run}

-- events before a run that comes before another
pub then_run-after : (events : List Occurrence) (r : Outcome) (more : Memory → Outcome) → then_run (after events r) more ≡ after events (then_run r more)
then_run-after events r more =
    ap (λ (all : List Occurrence). record { memory = (more r.memory).memory; events = all })
    (append_assoc events r.events (more r.memory).events)

pub then_run-assoc : (r : Outcome) (f g : Memory → Outcome) → then_run (then_run r f) g ≡ then_run r (λ m. then_run (f m) g)
then_run-assoc r f g = then_run-after r.events (f r.memory) g

-- statements that follow others start from what those leave
pub exec-joined : (a b : Block) (vars : List Var) (m : Memory) → exec (joined a b) vars m ≡ then_run (exec a vars m) (exec b vars)
exec-joined done b vars m = refl
exec-joined (next s rest) b vars m =
    let first = exec_stmt s vars m in
    ap (λ (r : Outcome). after first.events r) (exec-joined rest b vars first.memory) ∙ sym (then_run-assoc first (exec rest vars) (exec b vars))
