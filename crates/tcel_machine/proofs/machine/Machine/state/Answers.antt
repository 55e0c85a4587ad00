use Rattle.std.proofs.Common.{◌<◌, length, sym, ◌∙◌, ap, subst, arith}
use Rattle.tcel_machine.specs.Run.{Run, state_at}
use Rattle.tcel_machine.proofs.Running.{shown_at, fits_at}
use Rattle.tcel_machine.proofs.machine.Machine.state.Goals as goal

pub state-requires : goal.state-requires
state-requires c =
    let m = c.self.inside in
    let among = subst (λ (run : Run). c.args.task < length run.image.tasks) (sym c.self.view_is) c.requires in
    let running = c.self.invariant.running in
    fits_at m.ready.tasks m.tasks.items m.ticks c.args.task c.index.result.now running (omega (arith, among, running.count)) c.index.ensures

pub returns : goal.returns
returns c =
    let m = c.self.inside in
    let among = subst (λ (run : Run). c.args.task < length run.image.tasks) (sym c.self.view_is) c.requires in
    let running = c.self.invariant.running in
    c.state.ensures
    ∙ shown_at m.ready.tasks m.tasks.items m.ticks c.args.task c.index.result.now running (omega (arith, among, running.count)) c.index.ensures
    ∙ ap (λ (run : Run). state_at run c.args.task) c.self.view_is
