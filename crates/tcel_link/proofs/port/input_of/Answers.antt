use Rattle.std.proofs.Common.{sym, ap, ◌∙◌, arith}
use Rattle.std.specs.Prelude.{option_map}
use Rattle.tcel_core.specs.Language.{Task}
use Rattle.tcel_link.proofs.Ports.{no_such_task, port_small, port_there}
use Rattle.tcel_link.proofs.port.input_of.Goals as goal

pub returns-in_err-number : goal.returns-in_err-number
returns-in_err-number c = c.from_residual.ensures ∙ sym (no_such_task (λ (t : Task). t.inputs) c.args.tasks.now c.args.task.now c.args.input.now (sym c.task_of.ensures ∙ c.in_err-number.was))

pub returns-in_err-port : goal.returns-in_err-port
returns-in_err-port c =
    let place = port_there (λ (t : Task). t.inputs) c.args.tasks.now c.args.task.now c.args.input.now c.in_ok-number.number c.index-tasks-number.result c.as_slice.result.now (sym c.task_of.ensures ∙ c.in_ok-number.was) c.as_slice.ensures in
    c.from_residual-in_err-port.ensures ∙ sym (place ∙ ap (option_map (λ p. record { task = c.in_ok-number.number; port = p })) (sym c.name_at.ensures ∙ c.in_err-port.was))

pub overflow_cast-result-2 : goal.overflow_cast-result-2
overflow_cast-result-2 c =
    let small = port_small (λ (t : Task). t.inputs) c.args.tasks.now c.args.task.now c.args.input.now c.in_ok-number.number c.in_ok-port.port c.index-tasks-number.result c.as_slice.result.now c.requires (λ task few. few.inputs)
    (sym c.task_of.ensures ∙ c.in_ok-number.was) c.as_slice.ensures (sym c.name_at.ensures ∙ c.in_ok-port.was) in
    omega (arith, small)

pub returns : goal.returns
returns c =
    let place = port_there (λ (t : Task). t.inputs) c.args.tasks.now c.args.task.now c.args.input.now c.in_ok-number.number c.index-tasks-number.result c.as_slice.result.now (sym c.task_of.ensures ∙ c.in_ok-number.was) c.as_slice.ensures in
    sym (place ∙ ap (option_map (λ p. record { task = c.in_ok-number.number; port = p })) (sym c.name_at.ensures ∙ c.in_ok-port.was))
