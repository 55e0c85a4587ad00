use Rattle.std.proofs.Common.{[], slice_index_or, ap, sym, ◌∙◌}
use Rattle.tcel_image.specs.Machine.{Outcome}
use Rattle.tcel_machine.specs.Task.{running_of}
use Rattle.tcel_machine.proofs.Cycles.{line_at, can, runs_on, ends_now, spends}
use Rattle.tcel_machine.proofs.cycle.cycle.Goals as goal

pub execute-requires-clause-can : goal.execute-requires-clause-can
execute-requires-clause-can c =
    let image_task = c.args.image_task.now in
    let is = line_at image_task c.as_slice-code.result.now c.as_slice-code.ensures c.args.task.now.place c.requires.running.shape.place in
    can image_task c.requires.range c.requires.valid c.args.now c.requires.now c.args.task.now c.requires.running _ is

pub returns-then-is_last_cycle-clause-running : goal.returns-then-is_last_cycle-clause-running
returns-then-is_last_cycle-clause-running c =
    let image_task = c.args.image_task.now in
    let is = line_at image_task c.as_slice-code.result.now c.as_slice-code.ensures c.args.task.now.place c.requires.running.shape.place in
    runs_on image_task c.requires.range c.requires.valid c.args.now c.requires.now c.args.task.now c.requires.running _ is
    (slice_index_or c.args.script.now c.args.number []) c.execute.new.task c.requires.release c.execute.ensures.task

pub returns-then-is_last_cycle-clause-task : goal.returns-then-is_last_cycle-clause-task
returns-then-is_last_cycle-clause-task c =
    let image_task = c.args.image_task.now in
    let is = line_at image_task c.as_slice-code.result.now c.as_slice-code.ensures c.args.task.now.place c.requires.running.shape.place in
    let whole = ends_now c.args.costs.now image_task (slice_index_or c.args.script.now c.args.number []) c.args.now c.args.task.now.words (running_of c.args.task.now) _ is
    c.requires.running.words (sym c.is_last_cycle.ensures ∙ c.if-is_last_cycle.true) in
    c.execute.ensures.task.task ∙ sym (ap (λ (o : Outcome). o.task) whole)

pub returns-then-is_last_cycle-clause-shown : goal.returns-then-is_last_cycle-clause-shown
returns-then-is_last_cycle-clause-shown c =
    let image_task = c.args.image_task.now in
    let is = line_at image_task c.as_slice-code.result.now c.as_slice-code.ensures c.args.task.now.place c.requires.running.shape.place in
    let whole = ends_now c.args.costs.now image_task (slice_index_or c.args.script.now c.args.number []) c.args.now c.args.task.now.words (running_of c.args.task.now) _ is
    c.requires.running.words (sym c.is_last_cycle.ensures ∙ c.if-is_last_cycle.true) in
    c.execute.ensures.shown ∙ sym (ap (λ (o : Outcome). o.shown) whole)

pub returns-else-is_last_cycle-clause-task : goal.returns-else-is_last_cycle-clause-task
returns-else-is_last_cycle-clause-task c =
    let image_task = c.args.image_task.now in
    let is = line_at image_task c.as_slice-code.result.now c.as_slice-code.ensures c.args.task.now.place c.requires.running.shape.place in
    let whole = spends c.args.costs.now image_task (slice_index_or c.args.script.now c.args.number []) c.args.now c.args.task.now.words (running_of c.args.task.now) _ is
    (sym c.is_last_cycle.ensures ∙ c.if-is_last_cycle.false) in
    sym (ap (λ (o : Outcome). o.task) whole)

pub returns-else-is_last_cycle-clause-shown : goal.returns-else-is_last_cycle-clause-shown
returns-else-is_last_cycle-clause-shown c =
    let image_task = c.args.image_task.now in
    let is = line_at image_task c.as_slice-code.result.now c.as_slice-code.ensures c.args.task.now.place c.requires.running.shape.place in
    let whole = spends c.args.costs.now image_task (slice_index_or c.args.script.now c.args.number []) c.args.now c.args.task.now.words (running_of c.args.task.now) _ is
    (sym c.is_last_cycle.ensures ∙ c.if-is_last_cycle.false) in
    sym (ap (λ (o : Outcome). o.shown) whole)
