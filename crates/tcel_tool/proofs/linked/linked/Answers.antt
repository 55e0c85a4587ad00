use Rattle.std.proofs.Common.{[], inl, inr, refl}
use Rattle.std.specs.Prelude.{map, string_bytes}
use Rattle.tcel_tool.specs.Answer.{begun}
use Rattle.tcel_tool.specs.Chosen.{plain_choice}
use Rattle.tcel_tool.specs.LinkedCommand.{read_stages}
use Rattle.tcel_tool.specs.Lines.{lines}
use Rattle.tcel_tool.specs.declared.command.Command.TheVariants.{Linked}
use Rattle.tcel_tool.specs.declared.status.Status.TheVariants as statuses
use Rattle.tcel_tool.proofs.Exits.{at_end_of, at_write_fault, cut_off, ended_of, stops, taken}
use Rattle.tcel_tool.proofs.LinkedStages.{lines_are, script_fits}
use Rattle.tcel_tool.proofs.Stretches.{goes_behind, goes_stopped, stopped_at}
use Rattle.tcel_tool.proofs.linked.linked.Goals as goal

pub started-requires-clause-best : goal.started-requires-clause-best
started-requires-clause-best g c = c.in_ok-given.ensures.passed.3.for.best

pub started-requires-clause-links : goal.started-requires-clause-links
started-requires-clause-links g c = c.in_ok-given.ensures.passed.3.are

pub started-requires-clause-streams : goal.started-requires-clause-streams
started-requires-clause-streams g c =
    let passed = c.in_ok-given.ensures.passed in
    script_fits (plain_choice c.in_ok-given.given.chosen).set (passed.0.read 4) c.in_ok-given.given.script passed.3.streams_in

pub returns-in_err-given-clause-goes : goal.returns-in_err-given-clause-goes
returns-in_err-given-clause-goes g c =
    let exit = c.from_residual-in_err-given in
    let out = g.K.Sink.seen c.args.out.now in
    let words = map string_bytes c.args.words.now in
    let shelf = g.H.Shelf.seen c.args.shelf.now in
    let end = ended_of c.read_all.new.task (g.H.Shelf.seen c.read_all.new.shelf) out out exit.result in
    inr (
      c.in_ok-ticks.ensures.few,
      goes_stopped Linked end read_stages [] (begun words) shelf
          (stopped_at read_stages (begun words) shelf end.shelf end.task exit.result c.in_err-given.field-0.0 exit.ensures.1 c.in_err-given.ensures.stopped) refl,
    )

pub returns-in_err-machine-clause-goes : goal.returns-in_err-machine-clause-goes
returns-in_err-machine-clause-goes g c =
    let exit = c.from_residual-in_err-machine in
    let out = g.K.Sink.seen c.args.out.now in
    let shelf = g.H.Shelf.seen c.read_all.new.shelf in
    let end = ended_of c.read_all.new.task shelf out out exit.result in
    let passed = c.in_ok-given.ensures.passed in
    inr (
      c.in_ok-ticks.ensures.few,
      goes_behind Linked end read_stages [] (begun (map string_bytes c.args.words.now)) passed.0 (g.H.Shelf.seen c.args.shelf.now) shelf passed.2
          (inl (stops exit.result statuses.NoMemory exit.ensures.1 refl)),
    )

pub returns-in_err-buffer-clause-goes : goal.returns-in_err-buffer-clause-goes
returns-in_err-buffer-clause-goes g c =
    let exit = c.from_residual-in_err-buffer in
    let out = g.K.Sink.seen c.args.out.now in
    let shelf = g.H.Shelf.seen c.read_all.new.shelf in
    let end = ended_of c.read_all.new.task shelf out out exit.result in
    let passed = c.in_ok-given.ensures.passed in
    inr (
      c.in_ok-ticks.ensures.few,
      goes_behind Linked end read_stages [] (begun (map string_bytes c.args.words.now)) passed.0 (g.H.Shelf.seen c.args.shelf.now) shelf passed.2
          (inl (stops exit.result statuses.NoMemory exit.ensures.1 refl)),
    )

pub returns-in_err-put_lines-clause-goes : goal.returns-in_err-put_lines-clause-goes
returns-in_err-put_lines-clause-goes g c =
    let exit = c.from_residual-in_err-put_lines in
    let words = map string_bytes c.args.words.now in
    let shelf = g.H.Shelf.seen c.read_all.new.shelf in
    let end = ended_of c.read_all.new.task shelf (g.K.Sink.seen c.args.out.now) (g.K.Sink.seen c.put_lines.new.out) exit.result in
    let given = c.in_ok-given.given in
    let passed = c.in_ok-given.ensures.passed in
    let machine = c.in_ok-machine.machine in
    let ticks = c.in_ok-ticks.ticks in
    let text = lines_are passed.0 words (plain_choice given.chosen) given.links given.script machine ticks passed.1 passed.3 c.in_ok-machine.ensures c.in_ok-ticks.ensures.value in
    inr (
      c.in_ok-ticks.ensures.few,
      goes_behind Linked end read_stages [] (begun words) passed.0 (g.H.Shelf.seen c.args.shelf.now) shelf passed.2
          (inr (cut_off (lines machine ticks) exit.result text exit.ensures.1 c.in_err-put_lines.ensures.cut_off)),
    )

pub returns-clause-goes : goal.returns-clause-goes
returns-clause-goes g c =
    let words = map string_bytes c.args.words.now in
    let shelf = g.H.Shelf.seen c.read_all.new.shelf in
    let end = at_end_of c.read_all.new.task shelf (g.K.Sink.seen c.args.out.now) (g.K.Sink.seen c.put_lines.new.out) statuses.Ok in
    let given = c.in_ok-given.given in
    let passed = c.in_ok-given.ensures.passed in
    let machine = c.in_ok-machine.machine in
    let ticks = c.in_ok-ticks.ticks in
    let text = lines_are passed.0 words (plain_choice given.chosen) given.links given.script machine ticks passed.1 passed.3 c.in_ok-machine.ensures c.in_ok-ticks.ensures.value in
    inr (
      c.in_ok-ticks.ensures.few,
      goes_behind Linked end read_stages [] (begun words) passed.0 (g.H.Shelf.seen c.args.shelf.now) shelf passed.2
          (inr (taken (lines machine ticks) text c.in_ok-put_lines.ensures.taken)),
    )

pub returns-in_err-put_lines-clause-untouched : goal.returns-in_err-put_lines-clause-untouched
returns-in_err-put_lines-clause-untouched g c = inl (at_write_fault c.from_residual-in_err-put_lines.result c.from_residual-in_err-put_lines.ensures.1)
