use Rattle.std.proofs.Common.{[], inl, inr, refl}
use Rattle.std.specs.Prelude.{map, string_bytes}
use Rattle.tcel_tool.specs.Answer.{begun}
use Rattle.tcel_tool.specs.Chosen.{plain_choice}
use Rattle.tcel_tool.specs.SetChoice.{choice_stages}
use Rattle.tcel_tool.specs.declared.command.Command.TheVariants.{Timeline}
use Rattle.tcel_tool.specs.declared.status.Status.TheVariants as statuses
use Rattle.tcel_tool.proofs.Exits.{at_end_of, at_write_fault, cut_off, ended_of, stops, taken}
use Rattle.tcel_tool.proofs.Stretches.{goes_behind, goes_stopped, stopped_at}
use Rattle.tcel_tool.proofs.Timelines.{are_text, sound_plans}
use Rattle.tcel_tool.proofs.timeline.timeline.Goals as goal

pub put_spans-requires-clause-sound : goal.put_spans-requires-clause-sound
put_spans-requires-clause-sound g c =
    let passed = c.in_ok-chosen.ensures.passed in
    sound_plans (passed.0.read 1) (passed.0.read 2) (plain_choice c.in_ok-chosen.chosen) c.as_slice-plans.result.now passed.3 c.as_slice-plans.ensures

pub returns-in_err-chosen-clause-goes : goal.returns-in_err-chosen-clause-goes
returns-in_err-chosen-clause-goes g c =
    let exit = c.from_residual-in_err-chosen in
    let out = g.K.Sink.seen c.args.out.now in
    let words = map string_bytes c.args.words.now in
    let shelf = g.H.Shelf.seen c.args.shelf.now in
    let end = ended_of c.choose_for.new.task (g.H.Shelf.seen c.choose_for.new.shelf) out out exit.result in
    inr (
      c.in_ok-ticks.ensures.few,
      goes_stopped Timeline end choice_stages [] (begun words) shelf
          (stopped_at choice_stages (begun words) shelf end.shelf end.task exit.result c.in_err-chosen.field-0.0 exit.ensures.1
          c.in_err-chosen.ensures.stopped) refl,
    )

pub returns-in_err-line-clause-goes : goal.returns-in_err-line-clause-goes
returns-in_err-line-clause-goes g c =
    let exit = c.from_residual-in_err-line in
    let out = g.K.Sink.seen c.args.out.now in
    let shelf = g.H.Shelf.seen c.choose_for.new.shelf in
    let end = ended_of c.choose_for.new.task shelf out out exit.result in
    let passed = c.in_ok-chosen.ensures.passed in
    inr (
      c.in_ok-ticks.ensures.few,
      goes_behind Timeline end choice_stages [] (begun (map string_bytes c.args.words.now)) passed.0 (g.H.Shelf.seen c.args.shelf.now) shelf passed.2
          (inl (stops exit.result statuses.NoMemory exit.ensures.1 refl)),
    )

pub returns-in_err-put_spans-clause-goes : goal.returns-in_err-put_spans-clause-goes
returns-in_err-put_spans-clause-goes g c =
    let exit = c.from_residual-in_err-put_spans in
    let words = map string_bytes c.args.words.now in
    let shelf = g.H.Shelf.seen c.choose_for.new.shelf in
    let end = ended_of c.choose_for.new.task shelf (g.K.Sink.seen c.args.out.now) (g.K.Sink.seen c.put_spans.new.out) exit.result in
    let passed = c.in_ok-chosen.ensures.passed in
    let put = c.in_err-put_spans.ensures.cut_off in
    let choice = plain_choice c.in_ok-chosen.chosen in
    let text =
    are_text passed.0 words choice c.as_slice-plans.result.now c.in_ok-ticks.ticks put.0 passed.1 passed.3 c.as_slice-plans.ensures
    c.in_ok-ticks.ensures.value put.1 in
    inr (
      c.in_ok-ticks.ensures.few,
      goes_behind Timeline end choice_stages [] (begun words) passed.0 (g.H.Shelf.seen c.args.shelf.now) shelf passed.2
          (inr (cut_off put.0 exit.result text exit.ensures.1 put.2)),
    )

pub returns-clause-goes : goal.returns-clause-goes
returns-clause-goes g c =
    let words = map string_bytes c.args.words.now in
    let shelf = g.H.Shelf.seen c.choose_for.new.shelf in
    let end = at_end_of c.choose_for.new.task shelf (g.K.Sink.seen c.args.out.now) (g.K.Sink.seen c.put_spans.new.out) statuses.Ok in
    let passed = c.in_ok-chosen.ensures.passed in
    let put = c.in_ok-put_spans.ensures.taken in
    let choice = plain_choice c.in_ok-chosen.chosen in
    let text =
    are_text passed.0 words choice c.as_slice-plans.result.now c.in_ok-ticks.ticks put.0 passed.1 passed.3 c.as_slice-plans.ensures
    c.in_ok-ticks.ensures.value put.1 in
    inr (
      c.in_ok-ticks.ensures.few,
      goes_behind Timeline end choice_stages [] (begun words) passed.0 (g.H.Shelf.seen c.args.shelf.now) shelf passed.2
          (inr (taken put.0 text put.2)),
    )

pub returns-in_err-put_spans-clause-untouched : goal.returns-in_err-put_spans-clause-untouched
returns-in_err-put_spans-clause-untouched g c = inl (at_write_fault c.from_residual-in_err-put_spans.result c.from_residual-in_err-put_spans.ensures.1)
