use Rattle.std.proofs.Common.{◌∙◌, ℕ, List, [], ◌∷◌, Ok, ap, inl, inr, refl, subst, sym}
use Rattle.std.specs.Prelude.{codes, map, string_bytes}
use Rattle.tcel_judge.specs.declared.verdict.Verdict.TheVariants.{Yes}
use Rattle.tcel_trace.specs.TraceForm.{IsTrace}
use Rattle.tcel_trace.specs.declared.trace_line.TraceLine.{TraceLine}
use Rattle.tcel_tool.specs.Answer.{OrMemory, begun, status_of}
use Rattle.tcel_tool.specs.Chosen.{plain_choice}
use Rattle.tcel_tool.specs.CommandLine.{number_at}
use Rattle.tcel_tool.specs.JudgeCommand.{IsBreach, RefusesTrace, SaysOf, trace_stages}
use Rattle.tcel_tool.specs.SetChoice.{Names, choice_stages}
use Rattle.tcel_tool.specs.declared.command.Command.TheVariants.{Judge}
use Rattle.tcel_tool.specs.declared.status.Status.TheVariants as statuses
use Rattle.tcel_tool.proofs.Exits.{at_end_of, at_exit, at_write_fault, cut_off, ended_of, stops, taken}
use Rattle.tcel_tool.proofs.Forms.{judged_ticks_are_a_number}
use Rattle.tcel_tool.proofs.Stretches.{goes_behind, goes_stopped, stopped_at}
use Rattle.tcel_tool.proofs.JudgeStages.{behind_bytes, behind_lines, behind_script, behind_verdict, breached, faulty_script, loads_own, named, script_read, stops_own, yes_is}
use Rattle.tcel_tool.proofs.judge.judge.Goals as goal

pub number_up_to-requires : goal.number_up_to-requires
number_up_to-requires g c = judged_ticks_are_a_number (map string_bytes c.args.words.now) c.requires

pub accept-requires-clause-best : goal.accept-requires-clause-best
accept-requires-clause-best g c = c.in_ok-chosen.ensures.passed.3.best

pub returns-in_err-chosen-clause-goes : goal.returns-in_err-chosen-clause-goes
returns-in_err-chosen-clause-goes g c =
    let exit = c.from_residual-in_err-chosen in
    let out = g.K.Sink.seen c.args.out.now in
    let words = map string_bytes c.args.words.now in
    let shelf = g.H.Shelf.seen c.args.shelf.now in
    let end = ended_of c.choose_for.new.task (g.H.Shelf.seen c.choose_for.new.shelf) out out exit.result in
    inr (
      c.in_ok-ticks.ensures.few,
      goes_stopped Judge end choice_stages trace_stages (begun words) shelf
          (stopped_at choice_stages (begun words) shelf end.shelf end.task exit.result c.in_err-chosen.field-0.0 exit.ensures.1
          c.in_err-chosen.ensures.stopped) refl,
    )

pub returns-in_err-text-clause-goes : goal.returns-in_err-text-clause-goes
returns-in_err-text-clause-goes g c =
    let exit = c.from_residual-in_err-text in
    let words = map string_bytes c.args.words.now in
    let out = g.K.Sink.seen c.args.out.now in
    let shelf = g.H.Shelf.seen c.choose_for.new.shelf in
    let passed = c.in_ok-chosen.ensures.passed in
    let next = g.H.Shelf.seen c.load.new.shelf in
    let end = ended_of c.choose_for.new.task next out out exit.result in
    inr (
      c.in_ok-ticks.ensures.few,
      goes_behind Judge end choice_stages trace_stages (begun words) passed.0 (g.H.Shelf.seen c.args.shelf.now) shelf passed.2
          (inl (stops_own passed.0 words 3 16777216 shelf next exit.result c.in_err-text.field-0.0 passed.1 exit.ensures.1 c.in_err-text.ensures.stopped, refl)),
    )

pub returns-in_err-script-clause-goes : goal.returns-in_err-script-clause-goes
returns-in_err-script-clause-goes g c =
    let exit = c.from_residual-in_err-script in
    let words = map string_bytes c.args.words.now in
    let out = g.K.Sink.seen c.args.out.now in
    let shelf = g.H.Shelf.seen c.choose_for.new.shelf in
    let passed = c.in_ok-chosen.ensures.passed in
    let next = g.H.Shelf.seen c.load.new.shelf in
    let given = c.in_err-script.field-0.0 in
    let cause = faulty_script passed.0 (plain_choice c.in_ok-chosen.chosen) c.in_ok-text.text.items c.deref.result.now given passed.3 c.deref.ensures.value c.in_err-script.ensures.refusal in
    let end = ended_of c.choose_for.new.task next out out exit.result in
    inr (
      c.in_ok-ticks.ensures.few,
      goes_behind Judge end choice_stages trace_stages (begun words) passed.0 (g.H.Shelf.seen c.args.shelf.now) shelf passed.2
          (inr (c.in_ok-text.text.items, next, loads_own passed.0 words 3 16777216 shelf next c.in_ok-text.text.items passed.1 c.in_ok-text.ensures.loaded, inl (stops exit.result given exit.ensures.1 cause, tt))),
    )

pub returns-in_err-bytes-clause-goes : goal.returns-in_err-bytes-clause-goes
returns-in_err-bytes-clause-goes g c =
    let exit = c.from_residual-in_err-bytes in
    let words = map string_bytes c.args.words.now in
    let out = g.K.Sink.seen c.args.out.now in
    let shelf = g.H.Shelf.seen c.choose_for.new.shelf in
    let passed = c.in_ok-chosen.ensures.passed in
    let next = g.H.Shelf.seen c.load.new.shelf in
    let last = g.H.Shelf.seen c.load-2.new.shelf in
    let choice = plain_choice c.in_ok-chosen.chosen in
    let read =
    script_read passed.0 choice words shelf next c.in_ok-text.text.items c.deref.result.now c.in_ok-script.script passed.3 passed.1 c.in_ok-text.ensures.loaded
    c.deref.ensures.value c.in_ok-script.ensures.streams in
    let end = ended_of c.choose_for.new.task last out out exit.result in
    inr (
      c.in_ok-ticks.ensures.few,
      goes_behind Judge end choice_stages trace_stages (begun words) passed.0 (g.H.Shelf.seen c.args.shelf.now) shelf passed.2
          (behind_script end read (inl (stops_own passed.0 words 4 16777216 next last exit.result c.in_err-bytes.field-0.0 passed.1 exit.ensures.1 c.in_err-bytes.ensures.stopped, refl))),
    )

pub returns-in_err-lines-clause-goes : goal.returns-in_err-lines-clause-goes
returns-in_err-lines-clause-goes g c =
    let exit = c.from_residual-in_err-lines in
    let words = map string_bytes c.args.words.now in
    let out = g.K.Sink.seen c.args.out.now in
    let shelf = g.H.Shelf.seen c.choose_for.new.shelf in
    let passed = c.in_ok-chosen.ensures.passed in
    let next = g.H.Shelf.seen c.load.new.shelf in
    let last = g.H.Shelf.seen c.load-2.new.shelf in
    let choice = plain_choice c.in_ok-chosen.chosen in
    let read =
    script_read passed.0 choice words shelf next c.in_ok-text.text.items c.deref.result.now c.in_ok-script.script passed.3 passed.1 c.in_ok-text.ensures.loaded
    c.deref.ensures.value c.in_ok-script.ensures.streams in
    let second = loads_own passed.0 words 4 16777216 next last c.in_ok-bytes.bytes.items passed.1 c.in_ok-bytes.ensures.loaded in
    let given = c.in_err-lines.field-0.0 in
    let cause = subst (λ t. OrMemory (RefusesTrace t) given) c.deref-2.ensures.value c.in_err-lines.ensures.refusal in
    let end = ended_of c.choose_for.new.task last out out exit.result in
    inr (
      c.in_ok-ticks.ensures.few,
      goes_behind Judge end choice_stages trace_stages (begun words) passed.0 (g.H.Shelf.seen c.args.shelf.now) shelf passed.2
          (behind_bytes end read second (inl (stops exit.result given exit.ensures.1 cause, tt))),
    )

pub returns-in_err-accept-clause-goes : goal.returns-in_err-accept-clause-goes
returns-in_err-accept-clause-goes g c =
    let exit = c.from_residual-in_err-accept in
    let words = map string_bytes c.args.words.now in
    let out = g.K.Sink.seen c.args.out.now in
    let shelf = g.H.Shelf.seen c.choose_for.new.shelf in
    let passed = c.in_ok-chosen.ensures.passed in
    let next = g.H.Shelf.seen c.load.new.shelf in
    let last = g.H.Shelf.seen c.load-2.new.shelf in
    let choice = plain_choice c.in_ok-chosen.chosen in
    let read =
    script_read passed.0 choice words shelf next c.in_ok-text.text.items c.deref.result.now c.in_ok-script.script passed.3 passed.1 c.in_ok-text.ensures.loaded
    c.deref.ensures.value c.in_ok-script.ensures.streams in
    let second = loads_own passed.0 words 4 16777216 next last c.in_ok-bytes.bytes.items passed.1 c.in_ok-bytes.ensures.loaded in
    let lines_in = subst (λ t. IsTrace c.in_ok-lines.lines.items t) c.deref-2.ensures.value c.in_ok-lines.ensures.lines in
    let number = c.in_ok-ticks.ensures.value ∙ ap (λ (ws : List (List ℕ)). number_at ws 5) (sym passed.1) in
    let ticks = c.in_ok-ticks.ticks in
    let given = c.in_err-accept.field-0.0 in
    let found = subst (λ (ls : List TraceLine). OrMemory (IsBreach choice c.in_ok-script.script ticks ls) given) c.deref-3.ensures.value c.in_err-accept.ensures.refusal in
    let end = ended_of c.accept.new.task last out out exit.result in
    let cause = breached end read second lines_in ticks number given found in
    let names = named end read second lines_in ticks number (status_of exit.result) c.accept.new.task (subst (λ s. Names choice.set s c.accept.new.task) (sym (at_exit exit.result given exit.ensures.1)) c.in_err-accept.ensures.named) in
    inr (
      c.in_ok-ticks.ensures.few,
      goes_behind Judge end choice_stages trace_stages (begun words) passed.0 (g.H.Shelf.seen c.args.shelf.now) shelf passed.2
          (behind_lines end read second lines_in ticks number (inl (stops exit.result given exit.ensures.1 cause, names))),
    )

pub returns-in_err-put-clause-goes : goal.returns-in_err-put-clause-goes
returns-in_err-put-clause-goes g c =
    let exit = c.from_residual-in_err-put in
    let words = map string_bytes c.args.words.now in
    let out = g.K.Sink.seen c.args.out.now in
    let shelf = g.H.Shelf.seen c.choose_for.new.shelf in
    let passed = c.in_ok-chosen.ensures.passed in
    let next = g.H.Shelf.seen c.load.new.shelf in
    let last = g.H.Shelf.seen c.load-2.new.shelf in
    let choice = plain_choice c.in_ok-chosen.chosen in
    let read =
    script_read passed.0 choice words shelf next c.in_ok-text.text.items c.deref.result.now c.in_ok-script.script passed.3 passed.1 c.in_ok-text.ensures.loaded
    c.deref.ensures.value c.in_ok-script.ensures.streams in
    let second = loads_own passed.0 words 4 16777216 next last c.in_ok-bytes.bytes.items passed.1 c.in_ok-bytes.ensures.loaded in
    let lines_in = subst (λ t. IsTrace c.in_ok-lines.lines.items t) c.deref-2.ensures.value c.in_ok-lines.ensures.lines in
    let number = c.in_ok-ticks.ensures.value ∙ ap (λ (ws : List (List ℕ)). number_at ws 5) (sym passed.1) in
    let ticks = c.in_ok-ticks.ticks in
    let says = subst (λ (ls : List TraceLine). SaysOf choice c.in_ok-script.script ticks ls Yes) c.deref-3.ensures.value c.in_ok-accept.ensures.accepted in
    let after = g.K.Sink.seen c.put.new.self in
    let end = ended_of c.accept.new.task last out after exit.result in
    inr (
      c.in_ok-ticks.ensures.few,
      goes_behind Judge end choice_stages trace_stages (begun words) passed.0 (g.H.Shelf.seen c.args.shelf.now) shelf passed.2
          (behind_verdict end read second lines_in ticks number says (inr (cut_off (codes "yes\n" ∷ []) exit.result (yes_is end read second lines_in ticks number says) exit.ensures.1 (inl c.in_err-put.ensures.cut_off)))),
    )

pub returns-clause-goes : goal.returns-clause-goes
returns-clause-goes g c =
    let words = map string_bytes c.args.words.now in
    let out = g.K.Sink.seen c.args.out.now in
    let shelf = g.H.Shelf.seen c.choose_for.new.shelf in
    let passed = c.in_ok-chosen.ensures.passed in
    let next = g.H.Shelf.seen c.load.new.shelf in
    let last = g.H.Shelf.seen c.load-2.new.shelf in
    let choice = plain_choice c.in_ok-chosen.chosen in
    let read =
    script_read passed.0 choice words shelf next c.in_ok-text.text.items c.deref.result.now c.in_ok-script.script passed.3 passed.1 c.in_ok-text.ensures.loaded
    c.deref.ensures.value c.in_ok-script.ensures.streams in
    let second = loads_own passed.0 words 4 16777216 next last c.in_ok-bytes.bytes.items passed.1 c.in_ok-bytes.ensures.loaded in
    let lines_in = subst (λ t. IsTrace c.in_ok-lines.lines.items t) c.deref-2.ensures.value c.in_ok-lines.ensures.lines in
    let number = c.in_ok-ticks.ensures.value ∙ ap (λ (ws : List (List ℕ)). number_at ws 5) (sym passed.1) in
    let ticks = c.in_ok-ticks.ticks in
    let says = subst (λ (ls : List TraceLine). SaysOf choice c.in_ok-script.script ticks ls Yes) c.deref-3.ensures.value c.in_ok-accept.ensures.accepted in
    let after = g.K.Sink.seen c.put.new.self in
    let end = at_end_of c.accept.new.task last out after statuses.Ok in
    inr (
      c.in_ok-ticks.ensures.few,
      goes_behind Judge end choice_stages trace_stages (begun words) passed.0 (g.H.Shelf.seen c.args.shelf.now) shelf passed.2
          (behind_verdict end read second lines_in ticks number says
          (inr (taken (codes "yes\n" ∷ []) (yes_is end read second lines_in ticks number says) (after, c.in_ok-put.ensures.taken, refl)))),
    )

pub returns-in_err-put-clause-untouched : goal.returns-in_err-put-clause-untouched
returns-in_err-put-clause-untouched g c = inl (at_write_fault c.from_residual-in_err-put.result c.from_residual-in_err-put.ensures.1)
