use Rattle.std.proofs.Common.{[], ◌∷◌, ◌∙◌, ap, inl, inr, refl}
use Rattle.std.specs.Prelude.{List, ℕ, map, string_bytes}
use Rattle.tcel_tool.specs.Answer.{begun}
use Rattle.tcel_tool.specs.Chosen.{plain_choice}
use Rattle.tcel_tool.specs.CompileCommand.{IsText}
use Rattle.tcel_tool.specs.SetChoice.{choice_stages}
use Rattle.tcel_tool.specs.declared.command.Command.TheVariants.{Compile}
use Rattle.tcel_tool.specs.declared.status.Status.TheVariants as statuses
use Rattle.tcel_tool.proofs.Exits.{at_end_of, at_write_fault, cut_off, ended_of, stops, taken}
use Rattle.tcel_tool.proofs.Stretches.{goes_behind, goes_stopped, stopped_at}
use Rattle.tcel_tool.proofs.compile.compile.Goals as goal

pub returns-in_err-chosen-clause-goes : goal.returns-in_err-chosen-clause-goes
returns-in_err-chosen-clause-goes g c =
    let exit = c.from_residual in
    let out = g.K.Sink.seen c.args.out.now in
    let end = ended_of c.choose_for.new.task (g.H.Shelf.seen c.choose_for.new.shelf) out out exit.result in
    goes_stopped Compile end choice_stages [] (begun (map string_bytes c.args.words.now)) (g.H.Shelf.seen c.args.shelf.now)
    (stopped_at choice_stages (begun (map string_bytes c.args.words.now)) (g.H.Shelf.seen c.args.shelf.now) end.shelf end.task exit.result c.in_err-chosen.field-0.0 exit.ensures.1 c.in_err-chosen.ensures.stopped) refl

pub returns-in_err-image-clause-goes : goal.returns-in_err-image-clause-goes
returns-in_err-image-clause-goes g c =
    let exit = c.from_residual-in_err-image in
    let out = g.K.Sink.seen c.args.out.now in
    let shelf = g.H.Shelf.seen c.choose_for.new.shelf in
    let end = ended_of c.choose_for.new.task shelf out out exit.result in
    let passed = c.in_ok-chosen.ensures.passed in
    goes_behind Compile end choice_stages [] (begun (map string_bytes c.args.words.now)) passed.0 (g.H.Shelf.seen c.args.shelf.now) shelf passed.2
    (inl (stops exit.result statuses.NoMemory exit.ensures.1 refl))

pub returns-in_err-put-clause-goes : goal.returns-in_err-put-clause-goes
returns-in_err-put-clause-goes g c =
    let exit = c.from_residual-in_err-put in
    let shelf = g.H.Shelf.seen c.choose_for.new.shelf in
    let end = ended_of c.choose_for.new.task shelf (g.K.Sink.seen c.args.out.now) (g.K.Sink.seen c.put.new.self) exit.result in
    let passed = c.in_ok-chosen.ensures.passed in
    let piece = c.deref.result.now in
    let is = ap (λ (t : List ℕ). t ∷ []) (c.deref.ensures.value ∙ c.in_ok-image.ensures) in
    let text : IsText passed.0 (piece ∷ []) = record { choice = plain_choice c.in_ok-chosen.chosen; for = passed.3; is = is } in
    goes_behind Compile end choice_stages [] (begun (map string_bytes c.args.words.now)) passed.0 (g.H.Shelf.seen c.args.shelf.now) shelf passed.2
    (inr (cut_off (piece ∷ []) exit.result text exit.ensures.1 (inl c.in_err-put.ensures.cut_off)))

pub returns-clause-goes : goal.returns-clause-goes
returns-clause-goes g c =
    let shelf = g.H.Shelf.seen c.choose_for.new.shelf in
    let after = g.K.Sink.seen c.put.new.self in
    let end = at_end_of c.choose_for.new.task shelf (g.K.Sink.seen c.args.out.now) after statuses.Ok in
    let passed = c.in_ok-chosen.ensures.passed in
    let piece = c.deref.result.now in
    let is = ap (λ (t : List ℕ). t ∷ []) (c.deref.ensures.value ∙ c.in_ok-image.ensures) in
    let text : IsText passed.0 (piece ∷ []) = record { choice = plain_choice c.in_ok-chosen.chosen; for = passed.3; is = is } in
    goes_behind Compile end choice_stages [] (begun (map string_bytes c.args.words.now)) passed.0 (g.H.Shelf.seen c.args.shelf.now) shelf passed.2
    (inr (taken (piece ∷ []) text (after, c.in_ok-put.ensures.taken, refl)))

pub returns-in_err-put-clause-untouched : goal.returns-in_err-put-clause-untouched
returns-in_err-put-clause-untouched g c = inl (at_write_fault c.from_residual-in_err-put.result c.from_residual-in_err-put.ensures.1)
