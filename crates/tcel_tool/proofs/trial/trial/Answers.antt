use Rattle.std.proofs.Common.{◌≡◌, ℕ, List, [], ◌∷◌, inl, inr, refl, subst, sym}
use Rattle.std.specs.Prelude.{map, string_bytes}
use Rattle.tcel_tool.specs.Answer.{begun}
use Rattle.tcel_tool.specs.Chosen.{plain_choice}
use Rattle.tcel_tool.specs.CommandLine.{number_at}
use Rattle.tcel_tool.specs.TrialCommand.{stages}
use Rattle.tcel_tool.specs.declared.command.Command.TheVariants.{Trial}
use Rattle.tcel_tool.specs.declared.status.Status.TheVariants as statuses
use Rattle.tcel_tool.proofs.Exits.{at_end_of, at_write_fault, cut_off, ended_of, stops, taken}
use Rattle.tcel_tool.proofs.Stretches.{goes_behind, goes_stopped, stopped_at}
use Rattle.tcel_tool.proofs.TrialStages.{summarized}
use Rattle.tcel_tool.proofs.trial.trial.Goals as goal

pub summary-requires-clause-best : goal.summary-requires-clause-best
summary-requires-clause-best g c = c.in_ok-prepared.ensures.passed.3.best

pub returns-in_err-prepared-clause-goes : goal.returns-in_err-prepared-clause-goes
returns-in_err-prepared-clause-goes g c =
    let exit = c.from_residual in
    let out = g.K.Sink.seen c.args.out.now in
    let call = begun (map string_bytes c.args.words.now) in
    λ shelf.
    let end = ended_of c.prepare.new.task shelf out out exit.result in
    let stopped = stopped_at stages call shelf shelf end.task exit.result c.in_err-prepared.field-0.0 exit.ensures.1 (c.in_err-prepared.ensures.stopped shelf) in
    goes_stopped Trial end stages [] call shelf stopped refl

pub returns-in_err-text-clause-goes : goal.returns-in_err-text-clause-goes
returns-in_err-text-clause-goes g c =
    let exit = c.from_residual-in_err-text in
    let out = g.K.Sink.seen c.args.out.now in
    let passed = c.in_ok-prepared.ensures.passed in
    λ shelf.
    let end = ended_of c.prepare.new.task shelf out out exit.result in
    goes_behind Trial end stages [] (begun (map string_bytes c.args.words.now)) passed.0 shelf shelf (passed.2 shelf)
    (inl (stops exit.result c.in_err-text.field-0.0 exit.ensures.1 c.in_err-text.ensures.memory))

pub returns-in_err-put-clause-goes : goal.returns-in_err-put-clause-goes
returns-in_err-put-clause-goes g c =
    let exit = c.from_residual-in_err-put in
    let passed = c.in_ok-prepared.ensures.passed in
    let made = c.in_ok-prepared.prepared in
    let piece = c.deref.result.now in
    let number = subst (λ (words : List (List ℕ)). made.ticks ≡ number_at words 3) (sym passed.1) c.in_ok-prepared.ensures.ticks in
    let text = summarized passed.0 (plain_choice made.chosen) passed.3 made.script passed.4 made.ticks number c.in_ok-text.text.items piece
    c.in_ok-text.ensures.text c.deref.ensures.value in
    λ shelf.
    let end = ended_of c.prepare.new.task shelf (g.K.Sink.seen c.args.out.now) (g.K.Sink.seen c.put.new.self) exit.result in
    goes_behind Trial end stages [] (begun (map string_bytes c.args.words.now)) passed.0 shelf shelf (passed.2 shelf)
    (inr (cut_off (piece ∷ []) exit.result text exit.ensures.1 (inl c.in_err-put.ensures.cut_off)))

pub returns-clause-goes : goal.returns-clause-goes
returns-clause-goes g c =
    let after = g.K.Sink.seen c.put.new.self in
    let passed = c.in_ok-prepared.ensures.passed in
    let made = c.in_ok-prepared.prepared in
    let piece = c.deref.result.now in
    let number = subst (λ (words : List (List ℕ)). made.ticks ≡ number_at words 3) (sym passed.1) c.in_ok-prepared.ensures.ticks in
    let text = summarized passed.0 (plain_choice made.chosen) passed.3 made.script passed.4 made.ticks number c.in_ok-text.text.items piece
    c.in_ok-text.ensures.text c.deref.ensures.value in
    λ shelf.
    let end = at_end_of c.prepare.new.task shelf (g.K.Sink.seen c.args.out.now) after statuses.Ok in
    goes_behind Trial end stages [] (begun (map string_bytes c.args.words.now)) passed.0 shelf shelf (passed.2 shelf)
    (inr (taken (piece ∷ []) text (after, c.in_ok-put.ensures.taken, refl)))

pub returns-in_err-put-clause-untouched : goal.returns-in_err-put-clause-untouched
returns-in_err-put-clause-untouched g c = inl (at_write_fault c.from_residual-in_err-put.result c.from_residual-in_err-put.ensures.1)
