use Rattle.std.proofs.Common.{subst}
use Rattle.std.specs.Prelude.{map, string_bytes}
use Rattle.tcel_tool.specs.Answer.{Does, begun}
use Rattle.tcel_tool.specs.Commands.{stages_of}
use Rattle.tcel_tool.specs.declared.status.Status.TheVariants as statuses
use Rattle.tcel_tool.proofs.CallLaws.{never_words}
use Rattle.tcel_tool.proofs.Exits.{at_end_of}
use Rattle.tcel_tool.proofs.Forms.{one_form}
use Rattle.tcel_tool.proofs.tool.answer.Goals as goal

pub returns-in_default-clause-answer : goal.returns-in_default-clause-answer
returns-in_default-clause-answer g c = λ command form. absurd (c.in_default.ensures.none command form)

pub returns-in-Ok-clause-answer : goal.returns-in-Ok-clause-answer
returns-in-Ok-clause-answer g c =
    let words = map string_bytes c.args.words.now in
    λ command form.
    subst (λ k. Does k words (g.H.Shelf.seen c.args.shelf.now) (g.H.Shelf.seen c.body.new.shelf) (g.K.Sink.seen c.args.out.now) (g.K.Sink.seen c.body.new.out) statuses.Ok c.body.new.task)
    (one_form words c.in-Some.command command c.in-Some.ensures.some form) c.in-Ok.ensures.goes

pub returns-in-Ok-clause-words : goal.returns-in-Ok-clause-words
returns-in-Ok-clause-words g c = (λ e. absurd cc, λ none. absurd (none c.in-Some.command c.in-Some.ensures.some))

pub returns-in-Err-clause-answer : goal.returns-in-Err-clause-answer
returns-in-Err-clause-answer g c =
    let words = map string_bytes c.args.words.now in
    λ command form.
    subst (λ k. Does k words (g.H.Shelf.seen c.args.shelf.now) (g.H.Shelf.seen c.body.new.shelf) (g.K.Sink.seen c.args.out.now) (g.K.Sink.seen c.body.new.out) c.in-Err.status c.body.new.task)
    (one_form words c.in-Some.command command c.in-Some.ensures.some form) c.in-Err.ensures.goes

pub returns-in-Err-clause-words : goal.returns-in-Err-clause-words
returns-in-Err-clause-words g c =
    let words = map string_bytes c.args.words.now in
    let end = at_end_of c.body.new.task (g.H.Shelf.seen c.body.new.shelf) (g.K.Sink.seen c.args.out.now) (g.K.Sink.seen c.body.new.out) c.in-Err.status in (
      λ e. absurd (never_words c.in-Some.command end (stages_of c.in-Some.command) (begun words) (g.H.Shelf.seen c.args.shelf.now) c.in-Err.ensures.goes e),
      λ none. absurd (none c.in-Some.command c.in-Some.ensures.some),
    )
