use Rattle.std.proofs.Common.{◌≡◌, ◌*◌, Some, List, length, refl, sym, ap, ◌∙◌, slice_get, arith}
use Rattle.std.proofs.lemmas.Option.{slice_get_read}
use Rattle.tcel_core.specs.declared.event.Event.{Event}
use Rattle.tcel_core.specs.Promises.{Behavior}
use Rattle.tcel_judge.specs.Courses.{judged}
use Rattle.tcel_judge.proofs.Entries.{end_there, event_made, mark_there}
use Rattle.tcel_judge.proofs.course.Course.entry.Goals as goal

pub returns-then-self-made-clause-there : goal.returns-then-self-made-clause-there
returns-then-self-made-clause-there c =
    let b : Behavior = (judged c.args.self.now).does in
    let k = c.args.self.now.passed in
    let event = c.index.result.now in
    let read : slice_get c.args.self.now.events.items k ≡ Some event =
    slice_get_read c.args.self.now.events.items c.args.self.now.events.len k event c.args.self.now.events.ok.0 (omega (arith, c.len-made.ensures, c.if-self-made.true)) c.index.ensures in
    let release : c.from.result * c.from-2.result ≡ c.args.self.now.frame * b.period = rw (c.from.ensures, c.from-2.ensures) refl in
    event_made b c.args.self.now.frame k (c.from.result * c.from-2.result) event release (ap (λ (es : List Event). slice_get es k) (sym c.requires.events) ∙ read)
    ∙ ap Some (sym (c.event_entry.ensures.promise b))

pub returns-then-self-made-2-clause-there : goal.returns-then-self-made-2-clause-there
returns-then-self-made-2-clause-there c =
    let b : Behavior = (judged c.args.self.now).does in
    mark_there b c.args.self.now.frame c.args.self.now.passed _
    (omega (arith, c.len-made.ensures, c.if-self-made-2.true, ap (λ (l : List Event). length l) c.requires.events, c.args.self.now.events.ok))
    (rw (c.from.ensures, c.from-2.ensures, c.from-then-self-made-2.ensures) refl)

pub returns-clause-there : goal.returns-clause-there
returns-clause-there c =
    let b : Behavior = (judged c.args.self.now).does in
    end_there b c.args.self.now.frame c.args.self.now.passed
    (omega (arith, c.len-made.ensures, c.if-self-made.false, c.if-self-made-2.false, c.requires.within, ap (λ (l : List Event). length l) c.requires.events, c.args.self.now.events.ok))
