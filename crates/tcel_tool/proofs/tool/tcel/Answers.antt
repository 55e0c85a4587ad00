use Rattle.std.proofs.Common.{refl, subst}
use Rattle.std.specs.Prelude.{map, string_bytes}
use Rattle.tcel_io.specs.InTurn.{ArePut}
use Rattle.tcel_tool.specs.Answer.{begun}
use Rattle.tcel_tool.specs.Commands.{stages_of}
use Rattle.tcel_tool.specs.FaultLine.{fault_pieces}
use Rattle.tcel_tool.specs.declared.command.Command.TheVariants.{Compile}
use Rattle.tcel_tool.proofs.CallLaws.{agrees}
use Rattle.tcel_tool.proofs.CompileFacts.{compiled}
use Rattle.tcel_tool.proofs.Exits.{at_end_of}
use Rattle.tcel_tool.proofs.tool.tcel.Goals as goal

pub returns-clause-answer : goal.returns-clause-answer
returns-clause-answer g c =
    let words = map string_bytes c.args.words.now in
    let done = c.answer-status in
    let line = λ (name : _). ArePut (fault_pieces words done.result name) (g.K.Sink.seen c.args.err.now) (g.K.Sink.seen c.put_fault_line.new.err) in
    (done.new.task, done.ensures.answer, subst line c.name_bytes.ensures c.put_fault_line.ensures)

pub returns-clause-exact : goal.returns-clause-exact
returns-clause-exact g c =
    let words = map string_bytes c.args.words.now in
    let shelf = g.H.Shelf.seen c.args.shelf.now in
    let done = c.answer-status in
    let end = at_end_of done.new.task (g.H.Shelf.seen done.new.shelf) (g.K.Sink.seen c.args.out.now) (g.K.Sink.seen done.new.out) done.result in
    λ command status form decided.
    agrees command end shelf.told status (stages_of command) (begun words) shelf refl (done.ensures.answer command form) decided

pub returns-clause-headline : goal.returns-clause-headline
returns-clause-headline g c =
    let words = map string_bytes c.args.words.now in
    let done = c.answer-status in
    λ form ok.
    compiled words (g.H.Shelf.seen c.args.shelf.now) (g.H.Shelf.seen done.new.shelf) (g.K.Sink.seen c.args.out.now) (g.K.Sink.seen done.new.out) done.result
    done.new.task (done.ensures.answer Compile form) ok
