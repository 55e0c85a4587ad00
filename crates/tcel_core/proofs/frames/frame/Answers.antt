use Rattle.std.proofs.Common.{◌≡◌, ap, sym, subst, ◌∙◌, arith}
use Rattle.tcel_core.specs.Cells.{all_words}
use Rattle.tcel_core.specs.Evaluation.{Left}
use Rattle.tcel_core.specs.Frames.{state_words}
use Rattle.tcel_core.specs.Meaning.{exec}
use Rattle.tcel_core.specs.Plain.{plain_task}
use Rattle.tcel_core.proofs.Evaluation.{all_written, frame_done}
use Rattle.tcel_core.proofs.StateWords.{states_within}
use Rattle.tcel_core.proofs.frames.frame.Goals as goal

pub clear-requires : goal.clear-requires
clear-requires c =
    omega (arith, states_within c.as_slice-vars.result.now, c.state_words.ensures, c.run_body.ensures.words, ap all_words c.new-layout.ensures)

pub returns-clause-ok : goal.returns-clause-ok
returns-clause-ok c =
    let task = plain_task c.args.task.now in
    let before = c.args.events.now.items in
    let same : c.new-layout.result ≡ task.vars = c.new-layout.ensures ∙ c.as_slice-vars.ensures in
    let words : c.as_mut_slice-words.result.now ≡ c.args.cells.now = c.as_mut_slice-words.ensures.value ∙ c.cells.view_is in
    let begun : record { cells = c.as_mut_slice-words.result.now; inputs = c.args.inputs.now } ≡ record { cells = c.args.cells.now; inputs = c.args.inputs.now } =
    ap (λ cells. record { cells = cells; inputs = c.args.inputs.now }) words in
    let ran = subst (λ m. Left c.of_frame-bounds.result before (exec task.body c.new-layout.result m) c.run_body.new.cells c.run_body.new.inputs c.run_body.new.events.items) begun
    c.in_ok-run_body.ensures.ok in
    let over = subst (λ vars. Left c.of_frame-bounds.result before (exec task.body vars (record { cells = c.args.cells.now; inputs = c.args.inputs.now })) c.run_body.new.cells c.run_body.new.inputs
    c.run_body.new.events.items) same ran in
    let written = all_written c.cells.inside.words.items c.clear.new.cells c.cells.inside.words.len (omega arith) (omega arith) in
    frame_done task c.new-layout.result c.of_frame-bounds.result _ c.state_words.result c.of_frame-bounds.ensures same over c.run_body.ensures.words
    (c.state_words.ensures ∙ ap state_words (sym c.new-layout.ensures)) (written ∙ c.clear.ensures)
