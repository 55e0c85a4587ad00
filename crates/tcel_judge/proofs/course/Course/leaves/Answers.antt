use Rattle.std.proofs.Common.{List, ap, ◌∙◌, arith}
use Rattle.tcel_code.specs.Layout.{states_of}
use Rattle.tcel_core.specs.declared.var.Var.{Var}
use Rattle.tcel_core.specs.Frames.{state_words}
use Rattle.tcel_core.specs.Outcome.{Memory}
use Rattle.tcel_core.proofs.StateWords.{states_within}
use Rattle.tcel_image.specs.TraceText.{states_text}
use Rattle.tcel_judge.specs.Courses.{judged}
use Rattle.tcel_judge.proofs.StateTexts.{states_at_start}
use Rattle.tcel_script.specs.Script.{same}
use Rattle.tcel_judge.proofs.course.Course.leaves.Goals as goal

pub is_state_text-requires-clause-within : goal.is_state_text-requires-clause-within
is_state_text-requires-clause-within c =
    omega (arith, ap state_words c.as_slice.ensures, states_within c.args.self.now.task.now.vars, c.requires.words)

pub is_state_text-requires-clause-small : goal.is_state_text-requires-clause-small
is_state_text-requires-clause-small c =
    omega (arith, ap state_words c.as_slice.ensures, states_within c.args.self.now.task.now.vars, c.requires.sound.declarations.words)

pub returns : goal.returns
returns c =
    let vars = c.args.self.now.task.now.vars in
    let cells = c.args.self.now.cells in
    let state = ((judged c.args.self.now).does.frames c.args.self.now.frame).state in
    let text = c.args.text.now in
    c.is_state_text.ensures ∙ ap (λ (vs : List Var). same text (states_text (states_of vs) cells)) c.as_slice.ensures
    ∙ ap (same text) (states_at_start vars state cells (ap (λ (m : Memory). m.cells) c.requires.next) c.requires.words)
