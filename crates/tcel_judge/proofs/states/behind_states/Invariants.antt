use Rattle.std.proofs.Common.{◌≡◌, ◌+◌, drop}
use Rattle.tcel_code.specs.Layout.{states_of}
use Rattle.tcel_core.specs.Frames.{state_words}
use Rattle.tcel_image.specs.TraceText.{states_text}
use Rattle.tcel_trace.specs.Reading.{behind}
use Rattle.tcel_judge.proofs.states.behind_states.Given as goal

abbrev pub invariant-loop-var : goal.invariant-loop-var
invariant-loop-var l = record {
  text : behind (states_text (states_of (drop l.var-index l.vars)) (drop l.place l.cells)) l.rest ≡ behind (states_text (states_of l.vars) l.cells) l.text;
  places : l.place + state_words (drop l.var-index l.vars) ≡ state_words l.vars;
}
