use Rattle.std.proofs.Common.{sym, ◌∙◌}
use Rattle.tcel_trace.proofs.StateTexts.{states_sound}
use Rattle.tcel_trace.proofs.read_line.end_in.Goals as goal

pub new-requires : goal.new-requires
new-requires c = states_sound c.args.bytes.now (sym c.are_states.ensures ∙ c.if-not-are_states.false)
