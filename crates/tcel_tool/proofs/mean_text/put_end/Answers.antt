use Rattle.std.proofs.Common.{ap, arith}
use Rattle.std.proofs.lemmas.Result.{on_ok_weaker}
use Rattle.tcel_core.proofs.StateWords.{states_within}
use Rattle.tcel_core.specs.Frames.{state_words}
use Rattle.tcel_core.specs.Plain.{plain_task}
use Rattle.tcel_tool.proofs.MeanFrames.{end_written}
use Rattle.tcel_tool.proofs.mean_text.put_end.Goals as goal

pub put_states-requires-clause-within : goal.put_states-requires-clause-within
put_states-requires-clause-within c =
    omega (arith, ap state_words c.as_slice.ensures, states_within c.args.task.now.vars, c.requires.words)

pub put_states-requires-clause-small : goal.put_states-requires-clause-small
put_states-requires-clause-small c =
    omega (arith, ap state_words c.as_slice.ensures, states_within c.args.task.now.vars, c.requires.small)

pub returns : goal.returns
returns c =
    on_ok_weaker c.put-2.result
    (λ last.
    end_written (plain_task c.args.task.now) c.args.number c.args.cells.now c.as_slice.result.now c.args.out.now.items c.put_head.new.out.items c.put.new.out.items c.put_states.new.out.items c.put-2.new.out.items
    c.as_slice.ensures c.requires.words c.in_ok-put_head.ensures c.in_ok-put.ensures c.in_ok-put_states.ensures last)
    c.put-2.ensures
