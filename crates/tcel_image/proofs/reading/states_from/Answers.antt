use Rattle.std.proofs.Common.{arith}
use Rattle.std.proofs.lemmas.Result.{err_from_is_err_and}
use Rattle.std.proofs.lemmas.List.Sums.{sum_by_push}
use Rattle.tcel_image.specs.declared.image.ImageState.{ImageState}
use Rattle.tcel_image.specs.Reading.{states_from}
use Rattle.tcel_image.proofs.Loops.{goes_on_state, ends_state, done_states}
use Rattle.tcel_image.proofs.reading.states_from.Goals as goal

pub returns-in_err-state-clause-given : goal.returns-in_err-state-clause-given
returns-in_err-state-clause-given c =
    let p = err_from_is_err_and c.from_residual.result c.from_residual.ensures.1 in
    rw (p.1, p.2) (ends_state c.loop.states.items c.args.count c.loop.counter c.loop.used c.loop.rest.now (states_from 0 c.args.count c.args.bytes.now)
    c.in_err-state.field-0.0 c.loop-test.true c.in_err-state.ensures.given c.loop.invariant.read)

pub loop-preserved : goal.loop-preserved
loop-preserved c = record {
  read = rw c.in_ok-push.ensures.items (goes_on_state c.loop.states.items c.args.count c.loop.counter c.loop.used c.loop.rest.now (states_from 0 c.args.count c.args.bytes.now)
      c.in_ok-state.state c.in_ok-state.after.now c.loop-test.true c.in_ok-state.ensures.given c.loop.invariant.read);
  words = rw c.in_ok-push.ensures.items (omega (arith, c.loop.invariant.words, sum_by_push (λ (s : ImageState). s.words) c.loop.states.items c.in_ok-state.state));
  most = c.in_ok-state.ensures.room;
}

pub returns-clause-given : goal.returns-clause-given
returns-clause-given c =
    rw c.from_vec.ensures (done_states c.loop.states.items c.args.count c.loop.counter c.loop.used c.loop.rest.now (states_from 0 c.args.count c.args.bytes.now)
    c.loop-test.false c.loop.invariant.read)
