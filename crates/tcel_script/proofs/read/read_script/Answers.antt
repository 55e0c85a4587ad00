use Rattle.std.proofs.Common.{◌≡◌, length, take, None, sym, ◌∙◌, subst, arith, below_more}
use Rattle.std.proofs.lemmas.Bool.{eqb-true}
use Rattle.std.proofs.lemmas.Result.{err_from_is_err_and}
use Rattle.tcel_script.specs.Lines.{script_lines}
use Rattle.tcel_script.specs.Script.{fault_at, HasStreams}
use Rattle.tcel_script.specs.Rows.{Rows, FitsPorts}
use Rattle.tcel_script.proofs.Reading.{next_is, went_on, failed, rows_fit, streams_fit, finished}
use Rattle.tcel_script.proofs.read.read_script.Goals as goal

pub returns-clause-read : goal.returns-clause-read
returns-clause-read c =
    rw c.new.ensures
    (finished c.args.ports.now c.args.bytes.now c.loop-rest.rest.now c.loop-rest.number c.loop-rest.rows.items c.loop-rest.invariant.left
    (eqb-true (length c.loop-rest.rest.now) 0 (sym c.is_empty.ensures ∙ c.loop-rest-test.false)) c.loop-rest.invariant.sound c.loop-rest.invariant.rows_so_far)

pub take_line-requires : goal.take_line-requires
take_line-requires c =
    subst (λ (rows : Rows). FitsPorts c.args.ports.now rows) (sym c.loop-rest.invariant.rows_so_far) (rows_fit c.args.ports.now (take c.loop-rest.number (script_lines c.args.bytes.now)))

pub returns-in_err-take_line-clause-read : goal.returns-in_err-take_line-clause-read
returns-in_err-take_line-clause-read c =
    let failure = err_from_is_err_and c.from_residual-in_err-take_line.result c.from_residual-in_err-take_line.ensures.1 in
    let next = next_is (script_lines c.args.bytes.now) c.loop-rest.number c.loop-rest.rest.now c.next_line.result.0.now c.next_line.result.1.now c.loop-rest.invariant.left c.next_line.ensures.value in
    rw (failure.1, failure.2)
    (failed c.args.ports.now c.args.bytes.now c.loop-rest.number c.next_line.result.0.now c.next_line.result.1.now c.loop-rest.rows.items c.take_line.new.rows.items c.in_err-take_line.field-0.0
    c.requires.distinct next c.loop-rest.invariant.rows_so_far c.loop-rest.invariant.sound c.in_err-take_line.ensures)

pub loop-rest-preserved : goal.loop-rest-preserved
loop-rest-preserved c =
    let next = next_is (script_lines c.args.bytes.now) c.loop-rest.number c.loop-rest.rest.now c.next_line.result.0.now c.next_line.result.1.now c.loop-rest.invariant.left c.next_line.ensures.value in
    let on = went_on c.args.ports.now (script_lines c.args.bytes.now) c.loop-rest.number c.next_line.result.0.now c.next_line.result.1.now c.loop-rest.rows.items c.take_line.new.rows.items
    c.requires.distinct next c.loop-rest.invariant.rows_so_far c.in_ok-take_line.ensures in
    record {
      counted = omega (arith, c.next_line.ensures.shorter);
      left = next.left;
      rows_so_far = on.1;
      sound = below_more (λ k. fault_at c.args.ports.now (script_lines c.args.bytes.now) k ≡ None) c.loop-rest.number c.loop-rest.invariant.sound on.0;
    }

pub returns-clause-streams : goal.returns-clause-streams
returns-clause-streams c =
    let ports = c.args.ports.now in
    let fits = subst (λ (rows : Rows). FitsPorts ports rows) (sym c.loop-rest.invariant.rows_so_far) (rows_fit ports (take c.loop-rest.number (script_lines c.args.bytes.now))) in
    subst (HasStreams ports) (sym c.new.ensures) (streams_fit ports c.loop-rest.rows.items fits)
