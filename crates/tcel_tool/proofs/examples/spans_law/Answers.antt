use Rattle.std.proofs.Common.{◌-◌, arith}
use Rattle.tcel_tool.proofs.SpanLaws.{are_spans, neighbours_differ, one_list, spans_of}
use Rattle.tcel_tool.proofs.examples.spans_law.Goals as goal

pub returns-clause-some : goal.returns-clause-some
returns-clause-some c = λ plans from to low. (spans_of plans from (to - from), are_spans plans from to (to - from) (omega (arith, low)))

pub returns-clause-differ : goal.returns-clause-differ
returns-clause-differ c = neighbours_differ

pub returns-clause-one : goal.returns-clause-one
returns-clause-one c = one_list
