use Rattle.tcel_tool.proofs.fault_line.put_trace_fail.Goals as goal

pub returns-in-BadTrace : goal.returns-in-BadTrace
returns-in-BadTrace g c = rw (c.in-BadTrace.is, ← c.from.ensures) c.put_number.ensures
