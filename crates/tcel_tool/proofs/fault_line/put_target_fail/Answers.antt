use Rattle.tcel_tool.proofs.fault_line.put_target_fail.Goals as goal

pub returns-in-Strange : goal.returns-in-Strange
returns-in-Strange g c = rw (c.in-Strange.is, ← c.bytes.ensures) c.put_all-in-Strange.ensures

pub returns-in-Missing : goal.returns-in-Missing
returns-in-Missing g c = rw (c.in-Missing.is, ← c.text.ensures, ← c.as_bytes.ensures.value) c.put_all-in-Missing.ensures

pub returns-in-Range : goal.returns-in-Range
returns-in-Range g c = rw (c.in-Range.is, ← c.text-in-Range.ensures, ← c.as_bytes-in-Range.ensures.value) c.put_all-in-Range.ensures
