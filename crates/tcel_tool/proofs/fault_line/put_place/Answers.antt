use Rattle.tcel_tool.proofs.fault_line.put_place.Goals as goal

pub returns : goal.returns
returns g c = rw (← c.format.ensures.text, ← c.as_bytes.ensures.value, ← c.format-2.ensures.text, ← c.as_bytes-2.ensures.value) c.put_all.ensures
