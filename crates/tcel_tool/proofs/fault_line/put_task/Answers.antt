use Rattle.tcel_tool.proofs.fault_line.put_task.Goals as goal

pub returns : goal.returns
returns g c = rw (← c.format.ensures.text, ← c.as_bytes.ensures.value) c.put_all.ensures
