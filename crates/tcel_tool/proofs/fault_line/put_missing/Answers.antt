use Rattle.tcel_tool.proofs.fault_line.put_missing.Goals as goal

pub returns-in-Event : goal.returns-in-Event
returns-in-Event g c =
    rw (c.in-Event.is, ← c.format.ensures.text, ← c.as_bytes.ensures.value, ← c.format-in-Event.ensures.text, ← c.as_bytes-in-Event.ensures.value) c.put_all.ensures

pub returns-in-First : goal.returns-in-First
returns-in-First g c = rw c.in-First.is c.put_task.ensures

pub returns-in-End : goal.returns-in-End
returns-in-End g c = rw c.in-End.is c.put_task-in-End.ensures
