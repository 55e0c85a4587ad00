use Rattle.tcel_tool.proofs.fault_line.put_limit.Goals as goal

pub returns-in-Bytes : goal.returns-in-Bytes
returns-in-Bytes g c =
    rw (c.in-Bytes.is, ← c.word_at.ensures, ← c.as_bytes.ensures.value, ← c.format.ensures.text, ← c.as_bytes-in-Bytes.ensures.value) c.put_all.ensures
