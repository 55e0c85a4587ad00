use Rattle.tcel_tool.proofs.fault_line.put_fault_line.Goals as goal

pub returns-in-Overload : goal.returns-in-Overload
returns-in-Overload g c =
    rw (
      c.in-Overload.is,
      ← c.format.ensures.text,
      ← c.as_bytes.ensures.value,
      ← c.format-in-Overload.ensures.text,
      ← c.as_bytes-in-Overload.ensures.value,
    )
    c.put_all-in-Overload.ensures

pub returns-in-Program : goal.returns-in-Program
returns-in-Program g c = rw c.in-Program.is c.put_program.ensures

pub returns-in-ReadFault : goal.returns-in-ReadFault
returns-in-ReadFault g c = rw (c.in-ReadFault.is, ← c.word_at.ensures, ← c.as_bytes-in-ReadFault.ensures.value) c.put_all-in-ReadFault.ensures
