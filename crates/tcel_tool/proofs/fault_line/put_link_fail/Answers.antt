use Rattle.tcel_tool.proofs.fault_line.put_link_fail.Goals as goal

pub returns-in-BadLine : goal.returns-in-BadLine
returns-in-BadLine g c = rw (c.in-BadLine.is, ← c.from.ensures) c.put_number.ensures

pub returns-in-NoOutput : goal.returns-in-NoOutput
returns-in-NoOutput g c = rw (c.in-NoOutput.is, ← c.from-in-NoOutput.ensures) c.put_number-in-NoOutput.ensures

pub returns-in-NoInput : goal.returns-in-NoInput
returns-in-NoInput g c = rw (c.in-NoInput.is, ← c.from-in-NoInput.ensures) c.put_number-in-NoInput.ensures

pub returns-in-InputTwice : goal.returns-in-InputTwice
returns-in-InputTwice g c = rw (c.in-InputTwice.is, ← c.from-in-InputTwice.ensures) c.put_number-in-InputTwice.ensures

pub returns-in-InLoop : goal.returns-in-InLoop
returns-in-InLoop g c = rw (c.in-InLoop.is, ← c.from-in-InLoop.ensures) c.put_number-in-InLoop.ensures
