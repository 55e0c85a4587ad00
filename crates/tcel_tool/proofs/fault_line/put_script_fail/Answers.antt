use Rattle.tcel_tool.proofs.fault_line.put_script_fail.Goals as goal

pub returns-in-BadLine : goal.returns-in-BadLine
returns-in-BadLine g c = rw (c.in-BadLine.is, ← c.from.ensures) c.put_number.ensures

pub returns-in-NoPort : goal.returns-in-NoPort
returns-in-NoPort g c = rw (c.in-NoPort.is, ← c.from-in-NoPort.ensures) c.put_number-in-NoPort.ensures

pub returns-in-PortTwice : goal.returns-in-PortTwice
returns-in-PortTwice g c = rw (c.in-PortTwice.is, ← c.from-in-PortTwice.ensures) c.put_number-in-PortTwice.ensures

pub returns-in-Number : goal.returns-in-Number
returns-in-Number g c = rw (c.in-Number.is, ← c.from-in-Number.ensures) c.put_number-in-Number.ensures
