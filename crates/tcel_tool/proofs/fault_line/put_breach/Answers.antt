use Rattle.tcel_tool.proofs.fault_line.put_breach.Goals as goal

pub returns-in-Order : goal.returns-in-Order
returns-in-Order g c = rw c.in-Order.is c.put_number.ensures

pub returns-in-Unknown : goal.returns-in-Unknown
returns-in-Unknown g c = rw c.in-Unknown.is c.put_number-in-Unknown.ensures

pub returns-in-Entry : goal.returns-in-Entry
returns-in-Entry g c = rw c.in-Entry.is c.put_number-in-Entry.ensures

pub returns-in-Early : goal.returns-in-Early
returns-in-Early g c = rw c.in-Early.is c.put_number-in-Early.ensures

pub returns-in-Overdue : goal.returns-in-Overdue
returns-in-Overdue g c = rw c.in-Overdue.is c.put_number-in-Overdue.ensures

pub returns-in-Missing : goal.returns-in-Missing
returns-in-Missing g c = rw c.in-Missing.is c.put_missing.ensures
