use Rattle.tcel_trace.proofs.TraceTexts.{read_once, read_or_bad, bad_once}
use Rattle.tcel_trace.proofs.EntryLines.{entries_read}
use Rattle.tcel_trace.proofs.laws.trace_laws.Goals as goal

pub returns-clause-once : goal.returns-clause-once
returns-clause-once c = λ lines other bytes h k. read_once lines other bytes h k

pub returns-clause-apart : goal.returns-clause-apart
returns-clause-apart c = λ lines bytes number h k. read_or_bad lines bytes number h k

pub returns-clause-first : goal.returns-clause-first
returns-clause-first c = λ bytes number other h k. bad_once bytes number other h k

pub returns-clause-entries : goal.returns-clause-entries
returns-clause-entries c = λ image entries ranged each. entries_read image entries ranged each
