-- Lines of breaches and of a faulty trace, computed.
use Rattle.std.proofs.Common.{◌≡◌, [], refl}
use Rattle.std.specs.Fmt.{digits}
use Rattle.std.specs.List.{concat}
use Rattle.std.specs.Prelude.{codes}
use Rattle.tcel_tool.specs.FaultLine.{fault_pieces}
use Rattle.tcel_tool.specs.JudgeExamples.{bad_line, judge_line, missing_end, missing_event, overdue_line}

pub overdue_text : concat (fault_pieces (judge_line (codes "10")) overdue_line []) ≡ codes "trace 1: overdue\n"
unfolding digits
overdue_text = refl

pub event_text : concat (fault_pieces (judge_line (codes "10")) missing_event (codes "t")) ≡ codes "trace: missing event 2 of frame 3 of task t\n"
unfolding digits
event_text = refl

pub end_text : concat (fault_pieces (judge_line (codes "10")) missing_end (codes "t")) ≡ codes "trace: missing end of frame 0 of task t\n"
unfolding digits
end_text = refl

pub bad_text : concat (fault_pieces (judge_line (codes "10")) bad_line []) ≡ codes "trace 1: bad line\n"
unfolding digits
bad_text = refl
