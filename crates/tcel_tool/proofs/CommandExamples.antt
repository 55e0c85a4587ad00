-- Worked command lines, computed.
use Rattle.std.proofs.Common.{◌≡◌, zero, suc, false, [], ◌∷◌, Contains, ap, arith, refl, sym}
use Rattle.std.specs.Prelude.{codes}
use Rattle.std.specs.List.{concat}
use Rattle.std.specs.Fmt.{digits}
use Rattle.tcel_check.specs.Examples.{at}
use Rattle.tcel_check.specs.Marks.{limit, precedes}
use Rattle.tcel_check.specs.declared.fail.LimitKind.TheVariants.{Tasks}
use Rattle.tcel_check.specs.declared.mark.Mark.{Mark}
use Rattle.tcel_tool.specs.CheckCommand.{RefusesTasks}
use Rattle.tcel_tool.specs.CommandExamples.{again, check_line, compile_line, format_line, late_point, linked_line, long_hyper, make_line, many_cells, many_tasks, mean_line, same_priority, seventeen, sixteen, too_deep, too_many_frames, too_many_made, unexpected}
use Rattle.tcel_tool.specs.FaultLine.{fault_pieces}
use Rattle.tcel_tool.specs.declared.status.Status.{Status}

pub unexpected_line : concat (fault_pieces format_line unexpected []) ≡ codes "program 1:38: unexpected token\n"
unfolding digits
unexpected_line = refl

pub again_line : concat (fault_pieces (linked_line (codes "40")) again []) ≡ codes "links 2: input twice\n"
unfolding digits
again_line = refl

pub deep_line : concat (fault_pieces format_line too_deep []) ≡ codes "limit: operators above 64 at 12:304\n"
unfolding digits
deep_line = refl

pub fault_line : concat (fault_pieces check_line same_priority []) ≡ codes "program 2:17: same priority\n"
unfolding digits
fault_line = refl

pub frames_line : concat (fault_pieces (mean_line (codes "10001")) too_many_frames []) ≡ codes "limit: mean frames 10001 above 10000\n"
unfolding digits
frames_line = refl

pub made_line : concat (fault_pieces (make_line (codes "17")) too_many_made []) ≡ codes "limit: made tasks 17 above 16\n"
unfolding digits
made_line = refl

pub limit_line : concat (fault_pieces check_line many_tasks []) ≡ codes "limit: tasks above 16 at 1:116\n"
unfolding digits
limit_line = refl

pub late_line : concat (fault_pieces compile_line late_point (codes "lo")) ≡ codes "rejected: late task lo frame 1 point within 3 response 70 bound 69\n"
unfolding digits
late_line = refl

pub cells_line : concat (fault_pieces compile_line many_cells (codes "t")) ≡ codes "limit: cells 72001 above 65536 in task t\n"
unfolding digits
cells_line = refl

pub long_line : concat (fault_pieces compile_line long_hyper (codes "b")) ≡ codes "limit: hyperperiod above 1000000000000 at task b\n"
unfolding digits
long_line = refl

abbrev first : Mark
first = limit Tasks (at 116)

alone : (other : Mark) → Contains (first ∷ []) other → precedes other first ≡ false
alone other (zero, within, is) = ap (λ (m : Mark). precedes m first) (sym is)
alone other (suc i, within, is) = absurd (omega (arith, within))

pub seventeen-refused : RefusesTasks seventeen many_tasks
seventeen-refused = (first, refl, ((0, omega arith, refl), alone))

pub sixteen-free : (status : Status) → RefusesTasks sixteen status → ⊥
sixteen-free status (mark, is, (there, earliest)) = omega (arith, there.1)
