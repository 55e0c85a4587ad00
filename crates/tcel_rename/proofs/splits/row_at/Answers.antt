use Rattle.std.proofs.Common.{sym, ◌∙◌, arith}
use Rattle.tcel_rename.proofs.FindingSplits.{none_stands}
use Rattle.tcel_rename.proofs.splits.row_at.Goals as goal

pub returns-else-at-rows : goal.returns-else-at-rows
returns-else-at-rows c = λ v small. c.empty.ensures v ∙ sym (none_stands c.args.rows.now c.args.id v (omega arith))
