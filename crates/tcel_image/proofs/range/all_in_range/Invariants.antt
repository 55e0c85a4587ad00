use Rattle.std.proofs.Common.{take, All}
use Rattle.tcel_image.proofs.range.all_in_range.Given as goal

abbrev pub invariant-loop-item : goal.invariant-loop-item
invariant-loop-item g l = All g.T.Ranged.fits (take l.item-index l.items)
