use Rattle.std.proofs.Common.{◌≡◌, ◌-◌}
use Rattle.tcel_image.specs.Reading.{many_at}
use Rattle.tcel_image.proofs.Loops.{with_front}
use Rattle.tcel_image.proofs.reading.many.Given as goal

abbrev pub invariant-loop : goal.invariant-loop
invariant-loop g l = with_front l.items.items (many_at g.T.Piece.read_so (l.count - l.counter) l.rest) ≡ many_at g.T.Piece.read_so l.count l.bytes
