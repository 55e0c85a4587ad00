use Rattle.tcel_busy.proofs.Rooms.{IsRoomOf}
use Rattle.tcel_busy.proofs.lateness.room_of.Given as goal

abbrev pub invariant-loop-point : goal.invariant-loop-point
invariant-loop-point l = IsRoomOf l.points l.total l.point-index l.room
