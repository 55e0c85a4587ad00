use Rattle.std.proofs.Common.{arith}
use Rattle.tcel_core.proofs.Scope.{array_within}
use Rattle.tcel_core.proofs.value.+value.Goals as goal

pub element-requires : goal.element-requires
element-requires t c = let within = array_within c.args.layout.now c.in-Index.array in omega (arith, within, c.place-in-Index.ensures, c.width.ensures, c.requires.words)
