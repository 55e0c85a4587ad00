use Rattle.tcel_io.specs.InTurn.{AreCutOff-fault, AreTaken-faults, AreTaken-whole, ArePut-prefix, ArePut-puts, ArePut-reach}
use Rattle.tcel_io.proofs.laws.pieces_laws.Goals as goal

pub returns : goal.returns
returns c = record {
  whole = AreTaken-whole;
  no_fault = AreTaken-faults;
  fault = AreCutOff-fault;
  prefix = ArePut-prefix;
  reach = ArePut-reach;
  puts = ArePut-puts;
}
