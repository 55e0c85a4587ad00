use Rattle.tcel_make.proofs.Worked.{program_written, script_written}
use Rattle.tcel_make.proofs.examples.text_examples.Goals as goal

pub returns-clause-program : goal.returns-clause-program
returns-clause-program c = program_written

pub returns-clause-script : goal.returns-clause-script
returns-clause-script c = script_written
