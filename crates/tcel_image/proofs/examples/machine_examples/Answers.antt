use Rattle.tcel_image.proofs.Texts.{busy-trace, echo-text, shifting-text}
use Rattle.tcel_image.proofs.examples.machine_examples.Goals as goal

pub returns-clause-echo_text : goal.returns-clause-echo_text
returns-clause-echo_text c = echo-text

pub returns-clause-shifted : goal.returns-clause-shifted
returns-clause-shifted c = shifting-text

pub returns-clause-busy : goal.returns-clause-busy
returns-clause-busy c = busy-trace
