use Rattle.std.proofs.Common.{refl}
use Rattle.std.specs.Fmt.{digits}
use Rattle.std.proofs.lemmas.List.Elements.{All-nil}
use Rattle.tcel_trace.specs.TraceForm.{LineFits}
use Rattle.tcel_trace.proofs.ExampleLines.{run_read, word_bad, unended_bad, spaces_bad}
use Rattle.tcel_trace.proofs.examples.trace_examples.Goals as goal

pub returns-clause-run : goal.returns-clause-run
returns-clause-run c = run_read

pub returns-clause-nothing : goal.returns-clause-nothing
returns-clause-nothing c = record { fit = All-nil LineFits; text = refl }

pub returns-clause-forms : goal.returns-clause-forms
unfolding digits
returns-clause-forms c = refl

pub returns-clause-word : goal.returns-clause-word
returns-clause-word c = word_bad

pub returns-clause-unended : goal.returns-clause-unended
returns-clause-unended c = unended_bad

pub returns-clause-spaces : goal.returns-clause-spaces
returns-clause-spaces c = spaces_bad
