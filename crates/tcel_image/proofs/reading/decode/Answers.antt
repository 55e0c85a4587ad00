use Rattle.std.proofs.Common.{subst, ap, ◌∙◌, arith}
use Rattle.tcel_image.specs.Reading.{Answers, reading}
use Rattle.tcel_image.proofs.Whole.{is_found, reading_again}
use Rattle.tcel_image.proofs.reading.decode.Goals as goal

pub returns-clause-found : goal.returns-clause-found
returns-clause-found c = is_found c.args.bytes.now c.answer.result (λ i. omega (arith, c.type_inv.bytes i)) c.answer.ensures

pub returns-clause-only : goal.returns-clause-only
returns-clause-only c = λ i h e. subst (λ r. Answers c.answer.result r) (ap reading e ∙ reading_again i h) c.answer.ensures
