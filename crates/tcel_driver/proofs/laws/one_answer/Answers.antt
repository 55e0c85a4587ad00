use Rattle.tcel_driver.proofs.OneAnswer.{given, made, one_choice, one_forms, one_refusal}
use Rattle.tcel_driver.proofs.laws.one_answer.Goals as goal

pub returns-clause-refusals : goal.returns-clause-refusals
returns-clause-refusals c = λ tasks costs a b h g. one_refusal tasks costs a b h g

pub returns-clause-made : goal.returns-clause-made
returns-clause-made c = λ tasks costs sliced plans parts cause choice h. made tasks costs sliced plans parts cause choice h

pub returns-clause-choices : goal.returns-clause-choices
returns-clause-choices c = λ tasks costs k l plans others parts own h g. one_choice tasks costs k l plans others parts own h g

pub returns-clause-given : goal.returns-clause-given
returns-clause-given c = λ tasks costs parts whole sliced hyper cause forms h. given tasks costs parts whole sliced hyper cause forms h

pub returns-clause-forms : goal.returns-clause-forms
returns-clause-forms c = λ tasks costs a b h g. one_forms tasks costs a b h g
