use Rattle.tcel_token.proofs.OneReading.{one_list, one_fault, no_both}
use Rattle.tcel_token.proofs.Rising.{well_formed, writable}
use Rattle.tcel_token.proofs.laws.token_laws.Goals as goal

pub returns-clause-one_list : goal.returns-clause-one_list
returns-clause-one_list c = one_list

pub returns-clause-one_fault : goal.returns-clause-one_fault
returns-clause-one_fault c = one_fault

pub returns-clause-no_both : goal.returns-clause-no_both
returns-clause-no_both c = no_both

pub returns-clause-well_formed : goal.returns-clause-well_formed
returns-clause-well_formed c = well_formed

pub returns-clause-writable : goal.returns-clause-writable
returns-clause-writable c = writable
