use Rattle.tcel_parts.proofs.FittingParts.{own_parts_fit}
use Rattle.tcel_parts.proofs.law.own_parts_are_in_scope.Goals as goal

pub returns : goal.returns
returns c = record { law = own_parts_fit }
