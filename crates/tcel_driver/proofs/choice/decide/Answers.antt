use Rattle.std.proofs.Common.{◌≡◌, map, sym, subst}
use Rattle.tcel_core.specs.Parts.{plain_parts}
use Rattle.tcel_core.specs.Plain.{plain_set}
use Rattle.tcel_driver.specs.Choice.{IsChosen}
use Rattle.tcel_driver.specs.Refusals.{Refuses}
use Rattle.tcel_driver.specs.Steps.{HaveFault, IsLeast}
use Rattle.tcel_driver.specs.declared.choice.Choice.{Choice}
use Rattle.tcel_driver.proofs.Chosen.{chosen, rejected}
use Rattle.tcel_driver.proofs.Results.{err_then, ok_then}
use Rattle.tcel_driver.proofs.choice.decide.Goals as goal

pub returns-clause-chosen : goal.returns-clause-chosen
returns-clause-chosen c =
    let forms = c.in_ok-forms.forms in
    let set = plain_set c.args.set.now in
    let costs = c.args.costs.now in
    ok_then c.choose.result (λ (choice : Choice). IsLeast forms.whole forms.sliced forms.hyper choice.sliced choice.plans) (λ (choice : Choice). choice.parts ≡ forms.parts)
    (λ (choice : Choice). IsChosen set costs choice.sliced choice.plans (map plain_parts choice.parts)) c.choose.ensures.least c.choose.ensures.parts
    (λ (choice : Choice) least same. subst (λ parts. IsChosen set costs choice.sliced choice.plans (map plain_parts parts)) (sym same)
    (chosen set costs (map plain_parts forms.parts) forms.whole forms.sliced forms.hyper c.in_ok-forms.ensures.forms choice.sliced choice.plans least))

pub returns-clause-refused : goal.returns-clause-refused
returns-clause-refused c =
    let forms = c.in_ok-forms.forms in
    let set = plain_set c.args.set.now in
    let costs = c.args.costs.now in
    err_then c.choose.result (HaveFault forms.whole forms.sliced forms.hyper) (Refuses set costs) c.choose.ensures.fault
    (rejected set costs (map plain_parts forms.parts) forms.whole forms.sliced forms.hyper c.in_ok-forms.ensures.forms)
