-- The task that a refusal of a set tells is one of the set.
use Rattle.std.proofs.Common.{◌≡◌, ℕ, List, Option, arith}
use Rattle.std.proofs.lemmas.Option.{slice_get_within}
use Rattle.std.specs.Prelude.{IfSome}
use Rattle.tcel_core.specs.Language.{Task}
use Rattle.tcel_driver.proofs.Costed.{sliced_long}
use Rattle.tcel_driver.specs.Refusals.{Refuses}
use Rattle.tcel_driver.specs.declared.refused.Refused.{Refused}
use Rattle.tcel_driver.specs.declared.refused.Refused.TheVariants as causes
use Rattle.tcel_target.specs.declared.costs.Costs.{Costs}
use Rattle.tcel_tool.specs.SetChoice.{Names, name_at, status_for, told_task}

pub names_told : (set : List Task) (costs : Costs) (cause : Refused) (name : Option (List ℕ)) → Refuses set costs cause
    → IfSome (told_task (status_for cause)) (λ number. name ≡ name_at set number) → Names set (status_for cause) name
names_told set costs (causes.TooManyCells number needed) name h is = (slice_get_within set number h.task h.there, is)
names_told set costs (causes.TooDear number cycles) name h is = (slice_get_within set number h.task h.there, is)
names_told set costs (causes.HyperTooLong number) name h is = (h.there, is)
names_told set costs (causes.TooManyFrames frames) name h is = tt
names_told set costs (causes.Overload cycles hyper) name h is = tt
names_told set costs (causes.Late late) name h is =
    let forms = h.none.forms in
    let long = sliced_long costs set h.none.parts h.none.whole h.sliced forms.costed in
    let within = slice_get_within h.sliced late.task h.first.plan h.first.responds.of_task in
    (omega (arith, long, within), is)
names_told set costs causes.NoMemory name h is = tt
