use Rattle.std.proofs.Common.{◌≡◌, ◌∙◌, subst, sym}
use Rattle.tcel_tool.specs.Chosen.{plain_choice}
use Rattle.tcel_tool.specs.RunCommand.{Spells}
use Rattle.tcel_tool.specs.declared.status.Status.TheVariants as statuses
use Rattle.tcel_tool.proofs.ChoiceStages.{at_error}
use Rattle.tcel_tool.proofs.Promise.{promise}
use Rattle.tcel_tool.proofs.Written.{never_refused, same_image}
use Rattle.tcel_tool.proofs.summary.written.Goals as goal

pub returns-in_err-ready-clause-memory : goal.returns-in_err-ready-clause-memory
returns-in_err-ready-clause-memory c =
    let choice = plain_choice c.args.chosen.now in
    let exit = c.from_residual-in_err-ready in
    let given = c.in_err-ready.field-0.0 in
    let bytes_are = c.deref.ensures.value ∙ c.in_ok-bytes.ensures in
    at_error (λ status. status ≡ statuses.NoMemory) exit.result given exit.ensures.1
    (never_refused choice (promise choice c.requires) c.deref.result.now given bytes_are c.in_err-ready.ensures.refusal)

pub returns-clause-image : goal.returns-clause-image
returns-clause-image c =
    let choice = plain_choice c.args.chosen.now in
    let bytes_are = c.deref.ensures.value ∙ c.in_ok-bytes.ensures in
    let spells = subst (λ bytes. Spells bytes c.in_ok-ready.ready) bytes_are c.in_ok-ready.ensures.image.spells in
    sym (same_image choice (promise choice c.requires) c.in_ok-ready.ready spells)
