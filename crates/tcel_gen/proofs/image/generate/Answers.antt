use Rattle.std.proofs.Common.{◌≤◌, List, length, map, sym, ap, ◌∙◌, subst}
use Rattle.tcel_core.specs.declared.set.CoreTask.{CoreTask}
use Rattle.tcel_core.specs.Parts.{plain_parts}
use Rattle.tcel_core.specs.Plain.{plain_set, plain_task}
use Rattle.tcel_image.specs.declared.image.Image.{Image}
use Rattle.tcel_image.specs.declared.image.ImageTask.{ImageTask}
use Rattle.tcel_image.specs.Spelling.{InRange, spelling}
use Rattle.tcel_image.specs.Validity.{IsValid}
use Rattle.tcel_cost.specs.Forms.{forms_of}
use Rattle.tcel_code.specs.Layout.{form_task}
use Rattle.tcel_gen.proofs.GeneratedImages.{images_ready, images_small, keep_abreast, runs_meet}
use Rattle.tcel_gen.proofs.image.generate.Goals as goal

pub returns-in_err-tasks-clause-law : goal.returns-in_err-tasks-clause-law
returns-in_err-tasks-clause-law c =
    runs_meet c.args.sliced (plain_set c.args.set.now) (map plain_parts c.args.parts.now) c.args.costs.now c.requires.sound c.requires.own c.requires.costs

pub returns-in_err-tasks-clause-abreast : goal.returns-in_err-tasks-clause-abreast
returns-in_err-tasks-clause-abreast c =
    keep_abreast c.args.sliced (plain_set c.args.set.now) (map plain_parts c.args.parts.now) c.args.costs.now c.requires.sound c.requires.own c.requires.costs

pub new-requires-clause-range : goal.new-requires-clause-range
new-requires-clause-range c =
    let parts = map plain_parts c.args.parts.now in
    let is = c.in_ok-tasks.ensures ∙ ap (λ (l : List CoreTask). map form_task (forms_of c.args.sliced (map plain_task l) parts)) c.as_slice.ensures in
    subst (λ (ts : List ImageTask). InRange (record { costs = c.args.costs.now; tasks = ts })) (sym is)
    (images_ready c.args.sliced (plain_set c.args.set.now) parts c.args.costs.now c.requires.sound c.requires.own c.requires.costs).0

pub new-requires-clause-valid : goal.new-requires-clause-valid
new-requires-clause-valid c =
    let parts = map plain_parts c.args.parts.now in
    let is = c.in_ok-tasks.ensures ∙ ap (λ (l : List CoreTask). map form_task (forms_of c.args.sliced (map plain_task l) parts)) c.as_slice.ensures in
    subst (λ (ts : List ImageTask). IsValid (record { costs = c.args.costs.now; tasks = ts })) (sym is)
    (images_ready c.args.sliced (plain_set c.args.set.now) parts c.args.costs.now c.requires.sound c.requires.own c.requires.costs).1

pub returns-clause-small : goal.returns-clause-small
returns-clause-small c =
    let parts = map plain_parts c.args.parts.now in
    let is = c.in_ok-tasks.ensures ∙ ap (λ (l : List CoreTask). map form_task (forms_of c.args.sliced (map plain_task l) parts)) c.as_slice.ensures in
    subst (λ (i : Image). length (spelling i) ≤ 16777216) (sym (c.new.ensures ∙ ap (λ (ts : List ImageTask). record { costs = c.args.costs.now; tasks = ts }) is))
    (images_small c.args.sliced (plain_set c.args.set.now) parts c.args.costs.now c.requires.sound c.requires.own).1

pub returns-clause-law : goal.returns-clause-law
returns-clause-law c =
    runs_meet c.args.sliced (plain_set c.args.set.now) (map plain_parts c.args.parts.now) c.args.costs.now c.requires.sound c.requires.own c.requires.costs

pub returns-clause-abreast : goal.returns-clause-abreast
returns-clause-abreast c =
    keep_abreast c.args.sliced (plain_set c.args.set.now) (map plain_parts c.args.parts.now) c.args.costs.now c.requires.sound c.requires.own c.requires.costs
