-- Each task of a set is abreast of the demand schedule at every time, whether the set's demand fits or not.
use Rattle.std.proofs.Common.{◌≡◌, ℕ, zero, suc, List, [], ◌∷◌, map, refl, ap, Some}
use Rattle.std.specs.Prelude.{slice_get, slice_index_or}
use Rattle.std.proofs.lemmas.List.Elements.{recursion_from_All}
use Rattle.std.proofs.lemmas.Option.{same_Some, none-some}
use Rattle.tcel_core.specs.Meets.{behaviors_of}
use Rattle.tcel_core.specs.Promises.{behavior_of}
use Rattle.tcel_image.specs.Machine.{Streams}
use Rattle.tcel_cost.specs.Forms.{Form}
use Rattle.tcel_code.specs.Domination.{RunsKeepAbreast}
use Rattle.tcel_code.specs.PartsFit.{PartsFit}
use Rattle.tcel_code.proofs.FormSets.{all_serve, set_abreast, source_of}

-- what a task of a set is to do
behavior_at : (forms : List Form) (streams : Streams) (i : ℕ) (form : Form) → slice_get forms i ≡ Some form → slice_get (behaviors_of (map source_of forms) streams) i ≡ Some (behavior_of form.task (slice_index_or streams i []))
behavior_at [] streams i form e = absurd (none-some form e)
behavior_at (f ∷ forms) [] zero form e = ap (λ (g : Form). Some (behavior_of g.task [])) (same_Some f form e)
behavior_at (f ∷ forms) [] (suc i) form e = behavior_at forms [] i form e
behavior_at (f ∷ forms) (s ∷ streams) zero form e = ap (λ (g : Form). Some (behavior_of g.task s)) (same_Some f form e)
behavior_at (f ∷ forms) (s ∷ streams) (suc i) form e = behavior_at forms streams i form e

pub runs_keep_abreast : RunsKeepAbreast
runs_keep_abreast = λ forms costs plans streams ticks all ranges are long number form plan is_form is_plan.
    set_abreast ⊥ costs ranges plans streams forms (all_serve ⊥ costs ranges plans streams (λ never. absurd never) 0 forms plans streams refl refl (recursion_from_All PartsFit forms all) are long) ticks
    number form (behavior_of form.task (slice_index_or streams number [])) plan is_form (behavior_at forms streams number form is_form) is_plan
