-- The image of a choice keeps its promise, by the laws of the crates below.
use Rattle.std.proofs.Common.{◌≡◌, ℕ, ◌≤◌, Bool, true, false, List, [], ◌∷◌, length, map, refl, sym, ap, ◌∙◌, subst}
use Rattle.std.specs.List.{AllZip}
use Rattle.tcel_code.specs.Theorem.{HasStreams}
use Rattle.tcel_core.specs.Language.{Task}
use Rattle.tcel_core.specs.Meets.{Meets}
use Rattle.tcel_core.specs.Parts.{AreOwnParts, TaskParts}
use Rattle.tcel_cost.specs.Forms.{Form, form_of, forms_of}
use Rattle.tcel_gen.proofs.GeneratedImages.{images_ready, images_small, runs_meet}
use Rattle.tcel_image.specs.Machine.{trace}
use Rattle.tcel_tool.specs.CompileCommand.{image_bytes}
use Rattle.tcel_tool.specs.Headline.{CompiledProgramsMeetTheirSource, image_for}
use Rattle.tcel_tool.specs.SetChoice.{Choice, IsBest}

own_task : (task : Task) (sliced : Bool) (own : TaskParts) → (form_of task sliced own).task ≡ task
own_task task true own = refl
own_task task false own = refl

-- the forms of a set are those of its tasks
forms_tasks : (sliced : ℕ) (tasks : List Task) (parts : List TaskParts) → AllZip AreOwnParts tasks parts → map (λ (form : Form). form.task) (forms_of sliced tasks parts) ≡ tasks
forms_tasks sliced [] parts h = refl
forms_tasks sliced (task ∷ tasks) [] h = absurd h
forms_tasks sliced (task ∷ tasks) (own ∷ parts) h =
    ap (λ (t : Task). t ∷ map (λ (form : Form). form.task) (forms_of sliced tasks parts)) (own_task task _ own)
    ∙ ap (λ (ts : List Task). task ∷ ts) (forms_tasks sliced tasks parts h.1)

pub bytes_most : (c : Choice) → IsBest c → length (image_bytes c) ≤ 16777216
bytes_most c best = (images_small c.sliced c.set c.parts c.costs best.sound best.chosen.forms.split).1

pub promise : CompiledProgramsMeetTheirSource
promise c best =
    let chosen = best.chosen in
    let split = chosen.forms.split in
    let ready = images_ready c.sliced c.set c.parts c.costs best.sound split best.costs in
    let tasks = forms_tasks c.sliced c.set c.parts split in
    let in_time = chosen.in_time in
    let runs = runs_meet c.sliced c.set c.parts c.costs best.sound split best.costs c.plans in_time.hyper chosen.are in_time.period in_time.room in_time.never in
    record {
      tasks = tasks;
      spelled = ready.0;
      valid = ready.1;
      runs = λ streams ticks have.
          subst (λ (set : List Task). Meets set c.plans streams ticks (trace (image_for c) streams ticks)) tasks
          (runs streams ticks (subst (λ (set : List Task). AllZip HasStreams set streams) (sym tasks) have));
    }
