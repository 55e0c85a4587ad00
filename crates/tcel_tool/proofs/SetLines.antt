-- The lines of a run's entries are those of its set's tasks.
use Rattle.std.proofs.Common.{◌≡◌, ℕ, zero, suc, ◌<◌, List, [], ◌∷◌, length, map, refl, ap, ◌∙◌, arith, Some}
use Rattle.std.specs.Prelude.{All, slice_get}
use Rattle.std.specs.List.{AllZip}
use Rattle.std.specs.Option.{option_map}
use Rattle.std.proofs.lemmas.List.Elements.{All-head, All-tail}
use Rattle.std.proofs.lemmas.Option.{get_or_from_slice_get, slice_get-map}
use Rattle.tcel_num.specs.Entry.{Entry, What, receive, send, first, end}
use Rattle.tcel_core.specs.Language.{Task}
use Rattle.tcel_target.specs.declared.costs.Costs.{Costs}
use Rattle.tcel_cost.specs.Forms.{Form}
use Rattle.tcel_code.specs.Layout.{form_task, layout}
use Rattle.tcel_trace.specs.declared.trace_line.TraceLine.{TraceLine}
use Rattle.tcel_trace.specs.EntryLines.{line_shown, no_task, task_at, what_shown}
use Rattle.tcel_judge.specs.FirstBreach.{shown_of}
use Rattle.tcel_judge.specs.JudgedTraces.{IsLineOf}

-- an image's task shows what the source's task shows
shown_alike : (form : Form) (what : What) → what_shown (form_task form) what ≡ shown_of form.task what
shown_alike form (receive port value) = refl
shown_alike form (send port value) = refl
shown_alike form first = refl
shown_alike form (end state) = refl

module _ (forms : List Form) (costs : Costs) where
  abbrev pub set : List Task
  set = map (λ (form : Form). form.task) forms

  -- the line of an entry
  abbrev pub line_in : Entry → TraceLine
  line_in e = line_shown (task_at (layout forms costs) e.task) e

  line_is : (e : Entry) (form : Form) → slice_get forms e.task ≡ Some form → IsLineOf set e (line_in e)
  line_is e form there =
      let image_there = slice_get-map form_task forms e.task ∙ ap (option_map form_task) there in
      let is = get_or_from_slice_get (map form_task forms) e.task (form_task form) no_task image_there in
      record {
        task = form.task;
        there = slice_get-map (λ (f : Form). f.task) forms e.task ∙ ap (option_map (λ (f : Form). f.task)) there;
        is = ap (λ t. line_shown t e) is ∙ ap (λ w. let l : TraceLine = record { time = e.time; task = form.task.name; frame = e.frame; what = w } in l) (shown_alike form e.what);
      }

  form_at : (fs : List Form) (n : ℕ) → n < length (map (λ (form : Form). form.task) fs) → (form : Form) × (slice_get fs n ≡ Some form)
  form_at [] n less = absurd (omega (arith, less))
  form_at (form ∷ fs) zero less = (form, refl)
  form_at (form ∷ fs) (suc n) less = form_at fs n (omega (arith, less))

  pub lines_are : (trace : List Entry) → All (λ (e : Entry). e.task < length set) trace → AllZip (IsLineOf set) trace (map line_in trace)
  lines_are [] known = tt
  lines_are (e ∷ trace) known =
      (let found = form_at forms e.task (All-head (λ (x : Entry). x.task < length set) e trace known) in line_is e found.0 found.1, lines_are trace (All-tail (λ (x : Entry). x.task < length set) e trace known))
