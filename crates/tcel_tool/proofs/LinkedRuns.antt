-- Runs of linked tasks: the machine shows no entry of a frame before its release, so the law of linked traces holds of them.
use Rattle.std.proofs.Common.{◌≡◌, ℕ, zero, suc, ◌+◌, ◌*◌, ◌/◌, ◌<◌, ◌≤◌, nat_lt, true, List, [], ◌∷◌, map, get_or, Option, Some, None, refl, sym, ap, ◌∙◌, subst, arith}
use Rattle.std.specs.Prelude.{option_to_list, slice_index_or}
use Rattle.std.specs.List.{AllByRecursion, AllZip}
use Rattle.std.proofs.lemmas.Bool.{cond_both}
use Rattle.std.proofs.lemmas.Bool.Decides.{nat_tests}
use Rattle.std.proofs.lemmas.Option.{none-some, same_Some}
use Rattle.std.proofs.Math.Nat.{div-mul-le_self, mul-le-mul_right}
use Rattle.tcel_code.specs.Layout.{form_task}
use Rattle.tcel_code.specs.Theorem.{HasStreams}
use Rattle.tcel_core.specs.Language.{Task}
use Rattle.tcel_cost.specs.Forms.{Form, forms_of}
use Rattle.tcel_image.specs.Machine.{Machine, Running, Streams, after, entries, entry_of, is_ready, own_tick, runs, start, tick, tick_from, trace}
use Rattle.tcel_image.specs.declared.image.Image.{Image}
use Rattle.tcel_image.specs.declared.image.ImageTask.{ImageTask}
use Rattle.tcel_link.proofs.Alike.{all_both}
use Rattle.tcel_link.proofs.LinkedTraces.{given_all, linked_traces_meet}
use Rattle.tcel_link.specs.Conditions.{FitsInputs}
use Rattle.tcel_link.specs.Links.{task_at}
use Rattle.tcel_link.specs.Traces.{IsReleased}
use Rattle.tcel_num.specs.Entry.{Entry, What}
use Rattle.tcel_target.specs.declared.costs.Costs.{Costs}
use Rattle.tcel_tool.specs.Headline.{image_for}
use Rattle.tcel_tool.specs.LinkedRuns.{LinkedRunsMeetTheirSource}
use Rattle.tcel_tool.proofs.LinkedStages.{script_fits}
use Rattle.tcel_tool.proofs.Promise.{promise}

-- the period of a task by its number
abbrev period_at : List ImageTask → ℕ → ℕ
period_at [] n = 0
period_at (task ∷ tasks) zero = task.period
period_at (task ∷ tasks) (suc n) = period_at tasks n

-- what an entry of a tick is, where the first of these tasks has this number
record IsOfTick (now number : ℕ) (tasks : List ImageTask) (e : Entry) : Type 0 where
  time : e.time ≡ now + 1
  place : ℕ
  task : e.task ≡ place + number
  released : e.frame * period_at tasks place ≤ now

ready_released : (period now ended : ℕ) → nat_lt ended (now / period + 1) ≡ true → ended * period ≤ now
ready_released period now ended ready =
    let few : ended ≤ now / period = grind (arith, nat_tests) in
    omega (arith, mul-le-mul_right period few, div-mul-le_self now period)

entry_of_tick : (now number : ℕ) (task : ImageTask) (tasks : List ImageTask) (r : Running) (shown : Option What) → is_ready task now r ≡ true → (e : Entry) → entry_of now number r shown ≡ Some e
    → IsOfTick now number (task ∷ tasks) e
entry_of_tick now number task tasks r None ready e h = absurd (none-some e h)
entry_of_tick now number task tasks r (Some what) ready e h =
    let made : Entry = record { time = now + 1; task = number; frame = r.ended; what = what } in
    let is : IsOfTick now number (task ∷ tasks) made = record { time = refl; place = 0; task = omega arith; released = ready_released task.period now r.ended ready } in
    subst (IsOfTick now number (task ∷ tasks)) (same_Some made e h) is

tick_entry : (costs : Costs) (now : ℕ) (tasks : List ImageTask) (streams : Streams) (number : ℕ) (rs : List Running) → (e : Entry)
    → (tick_from costs now tasks streams number rs).entry ≡ Some e → IsOfTick now number tasks e
tick_entry costs now [] streams number rs = λ e h. absurd (none-some e h)
tick_entry costs now (task ∷ tasks) streams number [] = λ e h. absurd (none-some e h)
tick_entry costs now (task ∷ tasks) streams number (r ∷ rs) =
    let o = own_tick costs task (slice_index_or streams number []) now r in
    let others = tick_from costs now tasks streams (number + 1) rs in
    cond_both (is_ready task now r) (runs now number r o rs) (after r others) (λ t. (e : Entry) → t.entry ≡ Some e → IsOfTick now number (task ∷ tasks) e)
    (λ ready e h. entry_of_tick now number task tasks r o.shown ready e h)
    (λ _ e h.
    let g = tick_entry costs now tasks streams (number + 1) rs e h in
    record { time = g.time; place = suc g.place; task = (let k = g.task in omega arith); released = g.released })

-- an entry stands behind its frame's release, and no later than the end
record IsBegun (tasks : List ImageTask) (end : ℕ) (e : Entry) : Type 0 where
  released : e.frame * period_at tasks e.task < e.time
  within : e.time ≤ end

one_begun : (now end : ℕ) (tasks : List ImageTask) (entry : Option Entry) → now < end → ((e : Entry) → entry ≡ Some e → IsOfTick now 0 tasks e)
    → AllByRecursion (IsBegun tasks end) (option_to_list entry)
one_begun now end tasks None early of = tt
one_begun now end tasks (Some e) early of =
    let is = of e refl in
    let here : e.task ≡ is.place = let k = is.task in omega arith in
    let low : e.frame * period_at tasks e.task ≤ now = subst (λ n. e.frame * period_at tasks n ≤ now) (sym here) is.released in
    (record { released = (let t = is.time in omega arith); within = (let t = is.time in omega arith) }, tt)

entries_begun : (image : Image) (streams : Streams) (ticks : ℕ) (machine : Machine) (until : ℕ) → machine.now + ticks ≤ until → AllByRecursion (IsBegun image.tasks until) (entries image streams ticks machine)
entries_begun image streams zero machine until within = tt
entries_begun image streams (suc ticks) machine until within =
    let ticked = tick image streams machine in
    let on : Machine = record { now = machine.now + 1; tasks = ticked.tasks } in
    all_both (IsBegun image.tasks until) (option_to_list ticked.entry) (entries image streams ticks on)
    (one_begun machine.now until image.tasks ticked.entry (omega (arith, within)) (tick_entry image.costs machine.now image.tasks streams 0 machine.tasks))
    (entries_begun image streams ticks on until (omega (arith, within)))

-- the periods of the tasks of an image are those of its forms
form_periods : (forms : List Form) (n : ℕ) → period_at (map form_task forms) n ≡ (task_at (map (λ (form : Form). form.task) forms) n).period
form_periods [] zero = refl
form_periods [] (suc n) = refl
form_periods (form ∷ forms) zero = refl
form_periods (form ∷ forms) (suc n) = form_periods forms n

-- a stream for each input of each task
each_has : (tasks : List Task) (streams : Streams) → FitsInputs tasks streams → AllZip HasStreams tasks streams
each_has [] [] h = tt
each_has [] (s ∷ streams) h = absurd cc
each_has (task ∷ tasks) [] h = absurd cc
each_has (task ∷ tasks) (s ∷ streams) h = (ap (λ ns. get_or ns 0 0) h, each_has tasks streams (ap rest_of h))
  where
    rest_of : List ℕ → List ℕ
    rest_of [] = []
    rest_of (n ∷ ns) = ns

pub linked_runs_meet : LinkedRunsMeetTheirSource
linked_runs_meet call c links streams ticks reads =
    let best = reads.for.best in
    let kept = promise c best in
    let image = image_for c in
    let period : (n : ℕ) → period_at image.tasks n ≡ (task_at c.set n).period =
    λ n. form_periods (forms_of c.sliced c.set c.parts) n ∙ ap (λ (set : List Task). (task_at set n).period) kept.tasks in
    let fits = script_fits c.set (call.read 4) streams reads.streams_in in
    let all = linked_traces_meet c.set links c.plans streams ticks (λ given. trace image given ticks) best.sound fits reads.are
    (λ given theirs. (
      kept.runs given ticks (each_has c.set given theirs),
      given_all (IsBegun image.tasks ticks) (IsReleased c.set ticks) (trace image given ticks)
          (λ e begun. record { released = subst (λ p. e.frame * p < e.time) (period e.task) begun.released; within = begun.within })
          (entries_begun image given ticks (start image) ticks (omega arith)),
    )) in
    record { meets = all.0; explained = all.1 }
