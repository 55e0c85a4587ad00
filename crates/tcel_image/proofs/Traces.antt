-- Times and tasks of a trace's entries, in any run of the machine.
use Rattle.std.proofs.Common.{◌≡◌, ℕ, zero, suc, ◌+◌, ◌<◌, ◌≤◌, List, [], ◌∷◌, ◌++◌, length, map, refl, sym, subst, arith, Option, Some, None}
use Rattle.std.specs.Prelude.{slice_index, slice_index_or, option_to_list, All}
use Rattle.std.specs.List.Sorted.{IsStrictlyIncreasing}
use Rattle.std.proofs.lemmas.Bool.{cond_both}
use Rattle.std.proofs.lemmas.List.Elements.{All-nil, All-cons, All-append}
use Rattle.std.proofs.lemmas.Option.{same_Some, none-some}
use Rattle.tcel_num.specs.Entry.{Entry, What}
use Rattle.tcel_target.specs.declared.costs.Costs.{Costs}
use Rattle.tcel_image.specs.declared.image.Image.{Image}
use Rattle.tcel_image.specs.declared.image.ImageTask.{ImageTask}
use Rattle.tcel_image.specs.Machine.{Streams, Running, Machine, is_ready, own_tick, entry_of, tick, tick_from, runs, after, entries, start, trace}

-- what every entry of a tick is: of one of the tasks, at the tick's end
record IsOfTick (now n count : ℕ) (e : Entry) : Type 0 where
  time : e.time ≡ now + 1
  task : e.task < n + count

entry_of_tick : (now n count : ℕ) (r : Running) (shown : Option What) → 0 < count → (e : Entry) → entry_of now n r shown ≡ Some e → IsOfTick now n count e
entry_of_tick now n count r None some e h = absurd (none-some e h)
entry_of_tick now n count r (Some what) some e h =
    let made : Entry = record { time = now + 1; task = n; frame = r.ended; what = what } in
    let is : IsOfTick now n count made = record { time = refl; task = omega arith } in
    subst (IsOfTick now n count) (same_Some made e h) is

tick_entry : (costs : Costs) (now : ℕ) (tasks : List ImageTask) (streams : Streams) (n : ℕ) (rs : List Running) → (e : Entry) → (tick_from costs now tasks streams n rs).entry ≡ Some e → IsOfTick now n (length tasks) e
tick_entry costs now [] streams n rs = λ e h. absurd (none-some e h)
tick_entry costs now (task ∷ tasks) streams n [] = λ e h. absurd (none-some e h)
tick_entry costs now (task ∷ tasks) streams n (r ∷ rs) =
    let o = own_tick costs task (slice_index_or streams n []) now r in
    let others = tick_from costs now tasks streams (n + 1) rs in
    cond_both (is_ready task now r) (runs now n r o rs) (after r others) (λ t. (e : Entry) → t.entry ≡ Some e → IsOfTick now n (suc (length tasks)) e)
    (λ _ e h. entry_of_tick now n (suc (length tasks)) r o.shown (omega arith) e h)
    (λ _ e h. let g = tick_entry costs now tasks streams (n + 1) rs e h in record { time = g.time; task = let k = g.task in omega arith })

-- times rise from one that was
abbrev Rise : ℕ → List Entry → Type 0
Rise now [] = Unit {0}
Rise now (e ∷ es) = (now < e.time) × Rise e.time es

rise_from : (now later : ℕ) (es : List Entry) → now ≤ later → Rise later es → Rise now es
rise_from now later [] h rise = tt
rise_from now later (e ∷ es) h rise = (let g = rise.0 in omega arith, rise.1)

rise_one : (now : ℕ) (entry : Option Entry) (es : List Entry) → ((e : Entry) → entry ≡ Some e → e.time ≡ now + 1) → Rise (now + 1) es → Rise now (option_to_list entry ++ es)
rise_one now None es of rise = rise_from now (now + 1) es (omega arith) rise
rise_one now (Some e) es of rise = let at = of e refl in (omega arith, subst (λ n. Rise n es) (sym at) rise)

increasing : (now : ℕ) (es : List Entry) → Rise now es → IsStrictlyIncreasing (map (λ (e : Entry). e.time) es)
increasing now [] rise k h = absurd (omega arith)
increasing now (e ∷ []) rise k h = absurd (omega arith)
increasing now (e ∷ (f ∷ es)) rise zero h = rise.1.0
increasing now (e ∷ (f ∷ es)) rise (suc k) h =
    let times = map (λ (x : Entry). x.time) (f ∷ es) in
    let on : suc (k + 1) ≡ suc k + 1 = omega arith in
    subst (λ n. slice_index times k < slice_index (e.time ∷ times) n) on (increasing e.time (f ∷ es) rise.1 k (omega arith))

entries_rise : (image : Image) (streams : Streams) (ticks : ℕ) (machine : Machine) → Rise machine.now (entries image streams ticks machine)
entries_rise image streams zero machine = tt
entries_rise image streams (suc ticks) machine =
    let ticked = tick image streams machine in
    rise_one machine.now ticked.entry (entries image streams ticks (record { now = machine.now + 1; tasks = ticked.tasks }))
    (λ e h. (tick_entry image.costs machine.now image.tasks streams 0 machine.tasks e h).time)
    (entries_rise image streams ticks (record { now = machine.now + 1; tasks = ticked.tasks }))

known_one : (count : ℕ) (entry : Option Entry) → ((e : Entry) → entry ≡ Some e → e.task < count) → All (λ (e : Entry). e.task < count) (option_to_list entry)
known_one count None h = All-nil (λ (e : Entry). e.task < count)
known_one count (Some e) h = All-cons (λ (e : Entry). e.task < count) e [] (h e refl) (All-nil (λ (e : Entry). e.task < count))

entries_known : (image : Image) (streams : Streams) (ticks : ℕ) (machine : Machine) → All (λ (e : Entry). e.task < length image.tasks) (entries image streams ticks machine)
entries_known image streams zero machine = All-nil (λ (e : Entry). e.task < length image.tasks)
entries_known image streams (suc ticks) machine =
    let ticked = tick image streams machine in
    let on : Machine = record { now = machine.now + 1; tasks = ticked.tasks } in
    All-append (λ (e : Entry). e.task < length image.tasks) (option_to_list ticked.entry) (entries image streams ticks on)
    (known_one (length image.tasks) ticked.entry (λ e h. let g = (tick_entry image.costs machine.now image.tasks streams 0 machine.tasks e h).task in omega arith))
    (entries_known image streams ticks on)

-- times rise strictly along a trace
pub trace_rises : (image : Image) (streams : Streams) (ticks : ℕ) → IsStrictlyIncreasing (map (λ (e : Entry). e.time) (trace image streams ticks))
trace_rises image streams ticks = increasing 0 (trace image streams ticks) (entries_rise image streams ticks (start image))

-- each entry is of one of the image's tasks
pub trace_known : (image : Image) (streams : Streams) (ticks : ℕ) → All (λ (e : Entry). e.task < length image.tasks) (trace image streams ticks)
trace_known image streams ticks = entries_known image streams ticks (start image)
