-- The entries of every run of a valid image in range are ones that a trace's text can show.
use Rattle.std.proofs.Common.{◌≡◌, ℕ, zero, suc, ◌+◌, ◌^◌, ◌<◌, ◌≤◌, ℤ, pos, false, List, [], ◌∷◌, length, map, get_or, refl, sym, ap, ◌∙◌, subst, arith, Option, None, Some}
use Rattle.std.specs.Prelude.{All, FitsSigned, IfSome, slice_get, slice_index, slice_index_or, option_to_list, nat_lt}
use Rattle.std.specs.Int.{w64}
use Rattle.std.specs.List.{flat_map}
use Rattle.std.proofs.Math.Nat.{div-le_self}
use Rattle.std.proofs.lemmas.Bool.{cond_both, leb-false, ltb-true}
use Rattle.std.proofs.lemmas.List.{length-take}
use Rattle.std.proofs.lemmas.List.Elements.{All-append, All-cons, All-head, All-nil, All-replicate, All-tail, All-take}
use Rattle.std.proofs.lemmas.Option.{same_Some, get_or_from_slice_get, slice_get_within}
use Rattle.tcel_num.specs.Entry.{Entry, What}
use Rattle.tcel_target.specs.declared.costs.Costs.{Costs}
use Rattle.tcel_image.specs.declared.image.Image.{Image}
use Rattle.tcel_image.specs.declared.image.ImageTask.{ImageTask}
use Rattle.tcel_image.specs.declared.image.ImageState.{ImageState}
use Rattle.tcel_image.specs.declared.image.Instr.{Instr}
use Rattle.tcel_image.specs.declared.image.Instr.TheVariants.{Const, Get, Put, GetAt, PutAt, Arith, Jump, Branch, Loop, Receive, Send, Hold, Copy, Mark, End}
use Rattle.tcel_image.specs.declared.image.Line.{Line}
use Rattle.tcel_image.specs.Machine.{Streams, Running, Outcome, after, cycle_of, cycle, dispatch, effect, entries, entry_of, is_last_cycle, is_ready, own_tick, runs, spend, start_task, Ticked, tick, tick_from, top, trace}
use Rattle.tcel_image.specs.Spelling.{InRange, InstrInRange, StateInRange, TaskInRange, state_words}
use Rattle.tcel_image.specs.Validity.{IsValid, has_bad_port}
use Rattle.tcel_machine.specs.Defaults.{machine_after}
use Rattle.tcel_machine.specs.Runs.{AreSound, IsTaskValid}
use Rattle.tcel_machine.proofs.Defaults.{no_default}
use Rattle.tcel_machine.proofs.Shapes.{fine}
use Rattle.tcel_machine.proofs.Sound.{sound}
use Rattle.tcel_trace.specs.EntryLines.{IsOf, WhatIsOf, no_task, task_at}
use Rattle.tcel_tool.proofs.ValueRanges.{WordsFit, zero_fits, word_fits, top_fits, below_fits, push_fits, set_fits, applied_fits, element_fits, with_element_fits, copied_fits, wrapped_fits}

-- ---- one task

-- its words are of 64 bits
pub record RunFits (r : Running) : Type 0 where
  pub cells : WordsFit r.cells
  pub stack : WordsFit r.stack

-- so are those that an outcome leaves, and what it shows is of the task
pub record OutcomeFits (task : ImageTask) (o : Outcome) : Type 0 where
  pub left : RunFits o.task
  pub shown : IfSome o.shown (WhatIsOf task)

-- the values of the inputs are of 64 bits
abbrev pub InputsFit : List (List ℤ) → Type 0
InputsFit inputs = (port k : ℕ) → FitsSigned w64 (slice_index_or (slice_index_or inputs port []) k (pos 0))

quietly : (task : ImageTask) (r : Running) (place : ℕ) (stack cells : List ℤ) → WordsFit stack → WordsFit cells →
    OutcomeFits task (record { task = record r { cells = cells; stack = stack; place = place; spent = 0 }; shown = None })
quietly task r place stack cells s c = record { left = record { cells = c; stack = s }; shown = tt }

module _ (task : ImageTask) (inputs : List (List ℤ)) (values : InputsFit inputs) (r : Running) (fits : RunFits r) (states : state_words task.states ≤ length r.cells) where
  abbrev words : ℕ
  words = state_words task.states

  effect_fits : (instr : Instr) → InstrInRange instr → has_bad_port task instr ≡ false → OutcomeFits task (effect words inputs instr r)
  effect_fits (Const value) range port = quietly task r (r.place + 1) _ _ (push_fits value r.stack range fits.stack) fits.cells
  effect_fits (Get cell) range port = quietly task r (r.place + 1) _ _ (push_fits _ r.stack (word_fits r.cells cell fits.cells) fits.stack) fits.cells
  effect_fits (Put cell) range port =
      quietly task r (r.place + 1) _ _ (below_fits r.stack fits.stack) (set_fits r.cells cell (top r.stack) (top_fits r.stack fits.stack) fits.cells)
  effect_fits (GetAt from size) range port =
      quietly task r (r.place + 1) _ _ (push_fits _ _ (element_fits r.cells from size (top r.stack) fits.cells) (below_fits r.stack fits.stack)) fits.cells
  effect_fits (PutAt from size) range port =
      let under = below_fits r.stack fits.stack in
      quietly task r (r.place + 1) _ _ (below_fits _ under) (with_element_fits r.cells from size _ (top r.stack) (top_fits r.stack fits.stack) fits.cells)
  effect_fits (Arith op) range port = quietly task r (r.place + 1) _ _ (applied_fits op r.stack fits.stack) fits.cells
  effect_fits (Jump target) range port = quietly task r target _ _ fits.stack fits.cells
  effect_fits (Branch target) range port = quietly task r _ _ _ (below_fits r.stack fits.stack) fits.cells
  effect_fits (Loop cell turns target) range port = quietly task r _ _ _ fits.stack (set_fits r.cells cell _ (wrapped_fits _) fits.cells)
  effect_fits (Receive port cell) range bad =
      let value = values port (slice_index r.taken port) in
      record { left = record { cells = set_fits r.cells cell _ value fits.cells; stack = fits.stack }; shown = (leb-false _ _ bad, value) }
  effect_fits (Send port) range bad =
      record { left = record { cells = fits.cells; stack = below_fits r.stack fits.stack }; shown = (leb-false _ _ bad, top_fits r.stack fits.stack) }
  effect_fits (Hold bound) range port = quietly task r (r.place + 1) _ _ fits.stack fits.cells
  effect_fits (Copy from to size) range port = quietly task r (r.place + 1) _ _ fits.stack (copied_fits r.cells from to size fits.cells)
  effect_fits Mark range port = record { left = record { cells = fits.cells; stack = fits.stack }; shown = tt }
  effect_fits End range port =
      let state = All-take (FitsSigned w64) words r.cells fits.cells in
      record {
        left = record { cells = All-append (FitsSigned w64) _ _ state (All-replicate (FitsSigned w64) _ (pos 0) zero_fits); stack = fits.stack };
        shown = (state, omega (arith, length-take words r.cells));
      }

  module _ (costs : Costs) (range : TaskInRange task) (valid : IsTaskValid task) (now : ℕ) where
    line_fits : (found : Option Line) → found ≡ slice_get task.code r.place → OutcomeFits task (cycle_of costs task inputs now found r)
    line_fits None there = record { left = record { cells = fits.cells; stack = fits.stack }; shown = tt }
    line_fits (Some line) there =
        cond_both (is_last_cycle costs task.period now line.instr r) (effect words inputs line.instr r) (spend r) (OutcomeFits task)
        (λ _. effect_fits line.instr (line_range line (sym there)) (fine task valid r.place line (sym there)).port)
        (λ _. record { left = record { cells = fits.cells; stack = fits.stack }; shown = tt })
      where
        line_range : (l : Line) → slice_get task.code r.place ≡ Some l → InstrInRange l.instr
        line_range l e =
            subst (λ (m : Line). InstrInRange m.instr) (get_or_from_slice_get task.code r.place l l e) (range.code.each r.place l (slice_get_within task.code r.place l e)).instr

    own_fits : OutcomeFits task (own_tick costs task inputs now r)
    own_fits =
        cond_both (nat_lt r.dispatched costs.dispatch) (dispatch r) (cycle costs task inputs now r) (OutcomeFits task)
        (λ _. record { left = record { cells = fits.cells; stack = fits.stack }; shown = tt }) (λ _. line_fits (slice_get task.code r.place) refl)

-- ---- all tasks

abbrev AllFit : List Running → Type 0
AllFit rs = (k : ℕ) (r : Running) → slice_get rs k ≡ Some r → RunFits r

-- the states of each task have their cells
abbrev HaveStates : List ImageTask → List Running → Type 0
HaveStates tasks rs = (k : ℕ) (task : ImageTask) (r : Running) → slice_get tasks k ≡ Some task → slice_get rs k ≡ Some r → state_words task.states ≤ length r.cells

-- the values of all streams are of 64 bits
abbrev pub StreamsFit : Streams → Type 0
StreamsFit streams = (n : ℕ) → InputsFit (slice_index_or streams n [])

-- an entry of a tick of one of these tasks, which are numbered from this number
record IsFrom (tasks : List ImageTask) (now n : ℕ) (e : Entry) : Type 0 where
  time : e.time ≡ now + 1
  frame : e.frame ≤ now
  place : ℕ
  task : e.task ≡ n + place
  within : place < length tasks
  what : WhatIsOf (get_or tasks place no_task) e.what

record TickFits (tasks : List ImageTask) (now n : ℕ) (t : Ticked) : Type 0 where
  left : AllFit t.tasks
  shown : IfSome t.entry (IsFrom tasks now n)

shows : (task : ImageTask) (tasks : List ImageTask) (now n : ℕ) (r : Running) (o : Option What) → r.ended ≤ now → IfSome o (WhatIsOf task) → IfSome (entry_of now n r o) (IsFrom (task ∷ tasks) now n)
shows task tasks now n r None ended is = tt
shows task tasks now n r (Some what) ended is =
    record { time = refl; frame = ended; place = 0; task = omega arith; within = omega arith; what = is }

behind : (task : ImageTask) (tasks : List ImageTask) (now n : ℕ) (o : Option Entry) → IfSome o (IsFrom tasks now (n + 1)) → IfSome o (IsFrom (task ∷ tasks) now n)
behind task tasks now n None is = tt
behind task tasks now n (Some e) is =
    record { time = is.time; frame = is.frame; place = suc is.place; task = omega (arith, is.task); within = omega (arith, is.within); what = is.what }

with_first : (r : Running) (rs : List Running) → RunFits r → AllFit rs → AllFit (r ∷ rs)
with_first r rs fits rest zero x e = subst RunFits (same_Some r x e) fits
with_first r rs fits rest (suc k) x e = rest k x e

tick_fits : (costs : Costs) (streams : Streams) (now n : ℕ) (tasks : List ImageTask) (rs : List Running) → StreamsFit streams → AreSound tasks → HaveStates tasks rs → AllFit rs →
    TickFits tasks now n (tick_from costs now tasks streams n rs)
tick_fits costs streams now n [] rs values sound states fits = record { left = fits; shown = tt }
tick_fits costs streams now n (task ∷ tasks) [] values sound states fits = record { left = fits; shown = tt }
tick_fits costs streams now n (task ∷ tasks) (r ∷ rs) values sound states fits =
    let inputs = slice_index_or streams n [] in
    let own = sound 0 task refl in
    let o = own_fits task inputs (values n) r (fits 0 r refl) (states 0 task r refl refl) costs own.0 own.1 now in
    let others = tick_fits costs streams now (n + 1) tasks rs values (λ k. sound (suc k)) (λ k. states (suc k)) (λ k. fits (suc k)) in
    cond_both (is_ready task now r) (runs now n r (own_tick costs task inputs now r) rs) (after r (tick_from costs now tasks streams (n + 1) rs)) (TickFits (task ∷ tasks) now n)
    (λ ready.
    let less = ltb-true _ _ ready in
    let ended : r.ended ≤ now = omega (arith, less, div-le_self now task.period) in
    record {
      left = with_first (own_tick costs task inputs now r).task rs o.left (λ k. fits (suc k));
      shown = shows task tasks now n r (own_tick costs task inputs now r).shown ended o.shown;
    })
    (λ _. record {
      left = with_first r _ (fits 0 r refl) others.left;
      shown = behind task tasks now n (tick_from costs now tasks streams (n + 1) rs).entry others.shown;
    })

-- ---- a run

first_fit : (states : List ImageState) → All StateInRange states → WordsFit (flat_map (λ (s : ImageState). s.first) states)
first_fit [] range = All-nil (FitsSigned w64)
first_fit (s ∷ states) range =
    All-append (FitsSigned w64) s.first _ (All-head StateInRange s states range).values (first_fit states (All-tail StateInRange s states range))

start_fits : (task : ImageTask) → TaskInRange task → RunFits (start_task task)
start_fits task range = record {
  cells = All-append (FitsSigned w64) _ _ (first_fit task.states range.states.each) (All-replicate (FitsSigned w64) _ (pos 0) zero_fits);
  stack = All-nil (FitsSigned w64);
}

all_start : (tasks : List ImageTask) → AreSound tasks → AllFit (map start_task tasks)
all_start [] sound k r e = absurd cc
all_start (task ∷ tasks) sound zero r e = subst RunFits (same_Some (start_task task) r e) (start_fits task (sound 0 task refl).0)
all_start (task ∷ tasks) sound (suc k) r e = all_start tasks (λ m. sound (suc m)) k r e

module _ (image : Image) (streams : Streams) (range : InRange image) (valid : IsValid image) (values : StreamsFit streams) where
  states_there : (ticks : ℕ) → HaveStates image.tasks (machine_after image streams ticks).tasks
  states_there ticks k task r e f = ((no_default image streams ticks range valid).each k task r e f).states

  ticks_so_far : (ticks : ℕ) → (machine_after image streams ticks).now ≡ ticks
  ticks_so_far zero = refl
  ticks_so_far (suc ticks) = ap (λ n. n + 1) (ticks_so_far ticks) ∙ omega arith

  always_fit : (ticks : ℕ) → AllFit (machine_after image streams ticks).tasks
  always_fit zero = all_start image.tasks (sound image range valid)
  always_fit (suc ticks) =
      let before = machine_after image streams ticks in
      (tick_fits image.costs streams before.now 0 image.tasks before.tasks values (sound image range valid) (states_there ticks) (always_fit ticks)).left

  entry_is : (ticks : ℕ) (o : Option Entry) → ticks + 1 < 2 ^ 64 → IfSome o (IsFrom image.tasks ticks 0) → All (IsOf image) (option_to_list o)
  entry_is ticks None less is = All-nil (IsOf image)
  entry_is ticks (Some e) less is =
      let at : e.task ≡ is.place = omega (arith, is.task) in
      All-cons (IsOf image) e [] (record {
        time = omega (arith, is.time);
        task = omega (arith, at, is.within);
        frame = omega (arith, is.frame);
        what = subst (λ n. WhatIsOf (task_at image n) e.what) (sym at) is.what;
      }) (All-nil (IsOf image))

  entries_are : (more ticks : ℕ) → ticks + more < 2 ^ 64 → All (IsOf image) (entries image streams more (machine_after image streams ticks))
  entries_are zero ticks less = All-nil (IsOf image)
  entries_are (suc more) ticks less =
      let before = machine_after image streams ticks in
      let t = tick_fits image.costs streams before.now 0 image.tasks before.tasks values (sound image range valid) (states_there ticks) (always_fit ticks) in
      let shown = subst (λ n. IfSome (tick image streams before).entry (IsFrom image.tasks n 0)) (ticks_so_far ticks) t.shown in
      All-append (IsOf image) (option_to_list (tick image streams before).entry) _ (entry_is ticks (tick image streams before).entry (omega arith) shown)
      (entries_are more (suc ticks) (omega arith))

  -- so the text of a trace can show them
  pub trace_shown : (ticks : ℕ) → ticks < 2 ^ 64 → All (IsOf image) (trace image streams ticks)
  trace_shown ticks less = entries_are ticks 0 (omega arith)
