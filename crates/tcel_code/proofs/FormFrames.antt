-- The frames of a task in a form, on the machine: its first part, the mark, its rest and the end.
use Rattle.std.proofs.Common.{◌≡◌, ℕ, zero, suc, ◌+◌, ◌-◌, ◌*◌, ◌<◌, ◌≤◌, ℤ, pos, List, [], ◌∷◌, ◌++◌, length, get_or, map, drop, refl, sym, ap, ◌∙◌, subst, arith, Some}
use Rattle.std.specs.Prelude.{slice_get, nat_le, take, replicate}
use Rattle.std.specs.List.{flat_map}
use Rattle.std.proofs.Math.ListN.{get_or-map}
use Rattle.std.proofs.lemmas.List.{append_assoc, length-append, length-map, length-replicate, map-append, replicate-append-replicate, take-append-le}
use Rattle.std.proofs.lemmas.Option.{same_Some, none-some}
use Rattle.tcel_num.specs.Entry.{end as end_entry}
use Rattle.tcel_num.specs.Plan.{Plan, PointName}
use Rattle.tcel_core.specs.declared.var.Var.{Var}
use Rattle.tcel_core.specs.Cells.{all_words}
use Rattle.tcel_core.specs.Contents.{loops}
use Rattle.tcel_core.specs.Frames.{state_words, state_of, declared_state, start_cells, start_of}
use Rattle.tcel_core.specs.Language.{Task}
use Rattle.tcel_core.specs.Meaning.{exec}
use Rattle.tcel_core.specs.Outcome.{EnclosingBlock, Memory, Occurrence, Outcome}
use Rattle.tcel_core.specs.Promises.{behavior_of, event_promise, first_promise, end_promise, frame_promises}
use Rattle.tcel_core.specs.Windows.{event_of, latest}
use Rattle.tcel_core.proofs.Bodies.{block_words, block_remains}
use Rattle.tcel_core.proofs.Remain.{Remain, takes}
use Rattle.tcel_core.proofs.StateWords.{length-declared_state, length-start_cells, length-state_of, states_within}
use Rattle.tcel_parts.specs.SliceLaw.{DoTheSame}
use Rattle.tcel_target.specs.declared.costs.Costs.{Costs}
use Rattle.tcel_target.specs.declared.costs.CostKey.TheVariants as keys
use Rattle.tcel_target.specs.Costs.{CostsInRange}
use Rattle.tcel_image.specs.declared.image.ImageState.{ImageState}
use Rattle.tcel_image.specs.declared.image.ImageTask.{ImageTask}
use Rattle.tcel_image.specs.declared.image.Instr.TheVariants.{Mark, End}
use Rattle.tcel_image.specs.declared.image.Line.{Line}
use Rattle.tcel_image.specs.Machine.{Running, effect, start_task}
use Rattle.tcel_image.specs.Spelling.{state_words as image_words}
use Rattle.tcel_cost.specs.Forms.{Form}
use Rattle.tcel_cost.specs.Plans.{IsPlan}
use Rattle.tcel_cost.proofs.BoundEvents.{AreBound, IsBound, block_bound, bound_latest, each_point}
use Rattle.tcel_code.specs.Domination.{AreBoundBy, HasPointBy, events_of}
use Rattle.tcel_cost.proofs.RunWalks.{RunWalks, run_walk}
use Rattle.tcel_cost.proofs.SteadyWalks.{AreUpTo}
use Rattle.tcel_code.specs.Code.{at, block_code}
use Rattle.tcel_code.specs.Counters.{Counters, counters_of}
use Rattle.tcel_code.specs.Layout.{form_task, states_of}
use Rattle.tcel_code.specs.PartsFit.{PartsFit}
use Rattle.tcel_code.proofs.Ahead.{Due, Ahead, IsAt, after_ticks, after_cycles, ahead_off, begins, has_started, makes_last, showing}
use Rattle.tcel_code.proofs.BodyRuns.{block_runs}
use Rattle.tcel_code.proofs.Counters.{HaveCounters, part_counters}
use Rattle.tcel_code.proofs.Dues.{AllSuit}
use Rattle.tcel_code.proofs.ExprRuns.{Stands, stands_front, stands_back, stands_all}
use Rattle.tcel_code.proofs.Progress.{Frames, IsDue, promise_of}
use Rattle.tcel_code.proofs.Runs.{From, Runs}
use Rattle.tcel_code.proofs.StateWords.{states_first, states_words}
use Rattle.tcel_code.proofs.Steps.{Setting, AheadAt, ready_at, show_step}

-- ---- dues

-- the entry of an event of a frame, due by a count
abbrev pub due_of : ℕ → ℕ → ℕ → ℕ → Occurrence → Due
due_of frame release deadline count e = record { by = count; promise = event_promise frame release (event_of deadline e) }

-- the entries of events, each due by its count
abbrev pub dues_of : ℕ → ℕ → ℕ → List ℕ → List Occurrence → List Due
dues_of frame release deadline (c ∷ counts) (e ∷ events) = due_of frame release deadline c e ∷ dues_of frame release deadline counts events
dues_of frame release deadline _ _ = []

dues_suit : (frame release deadline : ℕ) (counts : List ℕ) (events : List Occurrence) → length counts ≡ length events →
    AllSuit release 0 counts events (dues_of frame release deadline counts events)
dues_suit frame release deadline [] [] h = tt
dues_suit frame release deadline [] (e ∷ events) h = absurd (omega arith)
dues_suit frame release deadline (c ∷ counts) [] h = absurd (omega arith)
dues_suit frame release deadline (c ∷ counts) (e ∷ events) h =
    (record { shows = refl; soon = omega arith; early = omega arith }, dues_suit frame release deadline counts events (omega arith))

-- what holds of each due
abbrev pub EachDue : (Due → Type 0) → List Due → Type 0
EachDue P [] = Unit {0}
EachDue P (due ∷ dues) = P due × EachDue P dues

pub each_at : (P : Due → Type 0) (dues : List Due) → EachDue P dues → (k : ℕ) (due : Due) → slice_get dues k ≡ Some due → P due
each_at P [] each k due e = absurd (none-some due e)
each_at P (d ∷ dues) each zero due e = subst P (same_Some d due e) each.0
each_at P (d ∷ dues) each (suc k) due e = each_at P dues each.1 k due e

each-append : (P : Due → Type 0) (a b : List Due) → EachDue P a → EachDue P b → EachDue P (a ++ b)
each-append P [] b h g = g
each-append P (due ∷ a) b h g = (h.0, each-append P a b h.1 g)

length-dues : (frame release deadline : ℕ) (counts : List ℕ) (events : List Occurrence) → length counts ≡ length events → length (dues_of frame release deadline counts events) ≡ length events
length-dues frame release deadline [] [] h = refl
length-dues frame release deadline [] (e ∷ events) h = absurd (omega arith)
length-dues frame release deadline (c ∷ counts) [] h = absurd (omega arith)
length-dues frame release deadline (c ∷ counts) (e ∷ events) h = let rest = length-dues frame release deadline counts events (omega arith) in omega arith

-- what stands behind dues
behind_dues : (before : List Due) (due : Due) (after : List Due) → slice_get (before ++ due ∷ after) (length before) ≡ Some due
behind_dues [] due after = refl
behind_dues (d ∷ before) due after = behind_dues before due after

promises-dues : (frame release deadline : ℕ) (counts : List ℕ) (events : List Occurrence) → length counts ≡ length events →
    map promise_of (dues_of frame release deadline counts events) ≡ map (event_promise frame release) (map (event_of deadline) events)
promises-dues frame release deadline [] [] h = refl
promises-dues frame release deadline [] (e ∷ events) h = absurd (omega arith)
promises-dues frame release deadline (c ∷ counts) [] h = absurd (omega arith)
promises-dues frame release deadline (c ∷ counts) (e ∷ events) h = ap (λ l. event_promise frame release (event_of deadline e) ∷ l) (promises-dues frame release deadline counts events (omega arith))

-- a task is served so many cycles of its frame f, and all of those before, so long after the frame's release
abbrev pub Reaches : (total period f : ℕ) (service : ℕ → ℕ) → ℕ → ℕ → Type 0
Reaches total period f service count bound = f * total + count ≤ service (f * period + bound)

-- each event is due by its count, which is reached by its latest time where it is by the deadline and by the bounds of the blocks around the event
pub events_due : (Timed : Type 0) (total period deadline f last : ℕ) (service : ℕ → ℕ) → last ≤ total → (Timed → Reaches total period f service last deadline) →
    (counts : List ℕ) (events : List Occurrence) → AreUpTo last counts → (Timed → AreBound (λ name. Reaches total period f service) events counts) →
    EachDue (IsDue Timed total period service f) (dues_of f (f * period) deadline counts events)
events_due Timed total period deadline f last service within reached [] events upto bound = tt
events_due Timed total period deadline f last service within reached (c ∷ counts) [] upto bound = tt
events_due Timed total period deadline f last service within reached (c ∷ counts) (e ∷ events) upto bound =
    let soon = upto.0 in
    let due : IsDue Timed total period service f (due_of f (f * period) deadline c e) = record {
      of_frame = refl;
      within = omega arith;
      reached =
          λ timed l is.
          let at_last = reached timed in
          let by_deadline : Reaches total period f service c deadline = omega arith in
          let by_latest = bound_latest (Reaches total period f service) c deadline e.around by_deadline (bound timed).0 in
          subst (λ n. f * total + c ≤ service n) (same_Some (f * period + latest deadline e.around) l is) by_latest;
    } in
    (due, events_due Timed total period deadline f last service within reached counts events upto.1 (λ timed. (bound timed).1))

-- without an event there is no due
quiet_suit : (release floor : ℕ) (counts : List ℕ) (events : List Occurrence) → length counts ≡ length events → events ≡ [] → AllSuit release floor counts events []
quiet_suit release floor [] [] each none = tt
quiet_suit release floor [] (e ∷ events) each none = absurd cc
quiet_suit release floor (c ∷ counts) [] each none = absurd (omega arith)
quiet_suit release floor (c ∷ counts) (e ∷ events) each none = absurd cc

-- ---- with what a frame starts

-- the state before a frame
abbrev pub state_before : Task → List (List ℤ) → ℕ → List ℤ
state_before t streams zero = declared_state t.vars
state_before t streams (suc f) = state_of t.vars (exec t.body t.vars (start_of t streams f)).memory.cells

starts_with : (t : Task) (streams : List (List ℤ)) (f : ℕ) → start_of t streams f ≡ record { cells = start_cells t.vars (state_before t streams f); inputs = (start_of t streams f).inputs }
starts_with t streams zero = refl
starts_with t streams (suc f) = refl

-- the words of the parts' variables, and the inputs
abbrev pub begins_with : Form → List (List ℤ) → ℕ → Memory
begins_with form streams f = record { cells = start_cells form.parts.vars (state_before form.task streams f); inputs = (start_of form.task streams f).inputs }

-- ---- a task in a form

module _ (Timed : Type 0) (costs : Costs) (ranges : CostsInRange costs) (form : Form) (fits : PartsFit form) (plan : Plan) (is : IsPlan form costs plan) (service : ℕ → ℕ) (streams : List (List ℤ)) (long : length streams ≡ length form.task.inputs)
    (mark_in_time : Timed → (f : ℕ) → f * plan.total + (is.first + costs.mark) ≤ service (f * form.task.period + form.task.deadline))
    (events_in_time : (f end : ℕ) (counts : List ℕ) → RunWalks form.parts.first form.parts.vars costs (begins_with form streams f) costs.dispatch end counts →
    EachDue (IsDue Timed plan.total form.task.period service f)
    (dues_of f (f * form.task.period) form.task.deadline counts (exec form.parts.first form.parts.vars (begins_with form streams f)).events)) where
  abbrev t : Task
  t = form.task

  abbrev vars : List Var
  vars = form.parts.vars

  abbrev pub task : ImageTask
  task = form_task form

  -- what a frame's source does, and what its parts do
  abbrev source : ℕ → Outcome
  source f = exec t.body t.vars (start_of t streams f)

  abbrev from : ℕ → Memory
  from f = begins_with form streams f

  abbrev first : ℕ → Outcome
  first f = exec form.parts.first vars (from f)

  abbrev rest : ℕ → Outcome
  rest f = exec form.parts.rest vars (first f).memory

  -- ---- words

  words_of : (f : ℕ) → length (state_before t streams f) ≡ state_words t.vars → length (from f).cells ≡ all_words vars
  words_of f is_long = length-start_cells vars (state_before t streams f) (is_long ∙ sym fits.states)

  words_after : (f : ℕ) → length (state_before t streams f) ≡ state_words t.vars → length (rest f).memory.cells ≡ all_words vars
  words_after f is_long = block_words form.parts.rest vars fits.rest (first f).memory (block_words form.parts.first vars fits.first (from f) (words_of f is_long))

  -- the parts do what the body does
  means_so : (f : ℕ) → length (state_before t streams f) ≡ state_words t.vars → DoTheSame t.vars vars (source f) (first f) (rest f)
  means_so f is_long =
      subst (λ m. DoTheSame t.vars vars (exec t.body t.vars m) (first f) (rest f)) (sym (starts_with t streams f))
      (fits.mean (state_before t streams f) (start_of t streams f).inputs is_long)

  state_long : (f : ℕ) → length (state_before t streams f) ≡ state_words t.vars
  state_long zero = length-declared_state t.vars
  state_long (suc f) =
      let before = state_long f in
      ap length (sym (means_so f before).states) ∙ length-state_of vars (rest f).memory.cells (words_after f before) ∙ fits.states

  words : (f : ℕ) → length (from f).cells ≡ all_words vars
  words f = words_of f (state_long f)

  words_first : (f : ℕ) → length (first f).memory.cells ≡ all_words vars
  words_first f = block_words form.parts.first vars fits.first (from f) (words f)

  means : (f : ℕ) → DoTheSame t.vars vars (source f) (first f) (rest f)
  means f = means_so f (state_long f)

  -- ---- inputs

  -- what the inputs have given before a frame
  abbrev taken : ℕ → List ℕ
  taken zero = map (λ _. 0) t.inputs
  taken (suc f) = takes (first f).events (taken f)

  remain : (f : ℕ) → Remain streams (from f).inputs (taken f)
  remain zero = record {
    counts = length-map t.inputs (λ _. 0) ∙ sym long;
    lists = refl;
    each = λ port. ap (λ n. drop n (get_or streams port [])) (sym (get_or-map (λ (name : List ℕ). 0) t.inputs port []));
  }
  remain (suc f) =
      let after_first = block_remains form.parts.first vars fits.first streams (from f) (taken f) (remain f) in
      subst (λ inputs. Remain streams inputs (taken (suc f))) (means f).inputs
      (subst (λ es. Remain streams (rest f).memory.inputs (takes es (taken (suc f)))) (means f).silent
      (block_remains form.parts.rest vars fits.rest streams (first f).memory (taken (suc f)) after_first))

  remain_first : (f : ℕ) → Remain streams (first f).memory.inputs (taken (suc f))
  remain_first f = block_remains form.parts.first vars fits.first streams (from f) (taken f) (remain f)

  -- ---- code

  -- the words of the loops' counters
  abbrev counters : List ℤ
  counters = replicate (loops t.body) (pos 0)

  -- a frame behind the ticks of its start
  abbrev started : ℕ → Running
  started f = ready_at costs 0 [] ((from f).cells ++ counters) f (taken f)

  abbrev start : ℕ → Running
  start f = after_ticks 0 (started f)

  abbrev their : Counters
  their = counters_of t.body vars

  abbrev first_code : List Line
  first_code = block_code form.parts.first vars 0 their

  abbrev rest_at : ℕ
  rest_at = length first_code + 1

  abbrev rest_code : List Line
  rest_code = block_code form.parts.rest vars rest_at their

  abbrev last_code : List Line
  last_code = at 0 Mark ++ (rest_code ++ at 0 End)

  stands : Stands task.code 0 (first_code ++ last_code)
  stands = stands_all (first_code ++ last_code) []

  behind : Stands task.code (0 + length first_code) last_code
  behind = stands_back task.code 0 first_code last_code stands

  rest_stands : Stands task.code rest_at (rest_code ++ at 0 End)
  rest_stands = let there : 0 + length first_code + 1 ≡ rest_at = omega arith in subst (λ k. Stands task.code k (rest_code ++ at 0 End)) there behind.1

  -- with what a frame runs
  abbrev setting : ℕ → Setting
  setting f = record { costs = costs; ranges = ranges; task = task; inputs = streams; last = start (suc f); vars = vars; frame = f; stack = [] }

  -- its parts on the machine
  runs : (f : ℕ) → Runs (setting f) (RunWalks form.parts.first vars costs (from f)) first_code (first f) 0 0 costs.dispatch 0 (from f).cells counters (taken f)
  runs f =
      let room = subst (HaveCounters form.parts.first vars their 0) (sym (length-replicate (loops t.body) (pos 0))) (part_counters t.body form.parts.first vars fits.first_counters) in
      block_runs (setting f) form.parts.first fits.first (from f) 0 0 costs.dispatch 0 their counters (taken f) (record { words = words f; remain = remain f }) room (stands_front task.code 0 first_code last_code stands)

  many : (f : ℕ) → length (runs f).left ≡ loops t.body
  many f = (runs f).as_many ∙ length-replicate (loops t.body) (pos 0)

  rest_runs : (f : ℕ) → Runs (setting f) (RunWalks form.parts.rest vars costs (first f).memory) rest_code (rest f) 0 rest_at 0 0 (first f).memory.cells (runs f).left (taken (suc f))
  rest_runs f =
      let room = subst (HaveCounters form.parts.rest vars their 0) (sym (many f)) (part_counters t.body form.parts.rest vars fits.rest_counters) in
      block_runs (setting f) form.parts.rest fits.rest (first f).memory 0 rest_at 0 0 their (runs f).left (taken (suc f)) (record { words = words_first f; remain = remain_first f }) room
      (stands_front task.code rest_at rest_code (at 0 End) rest_stands)

  -- ---- dues

  abbrev mark_due : ℕ → Due
  mark_due f = record { by = (runs f).end + costs.mark; promise = first_promise f (f * t.period) t.deadline }

  -- the end, by the ticks behind the mark
  abbrev last_due : ℕ → Due
  last_due f = record { by = (rest_runs f).end + costs.end; promise = end_promise f (state_of t.vars (source f).memory.cells) }

  abbrev end_due : ℕ → Due
  end_due f = record { by = (rest_runs f).end + costs.end + ((runs f).end + costs.mark); promise = end_promise f (state_of t.vars (source f).memory.cells) }

  abbrev event_dues : ℕ → List Due
  event_dues f = dues_of f (f * t.period) t.deadline (runs f).counts (first f).events

  abbrev dues : ℕ → List Due
  dues f = event_dues f ++ (mark_due f ∷ end_due f ∷ [])

  -- ---- the end of a frame

  abbrev cells_after : ℕ → List ℤ
  cells_after f = (rest f).memory.cells ++ (rest_runs f).left

  same_words : image_words task.states ≡ state_words vars
  same_words = states_words t.vars ∙ sym fits.states

  end_states : (f : ℕ) → take (image_words task.states) (cells_after f) ≡ state_of t.vars (source f).memory.cells
  end_states f =
      let within = states_within vars in
      let is_long = words_after f (state_long f) in
      ap (λ w. take w (cells_after f)) same_words ∙ take-append-le (state_words vars) (rest f).memory.cells (rest_runs f).left (omega arith) ∙ (means f).states

  -- the states at the end, and 0 elsewhere
  end_cells : (f : ℕ) → take (image_words task.states) (cells_after f) ++ replicate (length (cells_after f) - image_words task.states) (pos 0) ≡ (from (suc f)).cells ++ counters
  end_cells f =
      let state = state_of t.vars (source f).memory.cells in
      let is_long = words_after f (state_long f) in
      let as_many = (rest_runs f).as_many ∙ many f in
      let within = states_within vars in
      let same = same_words in
      let behind : length (cells_after f) - image_words task.states ≡ (all_words vars - state_words vars) + loops t.body = omega (arith, length-append (rest f).memory.cells (rest_runs f).left) in
      ap (λ l. l ++ replicate (length (cells_after f) - image_words task.states) (pos 0)) (end_states f)
      ∙ ap (λ n. state ++ replicate n (pos 0)) behind
      ∙ ap (λ l. state ++ l) (sym (replicate-append-replicate (all_words vars - state_words vars) (loops t.body) (pos 0)))
      ∙ sym (append_assoc state (replicate (all_words vars - state_words vars) (pos 0)) counters)

  -- the last instruction leaves the start of the next frame
  frame_ends : (f p spent : ℕ) →
      effect (image_words task.states) streams End (after_cycles spent (ready_at costs p [] (cells_after f) f (taken (suc f)))) ≡ showing (end_entry (state_of t.vars (source f).memory.cells)) (start (suc f))
  frame_ends f p spent =
      let next_frame : f + 1 ≡ suc f = omega arith in
      ap (λ s. showing (end_entry s) (after_ticks 0 (ready_at costs 0 [] (take (image_words task.states) (cells_after f) ++ replicate (length (cells_after f) - image_words task.states) (pos 0)) (f + 1) (taken (suc f))))) (end_states f)
      ∙ ap (λ l. showing (end_entry (state_of t.vars (source f).memory.cells)) (after_ticks 0 (ready_at costs 0 [] l (f + 1) (taken (suc f))))) (end_cells f)
      ∙ ap (λ e. showing (end_entry (state_of t.vars (source f).memory.cells)) (after_ticks 0 (ready_at costs 0 [] ((from (suc f)).cells ++ counters) e (taken (suc f))))) next_frame

  -- behind the mark: the rest, from no ticks run, and the end
  rest_ahead : (f since : ℕ) → f * t.period ≤ since → AheadAt (setting f) 0 since rest_at [] ((first f).memory.cells ++ (runs f).left) (taken (suc f)) (last_due f ∷ [])
  rest_ahead f since waited =
      let p : ℕ = rest_at + length rest_code in
      let here = (stands_back task.code rest_at rest_code (at 0 End) rest_stands).0 in
      let r = ready_at costs p [] (cells_after f) f (taken (suc f)) in
      let more : ℕ = costs.end - 1 in
      let some : 0 < costs.end = (ranges keys.End).0 in
      let n : costs.end ≡ suc more = omega arith in
      let is_at : IsAt costs task End more r = record { started = has_started costs; depth = 0; here = here; lasts = λ now spent. ap (λ k. nat_le k (spent + 1)) n } in
      (rest_runs f).ahead [] (last_due f ∷ []) (quiet_suit (f * t.period) 0 (rest_runs f).counts (rest f).events (rest_runs f).each (means f).silent)
      (subst (λ es. From (setting f) (rest_runs f).end 0 (last_due f ∷ []) p (rest f).memory.cells (rest_runs f).left (takes es (taken (suc f)))) (sym (means f).silent)
      (λ ran since' h waited' low. makes_last costs task streams End more r is_at (start (suc f)) (last_due f) ran since' (frame_ends f p more) (omega arith) (omega arith)))
      0 since (omega arith) (omega arith) (omega arith)

  ahead : (f : ℕ) → Ahead costs task streams (start (suc f)) 0 (f * t.period) (start f) (dues f)
  ahead f =
      let cells = (first f).memory.cells ++ (runs f).left in
      let p : ℕ = 0 + length first_code in
      let on : rest_at ≡ p + 1 = omega arith in
      begins costs task streams (started f) (start (suc f)) (dues f) (f * t.period)
      ((runs f).ahead (event_dues f) (mark_due f ∷ end_due f ∷ []) (dues_suit f (f * t.period) t.deadline (runs f).counts (first f).events (runs f).each)
      (λ ran since h waited low.
      show_step (setting f) Mark 0 (λ now r. refl) (ranges keys.Mark).0 p (p + 1) ran since [] [] cells cells (taken (suc f)) (taken (suc f))
      (mark_due f) (end_due f ∷ []) behind.0 (λ spent. refl) (omega arith) (omega arith)
      (subst (λ k. AheadAt (setting f) (ran + costs.mark) (since + costs.mark) k [] cells (taken (suc f)) (end_due f ∷ [])) on
      (ahead_off (rest_ahead f (since + costs.mark) (omega arith)) ((runs f).end + costs.mark) (ran + costs.mark) (omega arith))))
      costs.dispatch (f * t.period + costs.dispatch) (omega arith) (omega arith) (omega arith))

  -- ---- the frames

  made : (f : ℕ) → map promise_of (dues f) ≡ frame_promises (behavior_of t streams) f
  made f =
      let last = first_promise f (f * t.period) t.deadline ∷ end_promise f (state_of t.vars (source f).memory.cells) ∷ [] in
      map-append promise_of (event_dues f) (mark_due f ∷ end_due f ∷ [])
      ∙ ap (λ l. l ++ last) (promises-dues f (f * t.period) t.deadline (runs f).counts (first f).events (runs f).each)
      ∙ ap (λ (es : List Occurrence). map (event_promise f (f * t.period)) (map (event_of t.deadline) es) ++ last) (means f).events

  longest_first : (f : ℕ) → (runs f).end ≤ is.first
  longest_first f = is.first_total.greatest (runs f).end ((runs f).counts, run_walk form.parts.first vars costs (from f) costs.dispatch (runs f).end (runs f).counts (runs f).walk)

  each : (f : ℕ) → EachDue (IsDue Timed plan.total t.period service f) (dues f)
  each f =
      let P : Due → Type 0 = IsDue Timed plan.total t.period service f in
      let longest = longest_first f in
      let longest_rest : (rest_runs f).end ≤ is.rest =
      is.rest_total.greatest (rest_runs f).end ((rest_runs f).counts, run_walk form.parts.rest vars costs (first f).memory 0 (rest_runs f).end (rest_runs f).counts (rest_runs f).walk) in
      let total = is.total in
      let mark : P (mark_due f) = record {
        of_frame = refl;
        within = omega arith;
        reached = λ timed l when_is. let soon = mark_in_time timed f in let when = same_Some (f * t.period + t.deadline) l when_is in subst (λ n. f * plan.total + ((runs f).end + costs.mark) ≤ service n) when (omega arith);
      } in
      let end : P (end_due f) = record { of_frame = refl; within = omega arith; reached = λ timed l when_is. absurd (none-some l when_is) } in
      each-append P (event_dues f) (mark_due f ∷ end_due f ∷ []) (events_in_time f (runs f).end (runs f).counts (runs f).walk) (mark, (end, tt))

  -- the mark stands behind the events
  mark_at : (f : ℕ) → slice_get (dues f) (length ((behavior_of t streams).frames f).events) ≡ Some (mark_due f)
  mark_at f =
      let as_many = length-map (source f).events (event_of t.deadline) ∙ sym (length-dues f (f * t.period) t.deadline (runs f).counts (first f).events (runs f).each ∙ ap length (means f).events) in
      ap (slice_get (dues f)) as_many ∙ behind_dues (event_dues f) (mark_due f) (end_due f ∷ [])

  -- its frames on the machine
  pub form_frames : Frames Timed costs task streams (behavior_of t streams) plan.total service
  form_frames = record {
    start = start;
    dues = dues;
    frame = λ f. refl;
    ahead = ahead;
    made = made;
    each = λ f. each_at (IsDue Timed plan.total t.period service f) (dues f) (each f);
    mark = is.first + costs.mark;
    marks = λ f. (mark_due f, mark_at f, (let h = longest_first f in omega arith));
  }

  -- each has its mark by the prefix of the frame's point
  pub form_mark : form_frames.mark ≡ is.first + costs.mark
  unfolding form_frames
  form_mark = refl

  -- ---- the points that bind its events

  abbrev Named : PointName → ℕ → ℕ → Type 0
  Named name count bound = HasPointBy plan.points (λ prefix. count ≤ prefix) name bound

  named : (f : ℕ) → AreBound Named (first f).events (runs f).counts
  named f =
      block_bound Named
      (λ name count later bound le h. record { number = h.number; point = h.point; there = h.there; named = h.named; bounded = h.bounded; so = let soon = h.so in omega arith })
      form.parts.first vars fits.first fits.untimed costs (from f) costs.dispatch costs.dispatch (runs f).end (runs f).counts is.windows (omega arith) is.in_text
      (each_point Named is.windows (λ k point e. record { number = suc k; point = point; there = ap (λ l. slice_get l (suc k)) is.points ∙ e; named = refl; bounded = refl; so = omega arith })) (runs f).walk

  as_bound : (count : ℕ) (around : List EnclosingBlock) → IsBound Named count around → AreBoundBy plan.points (λ prefix. count ≤ prefix) around
  as_bound count [] bound = tt
  as_bound count (b ∷ around) bound = (bound.0, bound.1, as_bound count around bound.2)

  due_at : (f : ℕ) (counts : List ℕ) (events : List Occurrence) → AreBound Named events counts → (k : ℕ) (e : Occurrence) → slice_get events k ≡ Some e →
      (due : Due) × (slice_get (dues_of f (f * t.period) t.deadline counts events ++ (mark_due f ∷ end_due f ∷ [])) k ≡ Some due) × AreBoundBy plan.points (λ prefix. due.by ≤ prefix) e.around
  due_at f counts [] bound k e here = absurd (none-some e here)
  due_at f [] (x ∷ events) bound k e here = absurd bound
  due_at f (c ∷ counts) (x ∷ events) bound zero e here =
      (due_of f (f * t.period) t.deadline c x, refl, subst (λ (y : Occurrence). AreBoundBy plan.points (λ prefix. c ≤ prefix) y.around) (same_Some x e here) (as_bound c x.around bound.0))
  due_at f (c ∷ counts) (x ∷ events) bound (suc k) e here = due_at f counts events bound.1 k e here

  pub form_binds : (f k : ℕ) (e : Occurrence) → slice_get (events_of t streams f) k ≡ Some e → (due : Due) × (slice_get (form_frames.dues f) k ≡ Some due) × AreBoundBy plan.points (λ prefix. due.by ≤ prefix) e.around
  unfolding form_frames
  form_binds f k e here = due_at f (runs f).counts (first f).events (named f) k e (ap (λ l. slice_get l k) (means f).events ∙ here)

  -- the first of them starts as the machine does
  pub form_first : form_frames.start 0 ≡ start_task task
  unfolding form_frames
  form_first =
      let states = flat_map (λ (s : ImageState). s.first) (states_of t.vars) in
      let declared = states_first t.vars in
      let as_many = ap length declared ∙ length-declared_state t.vars ∙ sym fits.states in
      let within = states_within vars in
      let zeros : (all_words vars - state_words vars) + loops t.body ≡ all_words vars + loops t.body - length states = omega arith in
      ap (λ cells. after_ticks 0 (ready_at costs 0 [] cells 0 (map (λ _. 0) t.inputs)))
      (append_assoc (declared_state t.vars) (replicate (all_words vars - state_words vars) (pos 0)) counters
      ∙ ap (λ l. declared_state t.vars ++ l) (replicate-append-replicate (all_words vars - state_words vars) (loops t.body) (pos 0))
      ∙ ap (λ l. l ++ replicate ((all_words vars - state_words vars) + loops t.body) (pos 0)) (sym declared)
      ∙ ap (λ n. states ++ replicate n (pos 0)) zeros)
