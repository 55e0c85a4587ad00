-- Over the derived script each frame is the linked one: a linked input finds what the linked frames received.
use Rattle.std.proofs.Common.{◌≡◌, ℕ, zero, suc, ◌+◌, ◌-◌, ◌*◌, ◌==◌, ◌<◌, ◌⊎◌, inl, inr, Bool, true, false, cond, ℤ, List, [], ◌∷◌, ◌++◌, length, get_or, replicate, Option, Some, None, refl, sym, ap, ◌∙◌, subst, ⊎_elim, arith}
use Rattle.std.specs.Prelude.{find, is_some, map, option_map, unwrap_or}
use Rattle.std.proofs.lemmas.Bool.{cases_Bool, cases_order, eqb-false, eqb-true}
use Rattle.std.proofs.lemmas.List.{append-nil, append_assoc}
use Rattle.std.proofs.lemmas.List.Elements.{recursion_from_All}
use Rattle.std.proofs.Math.Nat.{suc-mul, zero-mul}
use Rattle.tcel_core.specs.declared.event.Event.{Event}
use Rattle.tcel_core.specs.Frames.{Frame, frame_of, start_cells, start_of, state_of}
use Rattle.tcel_core.specs.Language.{Task}
use Rattle.tcel_core.specs.Meaning.{exec}
use Rattle.tcel_core.specs.Outcome.{Occurrence}
use Rattle.tcel_core.specs.Windows.{event_of}
use Rattle.tcel_link.specs.declared.link.Link.{Link}
use Rattle.tcel_link.specs.Conditions.{AreLinks, FitsInputs, IsInRange}
use Rattle.tcel_link.specs.Laws.{DerivedFramesAreLinked}
use Rattle.tcel_link.specs.Linked.{Ran, all_replaced, derived, derived_stream, frame_start, frames_before, linked_frame, received, received_in, replaced, resumed, sample, samples}
use Rattle.tcel_link.specs.Links.{feeds, task_at}
use Rattle.tcel_link.specs.Receives.{receives}
use Rattle.tcel_link.proofs.Ends.{as_many}
use Rattle.tcel_link.proofs.History.{all_before, at_time, next_release, none_released, released}
use Rattle.tcel_link.proofs.Leads.{led}
use Rattle.tcel_link.proofs.Replay.{Alongside, first_taken, replays_block}
use Rattle.tcel_link.proofs.Samples.{found_holds, inputs_stay, received_is}
use Rattle.tcel_script.specs.Script.{Streams}

-- ---- streams of which some are replaced

replaced_get : (f : ℕ → Option (List ℤ)) (n i place : ℕ) (xs : List (List ℤ)) → place ≡ i + n → ((i < length xs) ⊎ (f place ≡ None)) → get_or (replaced f n xs) i [] ≡ unwrap_or (f place) (get_or xs i [])
replaced_get f n i place [] is h = ⊎_elim (λ (lt : i < 0). absurd (omega arith)) (λ (none : f place ≡ None). sym (ap (λ o. unwrap_or o []) none)) h
replaced_get f n zero place (x ∷ xs) is h = let here : n ≡ place = omega (arith, is) in ap (λ k. unwrap_or (f k) x) here
replaced_get f n (suc i) place (x ∷ xs) is h =
    replaced_get f (n + 1) i place xs (omega (arith, is)) (⊎_elim (λ (lt : suc i < suc (length xs)). let less : i < length xs = omega arith in inl less) (λ (none : f place ≡ None). inr none) h)

all_replaced_get : (f : ℕ → ℕ → Option (List ℤ)) (n i place : ℕ) (rows : Streams) → place ≡ i + n → get_or (all_replaced f n rows) i [] ≡ replaced (f place) 0 (get_or rows i [])
all_replaced_get f n i place [] is = refl
all_replaced_get f n zero place (row ∷ rows) is = let here : n ≡ place = omega (arith, is) in ap (λ k. replaced (f k) 0 row) here
all_replaced_get f n (suc i) place (row ∷ rows) is = all_replaced_get f (n + 1) i place rows (omega (arith, is))

chosen : {A : Type 0} (o : Option A) (x y : List ℤ) → unwrap_or (option_map (λ (a : A). x) o) y ≡ cond (is_some o) x y
chosen None x y = refl
chosen (Some a) x y = refl

not_chosen : {A : Type 0} (f : A → List ℤ) (o : Option A) (x y : List ℤ) → cond (is_some o) x (unwrap_or (option_map f o) y) ≡ cond (is_some o) x y
not_chosen f None x y = refl
not_chosen f (Some a) x y = refl

received-append : (input : ℕ) (later earlier : List Ran) → received_in input (later ++ earlier) ≡ received_in input earlier ++ received_in input later
received-append input [] earlier = sym (append-nil (received_in input earlier))
received-append input (x ∷ later) earlier =
    ap (λ vs. vs ++ received input x.frame.events) (received-append input later earlier) ∙ append_assoc (received_in input earlier) (received_in input later) (received input x.frame.events)

module _ (tasks : List Task) (links : List Link) (streams : Streams) (ticks number : ℕ) (fits : FitsInputs tasks streams) (are : AreLinks tasks links) (often : 0 < (task_at tasks number).period) where
  abbrev task : Task
  task = task_at tasks number

  abbrev own : List (List ℤ)
  own = get_or streams number []

  abbrev before : ℕ → List Ran
  before time = frames_before tasks links streams time number

  abbrev new : List (List ℤ)
  new = get_or (derived tasks links streams ticks) number []

  -- whether a link leads to an input
  abbrev is_linked : ℕ → Bool
  is_linked i = is_some (find (feeds number i) links)

  -- an input to which a link leads is there
  linked_inside : (i : ℕ) (o : Option Link) → find (feeds number i) links ≡ o → (i < length own) ⊎ (o ≡ None)
  linked_inside i None found = inr refl
  linked_inside i (Some link) found =
      let range = found_holds (IsInRange tasks) (feeds number i) links link (recursion_from_All (IsInRange tasks) links are.in_range) found in
      let leads = led number i link range.1 in
      let inside : number < length tasks = subst (λ n. n < length tasks) leads.0 range.0.to in
      let port : i < length task.inputs = subst (λ n. i < length (task_at tasks n).inputs) leads.0 (subst (λ j. j < length (task_at tasks link.to).inputs) leads.1 range.0.input) in
      let within : i < length own = omega (arith, port, as_many tasks streams number fits inside) in
      inl within

  none_mapped : {B : Type 0} (f : Link → B) (o : Option Link) → o ≡ None → option_map f o ≡ None
  none_mapped f o e = ap (option_map f) e

  inside_or : {B : Type 0} (f : Link → B) (i many : ℕ) → many ≡ length own → (i < many) ⊎ (option_map f (find (feeds number i) links) ≡ None)
  inside_or f i many same =
      ⊎_elim (λ (lt : i < length own). let less : i < many = omega (arith, lt, same) in inl less) (λ (e : find (feeds number i) links ≡ None). inr (none_mapped f (find (feeds number i) links) e))
      (linked_inside i (find (feeds number i) links) refl)

  -- what an input has in the derived script
  new_at : (i : ℕ) → get_or new i [] ≡ cond (is_linked i) (received_in i (before ticks)) (get_or own i [])
  new_at i =
      ap (λ (row : List (List ℤ)). get_or row i []) (all_replaced_get (derived_stream tasks links streams ticks) 0 number number streams (omega arith))
      ∙ replaced_get (derived_stream tasks links streams ticks number) 0 i i own (omega arith) (inside_or (λ (l : Link). received_in i (before ticks)) i (length own) refl)
      ∙ chosen (find (feeds number i) links) (received_in i (before ticks)) (get_or own i [])

  -- what an input to which no link leads has when a frame starts
  start_at : (time i : ℕ) (vs : List ℤ) → cond (is_linked i) vs (get_or (frame_start tasks links streams (frames_before tasks links streams time) time number).inputs i []) ≡ cond (is_linked i) vs (get_or (resumed task own (before time)).inputs i [])
  start_at time i vs =
      let copies : Link → List ℤ = λ (l : Link). replicate (receives task.body i) (sample tasks (frames_before tasks links streams time) time l) in
      ap (λ xs. cond (is_linked i) vs xs) (replaced_get (samples tasks links (frames_before tasks links streams time) time number) 0 i i (resumed task own (before time)).inputs (omega arith)
      (inside_or copies i (length (resumed task own (before time)).inputs) (inputs_stay tasks links streams number time)))
      ∙ not_chosen copies (find (feeds number i) links) vs (get_or (resumed task own (before time)).inputs i [])

  -- ---- frame by frame

  abbrev pub release : ℕ → ℕ
  release f = f * task.period

  pub counts : (f : ℕ) → length (before (release f)) * task.period ≡ release f
  counts zero = let none : release 0 ≡ 0 = zero-mul task.period in ap (λ t. length (before t) * task.period) none ∙ zero-mul task.period ∙ sym none
  counts (suc f) =
      let more : release (suc f) ≡ release f + task.period = suc-mul f task.period in
      ap (λ t. length (before t) * task.period) more ∙ ap (λ (fs : List Ran). length fs * task.period) (next_release tasks links streams number (release f) often (counts f))
      ∙ suc-mul (length (before (release f))) task.period ∙ ap (λ t. t + task.period) (counts f) ∙ sym more

  pub one_more : (f : ℕ) → before (release (suc f)) ≡ at_time tasks links streams number (release f) ∷ before (release f)
  one_more f = ap before (suc-mul f task.period) ∙ next_release tasks links streams number (release f) often (counts f)

  -- a frame over what is left of the derived streams
  record Runs (f : ℕ) (later : List Ran) : Type 0 where
    pub frame : frame_of task new f ≡ (at_time tasks links streams number (release f)).frame
    pub next : Alongside is_linked (λ i. received_in i later) (resumed task own (before (release (suc f)))) (start_of task new (suc f))

  runs : (f : ℕ) (later : List Ran) → Alongside is_linked (λ i. received_in i (later ++ at_time tasks links streams number (release f) ∷ [])) (resumed task own (before (release f))) (start_of task new f) → Runs f later
  runs f later h =
      let time = release f in
      let begins = frame_start tasks links streams (frames_before tasks links streams time) time number in
      let x = at_time tasks links streams number time in
      let o = exec task.body task.vars begins in
      let taken : (i : ℕ) → received_in i (later ++ x ∷ []) ≡ first_taken o (λ j. received_in j later) i =
      λ i. received-append i later (x ∷ []) ∙ ap (λ vs. vs ++ received_in i later) (received_is task.deadline i o.events) in
      let along : Alongside is_linked (first_taken o (λ j. received_in j later)) begins (start_of task new f) =
      record { cells = h.cells; inputs = λ i. h.inputs i ∙ ap (λ vs. cond (is_linked i) vs (get_or (resumed task own (before time)).inputs i [])) (taken i) ∙ sym (start_at time i (first_taken o (λ j. received_in j later) i)) } in
      let same = replays_block task.body task.vars is_linked (λ j. received_in j later) begins (start_of task new f) along in
      let state = ap (λ cells. state_of task.vars cells) same.memory.cells in
      record {
        frame = ap (λ (es : List Occurrence). frame_with (map (event_of task.deadline) es) (state_of task.vars (exec task.body task.vars (start_of task new f)).memory.cells)) same.events
            ∙ ap (frame_with (map (event_of task.deadline) o.events)) state;
        next = subst (λ fs. Alongside is_linked (λ i. received_in i later) (resumed task own fs) (start_of task new (suc f))) (sym (one_more f)) (record { cells = ap (start_cells task.vars) state; inputs = same.memory.inputs });
      }
    where
      frame_with : List Event → List ℤ → Frame
      frame_with events state = record { events = events; state = state }

  -- each frame starts over what the frames from it on received
  starts : (f : ℕ) (later : List Ran) → before ticks ≡ later ++ before (release f) → Alongside is_linked (λ i. received_in i later) (resumed task own (before (release f))) (start_of task new f)
  starts zero later is =
      let none : release 0 ≡ 0 = zero-mul task.period in
      let all : before ticks ≡ later = is ∙ ap (λ t. later ++ before t) none ∙ append-nil later in
      subst (λ t. Alongside is_linked (λ i. received_in i later) (resumed task own (before t)) (start_of task new 0)) (sym none)
      (record { cells = refl; inputs = λ i. new_at i ∙ ap (λ fs. cond (is_linked i) (received_in i fs) (get_or own i [])) all })
  starts (suc f) later is =
      let x = at_time tasks links streams number (release f) in
      (runs f later (starts f (later ++ x ∷ []) (is ∙ ap (λ fs. later ++ fs) (one_more f) ∙ sym (append_assoc later (x ∷ []) (before (release f)))))).next

  -- ---- all frames

  record Grows (time end : ℕ) : Type 0 where
    pub later : List Ran
    pub is : before end ≡ later ++ before time

  grows : (time k end : ℕ) → end ≡ k + time → Grows time end
  grows time zero end is = record { later = []; is = ap before (omega (arith, is)) }
  grows time (suc k) end is =
      let rest = grows time k (k + time) refl in
      let on : end ≡ suc (k + time) = omega (arith, is) in
      ⊎_elim (λ (e : (k + time == length (before (k + time)) * task.period) ≡ true).
      let x = at_time tasks links streams number (k + time) in
      let one : Grows time end = record { later = x ∷ rest.later; is = ap before on ∙ released tasks links streams number (k + time) (sym (eqb-true (k + time) (length (before (k + time)) * task.period) e)) ∙ ap (λ fs. x ∷ fs) rest.is } in
      one)
      (λ (e : (k + time == length (before (k + time)) * task.period) ≡ false).
      let none : Grows time end = record { later = rest.later; is = ap before on ∙ none_released tasks links streams number (k + time) (λ same. eqb-false (k + time) (length (before (k + time)) * task.period) e (sym same)) ∙ rest.is } in
      none)
      (cases_Bool (k + time == length (before (k + time)) * task.period))

  -- a frame that is released before the end is among all of them
  among : (f : ℕ) → release f < ticks → Grows (release (suc f)) ticks
  among f early =
      let next = release (suc f) in
      let more : next ≡ release f + task.period = suc-mul f task.period in
      ⊎_elim (λ (e : ticks ≡ next). grows next 0 ticks (omega (arith, e)))
      (⊎_elim (λ (lt : ticks < next). let all = all_before tasks links streams number ticks (next - ticks) next (omega (arith, lt)) (omega (arith, more, early, lt)) (counts (suc f)) in
      let here : Grows next ticks = record { later = []; is = sym all } in here)
      (λ (gt : next < ticks). grows next (ticks - next) ticks (omega (arith, gt)))) (cases_order ticks next)

  frame_is : (f : ℕ) → release f < ticks → frame_of task new f ≡ linked_frame tasks links streams number f
  frame_is f early =
      let rest = among f early in
      let x = at_time tasks links streams number (release f) in
      (runs f rest.later (starts f (rest.later ++ x ∷ []) (rest.is ∙ ap (λ fs. rest.later ++ fs) (one_more f) ∙ sym (append_assoc rest.later (x ∷ []) (before (release f)))))).frame

pub derived_frames_are_linked : DerivedFramesAreLinked
derived_frames_are_linked tasks links streams ticks number f fits are often early = frame_is tasks links streams ticks number fits are often f early
