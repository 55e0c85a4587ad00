-- Runs of bodies one after another, with the events behind those that were there.
use Rattle.std.proofs.Common.{◌≡◌, ℕ, suc, ◌==◌, ◌≤◌, ◌<◌, ◌+◌, Bool, true, false, ℤ, List, [], ◌∷◌, ◌++◌, length, length-append, length-take, zero, map, max, Option, Some, None, unwrap_or, refl, sym, ap, ◌∙◌, subst, take, drop, replicate, set, get_or, cond, pos, ◌-◌, Result, Ok, Err, IfOk, arith}
use Rattle.std.proofs.lemmas.Bool.{eq-eqb, eqb-true}
use Rattle.std.proofs.lemmas.List.{append_assoc, append-nil, take-append-le, take_all}
use Rattle.tcel_core.specs.declared.bounds.Bounds.{Bounds}
use Rattle.tcel_core.specs.declared.event.Event.{Event}
use Rattle.tcel_core.specs.Evaluation.{IsFrame, Left, all_bounded, bounded, with_events, narrowed, frame_bounds, last_time}
use Rattle.tcel_core.specs.declared.body.CoreStmt.{CoreStmt}
use Rattle.tcel_core.specs.declared.var.Var.{Var}
use Rattle.tcel_core.specs.Cells.{all_words, place, set_word}
use Rattle.tcel_core.specs.Frames.{start_cells, state_of, state_words}
use Rattle.tcel_core.specs.Language.{Block, next, Task, Window}
use Rattle.tcel_core.specs.Meaning.{exec, with_cells}
use Rattle.tcel_core.specs.Outcome.{Memory, Occurrence, Outcome, EnclosingBlock, enclosed, inside, quiet, rounds, rounds_while, then_run}
use Rattle.tcel_core.specs.Plain.{block_of, plain_stmt}
use Rattle.tcel_core.specs.Windows.{earliest, latest, lesser, start_bound, event_of}

-- ---- events behind others

pub bounded_both : (b : Bounds) (leads : Bool) (xs ys : List Occurrence) → all_bounded b false (xs ++ ys) ≡ all_bounded b false xs ++ all_bounded b false ys
bounded_both b leads [] ys = refl
bounded_both b leads (x ∷ xs) ys = ap (λ es. bounded b false x ∷ es) (bounded_both b leads xs ys)

pub length-bounded : (b : Bounds) (leads : Bool) (xs : List Occurrence) → length (all_bounded b leads xs) ≡ length xs
length-bounded b leads [] = refl
length-bounded b leads (x ∷ xs) = ap suc (length-bounded b false xs)

not_true : (t : Bool) → (t ≡ true → ⊥) → t ≡ false
not_true true h = absurd (h refl)
not_true false h = refl

later : (n m : ℕ) → m < n → (n == m) ≡ false
later n m more = not_true (n == m) (λ e. let same = eqb-true n m e in omega (arith, same, more))

-- none of several events comes first behind an event
pub events_both : (b : Bounds) (events : List Event) (xs ys : List Occurrence) → b.entered ≤ length events →
    with_events b (with_events b events xs) ys ≡ with_events b events (xs ++ ys)
events_both b events [] ys h = ap (λ es. with_events b es ys) (append-nil events)
events_both b events (x ∷ xs) ys h =
    let first = length events == b.entered in
    let behind : length (events ++ (bounded b first x ∷ all_bounded b false xs)) ≡ length events + suc (length xs) =
    length-append events (bounded b first x ∷ all_bounded b false xs) ∙ ap (λ n. length events + suc n) (length-bounded b false xs) in
    ap (λ leads. (events ++ (bounded b first x ∷ all_bounded b false xs)) ++ all_bounded b leads ys) (later _ b.entered (omega (arith, behind)))
    ∙ append_assoc events (bounded b first x ∷ all_bounded b false xs) (all_bounded b false ys)
    ∙ ap (λ es. events ++ (bounded b first x ∷ es)) (sym (bounded_both b false xs ys))

-- ---- runs one after another

-- these events stand behind those, which are no fewer than when the block was entered
pub record Behind (b : Bounds) (before events : List Event) : Type 0 where
  pub entered : b.entered ≤ length events
  pub kept : take (length before) events ≡ before

take_front : {X : Type 0} (n m : ℕ) (xs : List X) → n ≤ m → take n (take m xs) ≡ take n xs
take_front zero m xs h = refl
take_front (suc n) zero xs h = absurd (omega arith)
take_front (suc n) (suc m) [] h = refl
take_front (suc n) (suc m) (x ∷ xs) h = ap (λ rest. x ∷ rest) (take_front n m xs (omega (arith, h)))

pub behind_both : {b : Bounds} {before events events' : List Event} → Behind b before events → take (length events) events' ≡ events → Behind b before events'
behind_both {b} {before} {events} {events'} h kept =
    record {
      entered = omega (arith, h.entered, ap length kept, length-take (length events) events');
      kept = sym (take_front (length before) (length events) events' (omega (arith, ap length h.kept, length-take (length before) events))) ∙ ap (take (length before)) kept ∙ h.kept;
    }

-- from these events a run is left that leads where the whole run leads
pub record Goes (b : Bounds) (before : List Event) (o : Outcome) (events : List Event) (r : Outcome) : Type 0 where
  pub memory : r.memory ≡ o.memory
  pub shows : with_events b events r.events ≡ with_events b before o.events

pub goes_all : (b : Bounds) (before : List Event) (o : Outcome) → Goes b before o before o
goes_all b before o = record { memory = refl; shows = refl }

-- what is left once nothing is left to run
pub goes_left : {b : Bounds} {before events : List Event} {o : Outcome} {cells : List ℤ} {inputs : List (List ℤ)} →
    Goes b before o events (record { memory = record { cells = cells; inputs = inputs }; events = [] }) → Left b before o cells inputs events
goes_left {b} {before} {events} g = record {
  words = ap (λ (m : Memory). m.cells) g.memory;
  streams = ap (λ (m : Memory). m.inputs) g.memory;
  shows = sym (append-nil events) ∙ g.shows;
}

-- a step was taken
pub goes_on : {b : Bounds} {before events events' : List Event} {o step : Outcome} {cells : List ℤ} {inputs : List (List ℤ)} (more : Memory → Outcome) →
    Goes b before o events (then_run step more) → Left b events step cells inputs events' → b.entered ≤ length events →
    Goes b before o events' (more (record { cells = cells; inputs = inputs }))
goes_on {b} {before} {events} {events'} {o} {step} {cells} {inputs} more g l h =
    let same : record { cells = cells; inputs = inputs } ≡ step.memory = rw (l.words, l.streams) refl in
    record {
      memory = ap (λ m. (more m).memory) same ∙ g.memory;
      shows =
          ap (λ m. with_events b events' (more m).events) same ∙ ap (λ es. with_events b es (more step.memory).events) l.shows
          ∙ events_both b events step.events (more step.memory).events h ∙ g.shows;
    }

-- two runs
pub left_both : {b : Bounds} {before events events' : List Event} {first : Outcome} {cells cells' : List ℤ} {inputs inputs' : List (List ℤ)} (more : Memory → Outcome) →
    Left b before first cells inputs events → Left b events (more (record { cells = cells; inputs = inputs })) cells' inputs' events' → b.entered ≤ length before →
    Left b before (then_run first more) cells' inputs' events'
left_both {b} {before} {events} {events'} {first} {cells} {cells'} {inputs} {inputs'} more l k h =
    let same : record { cells = cells; inputs = inputs } ≡ first.memory = rw (l.words, l.streams) refl in
    record {
      words = k.words ∙ ap (λ m. (more m).memory.cells) same;
      streams = k.streams ∙ ap (λ m. (more m).memory.inputs) same;
      shows =
          k.shows ∙ ap (λ m. with_events b events (more m).events) same ∙ ap (λ es. with_events b es (more first.memory).events) l.shows
          ∙ events_both b before first.events (more first.memory).events h;
    }

-- ---- blocks

-- ---- blocks

lesser_swap : (a b : Option ℕ) (t : ℕ) → lesser a (lesser b t) ≡ lesser b (lesser a t)
lesser_swap None b t = refl
lesser_swap (Some x) None t = refl
lesser_swap (Some x) (Some y) t = omega arith

-- the blocks around an event only narrow its bounds
latest_lesser : (bound : Option ℕ) (limit : ℕ) (blocks : List EnclosingBlock) → latest (lesser bound limit) blocks ≡ lesser bound (latest limit blocks)
latest_lesser bound limit [] = refl
latest_lesser bound limit (block ∷ blocks) =
    ap (λ t. lesser block.window.within (lesser (start_bound block) t)) (latest_lesser bound limit blocks)
    ∙ ap (lesser block.window.within) (lesser_swap (start_bound block) bound (latest limit blocks))
    ∙ lesser_swap block.window.within bound (lesser (start_bound block) (latest limit blocks))

max_both : (a b c : ℕ) → max a (max b c) ≡ max (max a b) c
max_both a b c = omega arith

-- an event in a block
in_block : (b : Bounds) (outside inside : Bool) (n events : ℕ) (window : Window) (around : List EnclosingBlock) → (events == b.entered) ≡ outside →
    latest (last_time b outside) (record { number = n; window = window; leads = true } ∷ around) ≡ latest (narrowed window events b).lead around
in_block b outside inside n events window around e =
    rw e (sym (latest_lesser window.within (lesser window.before (last_time b outside)) around
    ∙ ap (lesser window.within) (latest_lesser window.before (last_time b outside) around)))

behind_first : (b : Bounds) (n events : ℕ) (window : Window) (es : List Occurrence) →
    all_bounded b false (enclosed n window false es) ≡ all_bounded (narrowed window events b) false es
behind_first b n events window [] = refl
behind_first b n events window (e ∷ es) =
    ap (λ x. x ∷ all_bounded b false (enclosed n window false es)) (rw (max_both b.earliest (unwrap_or window.after 0) (earliest e.around), latest_lesser window.within b.latest e.around) refl)
    ∙ ap (λ xs. bounded (narrowed window events b) false e ∷ xs) (behind_first b n events window es)

-- the events of a block
block_events : (b : Bounds) (leads : Bool) (n events : ℕ) (window : Window) (es : List Occurrence) → (events == b.entered) ≡ leads →
    all_bounded b leads (enclosed n window true es) ≡ all_bounded (narrowed window events b) true es
block_events b leads n events window [] e = refl
block_events b leads n events window (x ∷ es) e =
    ap (λ y. y ∷ all_bounded b false (enclosed n window false es))
    (rw (max_both b.earliest (unwrap_or window.after 0) (earliest x.around), in_block b leads true n events window x.around e) refl)
    ∙ ap (λ xs. bounded (narrowed window events b) true x ∷ xs) (behind_first b n events window es)

-- a run in a block
pub left_block : {b : Bounds} {before events : List Event} {r : Outcome} {cells : List ℤ} {inputs : List (List ℤ)} {entered : ℕ} (n : ℕ) (window : Window) → entered ≡ length before →
    Left (narrowed window entered b) before r cells inputs events → Left b before (inside n window r) cells inputs events
left_block {b} {before} {events} {r} {cells} {inputs} {entered} n window here l = record {
  words = l.words;
  streams = l.streams;
  shows =
      l.shows ∙ ap (λ leads. before ++ all_bounded (narrowed window entered b) leads r.events) (eq-eqb (length before) entered (sym here))
      ∙ ap (λ es. before ++ es) (sym (block_events b (length before == b.entered) n entered window r.events (ap (λ k. k == b.entered) here)));
}

-- ---- a frame

max_zero : (n : ℕ) → max 0 n ≡ n
max_zero n = omega arith

same_last : (deadline entered : ℕ) (leads : Bool) → last_time (frame_bounds deadline entered) leads ≡ deadline
same_last deadline entered true = refl
same_last deadline entered false = refl

-- a frame's bounds give each event its window
pub frame_events : (deadline entered : ℕ) (leads : Bool) (es : List Occurrence) → all_bounded (frame_bounds deadline entered) leads es ≡ map (event_of deadline) es
frame_events deadline entered leads [] = refl
frame_events deadline entered leads (e ∷ es) =
    ap (λ x. x ∷ all_bounded (frame_bounds deadline entered) false es) (rw (max_zero (earliest e.around), same_last deadline entered leads) refl)
    ∙ ap (λ xs. event_of deadline e ∷ xs) (frame_events deadline entered false es)

-- a body was run, and all words but those of the states are 0
pub frame_done : (task : Task) (vars : List Var) {before events : List Event} {r : Outcome} {cells cells' : List ℤ} {inputs : List (List ℤ)} (b : Bounds) (entered words : ℕ) →
    b ≡ frame_bounds task.deadline entered → vars ≡ task.vars → Left b before r cells inputs events → length cells ≡ all_words vars → words ≡ state_words vars →
    cells' ≡ take words cells ++ replicate (length cells - words) (pos 0) → IsFrame task before r cells' inputs events
frame_done task vars {before} {events} {r} {cells} {cells'} {inputs} b entered words bounds same l long count cleared =
    let events_of = ap (λ b. before ++ all_bounded b (length before == b.entered) r.events) bounds ∙ ap (λ es. before ++ es) (frame_events task.deadline entered (length before == entered) r.events) in
    let kept : cells' ≡ start_cells task.vars (state_of task.vars r.memory.cells) =
    cleared ∙ ap (λ n. take n cells ++ replicate (length cells - n) (pos 0)) count ∙ ap (λ n. take (state_words vars) cells ++ replicate (n - state_words vars) (pos 0)) long
    ∙ ap (λ vs. start_cells vs (state_of vs cells)) same ∙ ap (λ cs. start_cells task.vars (state_of task.vars cs)) l.words in
    record {
      shows = l.shows ∙ events_of;
      next = rw (kept, l.streams) refl;
    }

-- ---- loops

-- a turn of a loop that counts
abbrev pub turn_of : Block → List Var → ℕ → ℕ → Memory → Outcome
turn_of body vars v j k = exec body vars (with_cells k (set_word vars k.cells v (pos j)))

pub one_turn : {b : Bounds} {before events events' : List Event} {cells cells' : List ℤ} {inputs inputs' : List (List ℤ)} (m : Memory) (body : Block) (vars : List Var) (v j p : ℕ) (w : ℤ) →
    p ≡ place vars v → w ≡ pos j → Left b before (rounds j (turn_of body vars v) m) cells inputs events →
    Left b events (exec body vars (record { cells = set cells p w; inputs = inputs })) cells' inputs' events' → b.entered ≤ length before →
    Left b before (rounds (j + 1) (turn_of body vars v) m) cells' inputs' events'
one_turn {b} {before} {events} {events'} {cells} {cells'} {inputs} {inputs'} m body vars v j p w at value l k h =
    let next : suc j ≡ j + 1 = omega arith in
    let there = subst (λ q. Left b events (exec body vars (record { cells = set cells q w; inputs = inputs })) cells' inputs' events') at k in
    let turn = subst (λ x. Left b events (exec body vars (record { cells = set cells (place vars v) x; inputs = inputs })) cells' inputs' events') value there in
    subst (λ n. Left b before (rounds n (turn_of body vars v) m) cells' inputs' events') next (left_both (turn_of body vars v j) l turn h)

pub one_round : {b : Bounds} {before events events' : List Event} {o : Outcome} {cells cells' : List ℤ} {inputs inputs' : List (List ℤ)} (test : Memory → Bool) (round : Memory → Outcome)
    (left : ℕ) → 0 < left → test (record { cells = cells; inputs = inputs }) ≡ true → Goes b before o events (rounds_while left test round (record { cells = cells; inputs = inputs })) →
    Left b events (round (record { cells = cells; inputs = inputs })) cells' inputs' events' → b.entered ≤ length events →
    Goes b before o events' (rounds_while (left - 1) test round (record { cells = cells'; inputs = inputs' }))
one_round test round zero some holds g l h = absurd (omega arith)
one_round {b} {before} {events} {events'} {o} {cells} {cells'} {inputs} {inputs'} test round (suc n) some holds g l h =
    let less : n ≡ suc n - 1 = omega arith in
    let m : Memory = record { cells = cells; inputs = inputs } in
    let begun = subst (λ t. Goes b before o events (cond t (λ k. then_run (round k) (rounds_while n test round)) quiet m)) holds g in
    subst (λ left. Goes b before o events' (rounds_while left test round (record { cells = cells'; inputs = inputs' }))) less (goes_on (rounds_while n test round) begun l h)

pub no_round : {b : Bounds} {before events : List Event} {o : Outcome} {cells : List ℤ} {inputs : List (List ℤ)} (test : Memory → Bool) (round : Memory → Outcome) (left : ℕ) →
    test (record { cells = cells; inputs = inputs }) ≡ false → Goes b before o events (rounds_while left test round (record { cells = cells; inputs = inputs })) →
    Left b before o cells inputs events
no_round test round zero ends g = goes_left g
no_round {b} {before} {events} {o} {cells} {inputs} test round (suc n) ends g =
    goes_left (subst (λ t. Goes b before o events (cond t (λ k. then_run (round k) (rounds_while n test round)) quiet (record { cells = cells; inputs = inputs }))) ends g)

-- ---- the code's lists and answers

pub statements_next : (list : List CoreStmt) (i : ℕ) (s : CoreStmt) → i < length list → s ≡ get_or list i s →
    block_of (map plain_stmt (drop i list)) ≡ next (plain_stmt s) (block_of (map plain_stmt (drop (i + 1) list)))
statements_next [] i s h e = absurd (omega arith)
statements_next (x ∷ list) zero s h e = ap (λ y. next (plain_stmt y) (block_of (map plain_stmt list))) (sym e)
statements_next (x ∷ list) (suc i) s h e =
    let more : suc i + 1 ≡ suc (i + 1) = omega arith in
    statements_next list i s (omega (arith, h)) e ∙ ap (λ k. next (plain_stmt s) (block_of (map plain_stmt (drop k (x ∷ list))))) (sym more)

pub if_ok_by : {A B P Q : Type 0} (r : Result A B) → (P → Q) → IfOk r (λ _. P) → IfOk r (λ _. Q)
if_ok_by (Ok a) f h = f h
if_ok_by (Err e) f h = tt

-- a slice of all words was written back
pub all_written : (items written : List ℤ) (n : ℕ) → length written ≡ n → length items ≡ n → take n (written ++ drop (length written) items) ≡ written
all_written items written n long same = take-append-le n written (drop (length written) items) (omega arith) ∙ take_all n written (omega arith)
