-- How far all tasks and links have come: each task stands behind some of its frames, and each link behind those of its tasks.
use Rattle.std.proofs.Common.{◌≡◌, ◌≢◌, ℕ, ◌+◌, ◌-◌, ◌*◌, ◌==◌, ◌<◌, ◌≤◌, Bool, true, false, cond, ℤ, pos, List, [], ◌∷◌, ◌++◌, length, map, get_or, set, replicate, refl, sym, ap, ◌∙◌, subst, ⊎_elim, arith}
use Rattle.std.specs.Prelude.{AllPairs, find, option_map}
use Rattle.std.specs.List.{AllByRecursion}
use Rattle.std.proofs.lemmas.Bool.{cases_Bool, cases_eq, cond-false, cond-true, eqb-false, eqb-true}
use Rattle.std.proofs.Math.Nat.{suc-mul}
use Rattle.std.proofs.lemmas.List.{get_or-set_other, get_or-set_same, length-set}
use Rattle.tcel_core.specs.declared.event.Event.{Event}
use Rattle.tcel_core.specs.Cells.{all_words}
use Rattle.tcel_core.specs.Language.{Task}
use Rattle.tcel_core.specs.Outcome.{Memory}
use Rattle.tcel_link.specs.declared.link.Link.{Link}
use Rattle.tcel_link.specs.declared.run.Run.{Run}
use Rattle.tcel_link.specs.Conditions.{IsInRange, LeadApart}
use Rattle.tcel_link.specs.Feeds.{Carried, advanced, all_given, begun, ended, heard, pending_at, sample_at, with_sent}
use Rattle.tcel_link.specs.Linked.{Ran, frame_start, frames_before, last_or, ran, received, received_in, replaced, resumed, sample, samples, sent}
use Rattle.tcel_link.specs.Links.{feeds, task_at}
use Rattle.tcel_link.specs.Receives.{receives}
use Rattle.tcel_link.specs.Runs.{IsRelease, next_frame}
use Rattle.tcel_link.proofs.History.{late_sends, next_release}
use Rattle.tcel_link.proofs.Holding.{Holds, holds_advanced, holds_on, holds_pushed}
use Rattle.tcel_link.proofs.KeptInputs.{block_inputs}
use Rattle.tcel_link.proofs.Replacing.{Gives, given_is, links_of}
use Rattle.tcel_link.proofs.Steps.{length-all_given}
use Rattle.tcel_script.specs.Script.{Streams}

abbrev pub no_run : Run
no_run = record { cells = []; inputs = []; next = 0 }

abbrev pub run_at : List Run → ℕ → Run
run_at runs number = get_or runs number no_run

abbrev pub nexts : List Run → ℕ → ℕ
nexts runs number = (run_at runs number).next

abbrev pub memory_of : Run → Memory
memory_of run = record { cells = run.cells; inputs = run.inputs }

-- what the tasks need: their frames are some ticks apart, and their deadlines come behind their releases
pub record AreTimed (tasks : List Task) : Type 0 where
  pub period : (n : ℕ) → n < length tasks → 0 < (task_at tasks n).period
  pub deadline : (n : ℕ) → n < length tasks → 0 < (task_at tasks n).deadline

-- a task stands behind its frames that are released before its next one
pub record RunStands (tasks : List Task) (links : List Link) (streams : Streams) (ticks number : ℕ) (run : Run) : Type 0 where
  pub memory : memory_of run ≡ resumed (task_at tasks number) (get_or streams number []) (frames_before tasks links streams run.next number)
  pub words : length run.cells ≡ all_words (task_at tasks number).vars
  pub inputs : length run.inputs ≡ length (task_at tasks number).inputs
  pub counted : length (frames_before tasks links streams run.next number) * (task_at tasks number).period ≡ run.next
  pub last : run.next < ticks + (task_at tasks number).period

-- a link stands behind the frames of its two tasks
pub record LinkStands (tasks : List Task) (links : List Link) (streams : Streams) (now : ℕ) (next : ℕ → ℕ) (c : Carried) : Type 0 where
  pub range : IsInRange tasks c.link
  pub copies : c.copies ≡ receives (task_at tasks c.link.to).body c.link.input
  pub received : c.received ≡ received_in c.link.input (frames_before tasks links streams (next c.link.to) c.link.to)
  pub holds : Holds now (task_at tasks c.link.from) c.link.output (frames_before tasks links streams (next c.link.from) c.link.from) (next c.link.from) c.sample c.pending

-- all of them, where no task has come back before a time
pub record Stands (tasks : List Task) (links : List Link) (streams : Streams) (ticks : ℕ) (runs : List Run) (cs : List Carried) : Type 0 where
  pub now : ℕ
  pub count : length runs ≡ length tasks
  pub each : (n : ℕ) → n < length runs → RunStands tasks links streams ticks n (run_at runs n)
  pub later : (n : ℕ) → n < length runs → now ≤ nexts runs n
  pub same : links_of cs ≡ links
  pub held : AllByRecursion (LinkStands tasks links streams now (nexts runs)) cs

all_weaker : {X : Type 0} (P Q : X → Type 0) (xs : List X) → ((x : X) → P x → Q x) → AllByRecursion P xs → AllByRecursion Q xs
all_weaker P Q [] f h = tt
all_weaker P Q (x ∷ xs) f h = (f x h.0, all_weaker P Q xs f h.1)

all_mapped : {X : Type 0} (P Q : X → Type 0) (g : X → X) (xs : List X) → ((x : X) → P x → Q (g x)) → AllByRecursion P xs → AllByRecursion Q (map g xs)
all_mapped P Q g [] f h = tt
all_mapped P Q g (x ∷ xs) f h = (f x h.0, all_mapped P Q g xs f h.1)

-- what a task stands with behind one frame more
memory_next : (task : Task) (own : List (List ℤ)) (new : Run) (frame x : Ran) (frames older : List Ran) → new.cells ≡ frame.next.cells → new.inputs ≡ frame.next.inputs → frame ≡ x → frames ≡ x ∷ older →
    memory_of new ≡ resumed task own frames
memory_next task own new frame x frames older cells inputs is more =
    ap (λ (i : List (List ℤ)). record { cells = new.cells; inputs = i }) inputs ∙ ap (λ (ws : List ℤ). record { cells = ws; inputs = frame.next.inputs }) cells ∙ ap (λ (f : Ran). f.next) is
    ∙ sym (ap (resumed task own) more)

counted_next : (period : ℕ) (x : Ran) (next time : ℕ) (frames older : List Ran) → frames ≡ x ∷ older → length older * period ≡ time → next ≡ time + period → length frames * period ≡ next
counted_next period x next time frames older more counted is = ap (λ (fs : List Ran). length fs * period) more ∙ suc-mul (length older) period ∙ ap (λ t. t + period) counted ∙ sym is

module _ (tasks : List Task) (links : List Link) (streams : Streams) (timed : AreTimed tasks) where
  -- ---- what a frame is given

  -- what a link gives to a frame that is released before all others
  pub gives_sample : (time number many : ℕ) (now : ℕ) (next : ℕ → ℕ) (c : Carried) → now ≤ time → ((n : ℕ) → n < length tasks → time ≤ next n) → many ≡ length (task_at tasks number).inputs →
      LinkStands tasks links streams now next c →
      Gives number time many (λ input link. replicate (receives (task_at tasks number).body input) (sample tasks (frames_before tasks links streams time) time link)) c
  gives_sample time number many now next c on first wide h =
      let from = c.link.from in
      let back : next from ≡ (next from - time) + time = let le = first from h.range.from in omega (arith, le) in
      let late = late_sends tasks links streams from c.link.output time (next from - time) (next from) back (timed.deadline from h.range.from) in
      let value = h.holds.later time on ∙ ap (last_or (pos 0)) late in
      record {
        within = λ to. let inside = subst (λ n. c.link.input < length (task_at tasks n).inputs) to h.range.input in omega (arith, inside, wide);
        gives = λ to.
            ap (λ n. replicate n (sample_at time c.sample c.pending)) (h.copies ∙ ap (λ n. receives (task_at tasks n).body c.link.input) to)
            ∙ ap (replicate (receives (task_at tasks number).body c.link.input)) value;
      }

  -- the frame that a task runs next is the linked one
  pub next_is : (time number now : ℕ) (next : ℕ → ℕ) (run : Run) (cs : List Carried) → run.next ≡ time → now ≤ time → ((n : ℕ) → n < length tasks → time ≤ next n) →
      length run.inputs ≡ length (task_at tasks number).inputs → memory_of run ≡ resumed (task_at tasks number) (get_or streams number []) (frames_before tasks links streams time number) →
      links_of cs ≡ links → AllPairs LeadApart links → AllByRecursion (LinkStands tasks links streams now next) cs →
      next_frame number (task_at tasks number) cs run ≡ ran (task_at tasks number) (frame_start tasks links streams (frames_before tasks links streams time) time number)
  next_is time number now next run cs at on first wide memory same apart held =
      let task = task_at tasks number in
      let past = frames_before tasks links streams time in
      let values : ℕ → Link → List ℤ = λ input link. replicate (receives task.body input) (sample tasks past time link) in
      let gives = all_weaker (LinkStands tasks links streams now next) (Gives number time (length run.inputs) values) cs (λ c h. gives_sample time number (length run.inputs) now next c on first wide h) held in
      let apart' = subst (AllPairs LeadApart) (sym same) apart in
      let given = given_is number time (length run.inputs) values cs run.inputs refl apart' gives
      ∙ ap (λ (ls : List Link). replaced (λ i. option_map (values i) (find (feeds number i) ls)) 0 run.inputs) same in
      let begins : Memory = record { cells = run.cells; inputs = replaced (samples tasks links past time number) 0 run.inputs } in
      ap (λ t. ran task (record { cells = run.cells; inputs = all_given number t cs run.inputs })) at
      ∙ ap (λ i. ran task (record { cells = run.cells; inputs = i })) given
      ∙ ap (λ (m : Memory). ran task (record { cells = m.cells; inputs = replaced (samples tasks links past time number) 0 m.inputs })) memory

  -- ---- what links keep

  begun_stands : (number time now : ℕ) (next : ℕ → ℕ) (c : Carried) → now ≤ time → LinkStands tasks links streams now next c → LinkStands tasks links streams time next (begun number time c)
  begun_stands number time now next c on h = by_test (c.link.to == number)
    where
      by_test : (b : Bool) → LinkStands tasks links streams time next (cond b (advanced time c) c)
      by_test true = record { range = h.range; copies = h.copies; received = h.received; holds = holds_advanced now time (task_at tasks c.link.from) c.link.output _ (next c.link.from) c.sample c.pending on h.holds }
      by_test false = record { range = h.range; copies = h.copies; received = h.received; holds = holds_on now time (task_at tasks c.link.from) c.link.output _ (next c.link.from) c.sample c.pending on h.holds }

  -- a task has run one frame more, and all others stand where they were
  pub record Moves (number : ℕ) (frame : Ran) (next next' : ℕ → ℕ) : Type 0 where
    pub others : (n : ℕ) → n ≢ number → next' n ≡ next n
    pub moved : next' number ≡ next number + (task_at tasks number).period
    pub frames : frames_before tasks links streams (next number + (task_at tasks number).period) number ≡ frame ∷ frames_before tasks links streams (next number) number
    pub counted : length (frames_before tasks links streams (next number) number) * (task_at tasks number).period ≡ next number

  -- the frames of that task and those of others
  more_frames : (number : ℕ) (frame : Ran) (next next' : ℕ → ℕ) (n : ℕ) → Moves number frame next next' → n ≡ number → frames_before tasks links streams (next' n) n ≡ frame ∷ frames_before tasks links streams (next n) n
  more_frames number frame next next' n m is =
      subst (λ k. frames_before tasks links streams (next' k) k ≡ frame ∷ frames_before tasks links streams (next k) k) (sym is) (ap (λ t. frames_before tasks links streams t number) m.moved ∙ m.frames)

  same_frames : (number : ℕ) (frame : Ran) (next next' : ℕ → ℕ) (n : ℕ) → Moves number frame next next' → n ≢ number → frames_before tasks links streams (next' n) n ≡ frames_before tasks links streams (next n) n
  same_frames number frame next next' n m ne = ap (λ t. frames_before tasks links streams t n) (m.others n ne)

  heard_received : (number : ℕ) (frame : Ran) (next next' : ℕ → ℕ) (c : Carried) → Moves number frame next next' → c.received ≡ received_in c.link.input (frames_before tasks links streams (next c.link.to) c.link.to) →
      (heard number frame.frame.events c).received ≡ received_in c.link.input (frames_before tasks links streams (next' c.link.to) c.link.to)
  heard_received number frame next next' c m h =
      ⊎_elim (λ (e : (c.link.to == number) ≡ true).
      cond-true (c.link.to == number) (c.received ++ received c.link.input frame.frame.events) c.received e ∙ ap (λ vs. vs ++ received c.link.input frame.frame.events) h
      ∙ sym (ap (received_in c.link.input) (more_frames number frame next next' c.link.to m (eqb-true c.link.to number e))))
      (λ (e : (c.link.to == number) ≡ false).
      cond-false (c.link.to == number) (c.received ++ received c.link.input frame.frame.events) c.received e ∙ h
      ∙ sym (ap (received_in c.link.input) (same_frames number frame next next' c.link.to m (λ same. eqb-false c.link.to number e same))))
      (cases_Bool (c.link.to == number))

  ended_stands : (number time : ℕ) (frame : Ran) (next next' : ℕ → ℕ) (c : Carried) → Moves number frame next next' → next number ≡ time → LinkStands tasks links streams time next c →
      LinkStands tasks links streams time next' (ended number time (time + (task_at tasks number).deadline) frame.frame.events c)
  ended_stands number time frame next next' c m at h =
      ⊎_elim (λ (e : (c.link.from == number) ≡ true). subst (LinkStands tasks links streams time next') (sym (cond-true (c.link.from == number) sends hears e)) (by_it (eqb-true c.link.from number e)))
      (λ (e : (c.link.from == number) ≡ false). subst (LinkStands tasks links streams time next') (sym (cond-false (c.link.from == number) sends hears e)) (by_other (λ same. eqb-false c.link.from number e same)))
      (cases_Bool (c.link.from == number))
    where
      hears : Carried
      hears = heard number frame.frame.events c

      sends : Carried
      sends = with_sent (time + (task_at tasks number).deadline) (sent c.link.output frame.frame.events) (advanced time hears)

      by_it : c.link.from ≡ number → LinkStands tasks links streams time next' sends
      by_it is =
          let task = task_at tasks c.link.from in
          let frames = frames_before tasks links streams (next c.link.from) c.link.from in
          let count = subst (λ n. length (frames_before tasks links streams (next n) n) * (task_at tasks n).period ≡ next n) (sym is) m.counted in
          let on = holds_advanced time time task c.link.output frames (next c.link.from) c.sample c.pending (omega arith) h.holds in
          let pushed = holds_pushed time task c.link.output frames (next c.link.from) (sample_at time c.sample c.pending) (pending_at time c.pending) frame count on in
          let due : next c.link.from + task.deadline ≡ time + (task_at tasks number).deadline = ap (λ n. next n + (task_at tasks n).deadline) is ∙ ap (λ t. t + (task_at tasks number).deadline) at in
          let there : next c.link.from + task.period ≡ next' c.link.from = subst (λ n. next n + (task_at tasks n).period ≡ next' n) (sym is) (sym m.moved) in
          let moved = subst (λ t. Holds time task c.link.output (frame ∷ frames) t sends.sample sends.pending) there
          (subst (λ d. Holds time task c.link.output (frame ∷ frames) (next c.link.from + task.period) sends.sample (with_sent d (sent c.link.output frame.frame.events) (advanced time hears)).pending) due pushed) in
          record {
            range = h.range;
            copies = h.copies;
            received = heard_received number frame next next' c m h.received;
            holds = subst (λ fs. Holds time task c.link.output fs (next' c.link.from) sends.sample sends.pending) (sym (more_frames number frame next next' c.link.from m is)) moved;
          }

      by_other : c.link.from ≢ number → LinkStands tasks links streams time next' hears
      by_other ne =
          record {
            range = h.range;
            copies = h.copies;
            received = heard_received number frame next next' c m h.received;
            holds = subst (λ t. Holds time (task_at tasks c.link.from) c.link.output (frames_before tasks links streams t c.link.from) t c.sample c.pending) (sym (m.others c.link.from ne)) h.holds;
          }

  -- ---- one frame more

  begun_link : (number time : ℕ) (b : Bool) (c : Carried) → (cond b (advanced time c) c).link ≡ c.link
  begun_link number time true c = refl
  begun_link number time false c = refl

  told_link : (due : ℕ) (values : List ℤ) (time : ℕ) (b : Bool) (c : Carried) → (cond b (with_sent due values (advanced time c)) c).link ≡ c.link
  told_link due values time true c = refl
  told_link due values time false c = refl

  ended_links : (number time due : ℕ) (events : List Event) (cs : List Carried) → links_of (map (ended number time due events) (map (begun number time) cs)) ≡ links_of cs
  ended_links number time due events [] = refl
  ended_links number time due events (c ∷ cs) =
      let b = begun number time c in
      let hears = heard number events b in
      let one = told_link due (sent hears.link.output events) time (hears.link.from == number) hears ∙ begun_link number time (c.link.to == number) c in
      ap (λ (l : Link). l ∷ links_of (map (ended number time due events) (map (begun number time) cs))) one ∙ ap (λ (ls : List Link). c.link ∷ ls) (ended_links number time due events cs)

  pub stands_next : (ticks number : ℕ) (runs : List Run) (cs after : List Carried) (new : Run) → AllPairs LeadApart links → Stands tasks links streams ticks runs cs → number < length runs → nexts runs number < ticks →
      ((n : ℕ) → n < length runs → nexts runs number ≤ nexts runs n) → IsRelease number (task_at tasks number) (run_at runs number) new cs after → length new.cells ≡ all_words (task_at tasks number).vars →
      Stands tasks links streams ticks (set runs number new) after
  stands_next ticks number runs cs after new apart h within early first released words =
      let task = task_at tasks number in
      let run = run_at runs number in
      let time = run.next in
      let mine = h.each number within in
      let inside : number < length tasks = omega (arith, within, h.count) in
      let all_first : (n : ℕ) → n < length tasks → time ≤ nexts runs n = λ n lt. first n (omega (arith, lt, h.count)) in
      let x = ran task (frame_start tasks links streams (frames_before tasks links streams time) time number) in
      let is = next_is time number h.now (nexts runs) run cs refl (h.later number within) all_first mine.inputs mine.memory h.same apart h.held in
      let on = next_release tasks links streams number time (timed.period number inside) mine.counted in
      let here : run_at (set runs number new) number ≡ new = get_or-set_same runs number new no_run within in
      let other : (n : ℕ) → n ≢ number → run_at (set runs number new) n ≡ run_at runs n = λ n ne. get_or-set_other runs number n new no_run ne in
      let next : new.next ≡ time + task.period = released.next in
      let moves : Moves number x (nexts runs) (nexts (set runs number new)) =
      record { others = λ n ne. ap (λ (r : Run). r.next) (other n ne); moved = ap (λ (r : Run). r.next) here ∙ next; frames = on; counted = mine.counted } in
      let after_is = released.links ∙ ap (λ (f : Ran). map (ended number time (time + task.deadline) f.frame.events) (map (begun number time) cs)) is in
      let held = all_mapped (LinkStands tasks links streams time (nexts runs)) (LinkStands tasks links streams time (nexts (set runs number new))) (ended number time (time + task.deadline) x.frame.events) (map (begun number time) cs)
      (λ c s. ended_stands number time x (nexts runs) (nexts (set runs number new)) c moves refl s)
      (all_mapped (LinkStands tasks links streams h.now (nexts runs)) (LinkStands tasks links streams time (nexts runs)) (begun number time) cs (λ c s. begun_stands number time h.now (nexts runs) c (h.later number within) s) h.held) in
      let then_frames : frames_before tasks links streams new.next number ≡ x ∷ frames_before tasks links streams time number = ap (λ t. frames_before tasks links streams t number) next ∙ on in
      let stood : RunStands tasks links streams ticks number new =
      record {
        memory = memory_next task (get_or streams number []) new (next_frame number task cs run) x (frames_before tasks links streams new.next number) (frames_before tasks links streams time number) released.cells
            released.inputs is then_frames;
        words = words;
        inputs =
            ap length released.inputs ∙ block_inputs task.body task.vars (record { cells = run.cells; inputs = all_given number time cs run.inputs }) ∙ length-all_given number time cs run.inputs ∙ mine.inputs;
        counted = counted_next task.period x new.next time (frames_before tasks links streams new.next number) (frames_before tasks links streams time number) then_frames mine.counted next;
        last = omega (arith, next, early);
      } in
      record {
        now = time;
        count = length-set runs number new ∙ h.count;
        each = λ n lt.
            ⊎_elim (λ (e : n ≡ number). subst (λ k. RunStands tasks links streams ticks k (run_at (set runs number new) k)) (sym e) (subst (RunStands tasks links streams ticks number) (sym here) stood))
            (λ (ne : n ≢ number). subst (RunStands tasks links streams ticks n) (sym (other n ne)) (h.each n (omega (arith, lt, length-set runs number new)))) (cases_eq n number);
        later = λ n lt.
            ⊎_elim (λ (e : n ≡ number). let there = ap (nexts (set runs number new)) e ∙ moves.moved in omega (arith, there))
            (λ (ne : n ≢ number). let there = moves.others n ne in let le = first n (omega (arith, lt, length-set runs number new)) in omega (arith, there, le)) (cases_eq n number);
        same = ap (λ (xs : List Carried). links_of xs) after_is ∙ ended_links number time (time + task.deadline) x.frame.events cs ∙ h.same;
        held = subst (AllByRecursion (LinkStands tasks links streams time (nexts (set runs number new)))) (sym after_is) held;
      }
