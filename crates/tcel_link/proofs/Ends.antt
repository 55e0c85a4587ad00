-- How tasks and links stand before the first frame, and what they have received behind the last one.
use Rattle.std.proofs.Common.{◌≡◌, ℕ, zero, suc, ◌+◌, ◌-◌, ◌<◌, ℤ, List, [], ◌∷◌, length, map, get_or, All, refl, sym, ap, ◌∙◌, subst, arith}
use Rattle.std.specs.Prelude.{AllPairs, find, option_map}
use Rattle.std.specs.List.{AllByRecursion}
use Rattle.std.proofs.lemmas.List.{get_or-map, length-map}
use Rattle.std.proofs.lemmas.List.Elements.{recursion_from_All}
use Rattle.tcel_core.specs.Frames.{declared_state}
use Rattle.tcel_core.specs.Language.{Task}
use Rattle.tcel_link.specs.declared.link.Link.{Link}
use Rattle.tcel_link.specs.declared.run.Run.{Run}
use Rattle.tcel_link.specs.Conditions.{FitsInputs, IsInRange, LeadApart}
use Rattle.tcel_link.specs.Feeds.{Carried, all_written}
use Rattle.tcel_link.specs.Linked.{all_replaced, derived, frames_before, received_in}
use Rattle.tcel_link.specs.Links.{feeds, no_task, task_at}
use Rattle.tcel_link.specs.Runs.{LeadsAmong, start_link, start_run, start_runs}
use Rattle.tcel_link.proofs.History.{all_before}
use Rattle.tcel_link.proofs.Replacing.{Writes, links_of, written_is}
use Rattle.tcel_link.proofs.Releases.{NoneBefore}
use Rattle.tcel_link.proofs.Standing.{AreTimed, LinkStands, RunStands, Stands, nexts, run_at}
use Rattle.tcel_core.proofs.StateWords.{length-declared_state, length-start_cells}
use Rattle.tcel_script.specs.Script.{Streams}

-- ---- before the first frame

run_start : (n k : ℕ) (tasks : List Task) (streams : Streams) → n < length tasks → run_at (start_runs k tasks streams) n ≡ start_run (task_at tasks n) (get_or streams (n + k) [])
run_start n k [] streams h = absurd (omega arith)
run_start zero k (task ∷ tasks) streams h = let same : k ≡ 0 + k = omega arith in ap (λ i. start_run task (get_or streams i [])) same
run_start (suc n) k (task ∷ tasks) streams h =
    let same : n + (k + 1) ≡ suc n + k = omega arith in run_start n (k + 1) tasks streams (omega (arith, h)) ∙ ap (λ i. start_run (task_at tasks n) (get_or streams i [])) same

next_start : (n k : ℕ) (tasks : List Task) (streams : Streams) → nexts (start_runs k tasks streams) n ≡ 0
next_start n k [] streams = refl
next_start zero k (task ∷ tasks) streams = refl
next_start (suc n) k (task ∷ tasks) streams = next_start n (k + 1) tasks streams

length-start_runs : (k : ℕ) (tasks : List Task) (streams : Streams) → length (start_runs k tasks streams) ≡ length tasks
length-start_runs k [] streams = refl
length-start_runs k (task ∷ tasks) streams = ap suc (length-start_runs (k + 1) tasks streams)

-- the streams of a task are as many as its inputs
pub as_many : (tasks : List Task) (streams : Streams) (n : ℕ) → FitsInputs tasks streams → n < length tasks → length (get_or streams n []) ≡ length (task_at tasks n).inputs
as_many tasks streams n fits h =
    let long = ap (λ (ns : List ℕ). length ns) fits in
    let within : n < length streams = omega (arith, h, long, length-map streams (λ (row : List (List ℤ)). length row), length-map tasks (λ (task : Task). length task.inputs)) in
    sym (get_or-map (λ (row : List (List ℤ)). length row) streams n [] 0 within) ∙ ap (λ ns. get_or ns n 0) fits ∙ get_or-map (λ (task : Task). length task.inputs) tasks n no_task 0 h

module _ (tasks : List Task) (links : List Link) (streams : Streams) (timed : AreTimed tasks) where
  task_starts : (ticks n : ℕ) → FitsInputs tasks streams → n < length tasks → RunStands tasks links streams ticks n (run_at (start_runs 0 tasks streams) n)
  task_starts ticks n fits h =
      let task = task_at tasks n in
      let some = timed.period n h in
      let same : n + 0 ≡ n = omega arith in
      let start : RunStands tasks links streams ticks n (start_run task (get_or streams n [])) =
      record { memory = refl; words = length-start_cells task.vars (declared_state task.vars) (length-declared_state task.vars); inputs = as_many tasks streams n fits h; counted = omega arith; last = omega (arith, some) } in
      subst (RunStands tasks links streams ticks n) (sym (run_start n 0 tasks streams h ∙ ap (λ i. start_run task (get_or streams i [])) same)) start

  link_starts : (link : Link) → IsInRange tasks link → LinkStands tasks links streams 0 (nexts (start_runs 0 tasks streams)) (start_link tasks link)
  link_starts link range =
      record {
        range = range;
        copies = refl;
        received = ap (λ t. received_in link.input (frames_before tasks links streams t link.to)) (sym (next_start link.to 0 tasks streams));
        holds = rw (next_start link.from 0 tasks streams) (record { later = λ t low. refl; due = tt });
      }

  all_start : (ls : List Link) → AllByRecursion (IsInRange tasks) ls → AllByRecursion (LinkStands tasks links streams 0 (nexts (start_runs 0 tasks streams))) (map (start_link tasks) ls)
  all_start [] h = tt
  all_start (l ∷ ls) h = (link_starts l h.0, all_start ls h.1)

  started_links : (ls : List Link) → links_of (map (start_link tasks) ls) ≡ ls
  started_links [] = refl
  started_links (l ∷ ls) = ap (λ (ms : List Link). l ∷ ms) (started_links ls)

  pub stands_first : (ticks : ℕ) → FitsInputs tasks streams → All (IsInRange tasks) links → Stands tasks links streams ticks (start_runs 0 tasks streams) (map (start_link tasks) links)
  stands_first ticks fits range =
      record {
        now = 0;
        count = length-start_runs 0 tasks streams;
        each = λ n lt. task_starts ticks n fits (omega (arith, lt, length-start_runs 0 tasks streams));
        later = λ n lt. omega arith;
        same = started_links links;
        held = all_start links (recursion_from_All (IsInRange tasks) links range);
      }

  -- ---- behind the last frame

  -- what a link received, and where it belongs
  writes : (ticks : ℕ) (runs : List Run) (cs : List Carried) (c : Carried) → FitsInputs tasks streams → Stands tasks links streams ticks runs cs → NoneBefore ticks runs → (now : ℕ) → LinkStands tasks links streams now (nexts runs) c →
      Writes (map (λ (row : List (List ℤ)). length row) streams) (λ n i. received_in i (frames_before tasks links streams ticks n)) c
  writes ticks runs cs c fits stands over now h =
      let to = c.link.to in
      let inside = h.range.to in
      let within : to < length runs = omega (arith, inside, stands.count) in
      let run = stands.each to within in
      let past = over to within in
      let all = all_before tasks links streams to ticks (nexts runs to - ticks) (nexts runs to) (omega (arith, past)) (let last = run.last in omega (arith, past, last)) run.counted in
      let long = ap (λ (ns : List ℕ). length ns) fits in
      let many = ap (λ ns. get_or ns to 0) fits ∙ get_or-map (λ (task : Task). length task.inputs) tasks to no_task 0 inside in
      record {
        among = (omega (arith, inside, long, length-map tasks (λ (task : Task). length task.inputs)), omega (arith, many, h.range.input));
        writes = h.received ∙ ap (received_in c.link.input) all;
      }

  all_write : (ticks : ℕ) (runs : List Run) (all : List Carried) → FitsInputs tasks streams → Stands tasks links streams ticks runs all → NoneBefore ticks runs → (now : ℕ) (cs : List Carried) →
      AllByRecursion (LinkStands tasks links streams now (nexts runs)) cs →
      AllByRecursion (Writes (map (λ (row : List (List ℤ)). length row) streams) (λ n i. received_in i (frames_before tasks links streams ticks n))) cs
  all_write ticks runs all fits stands over now [] h = tt
  all_write ticks runs all fits stands over now (c ∷ cs) h = (writes ticks runs all c fits stands over now h.0, all_write ticks runs all fits stands over now cs h.1)

  -- what the links received, put into the script, is the derived one
  pub written_last : (ticks : ℕ) (runs : List Run) (cs : List Carried) → FitsInputs tasks streams → AllPairs LeadApart links → Stands tasks links streams ticks runs cs → NoneBefore ticks runs → all_written cs streams ≡ derived tasks links streams ticks
  written_last ticks runs cs fits apart stands over =
      written_is (map (λ (row : List (List ℤ)). length row) streams) (λ n i. received_in i (frames_before tasks links streams ticks n)) cs streams refl (subst (AllPairs LeadApart) (sym stands.same) apart)
      (all_write ticks runs cs fits stands over stands.now cs stands.held)
      ∙ ap (λ (ls : List Link). all_replaced (λ n i. option_map (λ (l : Link). received_in i (frames_before tasks links streams ticks n)) (find (feeds n i) ls)) 0 streams) stands.same

  -- each of them leads to an input that has a stream
  pub lead_among : (ticks : ℕ) (runs : List Run) (all : List Carried) → FitsInputs tasks streams → Stands tasks links streams ticks runs all → NoneBefore ticks runs → (now : ℕ) (cs : List Carried) → AllByRecursion (LinkStands tasks links streams now (nexts runs)) cs →
      AllByRecursion (LeadsAmong (map (λ (row : List (List ℤ)). length row) streams)) cs
  lead_among ticks runs all fits stands over now [] h = tt
  lead_among ticks runs all fits stands over now (c ∷ cs) h = ((writes ticks runs all c fits stands over now h.0).among, lead_among ticks runs all fits stands over now cs h.1)
