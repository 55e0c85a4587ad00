-- A tick that a task has.
use Rattle.std.proofs.Common.{◌≡◌, ℕ, ◌+◌, ◌<◌, ◌≤◌, ⊎_elim, List, [], length, get_or, set, take, map, get_or-set_same, Option, Some, None, refl, ap, sym, ◌∙◌, arith}
use Rattle.std.specs.List.{slice_get}
use Rattle.std.specs.Option.{option_map, option_map_or}
use Rattle.std.proofs.lemmas.List.{map-set}
use Rattle.std.proofs.Math.ListN.{length-set}
use Rattle.std.proofs.lemmas.Option.{slice_get-map, slice_get_read, slice_get_cases, get_or_from_slice_get}
use Rattle.tcel_num.specs.Entry as plain
use Rattle.tcel_image.specs.declared.image.Image.{Image}
use Rattle.tcel_image.specs.declared.image.ImageTask.{ImageTask}
use Rattle.tcel_image.specs.Machine.{Running, Streams, Outcome, Ticked, own_tick, entry_of, tick_from}
use Rattle.tcel_image.specs.Spelling.{state_words}
use Rattle.tcel_machine.specs.declared.entry.What.{What}
use Rattle.tcel_machine.specs.declared.task.Task.{Task}
use Rattle.tcel_machine.specs.Run.{state_in, Tells}
use Rattle.tcel_machine.specs.Runs.{IsRunning, AllRun, IsFirstReady}
use Rattle.tcel_machine.specs.Seen.{seen}
use Rattle.tcel_machine.specs.Task.{running_of, state_of, Shows}
use Rattle.tcel_machine.specs.Tick.{CanTick, Ticks}
use Rattle.tcel_machine.proofs.Ready.{all_but, all_later}
use Rattle.tcel_machine.proofs.Ticks.{tick_at, tick_none, ticked_at}

pub get_set : {X : Type 0} (xs : List X) (i : ℕ) (x : X) → i < length xs → slice_get (set xs i x) i ≡ Some x
get_set xs i x h = slice_get_read (set xs i x) (length xs) i x (sym (length-set xs i x)) h (sym (get_or-set_same xs i x x h))

module _ (image : Image) (streams : Streams) (now : ℕ) (old : List Task) (number : ℕ) (task : ImageTask) (run new : Task) (can : CanTick image now old)
    (first : IsFirstReady image.tasks now (map running_of old) (Some number)) (within : number < length old) (is : slice_get image.tasks number ≡ Some task)
    (was : slice_get old number ≡ Some run) where
  abbrev outcome : Outcome
  outcome = own_tick image.costs task (get_or streams number []) now (running_of run)

  state_is : new.words ≡ state_words task.states → state_in image.tasks (map running_of (set old number new)) number ≡ state_of new
  state_is words =
      let stands : slice_get (map running_of (set old number new)) number ≡ Some (running_of new) =
      slice_get-map running_of (set old number new) number ∙ ap (option_map running_of) (get_set old number new within) in
      ap (λ found. option_map_or (λ (t : ImageTask). option_map_or (λ (r : Running). take (state_words t.states) r.cells) (slice_get (map running_of (set old number new)) number) []) found []) is
      ∙ ap (λ found. option_map_or (λ (r : Running). take (state_words task.states) r.cells) found []) stands
      ∙ ap (λ n. take n new.cells.items) (sym words)

  whole : tick_from image.costs now image.tasks streams 0 (map running_of old) ≡ ticked_at image.costs now task streams number number (running_of run) (map running_of old)
  whole =
      let stood : slice_get (map running_of old) number ≡ Some (running_of run) = slice_get-map running_of old number ∙ ap (option_map running_of) was in
      tick_at image.costs now image.tasks streams 0 number number (map running_of old) task (running_of run) (omega arith) first.0 first.1
      ∙ ap (λ t. ticked_at image.costs now t streams number number (get_or (map running_of old) number (running_of run)) (map running_of old)) (get_or_from_slice_get image.tasks number task task is)
      ∙ ap (λ r. ticked_at image.costs now task streams number number r (map running_of old)) (get_or_from_slice_get (map running_of old) number (running_of run) (running_of run) stood)

  told : (found : Option What) (shown : Option plain.What) → new.words ≡ state_words task.states → Shows found new shown
      → Tells (option_map (λ what. record { time = now + 1; task = number; frame = run.ended; what = what }) found) image.tasks (map running_of (set old number new)) (entry_of now number (running_of run) shown)
  told None shown words h = ap (entry_of now number (running_of run)) h
  told (Some what) shown words h =
      ap (λ state. Some (record { time = now + 1; task = number; frame = run.ended; what = seen state what })) (state_is words)
      ∙ ap (entry_of now number (running_of run)) h

  pub ran : (found : Option What) → IsRunning task (now + 1) new → running_of new ≡ outcome.task → Shows found new outcome.shown
      → Ticks image streams now old (set old number new) (option_map (λ what. record { time = now + 1; task = number; frame = run.ended; what = what }) found)
  ran found kept became shows =
      record {
        running = all_but image.tasks now old number task new can.running is kept;
        tasks = map-set running_of old number new ∙ ap (set (map running_of old) number) became ∙ sym (ap (λ (t : Ticked). t.tasks) whole);
        tells =
            told found outcome.shown kept.words shows ∙ sym (ap (λ (t : Ticked). t.entry) whole);
      }

pub idle : (image : Image) (streams : Streams) (now : ℕ) (old : List Task) → CanTick image now old → IsFirstReady image.tasks now (map running_of old) None
    → Ticks image streams now old old None
idle image streams now old can none =
    let whole = tick_none image.costs now image.tasks streams 0 (map running_of old) none in
    record {
      running = all_later image.tasks now old can.running;
      tasks = sym (ap (λ (t : Ticked). t.tasks) whole);
      tells = sym (ap (λ (t : Ticked). t.entry) whole);
    }

-- the words that a task shows are those of its number
pub shown_at : (tasks : List ImageTask) (runs : List Task) (now number : ℕ) (run : Task) → AllRun tasks now runs → number < length runs → run ≡ get_or runs number run
    → state_of run ≡ state_in tasks (map running_of runs) number
shown_at tasks runs now number run all h is =
    ⊎_elim
    (λ found.
    let task = found.0 in
    let was = slice_get_read runs (length runs) number run refl h is in
    let running = all.each number task run found.2 was in
    let stands : slice_get (map running_of runs) number ≡ Some (running_of run) = slice_get-map running_of runs number ∙ ap (option_map running_of) was in
    ap (λ n. take n run.cells.items) running.words
    ∙ sym
    (ap (λ f. option_map_or (λ (t : ImageTask). option_map_or (λ (r : Running). take (state_words t.states) r.cells) (slice_get (map running_of runs) number) []) f []) found.2
    ∙ ap (λ f. option_map_or (λ (r : Running). take (state_words task.states) r.cells) f []) stands))
    (λ none. absurd (omega (arith, all.count, none.0)))
    (slice_get_cases tasks number).1

pub fits_at : (tasks : List ImageTask) (runs : List Task) (now number : ℕ) (run : Task) → AllRun tasks now runs → number < length runs → run ≡ get_or runs number run
    → run.words ≤ length run.cells.items
fits_at tasks runs now number run all h is =
    ⊎_elim
    (λ found. (all.each number found.0 run found.2 (slice_get_read runs (length runs) number run refl h is)).fits)
    (λ none. absurd (omega (arith, all.count, none.0)))
    (slice_get_cases tasks number).1
