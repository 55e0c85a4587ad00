-- The frames of all tasks, one after another.
use Rattle.std.proofs.Common.{◌≡◌, ℕ, ◌+◌, ◌^◌, ◌<◌, ◌≤◌, List, [], ◌∷◌, ◌++◌, length, map, take, drop, get_or, All, Option, Some, None, refl, sym, ap, ◌∙◌, subst, arith}
use Rattle.std.specs.List.{AllByRecursion}
use Rattle.std.proofs.lemmas.List.{get_or-map, get_or_read, length-map, take-append-le, take_all}
use Rattle.std.proofs.lemmas.List.Elements.{All-from_recursion, All-get_or}
use Rattle.tcel_check.proofs.InScope.{tasks_in_scope}
use Rattle.tcel_core.specs.declared.set.CoreTask.{CoreTask}
use Rattle.tcel_core.specs.Cells.{all_words}
use Rattle.tcel_core.specs.Language.{Task}
use Rattle.tcel_core.specs.Plain.{plain_task}
use Rattle.tcel_core.specs.Scope.{Fits}
use Rattle.tcel_core.specs.Sound.{IsSoundSet, IsSoundTask}
use Rattle.tcel_flow.proofs.Reached.{few_variables}
use Rattle.tcel_link.specs.declared.feed.Feed.{Feed}
use Rattle.tcel_link.specs.declared.link.Link.{Link}
use Rattle.tcel_link.specs.declared.run.Run.{Run}
use Rattle.tcel_link.specs.Feeds.{Carried, LeadsWithin, begun, carried, ended}
use Rattle.tcel_link.specs.Links.{no_task, task_at}
use Rattle.tcel_link.specs.Runs.{IsRelease, first_release, next_frame}
use Rattle.tcel_link.proofs.Releases.{IsFirst, first_is}
use Rattle.tcel_link.proofs.Standing.{AreTimed, LinkStands, Stands, nexts, no_run, run_at}
use Rattle.tcel_script.specs.Script.{Streams}

-- the tasks of a sound set are timed
pub sound_timed : (tasks : List Task) → IsSoundSet tasks → AreTimed tasks
sound_timed tasks sound =
    record {
      period = λ n lt. let task = All-get_or IsSoundTask tasks n no_task lt sound.each in let some = task.period.some in omega arith;
      deadline = λ n lt. let task = All-get_or IsSoundTask tasks n no_task lt sound.each in let some = task.deadline.some in omega arith;
    }

-- the task that is released next: it is one of the set's
pub record IsChosen (items : List CoreTask) (ticks : ℕ) (runs : List Run) (number : ℕ) (t : CoreTask) : Type 0 where
  pub first : IsFirst ticks runs number
  pub inside : number < length items
  pub is : plain_task t ≡ task_at (map plain_task items) number
  pub sound : IsSoundTask (plain_task t)

pub first_of : (ticks number : ℕ) (runs shown : List Run) (r : Option ℕ) → shown ≡ runs → r ≡ first_release ticks None 0 shown → r ≡ Some number → IsFirst ticks runs number
first_of ticks number runs shown r same is found = first_is ticks number runs (ap (first_release ticks None 0) (sym same) ∙ sym is ∙ found)

pub inside_of : (items tasks : List CoreTask) (links : List Link) (streams : Streams) (ticks number : ℕ) (runs : List Run) (cs : List Carried) → tasks ≡ items → Stands (map plain_task items) links streams ticks runs cs → IsFirst ticks runs number → number < length tasks
inside_of items tasks links streams ticks number runs cs same stands first =
    omega (arith, first.within, stands.count, length-map items plain_task, ap (λ (ts : List CoreTask). length ts) same)

pub chosen : (items tasks : List CoreTask) (links : List Link) (streams : Streams) (ticks number : ℕ) (runs : List Run) (cs : List Carried) (t : CoreTask) → tasks ≡ items → IsSoundSet (map plain_task items) →
    Stands (map plain_task items) links streams ticks runs cs → IsFirst ticks runs number → t ≡ get_or tasks number t → IsChosen items ticks runs number t
chosen items tasks links streams ticks number runs cs t same sound stands first is =
    let within : number < length items = inside_of items items links streams ticks number runs cs refl stands first in
    let there : plain_task t ≡ task_at (map plain_task items) number =
    sym (get_or-map plain_task items number t no_task within ∙ ap plain_task (sym (is ∙ ap (λ ts. get_or ts number t) same))) in
    record {
      first = first;
      inside = within;
      is = there;
      sound = subst IsSoundTask (sym there) (All-get_or IsSoundTask (map plain_task items) number no_task (omega (arith, within, length-map items plain_task)) sound.each);
    }

-- its frame may run
pub record MayRun (t : CoreTask) (number ticks : ℕ) (run : Run) (feeds : List Feed) : Type 0 where
  pub few : length t.vars ≤ 256
  pub fits : Fits (plain_task t).body t.vars
  pub words : length run.cells ≡ all_words t.vars
  pub inputs : All (LeadsWithin number (length run.inputs)) (map carried feeds)
  pub early : run.next < ticks
  pub period : t.period ≤ 10 ^ 9
  pub deadline : t.finish ≤ 10 ^ 9

pub may_run : (items : List CoreTask) (links : List Link) (streams : Streams) (ticks number : ℕ) (runs : List Run) (feeds : List Feed) (t : CoreTask) (run : Run) → IsChosen items ticks runs number t →
    Stands (map plain_task items) links streams ticks runs (map carried feeds) → run ≡ get_or runs number run → MayRun t number ticks run feeds
may_run items links streams ticks number runs feeds t run it stands read =
    let tasks = map plain_task items in
    let is : run ≡ run_at runs number = get_or_read runs number run it.first.within read no_run in
    let mine = stands.each number it.first.within in
    let wide : length run.inputs ≡ length (task_at tasks number).inputs = ap (λ (r : Run). length r.inputs) is ∙ mine.inputs in
    record {
      few = few_variables (plain_task t) it.sound;
      fits = (tasks_in_scope (plain_task t) it.sound).body;
      words = ap (λ (r : Run). length r.cells) is ∙ mine.words ∙ sym (ap (λ (task : Task). all_words task.vars) it.is);
      inputs = All-from_recursion (LeadsWithin number (length run.inputs)) (map carried feeds) (all_within tasks wide (map carried feeds) stands.held);
      early = let at = ap (λ (r : Run). r.next) is in let early = it.first.early in omega (arith, at, early);
      period = it.sound.period.most;
      deadline = it.sound.deadline.most;
    }
  where
    all_within : (tasks : List Task) → length run.inputs ≡ length (task_at tasks number).inputs → (cs : List Carried) → AllByRecursion (LinkStands tasks links streams stands.now (nexts runs)) cs → AllByRecursion (LeadsWithin number (length run.inputs)) cs
    all_within tasks wide [] h = tt
    all_within tasks wide (c ∷ cs) h =
        (λ to. let inside = subst (λ n. c.link.input < length (task_at tasks n).inputs) to h.0.range.input in omega (arith, inside, wide), all_within tasks wide cs h.1)

-- both
pub record IsAble (items : List CoreTask) (ticks : ℕ) (runs : List Run) (number : ℕ) (t : CoreTask) (run : Run) (feeds : List Feed) : Type 0 where
  pub it : IsChosen items ticks runs number t
  pub may : MayRun t number ticks run feeds

-- as many feeds as before take their places
pub feeds_back : (number ticks : ℕ) (task : Task) (old new : Run) (before after : List Feed) (n : ℕ) → length before ≡ n → IsRelease number task old new (map carried before) (map carried after) →
    take n (after ++ drop (length after) before) ≡ after
feeds_back number ticks task old new before after n long released =
    let step = ap (λ (cs : List Carried). length cs) released.links in
    let cs = map carried before in
    let one = length-map cs (begun number old.next) in
    let two = length-map (map (begun number old.next) cs) (ended number old.next (old.next + task.deadline) (next_frame number task cs old).frame.events) in
    let same : length after ≡ n = omega (arith, step, one, two, length-map before carried, length-map after carried, long) in
    take-append-le n after (drop (length after) before) (omega (arith, same)) ∙ take_all n after (omega (arith, same))
