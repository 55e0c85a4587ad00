use Rattle.std.proofs.Common.{◌<◌, List, None, length, map, set, sym, ap, ◌∙◌, subst, arith}
use Rattle.std.proofs.lemmas.List.{get_or_read}
use Rattle.std.proofs.lemmas.List.Elements.{All-from_recursion}
use Rattle.std.specs.Prelude.{All, ℤ}
use Rattle.tcel_core.specs.declared.set.CoreTask.{CoreTask}
use Rattle.tcel_core.specs.Cells.{all_words}
use Rattle.tcel_core.specs.Language.{Task}
use Rattle.tcel_core.specs.Plain.{plain_set, plain_task}
use Rattle.tcel_link.specs.declared.feed.Feed.{Feed}
use Rattle.tcel_link.specs.declared.run.Run.{Run}
use Rattle.tcel_link.specs.Feeds.{Carried, all_written, carried}
use Rattle.tcel_link.specs.Links.{task_at}
use Rattle.tcel_link.specs.Runs.{IsRelease, LeadsAmong, first_release, start_link, start_runs}
use Rattle.tcel_link.proofs.Ends.{lead_among, stands_first, written_last}
use Rattle.tcel_link.proofs.Releases.{fewer_left, none_released}
use Rattle.tcel_link.proofs.NextFrames.{IsAble, chosen, feeds_back, first_of, inside_of, may_run, sound_timed}
use Rattle.tcel_link.proofs.Standing.{Stands, no_run, run_at, stands_next}
use Rattle.tcel_link.proofs.resolving.resolve.Goals as goal
use Rattle.tcel_link.proofs.resolving.resolve.Goals.{After-deref_mut}

pub loop-number-init : goal.loop-number-init
loop-number-init c =
    let tasks = plain_set c.args.set.now in
    let script = c.args.script in
    let runs = c.in_ok-runs.ensures ∙ ap (λ (ts : List CoreTask). start_runs 0 (map plain_task ts) script) c.as_slice-tasks.ensures in
    let feeds = c.in_ok-feeds.ensures ∙ ap (λ (ts : List CoreTask). map (start_link (map plain_task ts)) c.list.result.now) c.as_slice-tasks.ensures ∙ ap (map (start_link tasks)) c.list.ensures in
    let first = stands_first tasks c.args.links.now script (sound_timed tasks c.requires.sound) c.args.ticks c.requires.streams c.requires.links.in_range in
    subst (λ (rs : List Run). Stands tasks c.args.links.now script c.args.ticks rs (map carried c.in_ok-feeds.feeds.items)) (sym runs)
    (subst (λ (cs : List Carried). Stands tasks c.args.links.now script c.args.ticks (start_runs 0 tasks script) cs) (sym feeds) first)

pub bounds-tasks-number : goal.bounds-tasks-number
bounds-tasks-number c =
    let first = first_of c.args.ticks c.in-Some.number c.loop-number.runs.items c.deref.result.now c.first_release.result c.deref.ensures.value c.first_release.ensures c.in-Some.is in
    inside_of c.args.set.now.tasks c.as_slice-tasks.result.now c.args.links.now c.args.script c.args.ticks c.in-Some.number c.loop-number.runs.items (map carried c.loop-number.feeds.items) c.as_slice-tasks.ensures
    c.loop-number.invariant first

pub offset_bounds-tasks-number : goal.offset_bounds-tasks-number
offset_bounds-tasks-number c =
    let first = first_of c.args.ticks c.in-Some.number c.loop-number.runs.items c.deref.result.now c.first_release.result c.deref.ensures.value c.first_release.ensures c.in-Some.is in
    omega (arith, first.within, c.loop-number.invariant.count, c.requires.sound.most)

pub index_mut-requires : goal.index_mut-requires
index_mut-requires c =
    let first = first_of c.args.ticks c.in-Some.number c.loop-number.runs.items c.deref.result.now c.first_release.result c.deref.ensures.value c.first_release.ensures c.in-Some.is in
    omega (arith, first.within)

pub overflow_cast-number : goal.overflow_cast-number
overflow_cast-number c =
    let first = first_of c.args.ticks c.in-Some.number c.loop-number.runs.items c.deref.result.now c.first_release.result c.deref.ensures.value c.first_release.ensures c.in-Some.is in
    omega (arith, first.within, c.loop-number.invariant.count, c.requires.sound.most)

-- the frame that is released next may run
able : (c : goal.After-deref_mut) → IsAble c.args.set.now.tasks c.args.ticks c.loop-number.runs.items c.in-Some.number c.index-tasks-number.result c.index_mut.result.now c.deref_mut.result.now
able c =
    let items = c.args.set.now.tasks in
    let runs = c.loop-number.runs.items in
    let number = c.in-Some.number in
    let stands = subst (λ (fs : List Feed). Stands (map plain_task items) c.args.links.now c.args.script c.args.ticks runs (map carried fs)) (sym c.deref_mut.ensures.value) c.loop-number.invariant in
    let first = first_of c.args.ticks number runs c.deref.result.now c.first_release.result c.deref.ensures.value c.first_release.ensures c.in-Some.is in
    let it = chosen items c.as_slice-tasks.result.now c.args.links.now c.args.script c.args.ticks number runs (map carried c.deref_mut.result.now) c.index-tasks-number.result c.as_slice-tasks.ensures c.requires.sound stands first c.index-tasks-number.is in
    record { it = it; may = may_run items c.args.links.now c.args.script c.args.ticks number runs c.deref_mut.result.now c.index-tasks-number.result c.index_mut.result.now it stands c.index_mut.ensures.value }

pub release-requires-clause-variables : goal.release-requires-clause-variables
release-requires-clause-variables c = (able (goal.at.release-requires-clause-variables c).After-deref_mut).may.few

pub release-requires-clause-fits : goal.release-requires-clause-fits
release-requires-clause-fits c = (able (goal.at.release-requires-clause-fits c).After-deref_mut).may.fits

pub release-requires-clause-words : goal.release-requires-clause-words
release-requires-clause-words c = (able (goal.at.release-requires-clause-words c).After-deref_mut).may.words

pub release-requires-clause-inputs : goal.release-requires-clause-inputs
release-requires-clause-inputs c = (able (goal.at.release-requires-clause-inputs c).After-deref_mut).may.inputs

pub release-requires-clause-time : goal.release-requires-clause-time
release-requires-clause-time c = omega (arith, (able (goal.at.release-requires-clause-time c).After-deref_mut).may.early, c.requires.ticks)

pub release-requires-clause-period : goal.release-requires-clause-period
release-requires-clause-period c = omega (arith, (able (goal.at.release-requires-clause-period c).After-deref_mut).may.period)

pub release-requires-clause-deadline : goal.release-requires-clause-deadline
release-requires-clause-deadline c = omega (arith, (able (goal.at.release-requires-clause-deadline c).After-deref_mut).may.deadline)

pub loop-number-smaller : goal.loop-number-smaller
loop-number-smaller c =
    let it = (able (goal.at.loop-number-smaller c).After-deref_mut).it in
    let run = get_or_read c.loop-number.runs.items c.in-Some.number c.index_mut.result.now it.first.within c.index_mut.ensures.value no_run in
    let later : c.index_mut.result.now.next < c.release.new.self.next = let some = it.sound.period.some in omega (arith, c.in_ok-release.ensures.ran.next, some) in
    fewer_left c.args.ticks c.in-Some.number c.loop-number.runs.items c.release.new.self it.first.within it.first.early (subst (λ (r : Run). r.next < c.release.new.self.next) run later)

pub loop-number-preserved : goal.loop-number-preserved
loop-number-preserved c =
    let tasks = plain_set c.args.set.now in
    let number = c.in-Some.number in
    let runs = c.loop-number.runs.items in
    let feeds = c.loop-number.feeds.items in
    let new = c.release.new.self in
    let after = c.release.new.feeds in
    let it = (able (goal.at.loop-number-preserved c).After-deref_mut).it in
    let run = get_or_read runs number c.index_mut.result.now it.first.within c.index_mut.ensures.value no_run in
    let same = c.deref_mut.ensures.value in
    let one = subst (λ (fs : List Feed). IsRelease number (plain_task c.index-tasks-number.result) c.index_mut.result.now new (map carried fs) (map carried after)) same c.in_ok-release.ensures.ran in
    let two = subst (λ (task : Task). IsRelease number task c.index_mut.result.now new (map carried feeds) (map carried after)) it.is one in
    let released = subst (λ (r : Run). IsRelease number (task_at tasks number) r new (map carried feeds) (map carried after)) run two in
    let words = c.in_ok-release.ensures.words ∙ ap (λ (task : Task). all_words task.vars) it.is in
    let stands = stands_next tasks c.args.links.now c.args.script (sound_timed tasks c.requires.sound) c.args.ticks number runs (map carried feeds) (map carried after) new c.requires.links.apart c.loop-number.invariant
    it.first.within it.first.early it.first.least released words in
    let back = feeds_back number c.args.ticks (task_at tasks number) (run_at runs number) new feeds after c.loop-number.feeds.len (ap (λ (fs : List Feed). length fs) (sym same) ∙ c.deref_mut.ensures.len) released in
    subst (λ (fs : List Feed). Stands tasks c.args.links.now c.args.script c.args.ticks (set runs number new) (map carried fs)) (sym back) stands

pub write_all-requires : goal.write_all-requires
write_all-requires c =
    let tasks = plain_set c.args.set.now in
    let stands = c.loop-number.invariant in
    let over = none_released c.args.ticks None 0 c.loop-number.runs.items (ap (first_release c.args.ticks None 0) (sym c.deref.ensures.value) ∙ sym c.first_release.ensures ∙ c.in_default.is) in
    let counts = map (λ (row : List (List ℤ)). length row) c.args.script in
    let among = lead_among tasks c.args.links.now c.args.script (sound_timed tasks c.requires.sound) c.args.ticks c.loop-number.runs.items (map carried c.loop-number.feeds.items) c.requires.streams stands over.1 stands.now
    (map carried c.loop-number.feeds.items) stands.held in
    subst (λ (fs : List Feed). All (LeadsAmong counts) (map carried fs)) (sym c.deref-2.ensures.value) (All-from_recursion (LeadsAmong counts) (map carried c.loop-number.feeds.items) among)

pub returns : goal.returns
returns c =
    let tasks = plain_set c.args.set.now in
    let stands = c.loop-number.invariant in
    let over = none_released c.args.ticks None 0 c.loop-number.runs.items (ap (first_release c.args.ticks None 0) (sym c.deref.ensures.value) ∙ sym c.first_release.ensures ∙ c.in_default.is) in
    c.in_ok-write_all.ensures ∙ ap (λ (fs : List Feed). all_written (map carried fs) c.args.script) c.deref-2.ensures.value
    ∙ written_last tasks c.args.links.now c.args.script (sound_timed tasks c.requires.sound) c.args.ticks c.loop-number.runs.items (map carried c.loop-number.feeds.items) c.requires.streams c.requires.links.apart stands over.1
