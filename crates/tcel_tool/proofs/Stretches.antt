-- A call that goes on behind a stretch of its stages, or is stopped within it.
use Rattle.std.proofs.Common.{◌≡◌, ℕ, List, [], ◌∷◌, ◌++◌, Option, Result, sym, subst, inl, inr}
use Rattle.std.specs.Prelude.{IsErrAnd}
use Rattle.tcel_io.specs.Shelf.{SeenShelf}
use Rattle.tcel_tool.specs.Answer.{Ended, Goes, status_of, with_read}
use Rattle.tcel_tool.specs.MadeText.{made_text}
use Rattle.tcel_tool.specs.Stage.{Call, Stage, load, make, bound, test}
use Rattle.tcel_tool.specs.Stretch.{Passed, Stopped}
use Rattle.tcel_tool.specs.declared.command.Command.{Command}
use Rattle.tcel_tool.specs.declared.status.Status.{Status}
use Rattle.tcel_tool.proofs.Exits.{at_exit}

-- the status of an error that is known
pub stopped_at : {T : Type 0} (stages : List Stage) (call : Call) (shelf new : SeenShelf) (task : Option (List ℕ)) (result : Result T Status) (given : Status)
    → IsErrAnd result (λ e. e ≡ given) → Stopped stages call shelf new given task → Stopped stages call shelf new (status_of result) task
stopped_at stages call shelf new task result given exit stopped =
    subst (λ s. Stopped stages call shelf new s task) (sym (at_exit result given exit)) stopped

pub goes_behind : (command : Command) (end : Ended) (stages more : List Stage) (call last : Call) (shelf new : SeenShelf)
    → Passed stages call shelf last new → Goes command end more last new → Goes command end (stages ++ more) call shelf
goes_behind command end [] more call last shelf new (is, same) rest =
    subst (λ (c : Call). Goes command end more c shelf) is (subst (λ (s : SeenShelf). Goes command end more last s) same rest)
goes_behind command end (load word limit ∷ stages) more call last shelf new (bytes, next, loads, passed) rest =
    inr (bytes, next, loads, goes_behind command end stages more (with_read word bytes call) last next new passed rest)
goes_behind command end (make what word ∷ stages) more call last shelf new passed rest =
    inr (goes_behind command end stages more (with_read word (made_text what call.words) call) last shelf new passed rest)
goes_behind command end (bound kind word most ∷ stages) more call last shelf new (few, passed) rest =
    inr (few, goes_behind command end stages more call last shelf new passed rest)
goes_behind command end (test what ∷ stages) more call last shelf new (passes, passed) rest =
    inr (passes, goes_behind command end stages more call last shelf new passed rest)

pub goes_stopped : (command : Command) (end : Ended) (stages more : List Stage) (call : Call) (shelf : SeenShelf)
    → Stopped stages call shelf end.shelf end.status end.task → end.after ≡ end.before → Goes command end (stages ++ more) call shelf
goes_stopped command end [] more call shelf h same = absurd h
goes_stopped command end (load word limit ∷ stages) more call shelf (inl stops) same = inl (stops, same)
goes_stopped command end (load word limit ∷ stages) more call shelf (inr (bytes, next, loads, stopped)) same =
    inr (bytes, next, loads, goes_stopped command end stages more (with_read word bytes call) next stopped same)
goes_stopped command end (make what word ∷ stages) more call shelf (inl (none, is)) same =
    inl (record { cause = none; same = is; untouched = same })
goes_stopped command end (make what word ∷ stages) more call shelf (inr stopped) same =
    inr (goes_stopped command end stages more (with_read word (made_text what call.words) call) shelf stopped same)
goes_stopped command end (bound kind word most ∷ stages) more call shelf (inl (above, is)) same =
    inl (record { cause = above; same = is; untouched = same })
goes_stopped command end (bound kind word most ∷ stages) more call shelf (inr (few, stopped)) same =
    inr (few, goes_stopped command end stages more call shelf stopped same)
goes_stopped command end (test what ∷ stages) more call shelf (inl (cause, named, is)) same =
    inl (record { cause = cause; same = is; untouched = same }, named)
goes_stopped command end (test what ∷ stages) more call shelf (inr (passes, stopped)) same =
    inr (passes, goes_stopped command end stages more call shelf stopped same)
