-- The exits of a command's body.
use Rattle.std.proofs.Common.{◌≡◌, ℕ, List, Option, None, Result, Ok, Err, refl, sym, subst, inl, inr}
use Rattle.std.specs.Prelude.{IsErrAnd, IsTrue}
use Rattle.tcel_io.specs.InTurn.{AreCutOff, AreTaken}
use Rattle.tcel_io.specs.Seen.{Seen}
use Rattle.tcel_io.specs.Shelf.{SeenShelf}
use Rattle.tcel_tool.specs.Answer.{Ended, Stops, StopsAtLoad, Writes, status_of, writes}
use Rattle.tcel_tool.specs.declared.status.Status.{Status}
use Rattle.tcel_tool.specs.declared.status.Status.TheVariants as statuses

-- a call that ended so, telling this task
abbrev pub at_end_of : Option (List ℕ) → SeenShelf → Seen → Seen → Status → Ended
at_end_of task shelf before after status = record { shelf = shelf; before = before; after = after; status = status; task = task }

-- telling none
abbrev pub at_end : SeenShelf → Seen → Seen → Status → Ended
at_end shelf before after status = at_end_of None shelf before after status

-- a body that ended so
abbrev pub ended_of : {T : Type 0} → Option (List ℕ) → SeenShelf → Seen → Seen → Result T Status → Ended
ended_of task shelf before after result = at_end_of task shelf before after (status_of result)

abbrev pub ended : {T : Type 0} → SeenShelf → Seen → Seen → Result T Status → Ended
ended shelf before after result = ended_of None shelf before after result

-- the status of an error that is known
pub at_exit : {T : Type 0} (result : Result T Status) (given : Status) → IsErrAnd result (λ e. e ≡ given) → status_of result ≡ given
at_exit (Ok done) given h = absurd h
at_exit (Err status) given h = h

-- a fault of the output is one where something may have been put
pub at_write_fault : {T : Type 0} (result : Result T Status) → IsErrAnd result (λ e. e ≡ statuses.WriteFault) → IsTrue (writes (status_of result))
at_write_fault result exit = subst (λ s. IsTrue (writes s)) (sym (at_exit result statuses.WriteFault exit)) refl

-- a load stopped the call
pub at_load : {T : Type 0} (words : List (List ℕ)) (word limit : ℕ) (old new : SeenShelf) (result : Result T Status) (given : Status)
    → IsErrAnd result (λ e. e ≡ given) → StopsAtLoad words word limit old new given → StopsAtLoad words word limit old new (status_of result)
at_load words word limit old new result given exit stopped = subst (StopsAtLoad words word limit old new) (sym (at_exit result given exit)) stopped

-- a test stopped the call
abbrev pub stops : {T : Type 0} {Cause : Status → Type 0} {task : Option (List ℕ)} {shelf : SeenShelf} {out : Seen} (result : Result T Status) (given : Status)
    → IsErrAnd result (λ e. e ≡ given) → Cause given → Stops Cause shelf (ended_of task shelf out out result)
stops {Cause = Cause} result given exit cause = record { cause = subst Cause (sym (at_exit result given exit)) cause; same = refl; untouched = refl }

-- the text was put up to a fault
abbrev pub cut_off : {T : Type 0} {IsPieces : List (List ℕ) → Type 0} {task : Option (List ℕ)} {shelf : SeenShelf} {before after : Seen} (pieces : List (List ℕ)) (result : Result T Status)
    → IsPieces pieces → IsErrAnd result (λ e. e ≡ statuses.WriteFault) → AreCutOff pieces before after → Writes IsPieces shelf (ended_of task shelf before after result)
cut_off pieces result text exit cut =
    record { pieces = pieces; text = text; same = refl; put = inr (at_exit result statuses.WriteFault exit, cut) }

-- all of it was put
abbrev pub taken : {IsPieces : List (List ℕ) → Type 0} {task : Option (List ℕ)} {shelf : SeenShelf} {before after : Seen} (pieces : List (List ℕ))
    → IsPieces pieces → AreTaken pieces before after → Writes IsPieces shelf (at_end_of task shelf before after statuses.Ok)
taken pieces text all = record { pieces = pieces; text = text; same = refl; put = inl (refl, all) }
