-- What a call of a command does: its stages in order, up to the first that stops it, and then its text.
use Rattle.std.specs.Prelude.{◌≡◌, ℕ, ◌<◌, ◌≤◌, ◌==◌, ◌⊎◌, if◌then◌else◌, Bool, true, false, List, [], ◌∷◌, ◌++◌, MatchOption, IfSome, Option, Result, Ok, Err, length}
use Rattle.tcel_io.specs.InTurn.{AreCutOff, AreTaken}
use Rattle.tcel_io.specs.Seen.{Seen}
use Rattle.tcel_io.specs.Shelf.{SeenShelf}
use Rattle.tcel_io.specs.declared.loaded.Outcome.{Outcome}
use Rattle.tcel_io.specs.declared.loaded.Outcome.TheVariants as outcomes
use Rattle.tcel_tool.specs.CommandLine.{number_at, word_at}
use Rattle.tcel_tool.specs.Commands.{IsText, Names, Passes, Refuses, stages_of}
use Rattle.tcel_tool.specs.MadeText.{made_text}
use Rattle.tcel_tool.specs.Stage.{Call, Stage, load, make, bound, test}
use Rattle.tcel_tool.specs.declared.command.Command.{Command}
use Rattle.tcel_tool.specs.declared.status.CountKind.{CountKind}
use Rattle.tcel_tool.specs.declared.status.LimitFault.TheVariants as limits
use Rattle.tcel_tool.specs.declared.status.Status.{Status}
use Rattle.tcel_tool.specs.declared.status.Status.TheVariants as statuses

-- before any file is read
abbrev pub begun : List (List ℕ) → Call
begun words = record { words = words; read = λ word. [] }

-- these bytes were read from the file of this word
abbrev pub with_read : ℕ → List ℕ → Call → Call
with_read word bytes call = record { words = call.words; read = λ other. if other == word then bytes else call.read other }

-- how a call ended: the shelf then, the output before the call and then, the status, and the name of the task that it tells, where it tells one
pub record Ended : Type 0 where
  pub shelf : SeenShelf
  pub before : Seen
  pub after : Seen
  pub status : Status
  pub task : Option (List ℕ)

-- ---- the stages

-- the shelf after a load of the file of this word: the same bytes are told, and the list has one entry more
abbrev pub with_load : List (List ℕ) → ℕ → ℕ → Outcome → SeenShelf → SeenShelf
with_load words word limit outcome shelf =
    record { told = shelf.told; loads = shelf.loads ++ record { name = word_at words word; limit = limit; outcome = outcome } ∷ [] }

-- the file of this word was loaded: these are its bytes, at most so many, and the told ones where they are told
pub record Loads (words : List (List ℕ)) (word limit : ℕ) (old new : SeenShelf) (bytes : List ℕ) : Type 0 where
  pub told : IfSome (old.told (word_at words word)) (λ all. bytes ≡ all)
  pub short : length bytes ≤ limit
  pub listed : new ≡ with_load words word limit outcomes.Done old

-- the load stopped the call: for want of memory, since the file can't be read, or since it is longer than the limit
abbrev pub StopsAtLoad : List (List ℕ) → ℕ → ℕ → SeenShelf → SeenShelf → Status → Type 0
StopsAtLoad words word limit old new status =
    ((status ≡ statuses.NoMemory) × (new ≡ old))
    ⊎ (((status ≡ statuses.ReadFault word) × (new ≡ with_load words word limit outcomes.Fault old))
    ⊎ ((status ≡ statuses.Limit (limits.Bytes word limit)) × (new ≡ with_load words word limit outcomes.TooLong old)
    × IfSome (old.told (word_at words word)) (λ all. limit < length all)))

-- the number that this word writes is above the greatest one allowed
abbrev pub IsAbove : List (List ℕ) → CountKind → ℕ → ℕ → Status → Type 0
IsAbove words kind word most status =
    (status ≡ statuses.Limit (limits.Count kind (number_at words word))) × (most < number_at words word)

-- memory ran out, or there is this cause
abbrev pub OrMemory : (Status → Type 0) → Status → Type 0
OrMemory Cause status = (status ≡ statuses.NoMemory) ⊎ Cause status

-- the call was stopped for this cause: nothing was put, and the shelf is as it was
pub record Stops (Cause : Status → Type 0) (shelf : SeenShelf) (end : Ended) : Type 0 where
  pub cause : Cause end.status
  pub same : end.shelf ≡ shelf
  pub untouched : end.after ≡ end.before

-- ---- the text

-- it was put piece by piece: all of it, or up to the first fault
pub record Writes (IsPieces : List (List ℕ) → Type 0) (shelf : SeenShelf) (end : Ended) : Type 0 where
  pub pieces : List (List ℕ)
  pub text : IsPieces pieces
  pub same : end.shelf ≡ shelf
  pub put : ((end.status ≡ statuses.Ok) × AreTaken pieces end.before end.after) ⊎ ((end.status ≡ statuses.WriteFault) × AreCutOff pieces end.before end.after)

-- ---- the whole call

-- from this shelf on, with these stages left, the call ended so
abbrev pub Goes : Command → Ended → List Stage → Call → SeenShelf → Type 0
Goes command end [] call shelf = Stops (λ status. status ≡ statuses.NoMemory) shelf end ⊎ Writes (IsText command call) shelf end
Goes command end (load word limit ∷ stages) call shelf =
    (StopsAtLoad call.words word limit shelf end.shelf end.status × (end.after ≡ end.before))
    ⊎ ((bytes : List ℕ) × (next : SeenShelf) × Loads call.words word limit shelf next bytes × Goes command end stages (with_read word bytes call) next)
Goes command end (make what word ∷ stages) call shelf =
    Stops (λ status. status ≡ statuses.NoMemory) shelf end ⊎ Goes command end stages (with_read word (made_text what call.words) call) shelf
Goes command end (bound kind word most ∷ stages) call shelf =
    Stops (IsAbove call.words kind word most) shelf end ⊎ ((number_at call.words word ≤ most) × Goes command end stages call shelf)
Goes command end (test what ∷ stages) call shelf =
    (Stops (OrMemory (Refuses what call)) shelf end × Names what call end.status end.task) ⊎ (Passes what call × Goes command end stages call shelf)

-- a call of this command with these words did so: to the shelf, to its output, with this status, and telling the task of this name
abbrev pub Does : Command → List (List ℕ) → SeenShelf → SeenShelf → Seen → Seen → Status → Option (List ℕ) → Type 0
Does command words shelf shelf' before after status task =
    Goes command (record { shelf = shelf'; before = before; after = after; status = status; task = task }) (stages_of command) (begun words) shelf

-- the status of a body that ended so
abbrev pub status_of : {T : Type 0} → Result T Status → Status
status_of (Ok done) = statuses.Ok
status_of (Err status) = status

-- whether a call with this status may have put something
abbrev pub writes : Status → Bool
writes statuses.Ok = true
writes statuses.WriteFault = true
writes _ = false

-- ---- completeness

-- with the bytes that are told under the words, this is the status of the first stage that has a cause to stop the call, or Ok where none has
abbrev pub Decides : (List ℕ → Option (List ℕ)) → List Stage → Call → Status → Type 0
Decides told [] call status = status ≡ statuses.Ok
Decides told (load word limit ∷ stages) call status =
    MatchOption (told (word_at call.words word)) ⊥ (λ bytes.
    ((limit < length bytes) × (status ≡ statuses.Limit (limits.Bytes word limit)))
    ⊎ ((length bytes ≤ limit) × Decides told stages (with_read word bytes call) status))
Decides told (make what word ∷ stages) call status = Decides told stages (with_read word (made_text what call.words) call) status
Decides told (bound kind word most ∷ stages) call status =
    IsAbove call.words kind word most status ⊎ ((number_at call.words word ≤ most) × Decides told stages call status)
Decides told (test what ∷ stages) call status =
    Refuses what call status ⊎ (((other : Status) → Refuses what call other → ⊥) × Decides told stages call status)

-- the words and the told bytes decide this status for the command
abbrev pub IsDecided : Command → (List ℕ → Option (List ℕ)) → List (List ℕ) → Status → Type 0
IsDecided command told words status = Decides told (stages_of command) (begun words) status

-- a call ended with the status that was decided; or memory ran out, a file couldn't be read, or the output had a fault while the text was put
abbrev pub Agrees : Status → Status → Type 0
Agrees decided status =
    (status ≡ decided) ⊎ ((status ≡ statuses.NoMemory) ⊎ (((word : ℕ) × (status ≡ statuses.ReadFault word)) ⊎ ((decided ≡ statuses.Ok) × (status ≡ statuses.WriteFault))))
