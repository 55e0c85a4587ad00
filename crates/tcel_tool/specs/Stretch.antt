-- A stretch of a command's stages, from a call and a shelf on.
use Rattle.std.specs.Prelude.{◌≡◌, ℕ, ◌≤◌, ◌⊎◌, List, [], ◌∷◌, Option}
use Rattle.tcel_io.specs.Shelf.{SeenShelf}
use Rattle.tcel_tool.specs.Answer.{IsAbove, Loads, OrMemory, StopsAtLoad, with_read}
use Rattle.tcel_tool.specs.CommandLine.{number_at}
use Rattle.tcel_tool.specs.Commands.{Names, Passes, Refuses}
use Rattle.tcel_tool.specs.MadeText.{made_text}
use Rattle.tcel_tool.specs.Stage.{Call, Stage, load, make, bound, test}
use Rattle.tcel_tool.specs.declared.status.Status.{Status}
use Rattle.tcel_tool.specs.declared.status.Status.TheVariants as statuses

-- all of it is behind the call, which has read more now
abbrev pub Passed : List Stage → Call → SeenShelf → Call → SeenShelf → Type 0
Passed [] call shelf last new = (last ≡ call) × (new ≡ shelf)
Passed (load word limit ∷ stages) call shelf last new =
    (bytes : List ℕ) × (next : SeenShelf) × Loads call.words word limit shelf next bytes × Passed stages (with_read word bytes call) next last new
Passed (make what word ∷ stages) call shelf last new = Passed stages (with_read word (made_text what call.words) call) shelf last new
Passed (bound kind word most ∷ stages) call shelf last new = (number_at call.words word ≤ most) × Passed stages call shelf last new
Passed (test what ∷ stages) call shelf last new = Passes what call × Passed stages call shelf last new

-- one of its stages stopped the call, with this status, and with the name of the task that it tells
abbrev pub Stopped : List Stage → Call → SeenShelf → SeenShelf → Status → Option (List ℕ) → Type 0
Stopped [] call shelf new status task = ⊥
Stopped (load word limit ∷ stages) call shelf new status task =
    StopsAtLoad call.words word limit shelf new status
    ⊎ ((bytes : List ℕ) × (next : SeenShelf) × Loads call.words word limit shelf next bytes × Stopped stages (with_read word bytes call) next new status task)
Stopped (make what word ∷ stages) call shelf new status task =
    ((status ≡ statuses.NoMemory) × (new ≡ shelf)) ⊎ Stopped stages (with_read word (made_text what call.words) call) shelf new status task
Stopped (bound kind word most ∷ stages) call shelf new status task =
    (IsAbove call.words kind word most status × (new ≡ shelf)) ⊎ ((number_at call.words word ≤ most) × Stopped stages call shelf new status task)
Stopped (test what ∷ stages) call shelf new status task =
    (OrMemory (Refuses what call) status × Names what call status task × (new ≡ shelf)) ⊎ (Passes what call × Stopped stages call shelf new status task)
