-- What holds of all linked tasks.
use Rattle.std.specs.Prelude.{◌≡◌, ℕ, ◌*◌, ◌<◌, List, [], find, Some, slice_index_or}
use Rattle.std.specs.List.{AllByRecursion}
use Rattle.tcel_core.specs.Frames.{frame_of}
use Rattle.tcel_core.specs.Language.{Task}
use Rattle.tcel_core.specs.Meets.{Meets}
use Rattle.tcel_core.specs.Sound.{IsSoundSet}
use Rattle.tcel_link.specs.declared.link.Link.{Link}
use Rattle.tcel_link.specs.Conditions.{AreLinks, FitsInputs}
use Rattle.tcel_link.specs.Linked.{derived, frame_start, frames_before, linked_frame, ran, received, sample}
use Rattle.tcel_link.specs.Links.{feeds, task_at}
use Rattle.tcel_link.specs.Traces.{IsReleased, MeetsLinked, ReceivesAreExplained}
use Rattle.tcel_num.specs.Entry.{Entry}
use Rattle.tcel_num.specs.Plan.{Plan}
use Rattle.tcel_script.specs.Script.{Streams}

-- in the frame of a task that is released at a time, each receive from an input to which a link leads has the link's sample at that time
abbrev pub ReceivesAreSamples : Type 0
ReceivesAreSamples =
    (tasks : List Task) (links : List Link) (streams : Streams) (time number input : ℕ) (link : Link) → FitsInputs tasks streams → AreLinks tasks links →
    find (feeds number input) links ≡ Some link →
    let past = frames_before tasks links streams time in
    let frame = (ran (task_at tasks number) (frame_start tasks links streams past time number)).frame in
    AllByRecursion (λ value. value ≡ sample tasks past time link) (received input frame.events)

-- over the derived script each frame of a task that is released before its end is the linked one
abbrev pub DerivedFramesAreLinked : Type 0
DerivedFramesAreLinked =
    (tasks : List Task) (links : List Link) (streams : Streams) (ticks number f : ℕ) → FitsInputs tasks streams → AreLinks tasks links →
    0 < (task_at tasks number).period → f * (task_at tasks number).period < ticks →
    frame_of (task_at tasks number) (slice_index_or (derived tasks links streams ticks) number []) f ≡ linked_frame tasks links streams number f

-- where a machine's traces over any script meet a set, and show no entry of a frame before its release, its trace over the derived script
-- meets the linked meaning, and what it shows as received over links is explained by what it shows as sent
abbrev pub LinkedTracesMeet : Type 0
LinkedTracesMeet =
    (tasks : List Task) (links : List Link) (plans : List Plan) (streams : Streams) (ticks : ℕ) (trace : Streams → List Entry) → IsSoundSet tasks →
    FitsInputs tasks streams → AreLinks tasks links →
    ((given : Streams) → FitsInputs tasks given → Meets tasks plans given ticks (trace given) × AllByRecursion (IsReleased tasks ticks) (trace given)) →
    let shown = trace (derived tasks links streams ticks) in
    MeetsLinked tasks links plans streams ticks shown × ReceivesAreExplained tasks links streams shown
