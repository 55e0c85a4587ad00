-- The command `linked`: what it refuses, and what it writes.
use Rattle.std.specs.Prelude.{◌≡◌, ◌≢◌, ℕ, List, [], ◌∷◌, Err, Ok, codes}
use Rattle.tcel_check.specs.Checked.{set_of}
use Rattle.tcel_core.specs.Language as core
use Rattle.tcel_core.specs.Ports.{port_rows}
use Rattle.tcel_link.specs.declared.fail.LinkFail.TheVariants as fails
use Rattle.tcel_link.specs.declared.link.Link.{Link}
use Rattle.tcel_link.specs.Conditions.{AreLinks}
use Rattle.tcel_link.specs.Linked.{derived}
use Rattle.tcel_link.specs.Links.{links_in}
use Rattle.tcel_script.specs.Script.{Streams, script_of}
use Rattle.tcel_tree.specs.Language.{Task}
use Rattle.tcel_tool.specs.CheckCommand.{IsFaultless}
use Rattle.tcel_tool.specs.CommandLine.{number_at}
use Rattle.tcel_tool.specs.Headline.{image_for}
use Rattle.tcel_tool.specs.ProgramText.{program_limit}
use Rattle.tcel_tool.specs.RunCommand.{most_ticks, trace_lines}
use Rattle.tcel_tool.specs.ScriptText.{script_limit}
use Rattle.tcel_tool.specs.SetChoice.{Choice, IsChoiceFor}
use Rattle.tcel_tool.specs.Stage.{Call, Stage, load, bound, test}
use Rattle.tcel_tool.specs.TargetText.{target_limit}
use Rattle.tcel_tool.specs.Test as tests
use Rattle.tcel_tool.specs.declared.command.Slot.{Slot}
use Rattle.tcel_tool.specs.declared.command.Slot.TheVariants.{File, Number}
use Rattle.tcel_tool.specs.declared.status.CountKind.TheVariants.{Ticks}
use Rattle.tcel_tool.specs.declared.status.Status.{Status}
use Rattle.tcel_tool.specs.declared.status.Status.TheVariants as statuses

-- `linked PROGRAM TARGET LINKS SCRIPT TICKS`
abbrev pub name : List ℕ
name = codes "linked"

abbrev pub slots : List Slot
slots = File ∷ File ∷ File ∷ File ∷ Number ∷ []

-- the most bytes of links
abbrev pub links_limit : ℕ
links_limit = 65536

-- the stages that read files: the program, its links, the target and the script
abbrev pub read_stages : List Stage
read_stages =
    load 1 program_limit ∷ test tests.program ∷ test tests.faultless ∷ load 3 links_limit ∷ test tests.links ∷ load 2 target_limit ∷ test tests.target
    ∷ test tests.choice ∷ load 4 script_limit ∷ test (tests.inputs 4) ∷ []

abbrev pub stages : List Stage
stages = bound Ticks 5 most_ticks ∷ read_stages

-- ---- the links

-- the program has no fault, and the bytes have these links between the tasks of its set
pub record Links (text lines : List ℕ) (tasks : List Task) (links : List Link) : Type 0 where
  pub faultless : IsFaultless text tasks
  pub links_in : links_in (set_of tasks) lines ≡ Ok links

-- the first faulty line of links for this set
abbrev pub RefusesLinkLines : List core.Task → List ℕ → Status → Type 0
RefusesLinkLines set lines (statuses.Link fail) = (fail ≢ fails.NoMemory) × (links_in set lines ≡ Err fail)
RefusesLinkLines set lines _ = ⊥

-- that of links for the set of a program
abbrev pub RefusesLinks : List ℕ → List ℕ → Status → Type 0
RefusesLinks text lines status = (tasks : List Task) × IsFaultless text tasks × RefusesLinkLines (set_of tasks) lines status

-- ---- the text

-- what was read: a choice for the program and the target, links between its tasks with which inputs can be worked out, and the streams of these
pub record Reads (call : Call) (c : Choice) (links : List Link) (streams : Streams) : Type 0 where
  pub for : IsChoiceFor (call.read 1) (call.read 2) c
  pub links_in : links_in c.set (call.read 3) ≡ Ok links
  pub are : AreLinks c.set links
  pub streams_in : script_of (port_rows c.set) (call.read 4) ≡ Ok streams

-- the lines of the trace of the choice's image over the script in which each linked input has what it receives
abbrev pub linked_lines : Choice → List Link → Streams → ℕ → List (List ℕ)
linked_lines c links streams ticks = trace_lines (image_for c) (derived c.set links streams ticks) ticks

-- a piece for each line of the trace
pub record IsText (call : Call) (pieces : List (List ℕ)) : Type 0 where
  pub choice : Choice
  pub links : List Link
  pub streams : Streams
  pub reads : Reads call choice links streams
  pub is : pieces ≡ linked_lines choice links streams (number_at call.words 5)
