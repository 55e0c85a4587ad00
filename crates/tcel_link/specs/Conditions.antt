-- What is asked of links and of a script before the values of linked inputs are worked out.
use Rattle.std.specs.Prelude.{◌≡◌, ◌<◌, false, List, length, map, All, AllPairs}
use Rattle.tcel_core.specs.Language.{Task}
use Rattle.tcel_link.specs.declared.link.Link.{Link}
use Rattle.tcel_link.specs.Links.{task_at}
use Rattle.tcel_link.specs.Receives.{receives_in_loop}
use Rattle.tcel_script.specs.Script.{Streams}

-- the numbers of a link are those of tasks and of their ports
pub record IsInRange (tasks : List Task) (link : Link) : Type 0 where
  pub from : link.from < length tasks
  pub output : link.output < length (task_at tasks link.from).outputs
  pub to : link.to < length tasks
  pub input : link.input < length (task_at tasks link.to).inputs

-- two links don't lead to one input
abbrev pub LeadApart : Link → Link → Type 0
LeadApart a b = ¬ ((a.to ≡ b.to) × (a.input ≡ b.input))

-- no receive from the input to which a link leads stands inside a loop
abbrev pub IsOutsideLoops : List Task → Link → Type 0
IsOutsideLoops tasks link = receives_in_loop (task_at tasks link.to).body link.input false ≡ false

-- links with which the inputs of a set can be worked out
pub record AreLinks (tasks : List Task) (links : List Link) : Type 0 where
  pub in_range : All (IsInRange tasks) links
  pub apart : AllPairs LeadApart links
  pub outside : All (IsOutsideLoops tasks) links

-- a stream for each input of each task
abbrev pub FitsInputs : List Task → Streams → Type 0
FitsInputs tasks streams = map length streams ≡ map (λ (task : Task). length task.inputs) tasks
