-- How `mean` goes on behind the program that it reads, behind its faults, its second load and its script.
use Rattle.std.proofs.Common.{◌≡◌, ◌∙◌, ℕ, ◌≤◌, List, [], ◌∷◌, Ok, ap, inl, inr, subst}
use Rattle.tcel_check.specs.Checked.{set_of}
use Rattle.tcel_check.specs.Rows.{marks}
use Rattle.tcel_core.specs.Language as core
use Rattle.tcel_core.specs.Ports.{port_rows}
use Rattle.tcel_io.specs.Shelf.{SeenShelf}
use Rattle.tcel_script.specs.Script.{Streams, script_of}
use Rattle.tcel_tree.specs.Language.{Task}
use Rattle.tcel_tool.specs.Answer.{Ended, Goes, Loads, OrMemory, begun}
use Rattle.tcel_tool.specs.CheckCommand.{IsFaultless, RefusesFaults, RefusesTasks}
use Rattle.tcel_tool.specs.CommandLine.{number_at}
use Rattle.tcel_tool.specs.Commands.{stages_of}
use Rattle.tcel_tool.specs.MeanCommand.{IsText, Means, RefusesInputs}
use Rattle.tcel_tool.specs.MeanText.{mean_pieces, pieces_of, tasks_text}
use Rattle.tcel_tool.specs.ProgramText.{IsProgramText}
use Rattle.tcel_tool.specs.ScriptText.{RefusesLines}
use Rattle.tcel_tool.specs.Stage.{load, test}
use Rattle.tcel_tool.specs.Test as tests
use Rattle.tcel_tool.specs.declared.command.Command.TheVariants.{Mean}
use Rattle.tcel_tool.specs.declared.status.Status.{Status}
use Rattle.tcel_tool.proofs.CheckStages.{with_text}
use Rattle.tcel_tool.proofs.RunStages.{with_both}

-- the number of frames is within its bound, and the first file was loaded and is this program's
pub record ReadProgram (words : List (List ℕ)) (shelf next : SeenShelf) (text : List ℕ) (tasks : List Task) : Type 0 where
  pub few : number_at words 3 ≤ 10000
  pub loaded : Loads words 1 1048576 shelf next text
  pub is : IsProgramText text tasks

-- what a reader found in bytes that are those of the file
abbrev pub read_program : {words : List (List ℕ)} {shelf next : SeenShelf} {text : List ℕ} {tasks : List Task} (given : List ℕ) → number_at words 3 ≤ 10000
    → Loads words 1 1048576 shelf next text → given ≡ text → IsProgramText given tasks → ReadProgram words shelf next text tasks
read_program {tasks = tasks} given few loaded same is =
    record { few = few; loaded = loaded; is = subst (λ t. IsProgramText t tasks) same is }

module _ {words : List (List ℕ)} {shelf next : SeenShelf} {text : List ℕ} {tasks : List Task} (end : Ended) (read : ReadProgram words shelf next text tasks) where
  pub behind_program : Goes Mean end (test tests.faultless ∷ load 2 16777216 ∷ test (tests.inputs 2) ∷ []) (with_text words text) next → Goes Mean end (stages_of Mean) (begun words) shelf
  behind_program rest = inr (read.few, inr (text, next, read.loaded, inr ((tasks, read.is), rest)))

  -- a fault of the program is one of the text
  pub faulty : (status : Status) → OrMemory (RefusesTasks tasks) status → OrMemory (RefusesFaults text) status
  faulty status (inl e) = inl e
  faulty status (inr h) = inr (tasks, read.is, h)

  module _ (free : marks tasks ≡ []) where
    abbrev faultless : IsFaultless text tasks
    faultless = record { program = read.is; free = free }

    pub behind_set : Goes Mean end (load 2 16777216 ∷ test (tests.inputs 2) ∷ []) (with_text words text) next → Goes Mean end (stages_of Mean) (begun words) shelf
    behind_set rest = behind_program (inr ((tasks, faultless), rest))

    module _ {last : SeenShelf} {lines : List ℕ} (second : Loads words 2 16777216 next last lines) where
      pub behind_lines : Goes Mean end (test (tests.inputs 2) ∷ []) (with_both words text lines) last → Goes Mean end (stages_of Mean) (begun words) shelf
      behind_lines rest = behind_set (inr (lines, last, second, rest))

      module _ (set : List core.Task) (set_is : set ≡ set_of tasks) (given : List ℕ) (same : given ≡ lines) where
        -- the script is refused
        pub faulty_lines : (status : Status) → OrMemory (RefusesLines (port_rows set) given) status → OrMemory (RefusesInputs text lines) status
        faulty_lines status (inl e) = inl e
        faulty_lines status (inr h) =
            let refuses = subst (λ t. RefusesLines (port_rows set) t status) same h in
            inr (tasks, faultless, subst (λ (s : List core.Task). RefusesLines (port_rows s) lines status) set_is refuses)

        module _ {streams : Streams} (streams_are : script_of (port_rows set) given ≡ Ok streams) where
          abbrev means : Means text lines tasks streams
          means =
              let own = subst (λ t. script_of (port_rows set) t ≡ Ok streams) same streams_are in
              record { faultless = faultless; streams_in = subst (λ (s : List core.Task). script_of (port_rows s) lines ≡ Ok streams) set_is own }

          pub behind_script : Goes Mean end [] (with_both words text lines) last → Goes Mean end (stages_of Mean) (begun words) shelf
          behind_script rest = behind_lines (inr ((tasks, streams, means), rest))

          -- the text of the frames is that of the command
          pub pieces_are : (frames : ℕ) (written shown : List ℕ) → frames ≡ number_at words 3 → written ≡ tasks_text frames 0 set streams → shown ≡ written → IsText (with_both words text lines) (pieces_of frames shown)
          pieces_are frames written shown number is e = record {
            tasks = tasks;
            streams = streams;
            means = means;
            is =
                ap (pieces_of frames) (e ∙ is) ∙ ap (λ (s : List core.Task). mean_pieces frames s streams) set_is
                ∙ ap (λ n. mean_pieces n (set_of tasks) streams) number;
          }
