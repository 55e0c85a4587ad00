-- How `linked` goes on behind its program, its links, its target, its choice and its script.
use Rattle.std.proofs.Common.{◌≡◌, ◌∙◌, ℕ, List, [], ◌∷◌, length, map, Ok, Option, ap, inl, inr, refl, subst, sym}
use Rattle.std.proofs.lemmas.List.{length-map}
use Rattle.std.specs.Prelude.{unwrap_or}
use Rattle.tcel_check.specs.Checked.{set_of}
use Rattle.tcel_check.specs.Rows.{marks}
use Rattle.tcel_core.specs.Language as core
use Rattle.tcel_core.specs.Ports.{port_rows}
use Rattle.tcel_io.specs.Shelf.{SeenShelf}
use Rattle.tcel_link.specs.declared.link.Link.{Link}
use Rattle.tcel_link.specs.Conditions.{AreLinks, FitsInputs}
use Rattle.tcel_link.specs.Linked.{derived}
use Rattle.tcel_link.specs.Links.{links_in}
use Rattle.tcel_machine.specs.Run.{Run, loaded}
use Rattle.tcel_script.specs.Lines.{Line, script_lines}
use Rattle.tcel_script.specs.Script.{Streams, script_of, stream_in, streams_of}
use Rattle.tcel_target.specs.declared.costs.Costs.{Costs}
use Rattle.tcel_tree.specs.Language.{Task}
use Rattle.tcel_tool.specs.Answer.{Loads, OrMemory, begun, with_read}
use Rattle.tcel_tool.specs.CheckCommand.{IsFaultless}
use Rattle.tcel_tool.specs.CommandLine.{number_at}
use Rattle.tcel_tool.specs.Headline.{image_for}
use Rattle.tcel_tool.specs.Lines.{lines}
use Rattle.tcel_tool.specs.LinkedCommand.{IsText, Links, Reads, RefusesLinkLines, RefusesLinks, read_stages}
use Rattle.tcel_tool.specs.MeanCommand.{Means, RefusesInputs}
use Rattle.tcel_tool.specs.RunCommand.{trace_lines}
use Rattle.tcel_tool.specs.ScriptText.{RefusesLines}
use Rattle.tcel_tool.specs.SetChoice.{Choice, IsBest, IsChoiceFor, Names, NamesTask, RefusesChoice, RefusesSet}
use Rattle.tcel_tool.specs.Stage.{Call, Stage, load, test}
use Rattle.tcel_tool.specs.Stretch.{Passed, Stopped}
use Rattle.tcel_tool.specs.TargetText.{GivesCosts, RefusesTarget}
use Rattle.tcel_tool.specs.Test as tests
use Rattle.tcel_tool.specs.declared.status.Status.{Status}
use Rattle.tcel_tool.proofs.ChoiceStages.{ReadProgram, faultless, stopped_behind_set, with_program}
use Rattle.tcel_tool.proofs.Written.{given_streams}

-- ---- a script has a stream for each input

streams_fit : (tasks : List core.Task) (lines : List Line) → FitsInputs tasks (streams_of (port_rows tasks) lines)
streams_fit [] lines = refl
streams_fit (task ∷ tasks) lines =
    let one = length-map task.inputs (λ (input : List ℕ). unwrap_or (stream_in lines task.name input) []) in
    ap (λ n. n ∷ map length (streams_of (port_rows tasks) lines)) one ∙ ap (λ ns. length task.inputs ∷ ns) (streams_fit tasks lines)

pub script_fits : (tasks : List core.Task) (text : List ℕ) (streams : Streams) → script_of (port_rows tasks) text ≡ Ok streams → FitsInputs tasks streams
script_fits tasks text streams read =
    subst (FitsInputs tasks) (given_streams _ (streams_of (port_rows tasks) (script_lines text)) streams read) (streams_fit tasks (script_lines text))

-- ---- the stages that are left

abbrev pub after_choice : List Stage
after_choice = load 4 16777216 ∷ test (tests.inputs 4) ∷ []

abbrev pub after_links : List Stage
after_links = load 2 65536 ∷ test tests.target ∷ test tests.choice ∷ after_choice

abbrev pub after_set : List Stage
after_set = load 3 65536 ∷ test tests.links ∷ after_links

abbrev pub with_links : List (List ℕ) → List ℕ → List ℕ → Call
with_links words program lines = with_read 3 lines (with_program words program)

abbrev pub with_target : List (List ℕ) → List ℕ → List ℕ → List ℕ → Call
with_target words program lines target = with_read 2 target (with_links words program lines)

abbrev pub with_script : List (List ℕ) → List ℕ → List ℕ → List ℕ → List ℕ → Call
with_script words program lines target script = with_read 4 script (with_target words program lines target)

-- ---- the links

-- the file of the program was loaded and has no fault, and that of the links was loaded
pub record ReadLines (words : List (List ℕ)) (shelf last : SeenShelf) (program lines : List ℕ) (tasks : List Task) : Type 0 where
  pub next : SeenShelf
  pub first : ReadProgram words shelf next program tasks
  pub free : marks tasks ≡ []
  pub loaded : Loads words 3 65536 next last lines

abbrev pub read_lines : {words : List (List ℕ)} {shelf next last : SeenShelf} {program lines : List ℕ} {tasks : List Task}
    → ReadProgram words shelf next program tasks → marks tasks ≡ [] → Loads words 3 65536 next last lines → ReadLines words shelf last program lines tasks
read_lines {next = next} first free loaded = record { next = next; first = first; free = free; loaded = loaded }

module _ {words : List (List ℕ)} {shelf third : SeenShelf} {program lines : List ℕ} {tasks : List Task} (read : ReadLines words shelf third program lines tasks)
    (set : List core.Task) (set_is : set ≡ set_of tasks) (given : List ℕ) (same : given ≡ lines) where
  abbrev none : IsFaultless program tasks
  none = faultless read.first read.free

  behind_lines : (new : SeenShelf) (status : Status) (task : Option (List ℕ)) → Stopped (test tests.links ∷ after_links) (with_links words program lines) third new status task
      → Stopped read_stages (begun words) shelf new status task
  behind_lines new status task rest = stopped_behind_set after_set new status task read.first read.free (inr (lines, third, read.loaded, rest))

  -- they are refused
  pub stopped_at_links : (status : Status) (task : Option (List ℕ)) → OrMemory (RefusesLinkLines set given) status → Stopped read_stages (begun words) shelf third status task
  stopped_at_links status task cause =
      let why : OrMemory (RefusesLinks program lines) status = elim cause [
        | inl e ↦ inl e
        | inr h ↦
            let refuses = subst (λ t. RefusesLinkLines set t status) same h in
            inr (tasks, none, subst (λ (s : List core.Task). RefusesLinkLines s lines status) set_is refuses)
      ] in
      behind_lines third status task (inl (why, tt, refl))

  -- ---- the target

  module _ {links : List Link} (links_are : links_in set given ≡ Ok links) where
    own_links : links_in set lines ≡ Ok links
    own_links = subst (λ t. links_in set t ≡ Ok links) same links_are

    linked : Links program lines tasks links
    linked = record { faultless = none; links_in = subst (λ (s : List core.Task). links_in s lines ≡ Ok links) set_is own_links }

    pub behind_links : (new : SeenShelf) (status : Status) (task : Option (List ℕ)) → Stopped after_links (with_links words program lines) third new status task
        → Stopped read_stages (begun words) shelf new status task
    behind_links new status task rest = behind_lines new status task (inr ((tasks, links, linked), rest))

    module _ (fit : AreLinks set links) {second : SeenShelf} {target : List ℕ} (loaded : Loads words 2 65536 third second target) where
      behind_target : (new : SeenShelf) (status : Status) (task : Option (List ℕ))
          → Stopped (test tests.target ∷ test tests.choice ∷ after_choice) (with_target words program lines target) second new status task
          → Stopped read_stages (begun words) shelf new status task
      behind_target new status task rest = behind_links new status task (inr (target, second, loaded, rest))

      pub stopped_at_target : (text : List ℕ) → text ≡ target → (status : Status) (task : Option (List ℕ)) → OrMemory (RefusesTarget text) status
          → Stopped read_stages (begun words) shelf second status task
      stopped_at_target text is status task cause =
          behind_target second status task (inl (subst (λ t. OrMemory (RefusesTarget t) status) is cause, tt, refl))

      -- ---- the choice

      module _ {costs : Costs} (text : List ℕ) (is : text ≡ target) (gives : GivesCosts text costs) where
        own_costs : GivesCosts target costs
        own_costs = subst (λ t. GivesCosts t costs) is gives

        behind_costs : (new : SeenShelf) (status : Status) (task : Option (List ℕ)) → Stopped (test tests.choice ∷ after_choice) (with_target words program lines target) second new status task
            → Stopped read_stages (begun words) shelf new status task
        behind_costs new status task rest = behind_target new status task (inr ((costs, own_costs), rest))

        -- none is made
        pub stopped_at_choice : (status : Status) (task : Option (List ℕ)) → OrMemory (RefusesSet set costs) status → Names set status task
            → Stopped read_stages (begun words) shelf second status task
        stopped_at_choice status task cause names =
            let why : OrMemory (RefusesChoice program target) status = elim cause [
              | inl e ↦ inl e
              | inr h ↦ inr (record {
                tasks = tasks;
                faultless = none;
                costs = costs;
                gives = own_costs;
                refused = subst (λ (s : List core.Task). RefusesSet s costs status) set_is h;
              })
            ] in
            let named : NamesTask program status task = (tasks, none, subst (λ (s : List core.Task). Names s status task) set_is names) in
            behind_costs second status task (inl (why, named, refl))

        -- ---- the script

        module _ (c : Choice) (of_set : c.set ≡ set) (same_costs : c.costs ≡ costs) (best : IsBest c) where
          choice_for : IsChoiceFor program target c
          choice_for = record { tasks = tasks; faultless = none; is = of_set ∙ set_is; gives = subst (GivesCosts target) (sym same_costs) own_costs; best = best }

          pub behind_choice : (new : SeenShelf) (status : Status) (task : Option (List ℕ)) → Stopped after_choice (with_target words program lines target) second new status task
              → Stopped read_stages (begun words) shelf new status task
          behind_choice new status task rest = behind_costs new status task (inr ((c, choice_for), rest))

          module _ {last : SeenShelf} {script : List ℕ} (fourth : Loads words 4 16777216 second last script) (values : List ℕ) (values_are : values ≡ script) where
            -- it is refused
            pub stopped_at_script : (status : Status) (task : Option (List ℕ)) → OrMemory (RefusesLines (port_rows set) values) status
                → Stopped read_stages (begun words) shelf last status task
            stopped_at_script status task cause =
                let why : OrMemory (RefusesInputs program script) status = elim cause [
                  | inl e ↦ inl e
                  | inr h ↦
                      let refuses = subst (λ t. RefusesLines (port_rows set) t status) values_are h in
                      inr (tasks, none, subst (λ (s : List core.Task). RefusesLines (port_rows s) script status) set_is refuses)
                ] in
                behind_choice last status task (inr (script, last, fourth, inl (why, tt, refl)))

            module _ {streams : Streams} (streams_are : script_of (port_rows set) values ≡ Ok streams) where
              own_streams : script_of (port_rows set) script ≡ Ok streams
              own_streams = subst (λ t. script_of (port_rows set) t ≡ Ok streams) values_are streams_are

              means : Means program script tasks streams
              means = record { faultless = none; streams_in = subst (λ (s : List core.Task). script_of (port_rows s) script ≡ Ok streams) set_is own_streams }

              pub passed_all : Passed read_stages (begun words) shelf (with_script words program lines target script) last
              passed_all = (
                program,
                read.next,
                read.first.loaded,
                (
                  (tasks, read.first.is),
                  (
                    (tasks, none),
                    (
                      lines,
                      third,
                      read.loaded,
                      (
                        (tasks, links, linked),
                        (target, second, loaded, ((costs, own_costs), ((c, choice_for), (script, last, fourth, ((tasks, streams, means), (refl, refl)))))),
                      ),
                    ),
                  ),
                ),
              )

              pub reads_all : Reads (with_script words program lines target script) c links streams
              reads_all =
                  record {
                    for = choice_for;
                    links_in = subst (λ (s : List core.Task). links_in s lines ≡ Ok links) (sym of_set) own_links;
                    are = subst (λ (s : List core.Task). AreLinks s links) (sym of_set) fit;
                    streams_in = subst (λ (s : List core.Task). script_of (port_rows s) script ≡ Ok streams) (sym of_set) own_streams;
                  }

-- the lines of the ticks are the text
pub lines_are : (last : Call) (words : List (List ℕ)) (c : Choice) (links : List Link) (streams : Streams) (machine : Run) (ticks : ℕ) → last.words ≡ words → Reads last c links streams
    → machine ≡ loaded (image_for c) (derived c.set links streams ticks) → ticks ≡ number_at words 5 → IsText last (lines machine ticks)
lines_are last words c links streams machine ticks same reads is number =
    record {
      choice = c;
      links = links;
      streams = streams;
      reads = reads;
      is =
          ap (λ (m : Run). lines m ticks) is
          ∙ ap (λ n. trace_lines (image_for c) (derived c.set links streams n) n) (number ∙ ap (λ (ws : List (List ℕ)). number_at ws 5) (sym same));
    }
