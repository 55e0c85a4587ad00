-- A judge accepts the runs of compiled programs, by the laws of the crates below.
use Rattle.std.proofs.Common.{◌≡◌, ℕ, suc, ◌<◌, ◌^◌, List, [], ◌∷◌, length, map, refl, sym, ap, ◌∙◌, subst}
use Rattle.std.specs.Prelude.{All, Ok}
use Rattle.std.specs.List.{AllZip}
use Rattle.tcel_num.specs.Entry.{Entry}
use Rattle.tcel_num.specs.declared.port_row.PortRow.{PortRow}
use Rattle.tcel_code.specs.Layout.{form_task}
use Rattle.tcel_code.specs.Theorem.{HasStreams}
use Rattle.tcel_core.specs.Language.{Task}
use Rattle.tcel_core.specs.Meets.{behaviors_of}
use Rattle.tcel_core.specs.Ports.{port_rows}
use Rattle.tcel_cost.specs.Forms.{Form, forms_of}
use Rattle.tcel_image.specs.declared.image.Image.{Image}
use Rattle.tcel_image.specs.Machine.{Streams, trace}
use Rattle.tcel_image.specs.TraceText.{text}
use Rattle.tcel_script.specs.Lines.{script_lines}
use Rattle.tcel_script.specs.Script.{script_of, streams_of}
use Rattle.tcel_trace.proofs.EntryLines.{entries_read}
use Rattle.tcel_trace.specs.TraceForm.{IsTrace}
use Rattle.tcel_trace.specs.declared.trace_line.TraceLine.{TraceLine}
use Rattle.tcel_judge.specs.JudgedTraces.{IsLineOf, IsPlanned, Show}
use Rattle.tcel_judge.proofs.JudgedLaws.{where_met}
use Rattle.tcel_verify.specs.Ports.{port_row as image_row, port_rows as image_rows}
use Rattle.tcel_tool.specs.CommandLine.{number_at}
use Rattle.tcel_tool.specs.Headline.{KeepsItsPromise, image_for}
use Rattle.tcel_tool.specs.JudgedRuns.{AreAccepted, JudgeAcceptsRuns, RunsAreAccepted, RunsOfWrittenImagesAreAccepted, StreamsInRange}
use Rattle.tcel_tool.specs.SetChoice.{Choice, IsBest}
use Rattle.tcel_tool.proofs.Promise.{promise}
use Rattle.tcel_tool.proofs.Reports.{one_plan_each}
use Rattle.tcel_tool.proofs.RunEntries.{trace_shown}
use Rattle.tcel_tool.proofs.SetLines.{line_in, lines_are}
use Rattle.tcel_tool.proofs.ScriptRanges.{script_fits, streams_fit}
use Rattle.tcel_tool.proofs.Written.{given_streams, same_image, streams_had}

-- as many as there are tasks
many_behaviors : (set : List Task) (streams : Streams) → length (behaviors_of set streams) ≡ length set
many_behaviors [] streams = refl
many_behaviors (task ∷ set) [] = ap (λ n. suc n) (many_behaviors set [])
many_behaviors (task ∷ set) (s ∷ streams) = ap (λ n. suc n) (many_behaviors set streams)

module _ (c : Choice) (best : IsBest c) (streams : Streams) (ticks : ℕ) (have : AllZip HasStreams c.set streams) (range : StreamsInRange streams) (less : ticks < 2 ^ 64) where
  abbrev kept : KeepsItsPromise c
  kept = promise c best

  abbrev forms : List Form
  forms = forms_of c.sliced c.set c.parts

  abbrev entries : List Entry
  entries = trace (image_for c) streams ticks

  -- the lines of its entries
  abbrev lines : List TraceLine
  lines = map (line_in forms c.costs) entries

  of_tasks : AllZip (IsLineOf c.set) entries lines
  of_tasks =
      let known = (kept.runs streams ticks have).known in
      let each = subst (λ n. All (λ (e : Entry). e.task < n) entries) (many_behaviors c.set streams ∙ ap (λ (set : List Task). length set) (sym kept.tasks)) known in
      subst (λ (set : List Task). AllZip (IsLineOf set) entries lines) kept.tasks (lines_are forms c.costs entries each)

  planned : IsPlanned c.set c.plans
  planned = record { apart = best.sound.names; each = one_plan_each c best }

  shown : Show c.set c.plans streams ticks lines
  shown = record { trace = entries; shown = of_tasks; meets = kept.runs streams ticks have }

  accepted : AreAccepted c streams ticks (text (image_for c) entries)
  accepted = record {
    lines = lines;
    text = entries_read (image_for c) entries kept.spelled (trace_shown (image_for c) streams kept.spelled kept.valid (streams_fit streams range) ticks less);
    says = where_met c.set c.plans streams ticks lines planned shown;
  }

pub runs_accepted : RunsAreAccepted
runs_accepted c best streams ticks have range less = accepted c best streams ticks have range less

pub written_accepted : RunsOfWrittenImagesAreAccepted
written_accepted c best script given streams ticks runs less =
    let kept = promise c best in
    let is = same_image c kept given runs.image_in.spells in
    let read = given_streams _ (streams_of (image_rows given) (script_lines script)) streams runs.streams_in in
    let range = subst StreamsInRange read (script_fits (image_rows given) (script_lines script)) in
    subst (λ (i : Image). AreAccepted c streams ticks (text i (trace i streams ticks))) is
    (accepted c best streams ticks (streams_had c kept script given streams runs) range less)

-- ---- the commands

-- the inputs of an image are those of its set
same_ports : (forms : List Form) → map image_row (map form_task forms) ≡ port_rows (map (λ (form : Form). form.task) forms)
same_ports [] = refl
same_ports (form ∷ forms) = ap (λ (rows : List PortRow). record { task = form.task.name; inputs = form.task.inputs } ∷ rows) (same_ports forms)

pub judge_accepts : JudgeAcceptsRuns
judge_accepts call c given streams for runs less shown =
    let best = for.best in
    let kept = promise c best in
    let made = written_accepted c best (call.read 3) given streams (number_at call.words 5) runs less in
    let rows = same_ports (forms_of c.sliced c.set c.parts) ∙ ap port_rows kept.tasks in
    let of_image = subst (λ (i : Image). script_of (image_rows i) (call.read 3) ≡ Ok streams) (sym (same_image c kept given runs.image_in.spells)) runs.streams_in in
    record {
      choice = c;
      for = for;
      streams = streams;
      streams_in = subst (λ ports. script_of ports (call.read 3) ≡ Ok streams) rows of_image;
      lines = made.lines;
      lines_in = subst (IsTrace made.lines) (sym shown) made.text;
      says = made.says;
    }
