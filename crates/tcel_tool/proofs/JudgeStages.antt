-- How `judge` goes on behind its choice, its script and its trace.
use Rattle.std.proofs.Common.{◌≡◌, ◌∙◌, ℕ, ◌+◌, ◌<◌, suc, Bool, true, false, nat_le, List, [], ◌∷◌, length, take, Option, None, Some, Result, Ok, ap, arith, inl, inr, refl, subst, sym}
use Rattle.std.specs.List.{AllZip}
use Rattle.std.specs.Option.{option_and_then}
use Rattle.std.specs.Prelude.{IfSome, IsErrAnd, codes, find, if◌then◌else◌, nat_lt, not, slice_get}
use Rattle.std.proofs.lemmas.Option.{slice_get_within}
use Rattle.tcel_core.specs.Language as core
use Rattle.tcel_core.specs.Parts.{AreOwnParts, TaskParts}
use Rattle.tcel_core.specs.Ports.{port_rows}
use Rattle.tcel_core.specs.Promises.{Promise}
use Rattle.tcel_cost.specs.Forms.{form_of, forms_of}
use Rattle.tcel_cost.specs.Plans.{ArePlans}
use Rattle.tcel_driver.specs.Choice.{IsChosen}
use Rattle.tcel_driver.specs.Forms.{task_periods}
use Rattle.tcel_io.specs.Shelf.{SeenShelf}
use Rattle.tcel_judge.specs.FirstBreach.{Judged, Says, accepted, breach_behind, entry_breach, is_disordered, is_entry, is_over, judged_of, missed, own_lines, promise_at, refused, task_breach}
use Rattle.tcel_judge.specs.declared.verdict.Breach.{Breach}
use Rattle.tcel_judge.specs.declared.verdict.Breach.TheVariants as breaches
use Rattle.tcel_judge.specs.declared.verdict.Due.{Due}
use Rattle.tcel_judge.specs.declared.verdict.Verdict.{Verdict}
use Rattle.tcel_judge.specs.declared.verdict.Verdict.TheVariants.{No, Yes}
use Rattle.tcel_num.specs.Hyperperiod.{periods_of}
use Rattle.tcel_num.specs.Plan.{Plan}
use Rattle.tcel_script.specs.Script.{Streams, same, script_of}
use Rattle.tcel_target.specs.declared.costs.Costs.{Costs}
use Rattle.tcel_trace.specs.TraceForm.{IsTrace}
use Rattle.tcel_trace.specs.declared.trace_line.TraceLine.{TraceLine}
use Rattle.tcel_tool.specs.Answer.{Ended, Goes, Loads, OrMemory, StopsAtLoad, status_of, with_read}
use Rattle.tcel_tool.specs.CommandLine.{number_at}
use Rattle.tcel_tool.specs.JudgeCommand.{IsBreach, IsJudged, IsText, RefusesBreach, SaysOf, trace_stages}
use Rattle.tcel_tool.specs.MeanCommand.{Means, RefusesInputs}
use Rattle.tcel_tool.specs.ScriptText as scripts
use Rattle.tcel_tool.specs.SetChoice.{Choice, IsChoiceFor, Names, NamesTask, name_at, told_task}
use Rattle.tcel_tool.specs.Stage.{Call, load, test}
use Rattle.tcel_tool.specs.Test as tests
use Rattle.tcel_tool.specs.declared.command.Command.TheVariants.{Judge}
use Rattle.tcel_tool.specs.declared.status.Status.{Status}
use Rattle.tcel_tool.specs.declared.status.Status.TheVariants as statuses
use Rattle.tcel_tool.proofs.Exits.{at_load}

-- ---- the plans of a choice

form_period : (task : core.Task) (sliced : Bool) (own : TaskParts) → (form_of task sliced own).task ≡ task
form_period task true own = refl
form_period task false own = refl

form_periods : (k : ℕ) (costs : Costs) (tasks : List core.Task) (parts : List TaskParts) (plans : List Plan) → AllZip AreOwnParts tasks parts
    → ArePlans (forms_of k tasks parts) costs plans → periods_of plans ≡ task_periods tasks
form_periods k costs [] [] plans split are = ap periods_of are
form_periods k costs (task ∷ tasks) (own ∷ parts) (plan ∷ plans) split are =
    let sliced = nat_le (length (task ∷ tasks)) k in
    let period = are.0.period ∙ ap (λ (t : core.Task). t.period) (form_period task sliced own) in
    λ i. period i ∷ form_periods k costs tasks parts plans split.1 are.1 i
form_periods k costs (task ∷ tasks) (own ∷ parts) [] split are = absurd are
form_periods k costs [] (own ∷ parts) plans split are = absurd split
form_periods k costs (task ∷ tasks) [] plans split are = absurd split

-- they have its tasks' periods
pub chosen_periods : (set : List core.Task) (costs : Costs) (k : ℕ) (plans : List Plan) (parts : List TaskParts) → IsChosen set costs k plans parts
    → task_periods set ≡ periods_of plans
chosen_periods set costs k plans parts chosen = sym (form_periods k costs set parts plans chosen.forms.split chosen.are)

-- ---- the task that a breach tells

judged_long : (tasks : List core.Task) (streams : Streams) → length (judged_of tasks streams) ≡ length tasks
judged_long [] streams = refl
judged_long (task ∷ tasks) [] = ap (λ n. suc n) (judged_long tasks [])
judged_long (task ∷ tasks) (s ∷ streams) = ap (λ n. suc n) (judged_long tasks streams)

-- a breach of a line isn't that something is missing
abbrev OfLine : Option Breach → Type 0
OfLine None = Unit {0}
OfLine (Some (breaches.Missing task frame what)) = ⊥
OfLine (Some _) = Unit {0}

one_of : (b : Bool) (x y : Option Breach) → OfLine x → OfLine y → OfLine (if b then x else y)
one_of true x y h k = h
one_of false x y h k = k

entry_of_line : (number : ℕ) (task : core.Task) (line : TraceLine) (p : Option Promise) → OfLine (option_and_then (entry_breach number task line) p)
entry_of_line number task line None = tt
entry_of_line number task line (Some p) =
    let late = if is_over p.latest line.time then Some (breaches.Overdue number) else None in
    let early = if nat_lt line.time p.earliest then Some (breaches.Early number) else late in
    one_of (not (is_entry task line p)) (Some (breaches.Entry number)) early tt
    (one_of (nat_lt line.time p.earliest) (Some (breaches.Early number)) late tt
    (one_of (is_over p.latest line.time) (Some (breaches.Overdue number)) None tt tt))

task_of_line : (number : ℕ) (earlier : List TraceLine) (line : TraceLine) (j : Option Judged) → OfLine (task_breach number earlier line j)
task_of_line number earlier line None = tt
task_of_line number earlier line (Some j) = entry_of_line number j.task line (promise_at j.does (own_lines j.task.name earlier))

line_of_line : (set : List Judged) (earlier : List TraceLine) (line : Option TraceLine) → OfLine (option_and_then (breach_behind set earlier) line)
line_of_line set earlier None = tt
line_of_line set earlier (Some line) =
    let number = length earlier + 1 in
    let of_task = find (λ (j : Judged). same j.task.name line.task) set in
    one_of (is_disordered earlier line) (Some (breaches.Order number)) (task_breach number earlier line of_task) tt (task_of_line number earlier line of_task)

-- what is missing is missing of a task of the set
missing_within : (tasks : List core.Task) (streams : Streams) (plans : List Plan) (ticks : ℕ) (lines : List TraceLine) (verdict : Verdict) (task frame : ℕ)
    (what : Due) → Says (judged_of tasks streams) plans ticks lines verdict → verdict ≡ No (breaches.Missing task frame what) → task < length tasks
missing_within tasks streams plans ticks lines verdict task frame what (accepted right whole) e = absurd cc
missing_within tasks streams plans ticks lines verdict task frame what (refused place b at passed) e =
    let set = judged_of tasks streams in
    let is : b ≡ breaches.Missing task frame what = cc in
    absurd (subst OfLine (at ∙ ap (λ (x : Breach). Some x) is) (line_of_line set (take place lines) (slice_get lines place)))
missing_within tasks streams plans ticks lines verdict task frame what (missed i place j p right there before misses) e =
    let number : i ≡ task = cc in
    omega (arith, judged_long tasks streams, slice_get_within (judged_of tasks streams) i j there, number)

-- its name is the one that the status tells
pub names_breach : (c : Choice) (streams : Streams) (ticks : ℕ) (lines : List TraceLine) (breach : Breach) (name : Option (List ℕ))
    → SaysOf c streams ticks lines (No breach) → IfSome (told_task (statuses.Breach breach)) (λ number. name ≡ name_at c.set number)
    → Names c.set (statuses.Breach breach) name
names_breach c streams ticks lines (breaches.Order line) name says is = tt
names_breach c streams ticks lines (breaches.Unknown line) name says is = tt
names_breach c streams ticks lines (breaches.Entry line) name says is = tt
names_breach c streams ticks lines (breaches.Early line) name says is = tt
names_breach c streams ticks lines (breaches.Overdue line) name says is = tt
names_breach c streams ticks lines (breaches.Missing task frame what) name says is =
    (missing_within c.set streams c.plans ticks lines (No (breaches.Missing task frame what)) task frame what says refl, is)

-- ---- the stages

abbrev pub with_script : List ℕ → Call → Call
with_script text call = with_read 3 text call

abbrev pub with_trace : List ℕ → List ℕ → Call → Call
with_trace text bytes call = with_read 4 bytes (with_script text call)

-- a file was loaded, where the words are the call's
pub loads_own : (call : Call) (words : List (List ℕ)) (word limit : ℕ) (old new : SeenShelf) (bytes : List ℕ) → call.words ≡ words → Loads words word limit old new bytes
    → Loads call.words word limit old new bytes
loads_own call words word limit old new bytes same loaded = subst (λ (ws : List (List ℕ)). Loads ws word limit old new bytes) (sym same) loaded

-- the load of one stopped the call
pub stops_own : {T : Type 0} (call : Call) (words : List (List ℕ)) (word limit : ℕ) (old new : SeenShelf) (result : Result T Status) (given : Status) → call.words ≡ words
    → IsErrAnd result (λ e. e ≡ given) → StopsAtLoad words word limit old new given → StopsAtLoad call.words word limit old new (status_of result)
stops_own call words word limit old new result given same exit stopped =
    subst (λ (ws : List (List ℕ)). StopsAtLoad ws word limit old new (status_of result)) (sym same) (at_load words word limit old new result given exit stopped)

-- the script was loaded, and has these streams
pub record ReadScript (call : Call) (c : Choice) (shelf next : SeenShelf) (text : List ℕ) (streams : Streams) : Type 0 where
  pub for : IsChoiceFor (call.read 1) (call.read 2) c
  pub loaded : Loads call.words 3 16777216 shelf next text
  pub streams_in : script_of (port_rows c.set) text ≡ Ok streams

-- where the words are the call's, and the bytes read are the text
pub script_read : (call : Call) (c : Choice) (words : List (List ℕ)) (shelf next : SeenShelf) (text given : List ℕ) (streams : Streams)
    → IsChoiceFor (call.read 1) (call.read 2) c → call.words ≡ words → Loads words 3 16777216 shelf next text → given ≡ text
    → script_of (port_rows c.set) given ≡ Ok streams → ReadScript call c shelf next text streams
script_read call c words shelf next text given streams for same loaded is streams_in =
    record {
      for = for;
      loaded = loads_own call words 3 16777216 shelf next text same loaded;
      streams_in = subst (λ t. script_of (port_rows c.set) t ≡ Ok streams) is streams_in;
    }

-- it is refused
pub faulty_script : (call : Call) (c : Choice) (text given : List ℕ) (status : Status) → IsChoiceFor (call.read 1) (call.read 2) c → given ≡ text
    → OrMemory (scripts.RefusesLines (port_rows c.set) given) status → OrMemory (RefusesInputs (call.read 1) text) status
faulty_script call c text given status for same (inl none) = inl none
faulty_script call c text given status for same (inr h) =
    let refuses = subst (λ t. scripts.RefusesLines (port_rows c.set) t status) same h in
    inr (for.tasks, for.faultless, subst (λ (s : List core.Task). scripts.RefusesLines (port_rows s) text status) for.is refuses)

module _ {call : Call} {c : Choice} {shelf next : SeenShelf} {text : List ℕ} {streams : Streams} (end : Ended) (read : ReadScript call c shelf next text streams) where
  abbrev means : Means (call.read 1) text read.for.tasks streams
  means =
      record {
        faultless = read.for.faultless;
        streams_in = subst (λ (s : List core.Task). script_of (port_rows s) text ≡ Ok streams) read.for.is read.streams_in;
      }

  pub behind_script : Goes Judge end (load 4 16777216 ∷ test tests.trace ∷ test tests.verdict ∷ []) (with_script text call) next → Goes Judge end trace_stages call shelf
  behind_script rest = inr (text, next, read.loaded, inr ((read.for.tasks, streams, means), rest))

  module _ {last : SeenShelf} {bytes : List ℕ} (second : Loads call.words 4 16777216 next last bytes) where
    pub behind_bytes : Goes Judge end (test tests.trace ∷ test tests.verdict ∷ []) (with_trace text bytes call) last → Goes Judge end trace_stages call shelf
    behind_bytes rest = behind_script (inr (bytes, last, second, rest))

    module _ {lines : List TraceLine} (lines_in : IsTrace lines bytes) (ticks : ℕ) (number : ticks ≡ number_at call.words 5) where
      pub behind_lines : Goes Judge end (test tests.verdict ∷ []) (with_trace text bytes call) last → Goes Judge end trace_stages call shelf
      behind_lines rest = behind_bytes (inr ((lines, lines_in), rest))

      abbrev judged : (verdict : Verdict) → SaysOf c streams ticks lines verdict → IsJudged (with_trace text bytes call) verdict
      judged verdict says =
          record {
            choice = c;
            for = read.for;
            streams = streams;
            streams_in = read.streams_in;
            lines = lines;
            lines_in = lines_in;
            says = subst (λ n. SaysOf c streams n lines verdict) number says;
          }

      -- there is a breach
      pub breached : (status : Status) → OrMemory (IsBreach c streams ticks lines) status → OrMemory (RefusesBreach (with_trace text bytes call)) status
      breached status (inl none) = inl none
      breached status (inr (breach, is, says)) = inr (breach, is, judged (No breach) says)

      pub named : (status : Status) (task : Option (List ℕ)) → Names c.set status task → NamesTask (call.read 1) status task
      named status task names = (read.for.tasks, read.for.faultless, subst (λ (s : List core.Task). Names s status task) read.for.is names)

      -- there is none
      pub behind_verdict : SaysOf c streams ticks lines Yes → Goes Judge end [] (with_trace text bytes call) last → Goes Judge end trace_stages call shelf
      behind_verdict says rest = behind_lines (inr (judged Yes says, rest))

      pub yes_is : SaysOf c streams ticks lines Yes → IsText (with_trace text bytes call) (codes "yes\n" ∷ [])
      yes_is says = record { accepted = judged Yes says; is = refl }
