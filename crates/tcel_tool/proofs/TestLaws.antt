-- What passes a test is not refused by it, and a test refuses with one status.
use Rattle.std.proofs.Common.{◌≡◌, ℕ, List, [], length, Contains, Some, Ok, Err, refl, sym, ap, ◌∙◌, subst, inl, inr, arith}
use Rattle.tcel_num.specs.declared.at.At.{At}
use Rattle.tcel_grammar.proofs.OneAnswer.{not_accepted, not_shallow, one_depth, one_syntax, syntax_or_depth}
use Rattle.tcel_grammar.proofs.OneTree.{one_tree as one_parse}
use Rattle.tcel_grammar.specs.Faults.{IsAccepted}
use Rattle.tcel_grammar.specs.Programs.{IsProgram}
use Rattle.tcel_grammar.specs.declared.deep.Deep.{Deep}
use Rattle.tcel_grammar.specs.declared.deep.Deep.TheVariants as deep
use Rattle.tcel_token.proofs.OneReading.{no_both, one_fault, one_list}
use Rattle.tcel_token.specs.Terminal.{terminals}
use Rattle.tcel_token.specs.declared.fail.LexFail.{LexFail}
use Rattle.tcel_token.specs.declared.fail.LexFail.TheVariants as lex
use Rattle.tcel_token.specs.declared.token.Tokens.{Tokens}
use Rattle.tcel_tree.specs.Language as trees
use Rattle.tcel_check.specs.Checked.{set_of}
use Rattle.tcel_check.specs.Marks.{IsFirst}
use Rattle.tcel_core.specs.Language as core
use Rattle.tcel_driver.proofs.Chosen.{forbidden}
use Rattle.tcel_driver.proofs.OneAnswer.{given, made, one_choice, one_refusal as one_cause}
use Rattle.tcel_driver.specs.Choice.{IsChosen}
use Rattle.tcel_driver.specs.Forms.{AreForms}
use Rattle.tcel_check.specs.Rows.{marks}
use Rattle.tcel_check.specs.declared.mark.Mark.{Mark}
use Rattle.tcel_target.proofs.Told.{says_one}
use Rattle.tcel_target.specs.Costs.{unit_costs}
use Rattle.tcel_target.specs.Target.{IsTarget, Says}
use Rattle.tcel_target.specs.declared.costs.Costs.{Costs}
use Rattle.tcel_target.specs.declared.fail.TargetFail.{TargetFail}
use Rattle.tcel_target.specs.declared.fail.TargetFail.TheVariants as fails
use Rattle.tcel_image.proofs.Whole.{reading_again, told_apart}
use Rattle.tcel_image.specs.Reading.{reading}
use Rattle.tcel_image.specs.Validity.{IsFirstFlaw}
use Rattle.tcel_image.specs.declared.fault.ImageFail.{ImageFail}
use Rattle.tcel_image.specs.declared.flaw.Flaw.{Flaw}
use Rattle.tcel_image.specs.declared.image.Image.{Image}
use Rattle.tcel_check.specs.Checked.{set_of}
use Rattle.tcel_core.specs.Ports.{port_rows as set_rows}
use Rattle.tcel_num.specs.declared.port_row.PortRow.{PortRow}
use Rattle.tcel_script.specs.Script.{script_of, Streams}
use Rattle.tcel_script.specs.declared.fail.ScriptFail.{ScriptFail}
use Rattle.tcel_verify.specs.Ports.{port_rows}
use Rattle.tcel_tool.specs.CheckCommand.{IsFaultless, RefusesFaults, status_at}
use Rattle.tcel_tool.specs.Commands.{Passes, Refuses}
use Rattle.tcel_tool.specs.FewestCommand.{HasFewTasks, RefusesMany, many_tasks}
use Rattle.tcel_tool.specs.SetChoice.{Choice, IsChoiceFor, IsUnitChoice, RefusesChoice, RefusesSet, RefusesUnitChoice, status_for}
use Rattle.tcel_tool.specs.SetForms.{AreFormsFor, ForbidsSet, RefusesForms, SetForms}
use Rattle.tcel_tool.specs.TargetText.{HasFault}
use Rattle.tcel_tool.specs.ProgramText.{IsDeep, IsGrammatical, IsLexical, IsProgramText, RefusesText}
use Rattle.tcel_tool.specs.RunCommand.{IsImageIn, RefusesImage, Spells}
use Rattle.tcel_tool.specs.ScriptText.{RefusesLines}
use Rattle.tcel_judge.proofs.OneVerdict.{said_once}
use Rattle.tcel_judge.specs.FirstBreach.{Says as SaysOf, judged_of}
use Rattle.tcel_judge.specs.declared.verdict.Verdict.{Verdict}
use Rattle.tcel_judge.specs.declared.verdict.Verdict.TheVariants.{No, Yes}
use Rattle.tcel_num.specs.Plan.{Plan}
use Rattle.tcel_trace.proofs.TraceTexts.{bad_once, read_once, read_or_bad}
use Rattle.tcel_trace.specs.TraceForm.{IsBadAt, IsTrace}
use Rattle.tcel_trace.specs.declared.trace_fail.TraceFail.TheVariants.{BadTrace}
use Rattle.tcel_trace.specs.declared.trace_line.TraceLine.{TraceLine}
use Rattle.tcel_tool.specs.CommandLine.{number_at}
use Rattle.tcel_tool.specs.JudgeCommand.{IsJudged, RefusesBreach, RefusesTrace}
use Rattle.tcel_link.specs.declared.fail.LinkFail.{LinkFail}
use Rattle.tcel_link.specs.declared.link.Link.{Link}
use Rattle.tcel_link.specs.Links.{links_in}
use Rattle.tcel_tool.specs.LinkedCommand.{Links, RefusesLinkLines, RefusesLinks}
use Rattle.tcel_tool.specs.MeanCommand.{Means, RefusesInputs}
use Rattle.tcel_tool.specs.Stage.{Call}
use Rattle.tcel_tool.specs.Test.{Test}
use Rattle.tcel_tool.specs.Test as tests
use Rattle.tcel_tool.specs.declared.status.ProgramKind.TheVariants.{Unexpected}
use Rattle.tcel_tool.specs.declared.status.Status.{Status}
use Rattle.tcel_tool.specs.declared.status.Status.TheVariants as statuses
use Rattle.tcel_tool.proofs.FirstMarks.{one_first}
use Rattle.tcel_tool.proofs.FlawOrder.{one_flaw}

-- ---- targets

says_fault : (bytes : List ℕ) (fail : TargetFail) → HasFault bytes fail → Says bytes (Err fail)
says_fault bytes fails.NoMemory h = absurd h
says_fault bytes fails.NotToml h = h
says_fault bytes (fails.Strange key) h = h
says_fault bytes (fails.Missing key) h = h
says_fault bytes (fails.Range key) h = h

not_memory : {T : Type 0} (bytes : List ℕ) (fail : TargetFail) → HasFault bytes fail → fail ≡ fails.NoMemory → T
not_memory bytes fail h e = absurd (let m : HasFault bytes fails.NoMemory = subst (HasFault bytes) e h in m)

one_costs : (bytes : List ℕ) (a b : Costs) → IsTarget bytes a → IsTarget bytes b → a ≡ b
one_costs bytes a b h k = elim (says_one bytes (Ok a) (Ok b) h k) [ inl e ↦ cc | inr (inl e) ↦ absurd cc | inr (inr e) ↦ absurd cc ]

costs_or_fault : (bytes : List ℕ) (costs : Costs) (fail : TargetFail) → IsTarget bytes costs → HasFault bytes fail → ⊥
costs_or_fault bytes costs fail h k =
    elim (says_one bytes (Ok costs) (Err fail) h (says_fault bytes fail k)) [ inl e ↦ cc | inr (inl e) ↦ cc | inr (inr e) ↦ not_memory bytes fail k (let m : fail ≡ fails.NoMemory = cc in m) ]

one_target_fault : (bytes : List ℕ) (a b : TargetFail) → HasFault bytes a → HasFault bytes b → a ≡ b
one_target_fault bytes a b h k =
    elim (says_one bytes (Err a) (Err b) (says_fault bytes a h) (says_fault bytes b k)) [
      | inl e ↦ cc
      | inr (inl e) ↦ not_memory bytes a h (let m : a ≡ fails.NoMemory = cc in m)
      | inr (inr e) ↦ not_memory bytes b k (let m : b ≡ fails.NoMemory = cc in m)
    ]

-- ---- images

one_image : (bytes : List ℕ) (a b : Image) → Spells bytes a → Spells bytes b → a ≡ b
one_image bytes a b s t = told_apart a b s.range t.range (sym s.spelled ∙ t.spelled)

read_again : (bytes : List ℕ) (given : Image) → Spells bytes given → reading bytes ≡ Ok given
read_again bytes given s = subst (λ b. reading b ≡ Ok given) (sym s.spelled) (reading_again given s.range)

-- why bytes are refused, by the status
pub data WhyImage (bytes : List ℕ) (status : Status) : Type 0 where
  unread : (fail : ImageFail) → status ≡ statuses.Image fail → reading bytes ≡ Err fail → WhyImage bytes status
  flawed : (flaw : Flaw) → (given : Image) → status ≡ statuses.Flaw flaw → Spells bytes given → IsFirstFlaw given flaw → WhyImage bytes status

why_image : (bytes : List ℕ) (status : Status) → RefusesImage bytes status → WhyImage bytes status
why_image bytes (statuses.Image fail) h = unread fail refl h.1
why_image bytes (statuses.Flaw flaw) h = flawed flaw h.0 refl h.1 h.2
why_image bytes _ h = absurd h

image_or_why : (bytes : List ℕ) (given : Image) (status : Status) → IsImageIn bytes given → WhyImage bytes status → ⊥
image_or_why bytes given status is (unread fail e r) = let found = read_again bytes given is.spells in cc
image_or_why bytes given status is (flawed flaw other e spells first) =
    let same = one_image bytes other given spells is.spells in
    let there = (subst (λ (i : Image). IsFirstFlaw i flaw) same first).there in
    let none = is.valid.none flaw in
    cc

one_why : (bytes : List ℕ) (a b : Status) → WhyImage bytes a → WhyImage bytes b → a ≡ b
one_why bytes a b (unread f e r) (unread g k s) = let same : f ≡ g = cc in e ∙ ap statuses.Image same ∙ sym k
one_why bytes a b (unread f e r) (flawed g given k spells first) = absurd (let found = read_again bytes given spells in cc)
one_why bytes a b (flawed f given e spells first) (unread g k s) = absurd (let found = read_again bytes given spells in cc)
one_why bytes a b (flawed f given e spells first) (flawed g other k spells' first') =
    let same = one_image bytes given other spells spells' in
    e ∙ ap statuses.Flaw (one_flaw other f g (subst (λ (i : Image). IsFirstFlaw i f) same first) first') ∙ sym k

-- ---- scripts

pub record WhyLines (ports : List PortRow) (lines : List ℕ) (status : Status) : Type 0 where
  pub fail : ScriptFail
  pub is : status ≡ statuses.Script fail
  pub read : script_of ports lines ≡ Err fail

why_lines : (ports : List PortRow) (lines : List ℕ) (status : Status) → RefusesLines ports lines status → WhyLines ports lines status
why_lines ports lines (statuses.Script fail) h = record { fail = fail; is = refl; read = h.1 }
why_lines ports lines _ h = absurd h

read_or_refused : (ports : List PortRow) (lines : List ℕ) (streams : Streams) (status : Status) → script_of ports lines ≡ Ok streams → RefusesLines ports lines status → ⊥
read_or_refused ports lines streams status read h = let why = why_lines ports lines status h in let none = why.read in cc

one_line : (ports : List PortRow) (lines : List ℕ) (a b : Status) → RefusesLines ports lines a → RefusesLines ports lines b → a ≡ b
one_line ports lines a b h k =
    let one = why_lines ports lines a h in
    let other = why_lines ports lines b k in
    let first = one.read in
    let second = other.read in
    let fail : one.fail ≡ other.fail = cc in
    one.is ∙ ap statuses.Script fail ∙ sym other.is

-- ---- texts of programs

one_lexical : (fail : LexFail) (a b : Status) → IsLexical fail a → IsLexical fail b → a ≡ b
one_lexical (lex.BadByte at) a b h k = h ∙ sym k
one_lexical (lex.BadNumber at) a b h k = h ∙ sym k
one_lexical (lex.NameTooLong at) a b h k = h ∙ sym k
one_lexical lex.NoMemory a b h k = absurd h

one_deep : (what : Deep) (at : At) (a b : Status) → IsDeep what at a → IsDeep what at b → a ≡ b
one_deep deep.Nesting at a b h k = h ∙ sym k
one_deep deep.Operators at a b h k = h ∙ sym k

one_grammatical : (tokens : Tokens) (a b : Status) → IsGrammatical tokens a → IsGrammatical tokens b → a ≡ b
one_grammatical tokens a b (inl h) (inl k) =
    h.1 ∙ ap (statuses.Program Unexpected) (one_syntax (terminals tokens.list) tokens.end h.0 k.0 h.2 k.2) ∙ sym k.1
one_grammatical tokens a b (inl h) (inr k) = absurd (syntax_or_depth (terminals tokens.list) tokens.end h.0 k.1 k.0 h.2 k.3)
one_grammatical tokens a b (inr h) (inl k) = absurd (syntax_or_depth (terminals tokens.list) tokens.end k.0 h.1 h.0 k.2 h.3)
one_grammatical tokens a b (inr h) (inr k) =
    let same = one_depth (terminals tokens.list) h.0 k.0 h.1 k.1 h.3 k.3 in
    one_deep k.0 k.1 a b (subst (λ at. IsDeep k.0 at a) same.1 (subst (λ what. IsDeep what h.1 a) same.0 h.2)) k.2

one_text_fault : (text : List ℕ) (a b : Status) → RefusesText text a → RefusesText text b → a ≡ b
one_text_fault text a b (inl h) (inl k) = one_lexical k.0 a b (subst (λ f. IsLexical f a) (one_fault text h.0 k.0 h.2 k.2) h.1) k.1
one_text_fault text a b (inl h) (inr k) = absurd (no_both text k.0 h.0 k.1 h.2)
one_text_fault text a b (inr h) (inl k) = absurd (no_both text h.0 k.0 h.1 k.2)
one_text_fault text a b (inr h) (inr k) =
    one_grammatical k.0 a b (subst (λ (t : Tokens). IsGrammatical t a) (one_list text h.0 k.0 h.1 k.1) h.2) k.2

accepted_or_not : (tokens : Tokens) (tasks : List trees.Task) (status : Status) → IsAccepted (terminals tokens.list) tasks → IsGrammatical tokens status → ⊥
accepted_or_not tokens tasks status a (inl h) = not_accepted (terminals tokens.list) tokens.end h.0 tasks a h.2
accepted_or_not tokens tasks status a (inr h) = not_shallow (terminals tokens.list) h.0 h.1 tasks a h.3

text_or_fault : (text : List ℕ) (tasks : List trees.Task) (status : Status) → IsProgramText text tasks → RefusesText text status → ⊥
text_or_fault text tasks status is (inl h) = no_both text is.tokens h.0 is.lexed h.2
text_or_fault text tasks status is (inr h) =
    accepted_or_not h.0 tasks status (subst (λ (t : Tokens). IsAccepted (terminals t.list) tasks) (one_list text is.tokens h.0 is.lexed h.1) is.parsed) h.2

-- ---- checked programs

one_program : (text : List ℕ) (a b : List trees.Task) → IsProgramText text a → IsProgramText text b → a ≡ b
one_program text a b is other =
    let tokens = one_list text is.tokens other.tokens is.lexed other.lexed in
    one_parse (terminals other.tokens.list) a b (subst (λ (t : Tokens). IsProgram (terminals t.list) a) tokens is.parsed.program) other.parsed.program

faultless_or_fault : (text : List ℕ) (tasks : List trees.Task) (status : Status) → IsFaultless text tasks → RefusesFaults text status → ⊥
faultless_or_fault text tasks status is (other, program, (mark, e, first)) =
    let same = one_program text other tasks program is.program in
    let there = subst (λ (ts : List trees.Task). Contains (marks ts) mark) same first.0 in
    let none : Contains [] mark = subst (λ (ms : List Mark). Contains ms mark) is.free there in
    omega (arith, none.1)

one_program_fault : (text : List ℕ) (a b : Status) → RefusesFaults text a → RefusesFaults text b → a ≡ b
one_program_fault text a b (tasks, program, (mark, e, first)) (others, program', (mark', e', first')) =
    let same = one_program text tasks others program program' in
    let one = one_first (marks others) mark mark' (subst (λ (ts : List trees.Task). IsFirst (marks ts) (Some mark)) same first) first' in
    e ∙ ap (λ (m : Mark). status_at m.at m.row) one ∙ sym e'

-- ---- choices

-- a refusal of one program is one of the other's set
same_set : (program target : List ℕ) (tasks others : List trees.Task) (costs other : Costs) (status : Status) → tasks ≡ others → costs ≡ other
    → RefusesSet (set_of tasks) costs status → RefusesSet (set_of others) other status
same_set program target tasks others costs other status same equal h =
    subst (λ (k : Costs). RefusesSet (set_of others) k status) equal (subst (λ (ts : List trees.Task). RefusesSet (set_of ts) costs status) same h)

chosen_or_refused : (program target : List ℕ) (c : Choice) (status : Status) → IsChoiceFor program target c → RefusesChoice program target status → ⊥
chosen_or_refused program target c status is not_made =
    let refused = same_set program target not_made.tasks is.tasks not_made.costs c.costs status (one_program program not_made.tasks is.tasks not_made.faultless.program is.faultless.program)
    (one_costs target not_made.costs c.costs not_made.gives.text is.gives.text) not_made.refused in
    let chosen = subst (λ (set : List core.Task). IsChosen set c.costs c.sliced c.plans c.parts) is.is is.best.chosen in
    refused.1 (made (set_of is.tasks) c.costs c.sliced c.plans c.parts refused.0 chosen refused.3)

one_set_refusal : (set : List core.Task) (costs : Costs) (a b : Status) → RefusesSet set costs a → RefusesSet set costs b → a ≡ b
one_set_refusal set costs a b (cause, known, is, refuses) (other, told, equal, why) =
    elim (one_cause set costs cause other refuses why) [
      | inl same ↦ is ∙ ap status_for same ∙ sym equal
      | inr (inl none) ↦ absurd (known none)
      | inr (inr none) ↦ absurd (told none)
    ]

one_choice_refusal : (program target : List ℕ) (a b : Status) → RefusesChoice program target a → RefusesChoice program target b → a ≡ b
one_choice_refusal program target a b one other =
    let refused = same_set program target one.tasks other.tasks one.costs other.costs a
    (one_program program one.tasks other.tasks one.faultless.program other.faultless.program) (one_costs target one.costs other.costs one.gives.text other.gives.text) one.refused in
    one_set_refusal (set_of other.tasks) other.costs a b refused other.refused

-- ---- choices for unit costs

unit_chosen_or_refused : (program : List ℕ) (c : Choice) (status : Status) → IsUnitChoice program c → RefusesUnitChoice program status → ⊥
unit_chosen_or_refused program c status is not_made =
    let same = one_program program not_made.tasks is.tasks not_made.faultless.program is.faultless.program in
    let refused = subst (λ (ts : List trees.Task). RefusesSet (set_of ts) unit_costs status) same not_made.refused in
    let set = subst (λ (set : List core.Task). IsChosen set c.costs c.sliced c.plans c.parts) is.is is.best.chosen in
    let chosen = subst (λ (k : Costs). IsChosen (set_of is.tasks) k c.sliced c.plans c.parts) is.unit set in
    refused.1 (made (set_of is.tasks) unit_costs c.sliced c.plans c.parts refused.0 chosen refused.3)

one_unit_refusal : (program : List ℕ) (a b : Status) → RefusesUnitChoice program a → RefusesUnitChoice program b → a ≡ b
one_unit_refusal program a b one other =
    let same = one_program program one.tasks other.tasks one.faultless.program other.faultless.program in
    one_set_refusal (set_of other.tasks) unit_costs a b (subst (λ (ts : List trees.Task). RefusesSet (set_of ts) unit_costs a) same one.refused) other.refused

-- ---- forms

-- where a form is beyond a limit, no choice is made
no_choice : (program target : List ℕ) (status : Status) → RefusesForms program target status → RefusesChoice program target status
no_choice program target status not_given =
    let refused = not_given.refused in
    record {
      tasks = not_given.tasks;
      faultless = not_given.faultless;
      costs = not_given.costs;
      gives = not_given.gives;
      refused = (refused.0, refused.1, refused.2, forbidden (set_of not_given.tasks) not_given.costs refused.0 refused.3);
    }

-- what forbids the forms of one program forbids those of the other's set
same_forbidden : (tasks others : List trees.Task) (costs other : Costs) (status : Status) → tasks ≡ others → costs ≡ other
    → ForbidsSet (set_of tasks) costs status → ForbidsSet (set_of others) other status
same_forbidden tasks others costs other status same equal h =
    subst (λ (k : Costs). ForbidsSet (set_of others) k status) equal (subst (λ (ts : List trees.Task). ForbidsSet (set_of ts) costs status) same h)

forms_or_refused : (program target : List ℕ) (f : SetForms) (status : Status) → AreFormsFor program target f → RefusesForms program target status → ⊥
forms_or_refused program target f status are not_given =
    let forbids = same_forbidden not_given.tasks are.tasks not_given.costs f.costs status
    (one_program program not_given.tasks are.tasks not_given.faultless.program are.faultless.program)
    (one_costs target not_given.costs f.costs not_given.gives.text are.gives.text) not_given.refused in
    let forms = subst (λ (set : List core.Task). AreForms set f.costs f.parts f.whole f.sliced f.hyper) are.is are.are in
    forbids.1 (given (set_of are.tasks) f.costs f.parts f.whole f.sliced f.hyper forbids.0 forms forbids.3)

few_or_many : (text : List ℕ) (tasks : List trees.Task) (status : Status) → HasFewTasks text tasks → RefusesMany text status → ⊥
few_or_many text tasks status few (others, faultless, (is, many)) =
    let same = ap (λ (ts : List trees.Task). length (set_of ts)) (one_program text others tasks faultless.program few.faultless.program) in
    omega (arith, few.few, many, same)

one_count : (text : List ℕ) (a b : Status) → RefusesMany text a → RefusesMany text b → a ≡ b
one_count text a b (tasks, faultless, (is, many)) (others, faultless', (is', many')) =
    is ∙ ap (λ (ts : List trees.Task). many_tasks (set_of ts)) (one_program text tasks others faultless.program faultless'.program) ∙ sym is'

-- ---- scripts for checked programs

inputs_or_refused : (text lines : List ℕ) (tasks : List trees.Task) (streams : Streams) (status : Status) → Means text lines tasks streams → RefusesInputs text lines status → ⊥
inputs_or_refused text lines tasks streams status means (others, faultless, refuses) =
    let same = one_program text others tasks faultless.program means.faultless.program in
    read_or_refused (set_rows (set_of tasks)) lines streams status means.streams_in
    (subst (λ (ts : List trees.Task). RefusesLines (set_rows (set_of ts)) lines status) same refuses)

one_input_fault : (text lines : List ℕ) (a b : Status) → RefusesInputs text lines a → RefusesInputs text lines b → a ≡ b
one_input_fault text lines a b (tasks, faultless, refuses) (others, faultless', refuses') =
    let same = one_program text tasks others faultless.program faultless'.program in
    one_line (set_rows (set_of others)) lines a b (subst (λ (ts : List trees.Task). RefusesLines (set_rows (set_of ts)) lines a) same refuses) refuses'

-- ---- traces

pub record WhyTrace (bytes : List ℕ) (status : Status) : Type 0 where
  pub number : ℕ
  pub is : status ≡ statuses.Trace (BadTrace number)
  pub bad : IsBadAt bytes number

why_trace : (bytes : List ℕ) (status : Status) → RefusesTrace bytes status → WhyTrace bytes status
why_trace bytes (statuses.Trace (BadTrace number)) h = record { number = number; is = refl; bad = h }
why_trace bytes _ h = absurd h

trace_or_bad : (bytes : List ℕ) (lines : List TraceLine) (status : Status) → IsTrace lines bytes → RefusesTrace bytes status → ⊥
trace_or_bad bytes lines status is h = let why = why_trace bytes status h in read_or_bad lines bytes why.number is why.bad

one_bad_line : (bytes : List ℕ) (a b : Status) → RefusesTrace bytes a → RefusesTrace bytes b → a ≡ b
one_bad_line bytes a b h k =
    let one = why_trace bytes a h in
    let other = why_trace bytes b k in
    one.is ∙ ap (λ n. statuses.Trace (BadTrace n)) (bad_once bytes one.number other.number one.bad other.bad) ∙ sym other.is

-- ---- verdicts

one_judged : (call : Call) (v w : Verdict) → IsJudged call v → IsJudged call w → v ≡ w
one_judged call v w h k =
    let tasks = one_program (call.read 1) h.for.tasks k.for.tasks h.for.faultless.program k.for.faultless.program in
    let set : h.choice.set ≡ k.choice.set = h.for.is ∙ ap (λ (ts : List trees.Task). set_of ts) tasks ∙ sym k.for.is in
    let costs = one_costs (call.read 2) h.choice.costs k.choice.costs h.for.gives.text k.for.gives.text in
    let own = subst (λ (s : List core.Task). IsChosen s h.choice.costs h.choice.sliced h.choice.plans h.choice.parts) set h.for.best.chosen in
    let chosen = subst (λ (cs : Costs). IsChosen k.choice.set cs h.choice.sliced h.choice.plans h.choice.parts) costs own in
    let same = one_choice k.choice.set k.choice.costs h.choice.sliced k.choice.sliced h.choice.plans k.choice.plans h.choice.parts k.choice.parts chosen k.for.best.chosen in
    let read = subst (λ (s : List core.Task). script_of (set_rows s) (call.read 3) ≡ Ok h.streams) set h.streams_in in
    let streams : h.streams ≡ k.streams = let also = k.streams_in in cc in
    let lines : h.lines ≡ k.lines = read_once h.lines k.lines (call.read 4) h.lines_in k.lines_in in
    let ticks = number_at call.words 5 in
    let of_set = subst (λ (s : List core.Task). SaysOf (judged_of s h.streams) h.choice.plans ticks h.lines v) set h.says in
    let of_streams = subst (λ (s : Streams). SaysOf (judged_of k.choice.set s) h.choice.plans ticks h.lines v) streams of_set in
    let of_plans = subst (λ (ps : List Plan). SaysOf (judged_of k.choice.set k.streams) ps ticks h.lines v) same.1 of_streams in
    let said = subst (λ (ls : List TraceLine). SaysOf (judged_of k.choice.set k.streams) k.choice.plans ticks ls v) lines of_plans in
    said_once (judged_of k.choice.set k.streams) k.choice.plans ticks k.lines v w said k.says

yes_or_breach : (call : Call) (status : Status) → IsJudged call Yes → RefusesBreach call status → ⊥
yes_or_breach call status accepted (breach, is, refused) = let e = one_judged call Yes (No breach) accepted refused in cc

one_breach : (call : Call) (a b : Status) → RefusesBreach call a → RefusesBreach call b → a ≡ b
one_breach call a b (breach, is, refused) (other, is', refused') =
    let e = one_judged call (No breach) (No other) refused refused' in
    let same : breach ≡ other = cc in
    is ∙ ap statuses.Breach same ∙ sym is'

-- ---- links

-- the fault of a line that is told
pub record WhyLink (set : List core.Task) (lines : List ℕ) (status : Status) : Type 0 where
  pub fail : LinkFail
  pub is : status ≡ statuses.Link fail
  pub read : links_in set lines ≡ Err fail

why_link : (set : List core.Task) (lines : List ℕ) (status : Status) → RefusesLinkLines set lines status → WhyLink set lines status
why_link set lines (statuses.Link fail) h = record { fail = fail; is = refl; read = h.1 }
why_link set lines _ h = absurd h

-- a refusal of one program's links is one of the other's
why_other : (text lines : List ℕ) (tasks others : List trees.Task) (status : Status) → IsFaultless text tasks → IsFaultless text others
    → RefusesLinkLines (set_of others) lines status → WhyLink (set_of tasks) lines status
why_other text lines tasks others status is other h =
    why_link (set_of tasks) lines status
    (subst (λ (ts : List trees.Task). RefusesLinkLines (set_of ts) lines status) (one_program text others tasks other.program is.program) h)

links_or_refused : (text lines : List ℕ) (tasks : List trees.Task) (links : List Link) (status : Status) → Links text lines tasks links → RefusesLinks text lines status → ⊥
links_or_refused text lines tasks links status given (others, faultless, refuses) =
    let why = why_other text lines tasks others status given.faultless faultless refuses in
    let none = why.read in
    let found = given.links_in in
    cc

one_link_fault : (text lines : List ℕ) (a b : Status) → RefusesLinks text lines a → RefusesLinks text lines b → a ≡ b
one_link_fault text lines a b (tasks, faultless, refuses) (others, faultless', refuses') =
    let one = why_link (set_of tasks) lines a refuses in
    let other = why_other text lines tasks others b faultless faultless' refuses' in
    let first = one.read in
    let second = other.read in
    let fail : one.fail ≡ other.fail = cc in
    one.is ∙ ap statuses.Link fail ∙ sym other.is

-- ---- the tests

pub passes_or_refuses : (what : Test) (call : Call) (status : Status) → Passes what call → Refuses what call status → ⊥
passes_or_refuses tests.target call status p h = costs_or_fault (call.read 2) p.0 h.0 p.1.text h.2
passes_or_refuses tests.choice call status p h = chosen_or_refused (call.read 1) (call.read 2) p.0 status p.1 h
passes_or_refuses tests.unit_choice call status p h = unit_chosen_or_refused (call.read 1) p.0 status p.1 h
passes_or_refuses tests.image call status p h = image_or_why (call.read 1) p.0 status p.1 (why_image (call.read 1) status h)
passes_or_refuses tests.script call status p h =
    let same = one_image (call.read 1) h.0 p.0 h.1.spells p.2.image_in.spells in
    read_or_refused (port_rows p.0) (call.read 2) p.1 status p.2.streams_in (subst (λ (i : Image). RefusesLines (port_rows i) (call.read 2) status) same h.2)
passes_or_refuses tests.program call status p h = text_or_fault (call.read 1) p.0 status p.1 h
passes_or_refuses tests.faultless call status p h = faultless_or_fault (call.read 1) p.0 status p.1 h
passes_or_refuses (tests.inputs word) call status p h = inputs_or_refused (call.read 1) (call.read word) p.0 p.1 status p.2 h
passes_or_refuses tests.links call status p h = links_or_refused (call.read 1) (call.read 3) p.0 p.1 status p.2 h
passes_or_refuses tests.few call status p h = few_or_many (call.read 1) p.0 status p.1 h
passes_or_refuses tests.forms call status p h = forms_or_refused (call.read 1) (call.read 2) p.0 status p.1 h
passes_or_refuses tests.trace call status p h = trace_or_bad (call.read 4) p.0 status p.1 h
passes_or_refuses tests.verdict call status p h = yes_or_breach call status p h

pub one_refusal : (what : Test) (call : Call) (a b : Status) → Refuses what call a → Refuses what call b → a ≡ b
one_refusal tests.target call a b h k = h.1 ∙ ap statuses.Target (one_target_fault (call.read 2) h.0 k.0 h.2 k.2) ∙ sym k.1
one_refusal tests.choice call a b h k = one_choice_refusal (call.read 1) (call.read 2) a b h k
one_refusal tests.unit_choice call a b h k = one_unit_refusal (call.read 1) a b h k
one_refusal tests.image call a b h k = one_why (call.read 1) a b (why_image (call.read 1) a h) (why_image (call.read 1) b k)
one_refusal tests.script call a b h k =
    let same = one_image (call.read 1) h.0 k.0 h.1.spells k.1.spells in
    one_line (port_rows k.0) (call.read 2) a b (subst (λ (i : Image). RefusesLines (port_rows i) (call.read 2) a) same h.2) k.2
one_refusal tests.program call a b h k = one_text_fault (call.read 1) a b h k
one_refusal tests.faultless call a b h k = one_program_fault (call.read 1) a b h k
one_refusal (tests.inputs word) call a b h k = one_input_fault (call.read 1) (call.read word) a b h k
one_refusal tests.links call a b h k = one_link_fault (call.read 1) (call.read 3) a b h k
one_refusal tests.few call a b h k = one_count (call.read 1) a b h k
one_refusal tests.forms call a b h k =
    one_choice_refusal (call.read 1) (call.read 2) a b (no_choice (call.read 1) (call.read 2) a h) (no_choice (call.read 1) (call.read 2) b k)
one_refusal tests.trace call a b h k = one_bad_line (call.read 4) a b h k
one_refusal tests.verdict call a b h k = one_breach call a b h k
