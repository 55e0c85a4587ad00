-- What holds of every call of a command.
use Rattle.std.proofs.Common.{◌≡◌, ◌≢◌, ◌⊎◌, ◌<◌, ◌≤◌, ◌∙◌, ℕ, Bool, true, false, List, [], ◌∷◌, Option, Some, None, refl, sym, ap, subst, inl, inr, length, arith}
use Rattle.std.specs.Prelude.{IfSome, IsTrue, MatchOption}
use Rattle.tcel_io.specs.InTurn.{AreTaken}
use Rattle.tcel_io.specs.Shelf.{SeenShelf}
use Rattle.tcel_tool.specs.Answer.{Agrees, Decides, Ended, Goes, Loads, with_read}
use Rattle.tcel_tool.specs.CommandLine.{word_at}
use Rattle.tcel_tool.specs.CheckCommand.{status_at}
use Rattle.tcel_tool.specs.Commands.{IsText, Refuses}
use Rattle.tcel_tool.specs.JudgeCommand.{RefusesTrace}
use Rattle.tcel_core.specs.Language as core
use Rattle.tcel_tool.specs.LinkedCommand.{RefusesLinkLines}
use Rattle.tcel_tool.specs.ProgramText.{IsDeep, IsLexical}
use Rattle.tcel_tool.specs.RunCommand.{RefusesImage}
use Rattle.tcel_tool.specs.ScriptText.{RefusesLines}
use Rattle.tcel_tool.specs.SetChoice.{status_for}
use Rattle.tcel_tool.specs.MadeText.{made_text}
use Rattle.tcel_tool.specs.Stage.{Call, Stage, load, make, bound, test}
use Rattle.tcel_tool.specs.Test.{Test}
use Rattle.tcel_tool.specs.Test as tests
use Rattle.tcel_tool.specs.declared.command.Command.{Command}
use Rattle.tcel_tool.specs.declared.status.LimitFault.TheVariants as limits
use Rattle.tcel_tool.specs.declared.status.Status.{Status}
use Rattle.tcel_tool.specs.declared.status.Status.TheVariants as statuses
use Rattle.tcel_check.specs.declared.mark.Row.{Row}
use Rattle.tcel_check.specs.declared.mark.Row.TheVariants as rows
use Rattle.tcel_driver.specs.declared.refused.Refused.{Refused}
use Rattle.tcel_driver.specs.declared.refused.Refused.TheVariants as causes
use Rattle.tcel_check.specs.Checked.{set_of}
use Rattle.tcel_core.specs.Ports.{port_rows as set_rows}
use Rattle.tcel_grammar.specs.declared.deep.Deep.{Deep}
use Rattle.tcel_grammar.specs.declared.deep.Deep.TheVariants as deep
use Rattle.tcel_num.specs.declared.port_row.PortRow.{PortRow}
use Rattle.tcel_num.specs.declared.at.At.{At}
use Rattle.tcel_token.specs.declared.fail.LexFail.{LexFail}
use Rattle.tcel_token.specs.declared.fail.LexFail.TheVariants as lex
use Rattle.tcel_verify.specs.Ports.{port_rows}
use Rattle.tcel_tool.proofs.TestLaws.{one_refusal, passes_or_refuses}

-- a status that a test gives
abbrev pub is_refusal : Status → Bool
is_refusal statuses.Ok = false
is_refusal statuses.Words = false
is_refusal statuses.WriteFault = false
is_refusal statuses.NoMemory = false
is_refusal (statuses.ReadFault word) = false
is_refusal _ = true

becomes : (status given : Status) → status ≡ given → IsTrue (is_refusal given) → IsTrue (is_refusal status)
becomes status given e h = subst (λ s. IsTrue (is_refusal s)) (sym e) h

image_refusal : (bytes : List ℕ) (status : Status) → RefusesImage bytes status → IsTrue (is_refusal status)
image_refusal bytes statuses.Ok h = absurd h
image_refusal bytes statuses.Words h = absurd h
image_refusal bytes statuses.WriteFault h = absurd h
image_refusal bytes statuses.NoMemory h = absurd h
image_refusal bytes (statuses.ReadFault word) h = absurd h
image_refusal bytes _ h = refl

script_refusal : (ports : List PortRow) (lines : List ℕ) (status : Status) → RefusesLines ports lines status → IsTrue (is_refusal status)
script_refusal ports lines statuses.Ok h = absurd h
script_refusal ports lines statuses.Words h = absurd h
script_refusal ports lines statuses.WriteFault h = absurd h
script_refusal ports lines statuses.NoMemory h = absurd h
script_refusal ports lines (statuses.ReadFault word) h = absurd h
script_refusal ports lines _ h = refl

trace_refusal : (bytes : List ℕ) (status : Status) → RefusesTrace bytes status → IsTrue (is_refusal status)
trace_refusal bytes statuses.Ok h = absurd h
trace_refusal bytes statuses.Words h = absurd h
trace_refusal bytes statuses.WriteFault h = absurd h
trace_refusal bytes statuses.NoMemory h = absurd h
trace_refusal bytes (statuses.ReadFault word) h = absurd h
trace_refusal bytes _ h = refl

link_refusal : (set : List core.Task) (lines : List ℕ) (status : Status) → RefusesLinkLines set lines status → IsTrue (is_refusal status)
link_refusal set lines statuses.Ok h = absurd h
link_refusal set lines statuses.Words h = absurd h
link_refusal set lines statuses.WriteFault h = absurd h
link_refusal set lines statuses.NoMemory h = absurd h
link_refusal set lines (statuses.ReadFault word) h = absurd h
link_refusal set lines _ h = refl

lexical_refusal : (fail : LexFail) (status : Status) → IsLexical fail status → IsTrue (is_refusal status)
lexical_refusal (lex.BadByte at) status h = becomes status _ h refl
lexical_refusal (lex.BadNumber at) status h = becomes status _ h refl
lexical_refusal (lex.NameTooLong at) status h = becomes status _ h refl
lexical_refusal lex.NoMemory status h = absurd h

deep_refusal : (what : Deep) (at : At) (status : Status) → IsDeep what at status → IsTrue (is_refusal status)
deep_refusal deep.Nesting at status h = becomes status _ h refl
deep_refusal deep.Operators at status h = becomes status _ h refl

mark_refusal : (at : At) (row : Row) (status : Status) → status ≡ status_at at row → IsTrue (is_refusal status)
mark_refusal at (rows.Fault kind) status h = becomes status _ h refl
mark_refusal at (rows.Limit kind) status h = becomes status _ h refl

cause_refusal : (cause : Refused) (status : Status) → cause ≢ causes.NoMemory → status ≡ status_for cause → IsTrue (is_refusal status)
cause_refusal (causes.TooManyCells task words) status known h = becomes status _ h refl
cause_refusal (causes.TooDear task cycles) status known h = becomes status _ h refl
cause_refusal (causes.HyperTooLong task) status known h = becomes status _ h refl
cause_refusal (causes.TooManyFrames frames) status known h = becomes status _ h refl
cause_refusal (causes.Overload demand hyper) status known h = becomes status _ h refl
cause_refusal (causes.Late late) status known h = becomes status _ h refl
cause_refusal causes.NoMemory status known h = absurd (known refl)

pub refusal : (what : Test) (call : Call) (status : Status) → Refuses what call status → IsTrue (is_refusal status)
refusal tests.target call status h = becomes status _ h.1 refl
refusal tests.choice call status h = cause_refusal h.refused.0 status h.refused.1 h.refused.2
refusal tests.unit_choice call status h = cause_refusal h.refused.0 status h.refused.1 h.refused.2
refusal tests.image call status h = image_refusal (call.read 1) status h
refusal tests.script call status h = script_refusal (port_rows h.0) (call.read 2) status h.2
refusal tests.program call status (inl h) = lexical_refusal h.0 status h.1
refusal tests.program call status (inr (tokens, lexed, inl h)) = becomes status _ h.1 refl
refusal tests.program call status (inr (tokens, lexed, inr h)) = deep_refusal h.0 h.1 status h.2
refusal tests.faultless call status (tasks, program, (mark, is, first)) = mark_refusal mark.at mark.row status is
refusal (tests.inputs word) call status (tasks, faultless, refuses) = script_refusal (set_rows (set_of tasks)) (call.read word) status refuses
refusal tests.links call status (tasks, faultless, refuses) = link_refusal (set_of tasks) (call.read 3) status refuses
refusal tests.few call status (tasks, faultless, (is, many)) = becomes status _ is refl
refusal tests.forms call status h = cause_refusal h.refused.0 status h.refused.1 h.refused.2
refusal tests.trace call status h = trace_refusal (call.read 4) status h
refusal tests.verdict call status h = becomes status _ h.1 refl

no_refusal : (what : Test) (call : Call) (status given : Status) → Refuses what call status → status ≡ given → is_refusal given ≡ false → ⊥
no_refusal what call status given h e none = let is : is_refusal status ≡ true = refusal what call status h in let same : is_refusal status ≡ is_refusal given = ap is_refusal e in cc

-- what was told before a load is told after it
told_again : (words : List (List ℕ)) (word limit : ℕ) (old new : SeenShelf) (bytes : List ℕ) → Loads words word limit old new bytes → new.told ≡ old.told
told_again words word limit old new bytes loads = ap (λ (s : SeenShelf). s.told) loads.listed

-- ---- no call that has a form tells that it has none

pub never_words : (command : Command) (end : Ended) (stages : List Stage) (call : Call) (shelf : SeenShelf) → Goes command end stages call shelf → end.status ≡ statuses.Words → ⊥
never_words command end [] call shelf (inl stop) e = let c = stop.cause in cc
never_words command end [] call shelf (inr writes) e = elim writes.put [ inl p ↦ let o = p.0 in cc | inr p ↦ let o = p.0 in cc ]
never_words command end (load word limit ∷ stages) call shelf (inl (inl s, same)) e = let o = s.0 in cc
never_words command end (load word limit ∷ stages) call shelf (inl (inr (inl s), same)) e = let o = s.0 in cc
never_words command end (load word limit ∷ stages) call shelf (inl (inr (inr s), same)) e = let o = s.0 in cc
never_words command end (load word limit ∷ stages) call shelf (inr (bytes, next, loads, rest)) e =
    never_words command end stages (with_read word bytes call) next rest e
never_words command end (make what word ∷ stages) call shelf (inl stop) e = let c = stop.cause in cc
never_words command end (make what word ∷ stages) call shelf (inr rest) e = never_words command end stages (with_read word (made_text what call.words) call) shelf rest e
never_words command end (bound kind word most ∷ stages) call shelf (inl stop) e = let o = stop.cause.0 in cc
never_words command end (bound kind word most ∷ stages) call shelf (inr (few, rest)) e = never_words command end stages call shelf rest e
never_words command end (test what ∷ stages) call shelf (inl (stop, named)) e =
    elim stop.cause [ inl o ↦ cc | inr r ↦ no_refusal what call end.status statuses.Words r e refl ]
never_words command end (test what ∷ stages) call shelf (inr (passes, rest)) e = never_words command end stages call shelf rest e

-- ---- the told bytes decide the status

-- what is decided behind a load of told bytes
told_bytes : (o : Option (List ℕ)) (P : List ℕ → Type 0) (bytes : List ℕ) → MatchOption o ⊥ P → IfSome o (λ all. bytes ≡ all) → P bytes
told_bytes None P bytes h is = absurd h
told_bytes (Some all) P bytes h is = subst P (sym is) h

-- where they are longer than the limit
told_long : (o : Option (List ℕ)) (limit : ℕ) (Long Short : List ℕ → Type 0) (Q : Type 0) → MatchOption o ⊥ (λ bytes. ((limit < length bytes) × Long bytes) ⊎ ((length bytes ≤ limit) × Short bytes))
    → IfSome o (λ all. limit < length all) → ((bytes : List ℕ) → Long bytes → Q) → Q
told_long None limit Long Short Q h long f = absurd h
told_long (Some bytes) limit Long Short Q h long f = elim h [ inl l ↦ f bytes l.1 | inr s ↦ absurd (omega (arith, s.0, long)) ]

out_of_memory : (decided status : Status) → status ≡ statuses.NoMemory → Agrees decided status
out_of_memory decided status e = inr (inl e)

pub agrees : (command : Command) (end : Ended) (told : List ℕ → Option (List ℕ)) (decided : Status) (stages : List Stage) (call : Call) (shelf : SeenShelf) → shelf.told ≡ told
    → Goes command end stages call shelf → Decides told stages call decided → Agrees decided end.status
agrees command end told decided [] call shelf same (inl stop) d = out_of_memory decided end.status stop.cause
agrees command end told decided [] call shelf same (inr writes) d =
    elim writes.put [ inl p ↦ inl (p.0 ∙ sym d) | inr p ↦ inr (inr (inr (d, p.0))) ]
agrees command end told decided (load word limit ∷ stages) call shelf same (inl (inl s, kept)) d = out_of_memory decided end.status s.0
agrees command end told decided (load word limit ∷ stages) call shelf same (inl (inr (inl s), kept)) d = inr (inr (inl (word, s.0)))
agrees command end told decided (load word limit ∷ stages) call shelf same (inl (inr (inr s), kept)) d =
    let name = word_at call.words word in
    let Long = λ (bytes : List ℕ). decided ≡ statuses.Limit (limits.Bytes word limit) in
    let Short = λ (bytes : List ℕ). Decides told stages (with_read word bytes call) decided in
    let decides = told_long (told name) limit Long Short (decided ≡ statuses.Limit (limits.Bytes word limit)) d
    (subst (λ (t : List ℕ → Option (List ℕ)). IfSome (t name) (λ all. limit < length all)) same s.2) (λ bytes e. e) in
    inl (s.0 ∙ sym decides)
agrees command end told decided (load word limit ∷ stages) call shelf same (inr (bytes, next, loads, rest)) d =
    let name = word_at call.words word in
    let P = λ (bytes : List ℕ). ((limit < length bytes) × (decided ≡ statuses.Limit (limits.Bytes word limit)))
    ⊎ ((length bytes ≤ limit) × Decides told stages (with_read word bytes call) decided) in
    let here = told_bytes (told name) P bytes d (subst (λ (t : List ℕ → Option (List ℕ)). IfSome (t name) (λ all. bytes ≡ all)) same loads.told) in
    elim here [
      | inl long ↦ absurd (omega (arith, long.0, loads.short))
      | inr short ↦
          agrees command end told decided stages (with_read word bytes call) next (told_again call.words word limit shelf next bytes loads ∙ same) rest short.1
    ]
agrees command end told decided (make what word ∷ stages) call shelf same (inl stop) d = out_of_memory decided end.status stop.cause
agrees command end told decided (make what word ∷ stages) call shelf same (inr rest) d =
    agrees command end told decided stages (with_read word (made_text what call.words) call) shelf same rest d
agrees command end told decided (bound kind word most ∷ stages) call shelf same (inl stop) (inl d) = inl (stop.cause.0 ∙ sym d.0)
agrees command end told decided (bound kind word most ∷ stages) call shelf same (inl stop) (inr d) = absurd (omega (arith, stop.cause.1, d.0))
agrees command end told decided (bound kind word most ∷ stages) call shelf same (inr (few, rest)) (inl d) = absurd (omega (arith, few, d.1))
agrees command end told decided (bound kind word most ∷ stages) call shelf same (inr (few, rest)) (inr d) = agrees command end told decided stages call shelf same rest d.1
agrees command end told decided (test what ∷ stages) call shelf same (inl (stop, named)) (inl d) =
    elim stop.cause [ inl o ↦ out_of_memory decided end.status o | inr r ↦ inl (one_refusal what call end.status decided r d) ]
agrees command end told decided (test what ∷ stages) call shelf same (inl (stop, named)) (inr d) =
    elim stop.cause [ inl o ↦ out_of_memory decided end.status o | inr r ↦ absurd (d.0 end.status r) ]
agrees command end told decided (test what ∷ stages) call shelf same (inr (passes, rest)) (inl d) = absurd (passes_or_refuses what call decided passes d)
agrees command end told decided (test what ∷ stages) call shelf same (inr (passes, rest)) (inr d) = agrees command end told decided stages call shelf same rest d.1

-- ---- a call that ended well went through all stages

-- what was read when the stages were behind it
abbrev pub Reads : (List ℕ → Option (List ℕ)) → List Stage → Call → Call → Type 0
Reads told [] call last = last ≡ call
Reads told (load word limit ∷ stages) call last =
    (bytes : List ℕ) × IfSome (told (word_at call.words word)) (λ all. bytes ≡ all) × Reads told stages (with_read word bytes call) last
Reads told (make what word ∷ stages) call last = Reads told stages (with_read word (made_text what call.words) call) last
Reads told (bound kind word most ∷ stages) call last = Reads told stages call last
Reads told (test what ∷ stages) call last = Reads told stages call last

pub record Finished (command : Command) (end : Ended) (told : List ℕ → Option (List ℕ)) (stages : List Stage) (call : Call) : Type 0 where
  pub last : Call
  pub reads : Reads told stages call last
  pub pieces : List (List ℕ)
  pub text : IsText command last pieces
  pub taken : AreTaken pieces end.before end.after

pub finished : (command : Command) (end : Ended) (told : List ℕ → Option (List ℕ)) (stages : List Stage) (call : Call) (shelf : SeenShelf) → shelf.told ≡ told
    → Goes command end stages call shelf → end.status ≡ statuses.Ok → Finished command end told stages call
finished command end told [] call shelf same (inl stop) e = absurd (let c = stop.cause in cc)
finished command end told [] call shelf same (inr writes) e =
    elim writes.put [
      | inl p ↦ record { last = call; reads = refl; pieces = writes.pieces; text = writes.text; taken = p.1 }
      | inr p ↦ absurd (let o = p.0 in cc)
    ]
finished command end told (load word limit ∷ stages) call shelf same (inl (inl s, kept)) e = absurd (let o = s.0 in cc)
finished command end told (load word limit ∷ stages) call shelf same (inl (inr (inl s), kept)) e = absurd (let o = s.0 in cc)
finished command end told (load word limit ∷ stages) call shelf same (inl (inr (inr s), kept)) e = absurd (let o = s.0 in cc)
finished command end told (load word limit ∷ stages) call shelf same (inr (bytes, next, loads, rest)) e =
    let name = word_at call.words word in
    let f = finished command end told stages (with_read word bytes call) next (told_again call.words word limit shelf next bytes loads ∙ same) rest e in
    record {
      last = f.last;
      reads = (bytes, subst (λ (t : List ℕ → Option (List ℕ)). IfSome (t name) (λ all. bytes ≡ all)) same loads.told, f.reads);
      pieces = f.pieces;
      text = f.text;
      taken = f.taken;
    }
finished command end told (make what word ∷ stages) call shelf same (inl stop) e = absurd (let c = stop.cause in cc)
finished command end told (make what word ∷ stages) call shelf same (inr rest) e =
    let f = finished command end told stages (with_read word (made_text what call.words) call) shelf same rest e in
    record { last = f.last; reads = f.reads; pieces = f.pieces; text = f.text; taken = f.taken }
finished command end told (bound kind word most ∷ stages) call shelf same (inl stop) e = absurd (let o = stop.cause.0 in cc)
finished command end told (bound kind word most ∷ stages) call shelf same (inr (few, rest)) e =
    let f = finished command end told stages call shelf same rest e in
    record { last = f.last; reads = f.reads; pieces = f.pieces; text = f.text; taken = f.taken }
finished command end told (test what ∷ stages) call shelf same (inl (stop, named)) e =
    elim stop.cause [ inl o ↦ absurd cc | inr r ↦ absurd (no_refusal what call end.status statuses.Ok r e refl) ]
finished command end told (test what ∷ stages) call shelf same (inr (passes, rest)) e =
    let f = finished command end told stages call shelf same rest e in
    record { last = f.last; reads = f.reads; pieces = f.pieces; text = f.text; taken = f.taken }
