-- The text of an image's entries is that of their lines.
use Rattle.std.proofs.Common.{◌≡◌, ℕ, zero, suc, ℤ, ◌<◌, List, [], ◌∷◌, ◌++◌, length, map, take, drop, All, refl, sym, ap, ◌∙◌, arith, append_assoc}
use Rattle.std.specs.Prelude.{FitsSigned, slice_get, slice_index_or, codes}
use Rattle.std.specs.Int.{w64}
use Rattle.std.specs.Option.{option_map_or}
use Rattle.std.specs.Fmt.{decimal}
use Rattle.std.proofs.lemmas.List.{length-take, length-drop}
use Rattle.std.proofs.lemmas.List.Elements.{All-head, All-tail, All-take, All-drop, All-cons, All-nil}
use Rattle.std.proofs.lemmas.List.Sums.{sum_by-cons}
use Rattle.tcel_num.specs.Name.{IsName}
use Rattle.tcel_num.specs.Arithmetic.{holds}
use Rattle.tcel_num.specs.Entry.{Entry, What, receive, send, first, end}
use Rattle.tcel_image.specs.declared.image.Image.{Image}
use Rattle.tcel_image.specs.declared.image.ImageTask.{ImageTask}
use Rattle.tcel_image.specs.declared.image.ImageState.{ImageState}
use Rattle.tcel_image.specs.declared.image.StateKind.{StateKind}
use Rattle.tcel_image.specs.declared.image.StateKind.TheVariants as kinds
use Rattle.tcel_image.specs.Spelling.{StateInRange, TaskInRange, InRange, state_words}
use Rattle.tcel_image.specs.TraceText as texts
use Rattle.tcel_trace.specs.TraceForm.{Value, int, truth, array, ValueFits, value_text, State, StateFits, states_text, AreStates, WhatFits, LineFits, what_text, line_text, IsTrace}
use Rattle.tcel_trace.specs.EntryLines.{what_shown, line_shown, no_task, task_at, WhatIsOf, IsOf}

-- the words of a state are a value
value_of : (kind : StateKind) (words : List ℤ) → 0 < length words → All (FitsSigned w64) words
    → (value : Value) × ValueFits value × (texts.value_text kind words ≡ value_text value)
value_of kind [] some each = absurd (omega arith)
value_of kinds.Int (word ∷ words) some each = (int word, All-head (FitsSigned w64) word words each, refl)
value_of kinds.Bool (word ∷ words) some each = (truth (holds word), tt, refl)
value_of kinds.Array (word ∷ words) some each = (array (word ∷ words), (some, each), refl)

states_of : (states : List ImageState) (words : List ℤ) → All StateInRange states → All (FitsSigned w64) words → length words ≡ state_words states
    → AreStates (texts.states_text states words)
states_of [] words ranged each long = record { states = []; fit = All-nil StateFits; text = refl }
states_of (state ∷ states) words ranged each long =
    let own = take state.words words in
    let left = drop state.words words in
    let range = All-head StateInRange state states ranged in
    let sum = sum_by-cons (λ (s : ImageState). s.words) state states in
    let value = value_of state.kind own (omega (arith, length-take state.words words, range.words.0, long, sum))
    (All-take (FitsSigned w64) state.words words each) in
    let more = states_of states left (All-tail StateInRange state states ranged) (All-drop (FitsSigned w64) state.words words each)
    (omega (arith, length-drop state.words words, long, sum)) in
    let seen : State = record { name = state.name; value = value.0 } in
    record {
      states = seen ∷ more.states;
      fit = All-cons StateFits seen more.states (record { name = range.name; value = value.1 }) more.fit;
      text =
          ap (λ text. 32 ∷ (state.name ++ 61 ∷ (text ++ texts.states_text states left))) value.2
          ∙ ap (λ text. 32 ∷ (state.name ++ 61 ∷ (value_text value.0 ++ text))) more.text
          ∙ ap (λ text. 32 ∷ text) (sym (append_assoc state.name (61 ∷ value_text value.0) (states_text more.states)));
    }

name_at : (names : List (List ℕ)) (place : ℕ) → All IsName names → place < length names → IsName (slice_index_or names place [])
name_at [] place each inside = absurd (omega arith)
name_at (name ∷ names) zero each inside = All-head IsName name names each
name_at (name ∷ names) (suc place) each inside = name_at names place (All-tail IsName name names each) (omega arith)

what_fits : (task : ImageTask) (what : What) → TaskInRange task → WhatIsOf task what → WhatFits (what_shown task what)
what_fits task (receive port value) ranged is = (name_at task.inputs port ranged.inputs.each is.0, is.1)
what_fits task (send port value) ranged is = (name_at task.outputs port ranged.outputs.each is.0, is.1)
what_fits task first ranged is = tt
what_fits task (end state) ranged is = states_of task.states state ranged.states.each is.0 is.1

what_same : (task : ImageTask) (what : What) → texts.what_text task what ≡ what_text (what_shown task what)
what_same task (receive port value) = refl
what_same task (send port value) = refl
what_same task first = refl
what_same task (end state) = refl

-- the last piece of a line at its end
last_piece : (a b c d e : List ℕ) → a ++ 32 ∷ (b ++ 32 ∷ (c ++ 32 ∷ (d ++ e))) ≡ (a ++ 32 ∷ (b ++ 32 ∷ (c ++ 32 ∷ d))) ++ e
last_piece a b c d e =
    sym (append_assoc a (32 ∷ (b ++ 32 ∷ (c ++ 32 ∷ d))) e
    ∙ ap (λ more. a ++ 32 ∷ more) (append_assoc b (32 ∷ (c ++ 32 ∷ d)) e ∙ ap (λ more. b ++ 32 ∷ more) (append_assoc c (32 ∷ d) e)))

line_same : (task : ImageTask) (entry : Entry) → texts.line_of task entry ≡ line_text (line_shown task entry)
line_same task entry =
    ap (λ shown. decimal entry.time ++ 32 ∷ (task.name ++ 32 ∷ (decimal entry.frame ++ 32 ∷ (shown ++ codes "\n")))) (what_same task entry.what)
    ∙ last_piece (decimal entry.time) task.name (decimal entry.frame) (what_text (what_shown task entry.what)) (codes "\n")

-- the task at a place inside
task_same : (tasks : List ImageTask) (place : ℕ) (entry : Entry) → place < length tasks
    → option_map_or (λ task. texts.line_of task entry) (slice_get tasks place) [] ≡ line_text (line_shown (slice_index_or tasks place no_task) entry)
task_same [] place entry inside = absurd (omega arith)
task_same (task ∷ tasks) zero entry inside = line_same task entry
task_same (task ∷ tasks) (suc place) entry inside = task_same tasks place entry (omega arith)

task_ranged : (tasks : List ImageTask) (place : ℕ) → All TaskInRange tasks → place < length tasks → TaskInRange (slice_index_or tasks place no_task)
task_ranged [] place each inside = absurd (omega arith)
task_ranged (task ∷ tasks) zero each inside = All-head TaskInRange task tasks each
task_ranged (task ∷ tasks) (suc place) each inside = task_ranged tasks place (All-tail TaskInRange task tasks each) (omega arith)

line_fits : (image : Image) (entry : Entry) → InRange image → IsOf image entry → LineFits (line_shown (task_at image entry.task) entry)
line_fits image entry ranged is =
    let task = task_ranged image.tasks entry.task ranged.tasks is.task in
    record { time = is.time; task = task.name; frame = is.frame; what = what_fits (task_at image entry.task) entry.what task is.what }

pub entries_read : (image : Image) (entries : List Entry) → InRange image → All (IsOf image) entries
    → IsTrace (map (λ entry. line_shown (task_at image entry.task) entry) entries) (texts.text image entries)
entries_read image [] ranged each = record { fit = All-nil LineFits; text = refl }
entries_read image (entry ∷ entries) ranged each =
    let is = All-head (IsOf image) entry entries each in
    let more = entries_read image entries ranged (All-tail (IsOf image) entry entries each) in
    let this = line_shown (task_at image entry.task) entry in
    record {
      fit = All-cons LineFits this (map (λ entry. line_shown (task_at image entry.task) entry) entries) (line_fits image entry ranged is) more.fit;
      text = ap (λ front. front ++ texts.text image entries) (task_same image.tasks entry.task entry is.task) ∙ ap (λ rest. line_text this ++ rest) more.text;
    }
