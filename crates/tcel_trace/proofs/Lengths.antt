-- No line of an image's task is longer than its bound.
use Rattle.std.proofs.Common.{◌≡◌, ℕ, zero, suc, get_or, ℤ, pos, ◌+◌, ◌*◌, ◌<◌, ◌≤◌, ◌^◌, List, [], ◌∷◌, ◌++◌, Bool, true, false, length, take, drop, map, min, All, arith, rules, length-append, length-take}
use Rattle.std.specs.Prelude.{FitsSigned, slice_index_or, slice_get, codes, if◌then◌else◌}
use Rattle.std.specs.Int.{w64}
use Rattle.std.specs.List.{join_with_byte}
use Rattle.std.specs.Option.{option_map_or}
use Rattle.std.specs.Fmt.{decimal, signed_decimal}
use Rattle.std.proofs.lemmas.Fmt.{length-decimal-le, length_signed_le}
use Rattle.std.proofs.lemmas.List.Elements.{All-head, All-tail, All-take, All-drop, All-weaker, All-more}
use Rattle.std.proofs.lemmas.List.Sums.{sum_by-cons}
use Rattle.tcel_num.specs.Name.{IsName}
use Rattle.tcel_num.specs.Arithmetic.{holds}
use Rattle.tcel_num.specs.Entry.{Entry, What, receive, send, first, end}
use Rattle.tcel_image.specs.declared.image.Image.{Image}
use Rattle.tcel_image.specs.declared.image.ImageTask.{ImageTask}
use Rattle.tcel_image.specs.declared.image.ImageState.{ImageState}
use Rattle.tcel_image.specs.declared.image.StateKind.{StateKind}
use Rattle.tcel_image.specs.declared.image.StateKind.TheVariants as kinds
use Rattle.tcel_image.specs.Spelling.{StateInRange, TaskInRange, InRange, state_words}
use Rattle.tcel_image.specs.TraceText.{value_text, states_text, port_text, what_text, line_of}
use Rattle.tcel_trace.specs.Room.{WhatFits, EntryFits, HasRoom, HoldsLines, line_bound}

time_short : (n : ℕ) → n < 2 ^ 64 → length (decimal n) ≤ 20
time_short n small = search (rules, length-decimal-le 20)

pub number_short : (z : ℤ) → FitsSigned w64 z → length (signed_decimal z) ≤ 20
number_short z fits = search (rules, length_signed_le 19)

first_short : (words : List ℤ) → All (FitsSigned w64) words → length (signed_decimal (slice_index_or words 0 (pos 0))) ≤ 20
first_short [] each = length_signed_le 19 (pos 0) (omega arith) (omega arith)
first_short (word ∷ words) each = number_short word (All-head (FitsSigned w64) word words each)

joined_short : (words : List ℤ) → All (FitsSigned w64) words → length (join_with_byte 44 (map signed_decimal words)) ≤ 21 * length words
joined_short [] each = omega arith
joined_short (word ∷ []) each = omega (arith, number_short word (All-head (FitsSigned w64) word [] each))
joined_short (word ∷ next ∷ words) each =
    omega (
      arith,
      number_short word (All-head (FitsSigned w64) word (next ∷ words) each),
      joined_short (next ∷ words) (All-tail (FitsSigned w64) word (next ∷ words) each),
      length-append (signed_decimal word) (44 ∷ join_with_byte 44 (map signed_decimal (next ∷ words))),
    )

truth_short : (holds : Bool) → length (if holds then codes "true" else codes "false") ≤ 5
truth_short true = omega arith
truth_short false = omega arith

value_short : (kind : StateKind) (words : List ℤ) → All (FitsSigned w64) words → length (value_text kind words) ≤ 20 + 21 * length words
value_short kinds.Int words each = omega (arith, first_short words each)
value_short kinds.Bool words each = omega (arith, truth_short (holds (slice_index_or words 0 (pos 0))))
value_short kinds.Array words each =
    omega (arith, joined_short words each, length-append (join_with_byte 44 (map signed_decimal words)) (codes "]"))

-- a state's part of the line, of the words that are its own
state_short : (state : ImageState) (words : List ℤ) → StateInRange state → All (FitsSigned w64) words → length (value_text state.kind (take state.words words)) ≤ 20 + 21 * state.words
state_short state words ranged each =
    omega (arith, value_short state.kind (take state.words words) (All-take (FitsSigned w64) state.words words each), length-take state.words words)

states_short : (states : List ImageState) (words : List ℤ) → All StateInRange states → All (FitsSigned w64) words → length (states_text states words) ≤ 54 * length states + 21 * state_words states
states_short [] words ranged each = omega arith
states_short (state ∷ states) words ranged each =
    let value = value_text state.kind (take state.words words) in
    let more = states_text states (drop state.words words) in
    omega (
      arith,
      (All-head StateInRange state states ranged).name.short,
      state_short state words (All-head StateInRange state states ranged) each,
      states_short states (drop state.words words) (All-tail StateInRange state states ranged) (All-drop (FitsSigned w64) state.words words each),
      length-append state.name (codes "=" ++ (value ++ more)),
      length-append value more,
      sum_by-cons (λ (s : ImageState). s.words) state states,
    )

name_short : (names : List (List ℕ)) (port : ℕ) → All IsName names → length (slice_index_or names port []) ≤ 32
name_short [] port each = omega arith
name_short (name ∷ names) zero each = (All-head IsName name names each).short
name_short (name ∷ names) (suc port) each = name_short names port (All-tail IsName name names each)

port_short : (names : List (List ℕ)) (port : ℕ) (value : ℤ) → All IsName names → FitsSigned w64 value → length (port_text names port value) ≤ 53
port_short names port value each fits =
    omega (
      arith,
      name_short names port each,
      number_short value fits,
      length-append (slice_index_or names port []) (codes " " ++ signed_decimal value),
    )

what_short : (task : ImageTask) (what : What) → TaskInRange task → WhatFits what → length (what_text task what) ≤ 61 + 54 * length task.states + 21 * min task.cells 4096
what_short task (receive port value) ranged fits = omega (arith, port_short task.inputs port value ranged.inputs.each fits)
what_short task (send port value) ranged fits = omega (arith, port_short task.outputs port value ranged.outputs.each fits)
what_short task first ranged fits = omega arith
what_short task (end state) ranged fits =
    omega (arith, states_short task.states state ranged.states.each fits, ranged.states.words, ranged.cells)

line_short : (task : ImageTask) (entry : Entry) → TaskInRange task → EntryFits entry → length (line_of task entry) ≤ line_bound task
line_short task entry ranged fits =
    let shown = what_text task entry.what in
    omega (
      arith,
      what_short task entry.what ranged fits.what,
      time_short entry.time fits.time,
      time_short entry.frame fits.frame,
      ranged.name.short,
      length-append (decimal entry.time) (codes " " ++ (task.name ++ (codes " " ++ (decimal entry.frame ++ (codes " " ++ (shown ++ codes "\n")))))),
      length-append task.name (codes " " ++ (decimal entry.frame ++ (codes " " ++ (shown ++ codes "\n")))),
      length-append (decimal entry.frame) (codes " " ++ (shown ++ codes "\n")),
      length-append shown (codes "\n"),
    )

lines_short : (tasks : List ImageTask) (at : ℕ) (entry : Entry) (room : ℕ) → All TaskInRange tasks → All (λ task. line_bound task ≤ room) tasks → EntryFits entry
    → length (option_map_or (λ task. line_of task entry) (slice_get tasks at) []) ≤ room
lines_short [] at entry room ranged bounds fits = omega arith
lines_short (task ∷ tasks) zero entry room ranged bounds fits =
    omega (arith, line_short task entry (All-head TaskInRange task tasks ranged) fits, All-head (λ (t : ImageTask). line_bound t ≤ room) task tasks bounds)
lines_short (task ∷ tasks) (suc at) entry room ranged bounds fits =
    lines_short tasks at entry room (All-tail TaskInRange task tasks ranged) (All-tail (λ (t : ImageTask). line_bound t ≤ room) task tasks bounds) fits

-- where there is room for each task's bound, every line fits
pub holds_lines : (room : ℕ) (image : Image) → InRange image → HasRoom room image → HoldsLines room image
holds_lines room image ranged bounds = λ entry fits. lines_short image.tasks entry.task entry room ranged.tasks bounds fits

-- one task more, and the greater of both bounds
pub bounds_more : (tasks : List ImageTask) (place longest next : ℕ) (task : ImageTask) → place < length tasks → task ≡ get_or tasks place task → longest ≤ next → line_bound task ≤ next
    → All (λ task. line_bound task ≤ longest) (take place tasks) → All (λ task. line_bound task ≤ next) (take (place + 1) tasks)
bounds_more tasks place longest next task within is more enough bounds =
    All-more (λ (t : ImageTask). line_bound t ≤ next) tasks place task within
    (All-weaker (λ (t : ImageTask). line_bound t ≤ longest) (λ (t : ImageTask). line_bound t ≤ next) (λ t p. omega (arith, p, more)) (take place tasks) bounds) (rw (← is) enough)
