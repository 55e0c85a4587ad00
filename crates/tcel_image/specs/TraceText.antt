-- The text of a trace: a line for each entry.
use Rattle.std.specs.Prelude.{ℕ, ℤ, pos, List, [], ◌∷◌, ◌++◌, map, take, drop, if◌then◌else◌, slice_get, slice_index_or, codes}
use Rattle.std.specs.List.{flat_map, join_with_byte}
use Rattle.std.specs.Option.{option_map_or}
use Rattle.std.specs.Fmt.{decimal, signed_decimal}
use Rattle.tcel_num.specs.Arithmetic.{holds}
use Rattle.tcel_num.specs.Entry.{Entry, What, receive, send, first, end}
use Rattle.tcel_image.specs.declared.image.Image.{Image}
use Rattle.tcel_image.specs.declared.image.ImageTask.{ImageTask}
use Rattle.tcel_image.specs.declared.image.ImageState.{ImageState}
use Rattle.tcel_image.specs.declared.image.StateKind.{StateKind}
use Rattle.tcel_image.specs.declared.image.StateKind.TheVariants.{Int, Bool, Array}

-- the value of a state's words
abbrev pub value_text : StateKind → List ℤ → List ℕ
value_text Int words = signed_decimal (slice_index_or words 0 (pos 0))
value_text Bool words = if holds (slice_index_or words 0 (pos 0)) then codes "true" else codes "false"
value_text Array words = codes "[" ++ (join_with_byte 44 (map signed_decimal words) ++ codes "]")

-- the values of the states, in order, each with its name
abbrev pub states_text : List ImageState → List ℤ → List ℕ
states_text [] words = []
states_text (state ∷ states) words =
    codes " " ++ (state.name ++ (codes "=" ++ (value_text state.kind (take state.words words) ++ states_text states (drop state.words words))))

-- a port and a value
abbrev pub port_text : List (List ℕ) → ℕ → ℤ → List ℕ
port_text names port value = slice_index_or names port [] ++ (codes " " ++ signed_decimal value)

-- what an entry of the task shows
abbrev pub what_text : ImageTask → What → List ℕ
what_text task (receive port value) = codes "receive " ++ port_text task.inputs port value
what_text task (send port value) = codes "send " ++ port_text task.outputs port value
what_text task first = codes "first"
what_text task (end state) = codes "end" ++ states_text task.states state

-- the line of an entry of the task
abbrev pub line_of : ImageTask → Entry → List ℕ
line_of task entry =
    decimal entry.time
    ++ (codes " " ++ (task.name ++ (codes " " ++ (decimal entry.frame ++ (codes " " ++ (what_text task entry.what ++ codes "\n"))))))

-- the line of an entry of an image's task; there is no entry of any other
abbrev pub line : Image → Entry → List ℕ
line image entry = option_map_or (λ task. line_of task entry) (slice_get image.tasks entry.task) []

-- the lines of the entries, in order
abbrev pub text : Image → List Entry → List ℕ
text image entries = flat_map (line image) entries
