-- What the words of a trace say: a word is read as what it is the text of.
use Rattle.std.specs.Prelude.{ℕ, ◌+◌, ◌^◌, ℤ, Bool, true, false, not, ◌&&◌, ◌||◌, ◌==◌, nat_lt, nat_le, List, [], ◌∷◌, length, take, drop, position, Option, Some, None, is_some, option_map, option_and_then, codes, if◌then◌else◌}
use Rattle.std.specs.List.{list_all, slice_split}
use Rattle.std.specs.Fmt.{decimal, signed_decimal}
use Rattle.std.specs.Int.Signed.{mag}
use Rattle.std.specs.Str.Parse.{digits_value, signed_digits_value}
use Rattle.tcel_num.specs.Name.{is_word, is_reserved}
use Rattle.tcel_script.specs.Script.{same}
use Rattle.tcel_trace.specs.declared.trace_line.TraceLine.{TraceLine}
use Rattle.tcel_trace.specs.declared.trace_line.LineWhat.{LineWhat}
use Rattle.tcel_trace.specs.declared.trace_line.LineWhat.TheVariants.{Receive, Send, First, End}

-- what stands in front of the first such byte, and what behind it
abbrev pub cut : ℕ → List ℕ → Option (List ℕ × List ℕ)
cut byte bytes = option_map (λ place. (take place bytes, drop (place + 1) bytes)) (position (λ b. b == byte) bytes)

-- what stands behind this front
abbrev pub behind : List ℕ → List ℕ → Option (List ℕ)
behind front text = if same (take (length front) text) front then Some (drop (length front) text) else None

-- ---- words

-- the number of 64 bits with this text
abbrev pub number_in : List ℕ → Option ℕ
number_in word =
    let number = digits_value 10 word in
    if nat_lt number (2 ^ 64) && same (decimal number) word then Some number else None

-- the signed number of 64 bits with this text
abbrev pub signed_in : List ℕ → Option ℤ
signed_in word =
    let number = signed_digits_value 10 word in
    if nat_lt (mag number) (2 ^ 63) && same (signed_decimal number) word then Some number else None

abbrev pub is_name : List ℕ → Bool
is_name word = is_word word && (nat_le (length word) 32 && not (is_reserved word))

abbrev pub name_in : List ℕ → Option (List ℕ)
name_in word = if is_name word then Some word else None

-- ---- states

-- signed numbers, with a comma between two
abbrev pub are_numbers : List ℕ → Bool
are_numbers text = list_all (λ word. is_some (signed_in word)) (slice_split (λ b. b == 44) text)

-- numbers in front of a bracket that closes the text
abbrev pub closed_numbers : Option (List ℕ × List ℕ) → Bool
closed_numbers None = false
closed_numbers (Some parts) = length parts.1 == 0 && are_numbers parts.0

abbrev pub opened_numbers : Option (List ℕ) → Bool
opened_numbers None = false
opened_numbers (Some rest) = closed_numbers (cut 93 rest)

-- numbers between brackets
abbrev pub is_array : List ℕ → Bool
is_array text = opened_numbers (behind (codes "[") text)

abbrev pub is_value : List ℕ → Bool
is_value text = same text (codes "true") || (same text (codes "false") || (is_some (signed_in text) || is_array text))

abbrev pub named_value : Option (List ℕ × List ℕ) → Bool
named_value None = false
named_value (Some parts) = is_some (name_in parts.0) && is_value parts.1

-- a name and a value
abbrev pub is_state : List ℕ → Bool
is_state word = named_value (cut 61 word)

-- nothing, or states, each behind a space
abbrev pub are_states : List ℕ → Bool
are_states [] = true
are_states (first ∷ rest) = first == 32 && list_all is_state (slice_split (λ b. b == 32) rest)

-- ---- lines

-- a port and a value
abbrev pub port_in : List ℕ → Option (List ℕ × ℤ)
port_in text = option_and_then (λ parts. option_and_then (λ port. option_map (λ value. (port, value)) (signed_in parts.1)) (name_in parts.0)) (cut 32 text)

abbrev pub end_in : List ℕ → Option LineWhat
end_in text = if are_states text then Some (End text) else None

abbrev pub send_in : Option (List ℕ) → Option LineWhat
send_in None = None
send_in (Some text) = option_map (λ sent. Send sent.0 sent.1) (port_in text)

abbrev pub event_in : List ℕ → Option (List ℕ) → Option LineWhat
event_in text None = send_in (behind (codes "send ") text)
event_in text (Some received) = option_map (λ taken. Receive taken.0 taken.1) (port_in received)

abbrev pub end_or_event_in : List ℕ → Option (List ℕ) → Option LineWhat
end_or_event_in text None = event_in text (behind (codes "receive ") text)
end_or_event_in text (Some states) = end_in states

abbrev pub what_in : List ℕ → Option LineWhat
what_in text = if same text (codes "first") then Some First else end_or_event_in text (behind (codes "end") text)

-- the words in front of what a line shows, and the text of that
pub record Head : Type 0 where
  pub time : ℕ
  pub task : List ℕ
  pub frame : ℕ
  pub what : List ℕ

abbrev pub head_of : List ℕ → List ℕ → List ℕ → List ℕ → Option Head
head_of time task frame what =
    option_and_then (λ time.
    option_and_then (λ task.
    option_map (λ frame. let head : Head = record { time = time; task = task; frame = frame; what = what } in head)
    (number_in frame)) (name_in task)) (number_in time)

abbrev pub head_in : List ℕ → Option Head
head_in text =
    option_and_then (λ a.
    option_and_then (λ b.
    option_and_then (λ c. head_of a.0 b.0 c.0 c.1) (cut 32 b.1)) (cut 32 a.1)) (cut 32 text)

abbrev pub line_of : Head → LineWhat → TraceLine
line_of head what = record { time = head.time; task = head.task; frame = head.frame; what = what }

-- what a line without its line feed says
abbrev pub line_in : List ℕ → Option TraceLine
line_in text = option_and_then (λ head. option_map (line_of head) (what_in head.what)) (head_in text)
