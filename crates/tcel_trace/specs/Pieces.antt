-- What the line of an entry is put together from.
use Rattle.std.specs.Prelude.{ℕ, ℤ, List, ◌++◌, codes}
use Rattle.std.specs.List.{flat_map}
use Rattle.std.specs.Fmt.{decimal, signed_decimal}
use Rattle.tcel_num.specs.Entry.{Entry}
use Rattle.tcel_image.specs.declared.image.ImageState.{ImageState}
use Rattle.tcel_image.specs.TraceText.{value_text}
use Rattle.tcel_machine.specs.declared.entry.Entry as declared
use Rattle.tcel_machine.specs.Seen.{seen}

-- the entry, in a task whose states hold these words
abbrev pub plain_entry : List ℤ → declared.Entry → Entry
plain_entry state entry = record { time = entry.time; task = entry.task; frame = entry.frame; what = seen state entry.what }

-- the time, the task and the frame
abbrev pub head_text : List ℕ → ℕ → ℕ → List ℕ
head_text task time frame = decimal time ++ (codes " " ++ (task ++ (codes " " ++ (decimal frame ++ codes " "))))

-- a state's name and value
abbrev pub state_text : ImageState → List ℤ → List ℕ
state_text state words = codes " " ++ (state.name ++ (codes "=" ++ value_text state.kind words))

-- numbers, each behind a comma
abbrev pub more_numbers : List ℤ → List ℕ
more_numbers numbers = flat_map (λ number. codes "," ++ signed_decimal number) numbers
