-- Laws of the text of traces.
use Rattle.std.specs.Prelude.{◌≡◌, ℕ, List, All, map}
use Rattle.tcel_num.specs.Entry.{Entry}
use Rattle.tcel_image.specs.declared.image.Image.{Image}
use Rattle.tcel_image.specs.Spelling.{InRange}
use Rattle.tcel_image.specs.TraceText.{text}
use Rattle.tcel_trace.specs.declared.trace_line.TraceLine.{TraceLine}
use Rattle.tcel_trace.specs.TraceForm.{IsTrace, IsBadAt}
use Rattle.tcel_trace.specs.EntryLines.{line_shown, task_at, IsOf}

-- bytes are the text of at most one list of lines
abbrev pub IsReadOnce : Type 0
IsReadOnce = (lines other : List TraceLine) (bytes : List ℕ) → IsTrace lines bytes → IsTrace other bytes → lines ≡ other

-- no line of such a text is without the form of one
abbrev pub IsReadOrBad : Type 0
IsReadOrBad = (lines : List TraceLine) (bytes : List ℕ) (number : ℕ) → IsTrace lines bytes → IsBadAt bytes number → ⊥

-- bytes have at most one first line without the form of one
abbrev pub IsBadOnce : Type 0
IsBadOnce = (bytes : List ℕ) (number other : ℕ) → IsBadAt bytes number → IsBadAt bytes other → number ≡ other

-- the text of an image's entries is that of their lines
abbrev pub AreEntriesRead : Type 0
AreEntriesRead =
    (image : Image) (entries : List Entry) → InRange image → All (IsOf image) entries
    → IsTrace (map (λ entry. line_shown (task_at image entry.task) entry) entries) (text image entries)
