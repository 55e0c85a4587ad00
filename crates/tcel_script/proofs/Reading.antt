-- A whole script, line after line.
use Rattle.std.proofs.Common.{◌≡◌, ℕ, ◌+◌, ◌-◌, ◌<◌, ℤ, List, [], ◌∷◌, map, length, take, drop, get_or, Option, Some, None, Ok, Err, refl, sym, ap, ◌∙◌, arith}
use Rattle.std.specs.Prelude.{unwrap_or}
use Rattle.std.specs.Str.Lines.{lines}
use Rattle.std.proofs.lemmas.List.{length-map, length-drop, take_more}
use Rattle.tcel_num.specs.declared.port_row.PortRow.{PortRow}
use Rattle.tcel_num.specs.PortRow.{HaveDistinctNames}
use Rattle.tcel_script.specs.declared.fail.ScriptFail.{ScriptFail}
use Rattle.tcel_script.specs.declared.fail.ScriptFail.TheVariants.{BadLine, NoPort, PortTwice, Number, NoMemory}
use Rattle.tcel_script.specs.Lines.{Line, passed, line_of, script_lines}
use Rattle.tcel_script.specs.Script.{fault_at, unless_fault, stream_in, streams_of, script_of, HasStreams, Reads}
use Rattle.tcel_script.specs.Rows.{Rows, rows_of, streams_in, FitsPorts, after_line, Takes}
use Rattle.std.proofs.lemmas.List.{take_all}
use Rattle.tcel_script.proofs.Faults.{cut_cons, fault_first, no_fault}
use Rattle.tcel_script.proofs.Found.{after_is, next_rows}

pub sound_script : (ports : List PortRow) (bytes : List ℕ) → ((k : ℕ) → k < length (script_lines bytes) → fault_at ports (script_lines bytes) k ≡ None) → script_of ports bytes ≡ Ok (streams_of ports (script_lines bytes))
sound_script ports bytes sound =
    ap (λ (o : Option ScriptFail). unless_fault o (streams_of ports (script_lines bytes)))
    (no_fault (fault_at ports (script_lines bytes)) 0 (length (script_lines bytes)) (λ k low high. sound k (omega arith)))

pub faulty_script : (ports : List PortRow) (bytes : List ℕ) (k : ℕ) (fault : ScriptFail) → k < length (script_lines bytes) → ((j : ℕ) → j < k → fault_at ports (script_lines bytes) j ≡ None) → fault_at ports (script_lines bytes) k ≡ Some fault → script_of ports bytes ≡ Err fault
faulty_script ports bytes k fault inside before h =
    ap (λ (o : Option ScriptFail). unless_fault o (streams_of ports (script_lines bytes)))
    (fault_first (fault_at ports (script_lines bytes)) 0 (length (script_lines bytes)) k fault (omega arith) (omega arith) (λ j low high. before j high) h)

-- the streams of rows
streams_row : (lines : List Line) (task : List ℕ) (inputs : List (List ℕ)) → map (λ found. unwrap_or found []) (map (λ input. stream_in lines task input) inputs) ≡ map (λ input. unwrap_or (stream_in lines task input) []) inputs
streams_row lines task [] = refl
streams_row lines task (input ∷ inputs) = ap (λ (rest : List (List ℤ)). unwrap_or (stream_in lines task input) [] ∷ rest) (streams_row lines task inputs)

pub streams_are : (ports : List PortRow) (lines : List Line) → streams_in (rows_of ports lines) ≡ streams_of ports lines
streams_are [] lines = refl
streams_are (row ∷ ports) lines =
    ap (λ (streams : List (List ℤ)). streams ∷ streams_in (rows_of ports lines)) (streams_row lines row.task row.inputs)
    ∙ ap (λ (rest : List (List (List ℤ))). map (λ input. unwrap_or (stream_in lines row.task input) []) row.inputs ∷ rest) (streams_are ports lines)

-- the rows have a place for each input
pub rows_fit : (ports : List PortRow) (lines : List Line) → FitsPorts ports (rows_of ports lines)
rows_fit [] lines = refl
rows_fit (row ∷ ports) lines =
    ap (λ (n : ℕ). n ∷ map length (rows_of ports lines)) (length-map row.inputs (λ input. stream_in lines row.task input))
    ∙ ap (λ (rest : List ℕ). length row.inputs ∷ rest) (rows_fit ports lines)

pub record IsNext (all : List Line) (n : ℕ) (line more : List ℕ) : Type 0 where
  pub inside : n < length all
  pub this : get_or all n passed ≡ line_of line
  pub left : script_lines more ≡ drop (n + 1) all

pub next_is : (all : List Line) (n : ℕ) (rest line more : List ℕ) → script_lines rest ≡ drop n all → lines rest ≡ line ∷ lines more → IsNext all n line more
next_is all n rest line more left cut =
    let parts = cut_cons all n (line_of line) (script_lines more) passed (sym left ∙ ap (map line_of) cut) in
    record { inside = parts.0; this = parts.1; left = sym parts.2 }

-- the rows after one line more, or its fault
pub after_next : (ports : List PortRow) (all : List Line) (n : ℕ) (line more : List ℕ) → HaveDistinctNames ports → IsNext all n line more → after_line ports (n + 1) (rows_of ports (take n all)) (line_of line) ≡ next_rows (fault_at ports all n) (rows_of ports (take (n + 1) all))
after_next ports all n line more d next =
    rw (← next.this) (after_is ports (n + 1) (take n all) (get_or all n passed) d)
    ∙ ap (λ (lines : List Line). next_rows (fault_at ports all n) (rows_of ports lines)) (sym (take_more all n passed next.inside))

taken : (fault : Option ScriptFail) (rows left : Rows) → next_rows fault rows ≡ Ok left → (fault ≡ None) × (left ≡ rows)
taken None rows left h = (refl, cc)
taken (Some e) rows left h = absurd cc

refused : (fault : Option ScriptFail) (rows : Rows) (e : ScriptFail) → next_rows fault rows ≡ Err e → fault ≡ Some e
refused None rows e h = absurd cc
refused (Some e') rows e h = cc

-- rows that are those of the lines so far go on to those of one line more
step : (ports : List PortRow) (all : List Line) (n : ℕ) (line more : List ℕ) (rows : Rows) → HaveDistinctNames ports → IsNext all n line more → rows ≡ rows_of ports (take n all) → after_line ports (n + 1) rows (line_of line) ≡ next_rows (fault_at ports all n) (rows_of ports (take (n + 1) all))
step ports all n line more rows d next so_far = rw so_far (after_next ports all n line more d next)

pub went_on : (ports : List PortRow) (all : List Line) (n : ℕ) (line more : List ℕ) (rows left : Rows) → HaveDistinctNames ports → IsNext all n line more → rows ≡ rows_of ports (take n all) → after_line ports (n + 1) rows (line_of line) ≡ Ok left → (fault_at ports all n ≡ None) × (left ≡ rows_of ports (take (n + 1) all))
went_on ports all n line more rows left d next so_far h =
    taken (fault_at ports all n) (rows_of ports (take (n + 1) all)) left (sym (step ports all n line more rows d next so_far) ∙ h)

stopped : (ports : List PortRow) (bytes : List ℕ) (n : ℕ) (line more : List ℕ) (rows : Rows) (fault : ScriptFail) → HaveDistinctNames ports → IsNext (script_lines bytes) n line more → rows ≡ rows_of ports (take n (script_lines bytes)) → ((k : ℕ) → k < n → fault_at ports (script_lines bytes) k ≡ None) → after_line ports (n + 1) rows (line_of line) ≡ Err fault → script_of ports bytes ≡ Err fault
stopped ports bytes n line more rows fault d next so_far sound h =
    let all = script_lines bytes in
    faulty_script ports bytes n fault next.inside sound (refused (fault_at ports all n) (rows_of ports (take (n + 1) all)) fault (sym (step ports all n line more rows d next so_far) ∙ h))

-- a line that isn't taken ends the reading
pub failed : (ports : List PortRow) (bytes : List ℕ) (n : ℕ) (line more : List ℕ) (rows left : Rows) (fault : ScriptFail) → HaveDistinctNames ports → IsNext (script_lines bytes) n line more → rows ≡ rows_of ports (take n (script_lines bytes)) → ((k : ℕ) → k < n → fault_at ports (script_lines bytes) k ≡ None) → Takes (Err fault) left (after_line ports (n + 1) rows (line_of line)) → Reads (Err fault) (script_of ports bytes)
failed ports bytes n line more rows left (BadLine i) d next so_far sound h = stopped ports bytes n line more rows (BadLine i) d next so_far sound h
failed ports bytes n line more rows left (NoPort i) d next so_far sound h = stopped ports bytes n line more rows (NoPort i) d next so_far sound h
failed ports bytes n line more rows left (PortTwice i) d next so_far sound h = stopped ports bytes n line more rows (PortTwice i) d next so_far sound h
failed ports bytes n line more rows left (Number i) d next so_far sound h = stopped ports bytes n line more rows (Number i) d next so_far sound h
failed ports bytes n line more rows left NoMemory d next so_far sound h = tt

-- at the end of the bytes
pub finished : (ports : List PortRow) (bytes rest : List ℕ) (n : ℕ) (rows : Rows) → script_lines rest ≡ drop n (script_lines bytes) → length rest ≡ 0 → ((k : ℕ) → k < n → fault_at ports (script_lines bytes) k ≡ None) → rows ≡ rows_of ports (take n (script_lines bytes)) → script_of ports bytes ≡ Ok (streams_in rows)
finished ports bytes (x ∷ rest) n rows left none sound so_far = absurd (omega arith)
finished ports bytes [] n rows left none sound so_far =
    let all = script_lines bytes in
    let long : length all - n ≡ 0 = sym (length-drop n all) ∙ sym (ap length left) in
    let whole : take n all ≡ all = take_all n all (omega arith) in
    let same : streams_in rows ≡ streams_of ports all = ap streams_in (so_far ∙ ap (rows_of ports) whole) ∙ streams_are ports all in
    rw same (sound_script ports bytes (λ k lt. sound k (omega arith)))

-- the streams of rows with a place for each input are as many
pub streams_fit : (ports : List PortRow) (rows : Rows) → FitsPorts ports rows → HasStreams ports (streams_in rows)
streams_fit ports rows fits = counts rows ∙ fits
  where
    counts : (rows : Rows) → map length (streams_in rows) ≡ map length rows
    counts [] = refl
    counts (row ∷ rows) = ap (λ (n : ℕ). n ∷ map length (streams_in rows)) (length-map row (λ found. unwrap_or found [])) ∙ ap (λ (ns : List ℕ). length row ∷ ns) (counts rows)
