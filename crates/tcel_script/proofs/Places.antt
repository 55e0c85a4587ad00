-- Places of inputs and what stands there.
use Rattle.std.proofs.Common.{◌≡◌, ℕ, zero, suc, ◌<◌, ℤ, List, [], ◌∷◌, length, map, get_or, set, Option, Some, None, refl, sym, ap, ◌∙◌}
use Rattle.std.specs.Prelude.{slice_get, unwrap_or, position}
use Rattle.std.proofs.lemmas.List.{get_or-map, map-set}
use Rattle.std.proofs.lemmas.List.Quantifiers.{position-Some}
use Rattle.tcel_num.specs.declared.port_row.PortRow.{PortRow}
use Rattle.tcel_script.specs.Script.{Streams, same, with_stream}
use Rattle.tcel_script.specs.Rows.{Row, Rows, place_of, streams_in}

-- the stream at a place of a row
pub stream_at : (row : List (Option (List ℤ))) (port : ℕ) → get_or (map (λ found. unwrap_or found []) row) port [] ≡ unwrap_or (unwrap_or (slice_get row port) None) []
stream_at [] port = refl
stream_at (x ∷ row) zero = refl
stream_at (x ∷ row) (suc port) = stream_at row port

-- no place where the task has no such input
pub no_input : (ports : List PortRow) (task port : List ℕ) (i : ℕ) (row : PortRow) (inputs : List (List ℕ)) → position (λ r. same r.task task) ports ≡ Some i → inputs ≡ (get_or ports i row).inputs → position (λ input. same input port) inputs ≡ None → place_of ports task port ≡ None
no_input ports task port i row inputs found at none =
    let inside = position-Some (λ (r : PortRow). same r.task task) ports i row found in
    let there : get_or (map (λ (r : PortRow). r.inputs) ports) i [] ≡ inputs = get_or-map (λ (r : PortRow). r.inputs) ports i row [] inside.0 ∙ sym at in
    rw (found, there, none) refl

-- another stream in the place of an input's
pub stream_set : (rows : Rows) (streams : Streams) (task port : ℕ) (row new : Row) (stream values : List ℤ) → task < length rows → streams_in rows ≡ streams →
    row ≡ get_or rows task [] → new ≡ set row port (Some stream) → stream ≡ values → streams_in (set rows task new) ≡ with_stream streams task port values
stream_set rows streams task port row new stream values within seen is put given =
    let shown : Row → List (List ℤ) = map (λ found. unwrap_or found []) in
    let old : shown row ≡ get_or streams task [] = ap shown is ∙ sym (get_or-map shown rows task [] [] within) ∙ ap (λ s. get_or s task []) seen in
    let one : shown new ≡ set (get_or streams task []) port values =
    ap shown put ∙ map-set (λ found. unwrap_or found []) row port (Some stream) ∙ ap (λ xs. set xs port stream) old ∙ ap (set (get_or streams task []) port) given in
    map-set shown rows task new ∙ ap (λ s. set s task (shown new)) seen ∙ ap (set streams task) one
