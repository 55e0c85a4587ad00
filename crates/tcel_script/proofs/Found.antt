-- What lines give to the inputs of the ports, line by line.
use Rattle.std.proofs.Common.{◌≡◌, ◌≢◌, ℕ, zero, suc, ◌+◌, ◌<◌, ℤ, Bool, true, false, not, ◌||◌, cond, List, [], ◌∷◌, ◌++◌, map, length, get_or, set, Option, Some, None, Ok, Err, Result, refl, sym, ap, ◌∙◌, subst, ⊎_elim, arith}
use Rattle.std.specs.Prelude.{unwrap_or, position, find, is_some, is_none, option_map, nat_lt, AllPairs}
use Rattle.std.specs.List.{list_any, position_or_len}
use Rattle.std.specs.Option.{option_and_then, option_or}
use Rattle.std.specs.Cmp.Lexicographic.{bytes_decides}
use Rattle.std.proofs.lemmas.Bool.{cases_Bool, and_from, and_left, and_right, cond-true, false_from_ne_true, cases_order, ltb-false}
use Rattle.std.proofs.lemmas.Bool.Decides.{nat_tests}
use Rattle.std.proofs.lemmas.List.{get_or-map, length-map}
use Rattle.std.proofs.lemmas.List.Folds.{find_at, find-append}
use Rattle.std.proofs.lemmas.List.Quantifiers.{position-Some}
use Rattle.std.proofs.lemmas.Option.{option_and_then_some, slice_get-get_or, slice_get_past, cond_some, same_Some}
use Rattle.tcel_num.specs.declared.port_row.PortRow.{PortRow}
use Rattle.tcel_num.specs.PortRow.{HaveDistinctNames}
use Rattle.tcel_script.specs.declared.fail.ScriptFail.{ScriptFail}
use Rattle.tcel_script.specs.declared.fail.ScriptFail.TheVariants.{PortTwice, Number}
use Rattle.tcel_script.specs.Numbers.{numbers_of}
use Rattle.tcel_script.specs.Lines.{Line, passed, short, stream}
use Rattle.tcel_script.specs.Script.{same, inputs_of, has_port, is_for, fault_behind, values_of, stream_in}
use Rattle.tcel_script.specs.Rows.{Row, Rows, rows_of, FitsPorts, input_place, place_of, with_values, put_row, with_place, after_line}

-- ---- searches in lists

any_at_head : (b r : Bool) (n m : ℕ) → r ≡ nat_lt n m → (b || r) ≡ nat_lt (cond (not b) (1 + n) 0) (suc m)
any_at_head true r n m h = grind (arith, nat_tests)
any_at_head false r n m h = grind (arith, nat_tests)

-- an element passes exactly where the first place is inside
any_at : {X : Type 0} (p : X → Bool) (xs : List X) → list_any p xs ≡ nat_lt (position_or_len p xs) (length xs)
any_at p [] = refl
any_at p (x ∷ xs) = any_at_head (p x) (list_any p xs) (position_or_len p xs) (length xs) (any_at p xs)

none_inside : {X : Type 0} (p : X → Bool) (xs : List X) → position p xs ≡ None → nat_lt (position_or_len p xs) (length xs) ≡ false
none_inside p xs h =
    ⊎_elim (λ (e : nat_lt (position_or_len p xs) (length xs) ≡ true). let found = cond-true (nat_lt (position_or_len p xs) (length xs)) (Some (position_or_len p xs)) None e in absurd cc)
    (λ (e : nat_lt (position_or_len p xs) (length xs) ≡ false). e) (cases_Bool (nat_lt (position_or_len p xs) (length xs)))

any_found : {X : Type 0} (p : X → Bool) (xs : List X) (i : ℕ) → position p xs ≡ Some i → list_any p xs ≡ true
any_found p xs i h = any_at p xs ∙ (cond_some (nat_lt (position_or_len p xs) (length xs)) (position_or_len p xs) i h).0

none_found : {X : Type 0} (p : X → Bool) (xs : List X) → position p xs ≡ None → list_any p xs ≡ false
none_found p xs h = any_at p xs ∙ none_inside p xs h

find_found : {X : Type 0} (p : X → Bool) (xs : List X) (i : ℕ) (d : X) → position p xs ≡ Some i → find p xs ≡ Some (get_or xs i d)
find_found p xs i d h =
    let found = cond_some (nat_lt (position_or_len p xs) (length xs)) (position_or_len p xs) i h in
    let inside = position-Some p xs i d h in
    find_at p xs ∙ rw found.1 (slice_get-get_or xs i d inside.0)

find_none : {X : Type 0} (p : X → Bool) (xs : List X) → position p xs ≡ None → find p xs ≡ None
find_none p xs h = find_at p xs ∙ slice_get_past xs (position_or_len p xs) (ltb-false (position_or_len p xs) (length xs) (none_inside p xs h))

map_same : {X Y : Type 0} (f g : X → Y) (xs : List X) (d : X) → ((k : ℕ) → k < length xs → g (get_or xs k d) ≡ f (get_or xs k d)) → map g xs ≡ map f xs
map_same f g [] d h = refl
map_same {X} {Y} f g (x ∷ xs) d h = ap (λ (y : Y). y ∷ map g xs) (h 0 (omega arith)) ∙ ap (λ (ys : List Y). f x ∷ ys) (map_same f g xs d (λ k lt. h (suc k) (omega arith)))

-- where two functions differ at one element alone, so do their lists
map_but_one : {X Y : Type 0} (f g : X → Y) (xs : List X) (i : ℕ) (d : X) → i < length xs → ((k : ℕ) → k < length xs → k ≢ i → g (get_or xs k d) ≡ f (get_or xs k d)) → map g xs ≡ set (map f xs) i (g (get_or xs i d))
map_but_one f g [] i d h others = absurd (omega arith)
map_but_one {X} {Y} f g (x ∷ xs) zero d h others = ap (λ (ys : List Y). g x ∷ ys) (map_same f g xs d (λ k lt. others (suc k) (omega arith) (λ e. omega arith)))
map_but_one {X} {Y} f g (x ∷ xs) (suc i) d h others =
    ap (λ (y : Y). y ∷ map g xs) (others 0 (omega arith) (λ e. omega arith))
    ∙ ap (λ (ys : List Y). f x ∷ ys) (map_but_one f g xs i d (omega arith) (λ k lt ne. others (suc k) (omega arith) (λ e. ne (omega arith))))

-- ---- names

same_is : (a b : List ℕ) → same a b ≡ true → a ≡ b
same_is a b h = (bytes_decides a b).0 h

same_self : (a : List ℕ) → same a a ≡ true
same_self a = (bytes_decides a a).1 refl

not_same : (a b : List ℕ) → a ≢ b → same a b ≡ false
not_same a b h = false_from_ne_true (same a b) (λ e. h (same_is a b e))

-- ---- places

abbrev pub no_row : PortRow
no_row = record { task = []; inputs = [] }

mapped_some : (i : ℕ) (o : Option ℕ) (place : ℕ × ℕ) → option_map (λ j. (i, j)) o ≡ Some place → (i ≡ place.0) × (o ≡ Some place.1)
mapped_some i None place h = absurd cc
mapped_some i (Some j) place h =
    let e : (i, j) ≡ place = same_Some (i, j) place h in
    (ap (λ (q : ℕ × ℕ). q.0) e, ap (λ (q : ℕ × ℕ). let o : Option ℕ = Some q.1 in o) e)

-- the places of a task and of its input
pub record IsPlace (ports : List PortRow) (task port : List ℕ) (place : ℕ × ℕ) : Type 0 where
  pub of_task : position (λ row. same row.task task) ports ≡ Some place.0
  pub of_port : position (λ input. same input port) (get_or (map (λ row. row.inputs) ports) place.0 []) ≡ Some place.1

pub is_place : (ports : List PortRow) (task port : List ℕ) (place : ℕ × ℕ) → place_of ports task port ≡ Some place → IsPlace ports task port place
is_place ports task port place h =
    option_and_then_some (input_place ports port) (position (λ (row : PortRow). same row.task task) ports) place h
    (λ i found rest.
    let parts = mapped_some i (position (λ (input : List ℕ). same input port) (get_or (map (λ (row : PortRow). row.inputs) ports) i [])) place rest in
    record {
      of_task = found ∙ ap (λ (n : ℕ). let o : Option ℕ = Some n in o) parts.0;
      of_port = subst (λ (n : ℕ). position (λ (input : List ℕ). same input port) (get_or (map (λ (row : PortRow). row.inputs) ports) n []) ≡ Some place.1) parts.0 parts.1;
    })

-- such a place is one of the rows
pub place_inside : (ports : List PortRow) (rows : Rows) (task port : List ℕ) (place : ℕ × ℕ) → FitsPorts ports rows → place_of ports task port ≡ Some place → (place.0 < length rows) × (place.1 < length (get_or rows place.0 []))
place_inside ports rows task port place fits h =
    let p = is_place ports task port place h in
    let task_in = position-Some (λ (row : PortRow). same row.task task) ports place.0 no_row p.of_task in
    let port_in = position-Some (λ (input : List ℕ). same input port) (get_or (map (λ (row : PortRow). row.inputs) ports) place.0 []) place.1 [] p.of_port in
    let long : length rows ≡ length ports = sym (length-map rows length) ∙ ap length fits ∙ length-map ports (λ row. length row.inputs) in
    let below : place.0 < length rows = omega (arith, task_in.0) in
    let wide : length (get_or rows place.0 []) ≡ length (get_or ports place.0 no_row).inputs = sym (get_or-map (λ (row : Row). length row) rows place.0 [] 0 below) ∙ ap (λ (ns : List ℕ). get_or ns place.0 0) fits ∙ get_or-map (λ (row : PortRow). length row.inputs) ports place.0 no_row 0 task_in.0 in
    let inputs : get_or (map (λ (row : PortRow). row.inputs) ports) place.0 [] ≡ (get_or ports place.0 no_row).inputs = get_or-map (λ (row : PortRow). row.inputs) ports place.0 no_row [] task_in.0 in
    (below, omega (arith, wide, port_in.0, ap length inputs))

-- ---- the lines of an input

is_some_at_head : {X : Type 0} (b : Bool) (x : X) (o : Option X) (r : Bool) → is_some o ≡ r → is_some (cond b (Some x) o) ≡ (b || r)
is_some_at_head true x o r h = refl
is_some_at_head false x o r h = h

find_some : {X : Type 0} (p : X → Bool) (xs : List X) → is_some (find p xs) ≡ list_any p xs
find_some p [] = refl
find_some p (x ∷ xs) = is_some_at_head (p x) x (find p xs) (list_any p xs) (find_some p xs)

is_some_mapped : {X Y : Type 0} (f : X → Y) (o : Option X) → is_some (option_map f o) ≡ is_some o
is_some_mapped f None = refl
is_some_mapped f (Some x) = refl

none_from : {X : Type 0} (o : Option X) → is_some o ≡ false → o ≡ None
none_from None h = refl
none_from (Some x) h = absurd cc

stream_some : (lines : List Line) (task port : List ℕ) → is_some (stream_in lines task port) ≡ list_any (is_for task port) lines
stream_some lines task port = is_some_mapped values_of (find (is_for task port) lines) ∙ find_some (is_for task port) lines

or_none : {X : Type 0} (o : Option X) → option_or o None ≡ o
or_none None = refl
or_none (Some x) = refl

-- a line for another input changes nothing
stream_push_other : (lines : List Line) (line : Line) (task port : List ℕ) → is_for task port line ≡ false → stream_in (lines ++ line ∷ []) task port ≡ stream_in lines task port
stream_push_other lines line task port h =
    ap (option_map values_of) (find-append (is_for task port) lines (line ∷ []) ∙ rw h (or_none (find (is_for task port) lines)))

-- the first line for an input gives its values
stream_push_first : (lines : List Line) (line : Line) (task port : List ℕ) → list_any (is_for task port) lines ≡ false → is_for task port line ≡ true → stream_in (lines ++ line ∷ []) task port ≡ Some (values_of line)
stream_push_first lines line task port before h =
    let none : find (is_for task port) lines ≡ None = none_from (find (is_for task port) lines) (find_some (is_for task port) lines ∙ before) in
    let added : find (is_for task port) (lines ++ line ∷ []) ≡ Some line = find-append (is_for task port) lines (line ∷ []) ∙ rw (none, h) refl in
    ap (option_map values_of) added

-- ---- the rows after a line

abbrev row_for : List Line → PortRow → Row
row_for lines row = map (λ input. stream_in lines row.task input) row.inputs

-- what a place says of its names
pub record HasNames (ports : List PortRow) (task port : List ℕ) (place : ℕ × ℕ) : Type 0 where
  pub row_inside : place.0 < length ports
  pub port_inside : place.1 < length (get_or ports place.0 no_row).inputs
  pub of_task : (get_or ports place.0 no_row).task ≡ task
  pub of_port : get_or (get_or ports place.0 no_row).inputs place.1 [] ≡ port

has_names : (ports : List PortRow) (task port : List ℕ) (place : ℕ × ℕ) → IsPlace ports task port place → HasNames ports task port place
has_names ports task port place p =
    let task_in = position-Some (λ (row : PortRow). same row.task task) ports place.0 no_row p.of_task in
    let inputs : get_or (map (λ (row : PortRow). row.inputs) ports) place.0 [] ≡ (get_or ports place.0 no_row).inputs = get_or-map (λ (row : PortRow). row.inputs) ports place.0 no_row [] task_in.0 in
    let found : position (λ (input : List ℕ). same input port) (get_or ports place.0 no_row).inputs ≡ Some place.1 = subst (λ (xs : List (List ℕ)). position (λ (input : List ℕ). same input port) xs ≡ Some place.1) inputs p.of_port in
    let port_in = position-Some (λ (input : List ℕ). same input port) (get_or ports place.0 no_row).inputs place.1 [] found in
    record {
      row_inside = task_in.0;
      port_inside = port_in.0;
      of_task = same_is (get_or ports place.0 no_row).task task task_in.1;
      of_port = same_is (get_or (get_or ports place.0 no_row).inputs place.1 []) port port_in.1;
    }

row_there : (ports : List PortRow) (lines : List Line) (i : ℕ) → i < length ports → get_or (rows_of ports lines) i [] ≡ row_for lines (get_or ports i no_row)
row_there ports lines i h = get_or-map (row_for lines) ports i no_row [] h

-- what the lines gave to the input at its place
found_there : (ports : List PortRow) (lines : List Line) (task port : List ℕ) (place : ℕ × ℕ) → HasNames ports task port place → get_or (get_or (rows_of ports lines) place.0 []) place.1 None ≡ stream_in lines task port
found_there ports lines task port place n =
    let row = get_or ports place.0 no_row in
    ap (λ (streams : Row). get_or streams place.1 None) (row_there ports lines place.0 n.row_inside)
    ∙ get_or-map (λ (input : List ℕ). stream_in lines row.task input) row.inputs place.1 [] None n.port_inside
    ∙ rw (n.of_task, n.of_port) refl

distinct_places : (names : List (List ℕ)) (i k : ℕ) → AllPairs ◌≢◌ names → i < length names → k < length names → k ≢ i → get_or names i [] ≢ get_or names k []
distinct_places names i k d hi hk ne e =
    ⊎_elim (λ (same_place : k ≡ i). ne same_place)
    (⊎_elim (λ (lt : k < i). d k i [] lt hi (sym e)) (λ (lt : i < k). d i k [] lt hk e)) (cases_order k i)

distinct_task : (ports : List PortRow) (i k : ℕ) → HaveDistinctNames ports → i < length ports → k < length ports → k ≢ i → (get_or ports i no_row).task ≢ (get_or ports k no_row).task
distinct_task ports i k d hi hk ne e =
    let tasks = map (λ (row : PortRow). row.task) ports in
    let long : length tasks ≡ length ports = length-map ports (λ row. row.task) in
    distinct_places tasks i k d.tasks (omega arith) (omega arith) ne
    (get_or-map (λ (row : PortRow). row.task) ports i no_row [] hi ∙ e ∙ sym (get_or-map (λ (row : PortRow). row.task) ports k no_row [] hk))

distinct_input : (ports : List PortRow) (i j l : ℕ) → HaveDistinctNames ports → i < length ports → j < length (get_or ports i no_row).inputs → l < length (get_or ports i no_row).inputs → l ≢ j → get_or (get_or ports i no_row).inputs j [] ≢ get_or (get_or ports i no_row).inputs l []
distinct_input ports i j l d hi hj hl ne = distinct_places (get_or ports i no_row).inputs j l (d.inputs i no_row hi) hj hl ne

-- the first line for an input puts its values there
put_there : (ports : List PortRow) (lines : List Line) (task port : List ℕ) (words : List (List ℕ)) (place : ℕ × ℕ) → HaveDistinctNames ports → HasNames ports task port place → list_any (is_for task port) lines ≡ false
    → rows_of ports (lines ++ stream task port words ∷ []) ≡ set (rows_of ports lines) place.0 (set (get_or (rows_of ports lines) place.0 []) place.1 (Some (values_of (stream task port words))))
put_there ports lines task port words place d n before =
    let line : Line = stream task port words in
    let all : List Line = lines ++ line ∷ [] in
    let row : PortRow = get_or ports place.0 no_row in
    let elsewhere : (k : ℕ) → k < length ports → k ≢ place.0 → row_for all (get_or ports k no_row) ≡ row_for lines (get_or ports k no_row) =
    λ k lt ne. other_row ports lines task port words (get_or ports k no_row)
    (λ (e : task ≡ (get_or ports k no_row).task). distinct_task ports place.0 k d n.row_inside lt ne (n.of_task ∙ e)) in
    map_but_one (row_for lines) (row_for all) ports place.0 no_row n.row_inside elsewhere
    ∙ ap (set (rows_of ports lines) place.0)
    (this_row ports lines task port words place d n before ∙ ap (λ (streams : Row). set streams place.1 (Some (values_of line))) (sym (row_there ports lines place.0 n.row_inside)))
  where
    other_row : (ports : List PortRow) (lines : List Line) (task port : List ℕ) (words : List (List ℕ)) (row : PortRow) → task ≢ row.task → row_for (lines ++ stream task port words ∷ []) row ≡ row_for lines row
    other_row ports lines task port words row ne =
        map_same (λ (input : List ℕ). stream_in lines row.task input) (λ (input : List ℕ). stream_in (lines ++ stream task port words ∷ []) row.task input) row.inputs []
        (λ k lt. stream_push_other lines (stream task port words) row.task (get_or row.inputs k []) (and_left (same task row.task) (same port (get_or row.inputs k [])) (not_same task row.task ne)))

    this_row : (ports : List PortRow) (lines : List Line) (task port : List ℕ) (words : List (List ℕ)) (place : ℕ × ℕ) → HaveDistinctNames ports → HasNames ports task port place → list_any (is_for task port) lines ≡ false
        → row_for (lines ++ stream task port words ∷ []) (get_or ports place.0 no_row) ≡ set (row_for lines (get_or ports place.0 no_row)) place.1 (Some (values_of (stream task port words)))
    this_row ports lines task port words place d n before =
        let line : Line = stream task port words in
        let row : PortRow = get_or ports place.0 no_row in
        let f : List ℕ → Option (List ℤ) = λ input. stream_in lines row.task input in
        let g : List ℕ → Option (List ℤ) = λ input. stream_in (lines ++ line ∷ []) row.task input in
        let here : g (get_or row.inputs place.1 []) ≡ Some (values_of line) =
        rw (n.of_task, n.of_port) (stream_push_first lines line task port before (and_from (same task task) (same port port) (same_self task) (same_self port))) in
        let elsewhere : (l : ℕ) → l < length row.inputs → l ≢ place.1 → g (get_or row.inputs l []) ≡ f (get_or row.inputs l []) =
        λ l lt ne. stream_push_other lines line row.task (get_or row.inputs l [])
        (and_right (same task row.task) (same port (get_or row.inputs l [])) (not_same port (get_or row.inputs l []) (λ e. distinct_input ports place.0 place.1 l d n.row_inside n.port_inside lt ne (n.of_port ∙ e)))) in
        map_but_one f g row.inputs place.1 [] n.port_inside elsewhere ∙ ap (set (map f row.inputs) place.1) here

-- other lines change nothing
same_rows : (ports : List PortRow) (lines : List Line) (line : Line) → ((task port : List ℕ) → is_for task port line ≡ false) → rows_of ports (lines ++ line ∷ []) ≡ rows_of ports lines
same_rows ports lines line none =
    map_same (row_for lines) (row_for (lines ++ line ∷ [])) ports no_row
    (λ k lt. map_same (λ (input : List ℕ). stream_in lines (get_or ports k no_row).task input) (λ (input : List ℕ). stream_in (lines ++ line ∷ []) (get_or ports k no_row).task input) (get_or ports k no_row).inputs []
    (λ l lt. stream_push_other lines line (get_or ports k no_row).task (get_or (get_or ports k no_row).inputs l []) (none (get_or ports k no_row).task (get_or (get_or ports k no_row).inputs l []))))

-- ---- ports

inputs_found : (ports : List PortRow) (task : List ℕ) (i : ℕ) → position (λ row. same row.task task) ports ≡ Some i → inputs_of ports task ≡ get_or (map (λ row. row.inputs) ports) i []
inputs_found ports task i h =
    let inside = position-Some (λ (row : PortRow). same row.task task) ports i no_row h in
    ap (λ (o : Option PortRow). unwrap_or (option_map (λ (row : PortRow). row.inputs) o) []) (find_found (λ (row : PortRow). same row.task task) ports i no_row h)
    ∙ sym (get_or-map (λ (row : PortRow). row.inputs) ports i no_row [] inside.0)

port_there : (ports : List PortRow) (task port : List ℕ) (place : ℕ × ℕ) → IsPlace ports task port place → has_port ports task port ≡ true
port_there ports task port place p =
    ap (list_any (λ (input : List ℕ). same input port)) (inputs_found ports task place.0 p.of_task)
    ∙ any_found (λ (input : List ℕ). same input port) (get_or (map (λ (row : PortRow). row.inputs) ports) place.0 []) place.1 p.of_port

mapped_none : (i : ℕ) (o : Option ℕ) → ◌≡◌ {A = Option (ℕ × ℕ)} (option_map (λ j. (i, j)) o) None → o ≡ None
mapped_none i None h = refl
mapped_none i (Some j) h = absurd cc

port_missing : (ports : List PortRow) (task port : List ℕ) → place_of ports task port ≡ None → has_port ports task port ≡ false
port_missing ports task port h = by_task ports task port (position (λ (row : PortRow). same row.task task) ports) refl h
  where
    by_task : (ports : List PortRow) (task port : List ℕ) (o : Option ℕ) → position (λ row. same row.task task) ports ≡ o → option_and_then (input_place ports port) o ≡ None → has_port ports task port ≡ false
    by_task ports task port None found h =
        ap (λ (o : Option PortRow). list_any (λ (input : List ℕ). same input port) (unwrap_or (option_map (λ (row : PortRow). row.inputs) o) [])) (find_none (λ (row : PortRow). same row.task task) ports found)
    by_task ports task port (Some i) found h =
        ap (list_any (λ (input : List ℕ). same input port)) (inputs_found ports task i found)
        ∙ none_found (λ (input : List ℕ). same input port) (get_or (map (λ (row : PortRow). row.inputs) ports) i []) (mapped_none i (position (λ (input : List ℕ). same input port) (get_or (map (λ (row : PortRow). row.inputs) ports) i [])) h)

-- ---- one line

abbrev pub next_rows : Option ScriptFail → Rows → Result Rows ScriptFail
next_rows None rows = Ok rows
next_rows (Some fault) rows = Err fault

-- the rows after a line are those of all lines so far, unless the line is at fault
pub after_is : (ports : List PortRow) (number : ℕ) (lines : List Line) (line : Line) → HaveDistinctNames ports → after_line ports number (rows_of ports lines) line ≡ next_rows (fault_behind ports number lines line) (rows_of ports (lines ++ line ∷ []))
after_is ports number lines passed d = ap (λ (rows : Rows). let r : Result Rows ScriptFail = Ok rows in r) (sym (same_rows ports lines passed (λ _ _. refl)))
after_is ports number lines short d = refl
after_is ports number lines (stream task port words) d = by_place (place_of ports task port) refl
  where
    by_numbers : (place : ℕ × ℕ) → HasNames ports task port place → list_any (is_for task port) lines ≡ false → (o : Option (List ℤ)) → numbers_of words ≡ o
        → put_row (rows_of ports lines) place.0 (with_values number (get_or (rows_of ports lines) place.0 []) place.1 o) ≡ next_rows (cond (is_none o) (Some (Number number)) None) (rows_of ports (lines ++ stream task port words ∷ []))
    by_numbers place n before None e = refl
    by_numbers place n before (Some values) e =
        let put : rows_of ports (lines ++ stream task port words ∷ []) ≡ set (rows_of ports lines) place.0 (set (get_or (rows_of ports lines) place.0 []) place.1 (Some values)) =
        put_there ports lines task port words place d n before
        ∙ ap (λ (o : Option (List ℤ)). set (rows_of ports lines) place.0 (set (get_or (rows_of ports lines) place.0 []) place.1 (Some (unwrap_or o [])))) e in
        ap (λ (rows : Rows). let r : Result Rows ScriptFail = Ok rows in r) (sym put)

    by_taken : (place : ℕ × ℕ) → HasNames ports task port place → (taken : Bool) → list_any (is_for task port) lines ≡ taken
        → put_row (rows_of ports lines) place.0 (cond taken (Err (PortTwice number)) (with_values number (get_or (rows_of ports lines) place.0 []) place.1 (numbers_of words)))
        ≡ next_rows (cond taken (Some (PortTwice number)) (cond (is_none (numbers_of words)) (Some (Number number)) None)) (rows_of ports (lines ++ stream task port words ∷ []))
    by_taken place n true e = refl
    by_taken place n false e = by_numbers place n e (numbers_of words) refl

    by_place : (o : Option (ℕ × ℕ)) → place_of ports task port ≡ o → with_place number (rows_of ports lines) words o ≡ next_rows (fault_behind ports number lines (stream task port words)) (rows_of ports (lines ++ stream task port words ∷ []))
    by_place None h = rw (port_missing ports task port h) refl
    by_place (Some place) h =
        let p = is_place ports task port place h in
        let n = has_names ports task port place p in
        let taken : is_some (get_or (get_or (rows_of ports lines) place.0 []) place.1 None) ≡ list_any (is_for task port) lines = ap is_some (found_there ports lines task port place n) ∙ stream_some lines task port in
        rw (taken, port_there ports task port place p) (by_taken place n (list_any (is_for task port) lines) refl)
