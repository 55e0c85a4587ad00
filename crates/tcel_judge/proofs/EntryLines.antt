-- Entries beside their lines.
use Rattle.std.proofs.Common.{◌≡◌, ℕ, suc, ◌+◌, ◌-◌, ◌<◌, ◌≤◌, List, [], ◌∷◌, ◌++◌, length, map, refl, sym, ap, ◌∙◌, arith, Option, Some, None, inl, inr, length-append}
use Rattle.std.specs.Prelude.{◌≢◌, Bool, true, false, cond, nat_le, option_map, ◌⊎◌, ◌==◌, AllPairs, slice_get, slice_index, get_or, filter}
use Rattle.std.specs.List.{AllZip}
use Rattle.std.specs.Option.{option_map_or}
use Rattle.std.specs.List.Sorted.{IsStrictlyIncreasing}
use Rattle.std.proofs.lemmas.Bool.{eq-eqb, eqb-true, false_from_ne_true, leb-true, leb-false, cases_lt}
use Rattle.std.proofs.lemmas.Option.{same_Some, slice_get_within, slice_get-map, get_or_from_slice_get, slice_get-get_or}
use Rattle.std.proofs.lemmas.List.{length-map, get_or_append_left}
use Rattle.tcel_num.specs.Entry.{Entry}
use Rattle.tcel_core.specs.Language.{Task}
use Rattle.tcel_core.specs.Meets.{entries_of}
use Rattle.tcel_trace.specs.declared.trace_line.TraceLine.{TraceLine}
use Rattle.tcel_script.specs.Script.{same}
use Rattle.tcel_judge.specs.FirstBreach.{Judged, own_lines, is_disordered}
use Rattle.tcel_judge.specs.JudgedTraces.{IsLineOf}
use Rattle.tcel_judge.proofs.NamedTasks.{same_equal, same_self, names, one_named}

abbrev pub tasks_of : List Judged → List Task
tasks_of set = map (λ (j : Judged). j.task) set

abbrev pub times : List Entry → List ℕ
times trace = map (λ (e : Entry). e.time) trace

-- ---- times

-- each of them stands beside its line
pub same_times : (set : List Task) (trace : List Entry) (lines : List TraceLine) → AllZip (IsLineOf set) trace lines → times trace ≡ map (λ (l : TraceLine). l.time) lines
same_times set [] [] h = refl
same_times set [] (l ∷ lines) h = absurd h
same_times set (e ∷ trace) [] h = absurd h
same_times set (e ∷ trace) (l ∷ lines) h =
    ap (λ t. t ∷ times trace) (sym (ap (λ (x : TraceLine). x.time) h.0.is)) ∙ ap (λ ts. l.time ∷ ts) (same_times set trace lines h.1)

-- a number behind others is above their last
abbrev pub IsBehind : List ℕ → ℕ → Type 0
IsBehind xs x = (k : ℕ) → k + 1 ≡ length xs → slice_index xs k < x

pub behind_last : (xs rest : List ℕ) (x : ℕ) → IsStrictlyIncreasing (xs ++ x ∷ rest) → IsBehind xs x
behind_last xs rest x rises k last =
    let long = length-append xs (x ∷ rest) in
    let below = rises k (omega (arith, last, long)) in
    let here : slice_index (xs ++ x ∷ rest) k ≡ slice_index xs k = get_or_append_left xs (x ∷ rest) 0 k (omega (arith, last)) in
    let next : slice_index (xs ++ x ∷ rest) (k + 1) ≡ x = ap (slice_index (xs ++ x ∷ rest)) last ∙ get_or_behind xs x rest in
    omega (arith, below, here, next)
  where
    get_or_behind : (ys : List ℕ) (y : ℕ) (more : List ℕ) → slice_index (ys ++ y ∷ more) (length ys) ≡ y
    get_or_behind [] y more = refl
    get_or_behind (z ∷ ys) y more = get_or_behind ys y more

pub rises_push : (xs : List ℕ) (x : ℕ) → IsStrictlyIncreasing xs → IsBehind xs x → IsStrictlyIncreasing (xs ++ x ∷ [])
rises_push xs x rises behind k within = go (cases_lt (k + 1) (length xs))
  where
    long : length (xs ++ x ∷ []) ≡ length xs + 1
    long = length-append xs (x ∷ [])

    pushed : (ys : List ℕ) → slice_index (ys ++ x ∷ []) (length ys) ≡ x
    pushed [] = refl
    pushed (y ∷ ys) = pushed ys

    go : (k + 1 < length xs) ⊎ (length xs ≤ k + 1) → slice_index (xs ++ x ∷ []) k < slice_index (xs ++ x ∷ []) (k + 1)
    go (inl h) =
        let here : slice_index (xs ++ x ∷ []) k ≡ slice_index xs k = get_or_append_left xs (x ∷ []) 0 k (omega (arith, h)) in
        let next : slice_index (xs ++ x ∷ []) (k + 1) ≡ slice_index xs (k + 1) = get_or_append_left xs (x ∷ []) 0 (k + 1) h in
        let below = rises k h in
        omega (arith, here, next, below)
    go (inr h) =
        let last : k + 1 ≡ length xs = omega (arith, h, within, long) in
        let here : slice_index (xs ++ x ∷ []) k ≡ slice_index xs k = get_or_append_left xs (x ∷ []) 0 k (omega (arith, last)) in
        let next : slice_index (xs ++ x ∷ []) (k + 1) ≡ x = ap (slice_index (xs ++ x ∷ [])) last ∙ pushed xs in
        let below = behind k last in
        omega (arith, here, next, below)

-- the test of the order
abbrev pub line_times : List TraceLine → List ℕ
line_times lines = map (λ (l : TraceLine). l.time) lines

pub not_disordered : (earlier : List TraceLine) (line : TraceLine) → IsBehind (line_times earlier) line.time → is_disordered earlier line ≡ false
not_disordered earlier line behind = go (slice_get earlier (length earlier - 1)) refl
  where
    go : (o : Option TraceLine) → slice_get earlier (length earlier - 1) ≡ o → option_map_or (λ (last : TraceLine). nat_le line.time last.time) o false ≡ false
    go None at = refl
    go (Some last) at =
        false_from_ne_true (nat_le line.time last.time) (λ over.
        let le = leb-true line.time last.time over in
        let inside = slice_get_within earlier (length earlier - 1) last at in
        let long = length-map earlier (λ (l : TraceLine). l.time) in
        let lt = behind (length earlier - 1) (omega (arith, inside, long)) in
        let read = get_or_from_slice_get (line_times earlier) (length earlier - 1) last.time 0
        (slice_get-map (λ (l : TraceLine). l.time) earlier (length earlier - 1) ∙ ap (option_map (λ (l : TraceLine). l.time)) at) in
        omega (arith, le, lt, read))

pub is_behind : (earlier : List TraceLine) (line : TraceLine) → is_disordered earlier line ≡ false → IsBehind (line_times earlier) line.time
is_behind earlier line h k last =
    let long = length-map earlier (λ (l : TraceLine). l.time) in
    let at : length earlier - 1 ≡ k = omega (arith, last, long) in
    let there = slice_get-get_or earlier (length earlier - 1) line (omega (arith, last, long)) in
    let later = leb-false line.time (get_or earlier (length earlier - 1) line).time (sym (ap (λ o. option_map_or (λ (l : TraceLine). nat_le line.time l.time) o false) there) ∙ h) in
    let read = get_or_from_slice_get (line_times earlier) (length earlier - 1) (get_or earlier (length earlier - 1) line).time 0
    (slice_get-map (λ (l : TraceLine). l.time) earlier (length earlier - 1) ∙ ap (option_map (λ (l : TraceLine). l.time)) there) in
    let same_place = ap (slice_index (line_times earlier)) at in
    omega (arith, later, read, same_place)

-- ---- the entries of a task

same_length : {A B : Type 0} (a b : Bool) (x : A) (y : B) (xs : List A) (ys : List B) → a ≡ b → length xs ≡ length ys → length (cond a (x ∷ xs) xs) ≡ length (cond b (y ∷ ys) ys)
same_length true true x y xs ys h more = ap suc more
same_length false false x y xs ys h more = more
same_length true false x y xs ys h more = absurd cc
same_length false true x y xs ys h more = absurd cc

module _ (set : List Judged) (apart : AllPairs ◌≢◌ (names set)) where
  -- the tests of names and of numbers are one
  same_task : (e : Entry) (i : ℕ) (g j : Judged) → slice_get set e.task ≡ Some g → slice_get set i ≡ Some j → same g.task.name j.task.name ≡ (e.task == i)
  same_task e i g j at also = go (e.task == i) refl
    where
      go : (b : Bool) → (e.task == i) ≡ b → same g.task.name j.task.name ≡ b
      go true is =
          let one = eqb-true e.task i is in
          let both = same_Some g j (sym at ∙ ap (slice_get set) one ∙ also) in
          ap (λ (x : Judged). same x.task.name j.task.name) both ∙ same_self j.task.name
      go false is =
          false_from_ne_true (same g.task.name j.task.name) (λ named.
          let one = one_named set apart e.task i g j at also (same_equal g.task.name j.task.name named) in
          let yes = eq-eqb e.task i one in
          let both : true ≡ false = sym yes ∙ is in absurd cc)

  -- the task of an entry that has a line
  pub judged_at : (e : Entry) (line : TraceLine) → (h : IsLineOf (tasks_of set) e line) → (g : Judged) × (slice_get set e.task ≡ Some g) × (g.task ≡ h.task)
  judged_at e line h = go (slice_get set e.task) refl
    where
      go : (o : Option Judged) → slice_get set e.task ≡ o → (g : Judged) × (slice_get set e.task ≡ Some g) × (g.task ≡ h.task)
      go None at =
          let no : slice_get (tasks_of set) e.task ≡ None = slice_get-map (λ (j : Judged). j.task) set e.task ∙ ap (option_map (λ (j : Judged). j.task)) at in
          let both : None ≡ Some h.task = sym no ∙ h.there in absurd cc
      go (Some g) at =
          let some : slice_get (tasks_of set) e.task ≡ Some g.task = slice_get-map (λ (j : Judged). j.task) set e.task ∙ ap (option_map (λ (j : Judged). j.task)) at in
          (g, at, same_Some g.task h.task (sym some ∙ h.there))

  -- a task has as many lines as entries
  pub own_entries : (i : ℕ) (j : Judged) → slice_get set i ≡ Some j → (trace : List Entry) (lines : List TraceLine) → AllZip (IsLineOf (tasks_of set)) trace lines
      → own_lines j.task.name lines ≡ length (entries_of i trace)
  own_entries i j at [] [] h = refl
  own_entries i j at [] (l ∷ lines) h = absurd h
  own_entries i j at (e ∷ trace) [] h = absurd h
  own_entries i j at (e ∷ trace) (l ∷ lines) h =
      let own = judged_at e l h.0 in
      let tests = ap (λ (x : TraceLine). same x.task j.task.name) h.0.is ∙ ap (λ (t : Task). same t.name j.task.name) (sym own.2) ∙ same_task e i own.0 j own.1 at in
      same_length (same l.task j.task.name) (e.task == i) l e (filter (λ (x : TraceLine). same x.task j.task.name) lines) (entries_of i trace) tests (own_entries i j at trace lines h.1)
