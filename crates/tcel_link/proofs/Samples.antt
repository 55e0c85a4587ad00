-- Each receive from a linked input has the sample: outside loops it is run once at most, so as many copies are enough.
use Rattle.std.proofs.Common.{◌≡◌, ℕ, zero, suc, ◌+◌, ◌-◌, ◌*◌, ◌==◌, ◌<◌, ◌≤◌, Bool, true, false, cond, not, ◌&&◌, ℤ, pos, List, [], ◌∷◌, ◌++◌, length, map, get_or, set, replicate, Option, Some, refl, sym, ap, ◌∙◌, subst, ⊎_elim, arith}
use Rattle.std.specs.Prelude.{filter, find, option_map, unwrap_or}
use Rattle.std.specs.List.{AllByRecursion}
use Rattle.std.proofs.lemmas.Bool.{cases_Bool, cond-false, cond-true, cond_both, eqb-false, eqb-true, or_parts}
use Rattle.std.proofs.lemmas.List.{append_assoc, get_or-set_other, get_or-set_same}
use Rattle.std.proofs.lemmas.List.Elements.{recursion_from_All}
use Rattle.std.proofs.lemmas.Option.{same_Some}
use Rattle.tcel_num.specs.Arithmetic.{holds}
use Rattle.tcel_core.specs.declared.event.Event.{Event}
use Rattle.tcel_core.specs.declared.var.Var.{Var}
use Rattle.tcel_core.specs.Cells.{set_word}
use Rattle.tcel_core.specs.Language.{Block, done, next, Stmt, item, choice, timed, Task, Window, Act, assign, assign_at, receive, send, for_loop, while_loop, copy}
use Rattle.tcel_core.specs.Meaning.{exec, exec_act, exec_stmt, head_or_zero, next_input, tail, value, with_cells}
use Rattle.tcel_core.specs.Outcome.{Memory, Occurrence, Outcome, enclosed, quiet, rounds, rounds_while, then_run}
use Rattle.tcel_core.specs.Windows.{event_of}
use Rattle.tcel_link.specs.declared.link.Link.{Link}
use Rattle.tcel_link.specs.Conditions.{IsInRange, IsOutsideLoops}
use Rattle.tcel_link.specs.Laws.{ReceivesAreSamples}
use Rattle.tcel_link.specs.Linked.{Ran, frame_start, frames_before, is_send, ran, received, replaced, resumed, sample, samples}
use Rattle.tcel_link.specs.Links.{feeds, task_at}
use Rattle.tcel_link.specs.Receives.{receives, stmt_receives, act_receives, receives_in_loop, stmt_receives_in_loop, act_receives_in_loop}
use Rattle.tcel_link.proofs.Ends.{as_many}
use Rattle.tcel_link.proofs.KeptInputs.{block_inputs, stmt_inputs}
use Rattle.tcel_link.proofs.Leads.{led}
use Rattle.tcel_script.specs.Script.{Streams}

-- ---- the values that events receive from an input

abbrev pub value_in : ℕ → Occurrence → List ℤ
value_in input e = cond (not (is_send e.kind) && e.port == input) (e.value ∷ []) []

abbrev pub values_in : ℕ → List Occurrence → List ℤ
values_in input [] = []
values_in input (e ∷ es) = value_in input e ++ values_in input es

pub received_is : (deadline input : ℕ) (es : List Occurrence) → received input (map (event_of deadline) es) ≡ values_in input es
received_is deadline input [] = refl
received_is deadline input (e ∷ es) = one (not (is_send e.kind) && e.port == input) ∙ ap (λ vs. value_in input e ++ vs) (received_is deadline input es)
  where
    rest : List Event
    rest = filter (λ (e : Event). not (is_send e.kind) && e.port == input) (map (event_of deadline) es)

    one : (b : Bool) → map (λ (e : Event). e.value) (cond b (event_of deadline e ∷ rest) rest) ≡ cond b (e.value ∷ []) [] ++ map (λ (e : Event). e.value) rest
    one true = refl
    one false = refl

pub values-append : (input : ℕ) (a b : List Occurrence) → values_in input (a ++ b) ≡ values_in input a ++ values_in input b
values-append input [] b = refl
values-append input (e ∷ a) b = ap (λ vs. value_in input e ++ vs) (values-append input a b) ∙ sym (append_assoc (value_in input e) (values_in input a) (values_in input b))

pub values-enclosed : (input id : ℕ) (window : Window) (leads : Bool) (es : List Occurrence) → values_in input (enclosed id window leads es) ≡ values_in input es
values-enclosed input id window leads [] = refl
values-enclosed input id window leads (e ∷ es) = ap (λ vs. value_in input e ++ vs) (values-enclosed input id window false es)

-- ---- statements without a receive from the input

record Untouched (input : ℕ) (m : Memory) (o : Outcome) : Type 0 where
  pub same : get_or o.memory.inputs input [] ≡ get_or m.inputs input []
  pub none : values_in input o.events ≡ []

untouched_then : (input : ℕ) (m : Memory) (o : Outcome) (more : Memory → Outcome) → Untouched input m o → Untouched input o.memory (more o.memory) → Untouched input m (then_run o more)
untouched_then input m o more first rest =
    record { same = rest.same ∙ first.same; none = values-append input o.events (more o.memory).events ∙ ap (λ vs. vs ++ values_in input (more o.memory).events) first.none ∙ rest.none }

rounds_untouched : (input : ℕ) (round : ℕ → Memory → Outcome) → ((j : ℕ) (m : Memory) → Untouched input m (round j m)) → (n : ℕ) (m : Memory) → Untouched input m (rounds n round m)
rounds_untouched input round each zero m = record { same = refl; none = refl }
rounds_untouched input round each (suc n) m = untouched_then input m (rounds n round m) (round n) (rounds_untouched input round each n m) (each n (rounds n round m).memory)

while_untouched : (input : ℕ) (test : Memory → Bool) (round : Memory → Outcome) → ((m : Memory) → Untouched input m (round m)) → (n : ℕ) (m : Memory) → Untouched input m (rounds_while n test round m)
while_untouched input test round each zero m = record { same = refl; none = refl }
while_untouched input test round each (suc n) m =
    cond_both (test m) (λ k. then_run (round k) (rounds_while n test round)) quiet (λ f. Untouched input m (f m))
    (λ _. untouched_then input m (round m) (rounds_while n test round) (each m) (while_untouched input test round each n (round m).memory)) (λ _. record { same = refl; none = refl })

-- a receive from another input
other_receive : (input : ℕ) (vars : List Var) (v port : ℕ) (m : Memory) → (port == input) ≡ false → Untouched input m (exec_act (receive v port) vars m)
other_receive input vars v port m e =
    record {
      same = get_or-set_other m.inputs port input (tail (get_or m.inputs port [])) [] (λ same. eqb-false port input e (sym same));
      none = ap (λ b. cond b (next_input m port ∷ []) [] ++ []) e;
    }

mutual
  block_untouched : (b : Block) (vars : List Var) (input : ℕ) (m : Memory) → receives_in_loop b input true ≡ false → Untouched input m (exec b vars m)
  block_untouched done vars input m h = record { same = refl; none = refl }
  block_untouched (next s rest) vars input m h =
      let parts = or_parts (stmt_receives_in_loop s input true) (receives_in_loop rest input true) h in
      let o = exec_stmt s vars m in
      untouched_then input m o (exec rest vars) (stmt_untouched s vars input m parts.0) (block_untouched rest vars input o.memory parts.1)

  stmt_untouched : (s : Stmt) (vars : List Var) (input : ℕ) (m : Memory) → stmt_receives_in_loop s input true ≡ false → Untouched input m (exec_stmt s vars m)
  stmt_untouched (item id act) vars input m h = act_untouched act vars input m h
  stmt_untouched (choice id test held other) vars input m h =
      let parts = or_parts (receives_in_loop held input true) (receives_in_loop other input true) h in
      cond_both (holds (value test vars m.cells)) (exec held vars) (exec other vars) (λ f. Untouched input m (f m)) (λ _. block_untouched held vars input m parts.0) (λ _. block_untouched other vars input m parts.1)
  stmt_untouched (timed id window body) vars input m h =
      let inside = block_untouched body vars input m h in
      record { same = inside.same; none = values-enclosed input id window true (exec body vars m).events ∙ inside.none }

  act_untouched : (act : Act) (vars : List Var) (input : ℕ) (m : Memory) → act_receives_in_loop act input true ≡ false → Untouched input m (exec_act act vars m)
  act_untouched (assign v e) vars input m h = record { same = refl; none = refl }
  act_untouched (assign_at v i e) vars input m h = record { same = refl; none = refl }
  act_untouched (receive v port) vars input m h = other_receive input vars v port m h
  act_untouched (send e port) vars input m h = record { same = refl; none = refl }
  act_untouched (for_loop v n body) vars input m h =
      rounds_untouched input (λ j k. exec body vars (with_cells k (set_word vars k.cells v (pos j)))) (λ j k. kept k (with_cells k (set_word vars k.cells v (pos j))) (exec body vars (with_cells k (set_word vars k.cells v (pos j)))) refl
      (block_untouched body vars input (with_cells k (set_word vars k.cells v (pos j))) h)) n m
    where
      kept : (k l : Memory) (o : Outcome) → l.inputs ≡ k.inputs → Untouched input l o → Untouched input k o
      kept k l o same u = record { same = u.same ∙ ap (λ xs. get_or xs input []) same; none = u.none }
  act_untouched (while_loop test n body) vars input m h = while_untouched input (λ k. holds (value test vars k.cells)) (exec body vars) (λ k. block_untouched body vars input k h) n m
  act_untouched (copy from to) vars input m h = record { same = refl; none = refl }

-- ---- statements over copies of a value

-- the input has at least so many copies left
record Has (input : ℕ) (v : ℤ) (least : ℕ) (m : Memory) : Type 0 where
  pub left : ℕ
  pub enough : least ≤ left
  pub is : get_or m.inputs input [] ≡ replicate left v

abbrev IsValue : ℤ → ℤ → Type 0
IsValue v x = x ≡ v

-- each receive from the input had the value, and at least so many copies are left
record Gets (input : ℕ) (v : ℤ) (least : ℕ) (o : Outcome) : Type 0 where
  pub has : Has input v least o.memory
  pub all : AllByRecursion (IsValue v) (values_in input o.events)

all-append : (v : ℤ) (xs ys : List ℤ) → AllByRecursion (IsValue v) xs → AllByRecursion (IsValue v) ys → AllByRecursion (IsValue v) (xs ++ ys)
all-append v [] ys h k = k
all-append v (x ∷ xs) ys h k = (h.0, all-append v xs ys h.1 k)

gets_then : (input : ℕ) (v : ℤ) (least : ℕ) (o : Outcome) (more : Memory → Outcome) → AllByRecursion (IsValue v) (values_in input o.events) → Gets input v least (more o.memory) → Gets input v least (then_run o more)
gets_then input v least o more first rest =
    record {
      has = record { left = rest.has.left; enough = rest.has.enough; is = rest.has.is };
      all = subst (AllByRecursion (IsValue v)) (sym (values-append input o.events (more o.memory).events)) (all-append v (values_in input o.events) (values_in input (more o.memory).events) first rest.all);
    }

gets_untouched : (input : ℕ) (v : ℤ) (more least : ℕ) (m : Memory) (o : Outcome) → Has input v (more + least) m → Untouched input m o → Gets input v least o
gets_untouched input v more least m o h u =
    record { has = record { left = h.left; enough = (let e = h.enough in omega (arith, e)); is = u.same ∙ h.is }; all = subst (AllByRecursion (IsValue v)) (sym u.none) tt }

-- one copy is taken
one_taken : (v : ℤ) (left : ℕ) (xs : List ℤ) → 1 ≤ left → xs ≡ replicate left v → (head_or_zero xs ≡ v) × (tail xs ≡ replicate (left - 1) v)
one_taken v zero xs some is = absurd (omega arith)
one_taken v (suc n) xs some is = let less : suc n - 1 ≡ n = omega arith in (ap head_or_zero is, ap tail is ∙ ap (λ k. replicate k v) (sym less))

gets_receive : (vars : List Var) (input : ℕ) (v : ℤ) (least : ℕ) (var port : ℕ) (m : Memory) → input < length m.inputs → Has input v (act_receives (receive var port) input + least) m → Gets input v least (exec_act (receive var port) vars m)
gets_receive vars input v least var port m within h =
    ⊎_elim (λ (e : (port == input) ≡ true). mine (eqb-true port input e) e)
    (λ (e : (port == input) ≡ false). gets_untouched input v (act_receives (receive var port) input) least m (exec_act (receive var port) vars m) h (other_receive input vars var port m e)) (cases_Bool (port == input))
  where
    mine : port ≡ input → (port == input) ≡ true → Gets input v least (exec_act (receive var port) vars m)
    mine is e =
        let one : act_receives (receive var port) input ≡ 1 = ap (λ b. cond b 1 0) e in
        let some : 1 ≤ h.left = let k = h.enough in omega (arith, k, one) in
        let here = ap (λ p. get_or m.inputs p []) is ∙ h.is in
        let took = one_taken v h.left (get_or m.inputs port []) some here in
        let set_at = ap (λ p. get_or (set m.inputs p (tail (get_or m.inputs port []))) input []) is ∙ get_or-set_same m.inputs input (tail (get_or m.inputs port [])) [] within in
        record {
          has = record { left = h.left - 1; enough = (let k = h.enough in omega (arith, k, one)); is = set_at ∙ took.1 };
          all = subst (AllByRecursion (IsValue v)) (sym (ap (λ b. cond b (next_input m port ∷ []) [] ++ []) e)) (took.0, tt);
        }

mutual
  block_gets : (b : Block) (vars : List Var) (input : ℕ) (v : ℤ) (least : ℕ) (m : Memory) → receives_in_loop b input false ≡ false → input < length m.inputs → Has input v (receives b input + least) m → Gets input v least (exec b vars m)
  block_gets done vars input v least m out within h = record { has = record { left = h.left; enough = (let e = h.enough in omega (arith, e)); is = h.is }; all = tt }
  block_gets (next s rest) vars input v least m out within h =
      let parts = or_parts (stmt_receives_in_loop s input false) (receives_in_loop rest input false) out in
      let o = exec_stmt s vars m in
      let first = stmt_gets s vars input v (receives rest input + least) m parts.0 within (record { left = h.left; enough = (let e = h.enough in omega (arith, e)); is = h.is }) in
      gets_then input v least o (exec rest vars) first.all (block_gets rest vars input v least o.memory parts.1 (omega (arith, within, stmt_inputs s vars m)) first.has)

  stmt_gets : (s : Stmt) (vars : List Var) (input : ℕ) (v : ℤ) (least : ℕ) (m : Memory) → stmt_receives_in_loop s input false ≡ false → input < length m.inputs → Has input v (stmt_receives s input + least) m →
      Gets input v least (exec_stmt s vars m)
  stmt_gets (item id act) vars input v least m out within h = act_gets act vars input v least m out within h
  stmt_gets (choice id test held other) vars input v least m out within h =
      let parts = or_parts (receives_in_loop held input false) (receives_in_loop other input false) out in
      let e = h.enough in
      cond_both (holds (value test vars m.cells)) (exec held vars) (exec other vars) (λ f. Gets input v least (f m))
      (λ _. block_gets held vars input v least m parts.0 within (record { left = h.left; enough = omega (arith, e); is = h.is }))
      (λ _. block_gets other vars input v least m parts.1 within (record { left = h.left; enough = omega (arith, e); is = h.is }))
  stmt_gets (timed id window body) vars input v least m out within h =
      let inside = block_gets body vars input v least m out within h in
      record { has = record { left = inside.has.left; enough = inside.has.enough; is = inside.has.is }; all = subst (AllByRecursion (IsValue v)) (sym (values-enclosed input id window true (exec body vars m).events)) inside.all }

  act_gets : (act : Act) (vars : List Var) (input : ℕ) (v : ℤ) (least : ℕ) (m : Memory) → act_receives_in_loop act input false ≡ false → input < length m.inputs → Has input v (act_receives act input + least) m →
      Gets input v least (exec_act act vars m)
  act_gets (receive var port) vars input v least m out within h = gets_receive vars input v least var port m within h
  act_gets (for_loop var n body) vars input v least m out within h = gets_untouched input v (receives body input) least m (exec_act (for_loop var n body) vars m) h (act_untouched (for_loop var n body) vars input m out)
  act_gets (while_loop test n body) vars input v least m out within h = gets_untouched input v (receives body input) least m (exec_act (while_loop test n body) vars m) h (act_untouched (while_loop test n body) vars input m out)
  act_gets (assign var e) vars input v least m out within h = gets_untouched input v 0 least m (exec_act (assign var e) vars m) h (act_untouched (assign var e) vars input m refl)
  act_gets (assign_at var i e) vars input v least m out within h = gets_untouched input v 0 least m (exec_act (assign_at var i e) vars m) h (act_untouched (assign_at var i e) vars input m refl)
  act_gets (send e port) vars input v least m out within h = gets_untouched input v 0 least m (exec_act (send e port) vars m) h (act_untouched (send e port) vars input m refl)
  act_gets (copy from to) vars input v least m out within h = gets_untouched input v 0 least m (exec_act (copy from to) vars m) h (act_untouched (copy from to) vars input m refl)

-- ---- the frame of a linked task

pub length-replaced : (f : ℕ → Option (List ℤ)) (n : ℕ) (xs : List (List ℤ)) → length (replaced f n xs) ≡ length xs
length-replaced f n [] = refl
length-replaced f n (x ∷ xs) = ap suc (length-replaced f (n + 1) xs)

pub replaced_at : (f : ℕ → Option (List ℤ)) (n i place : ℕ) (xs : List (List ℤ)) (x : List ℤ) → place ≡ i + n → i < length xs → f place ≡ Some x → get_or (replaced f n xs) i [] ≡ x
replaced_at f n i place [] x is h some = absurd (omega arith)
replaced_at f n zero place (y ∷ xs) x is h some = let here : n ≡ place = omega (arith, is) in ap (λ o. unwrap_or o y) (ap f here ∙ some)
replaced_at f n (suc i) place (y ∷ xs) x is h some = replaced_at f (n + 1) i place xs x (omega (arith, is)) (omega (arith, h)) some

pub found_holds : (P : Link → Type 0) (p : Link → Bool) (links : List Link) (link : Link) → AllByRecursion P links → find p links ≡ Some link → P link × (p link ≡ true)
found_holds P p [] link h found = absurd cc
found_holds P p (l ∷ links) link h found =
    ⊎_elim (λ (e : p l ≡ true).
    let is = same_Some l link (sym (cond-true (p l) (Some l) (find p links) e) ∙ found) in (subst P is h.0, subst (λ k. p k ≡ true) is e))
    (λ (e : p l ≡ false). found_holds P p links link h.1 (sym (cond-false (p l) (Some l) (find p links) e) ∙ found)) (cases_Bool (p l))

-- the inputs of a task stay as many, frame by frame
pub inputs_stay : (tasks : List Task) (links : List Link) (streams : Streams) (number time : ℕ) → length (resumed (task_at tasks number) (get_or streams number []) (frames_before tasks links streams time number)).inputs ≡ length (get_or streams number [])
inputs_stay tasks links streams number zero = refl
inputs_stay tasks links streams number (suc time) = by_test (time == length (past number) * task.period) (inputs_stay tasks links streams number time)
  where
    task : Task
    task = task_at tasks number

    past : ℕ → List Ran
    past = frames_before tasks links streams time

    by_test : (b : Bool) → length (resumed task (get_or streams number []) (past number)).inputs ≡ length (get_or streams number []) →
        length (resumed task (get_or streams number []) (cond b (ran task (frame_start tasks links streams past time number) ∷ past number) (past number))).inputs ≡ length (get_or streams number [])
    by_test true rest =
        block_inputs task.body task.vars (frame_start tasks links streams past time number)
        ∙ length-replaced (samples tasks links past time number) 0 (resumed task (get_or streams number []) (past number)).inputs ∙ rest
    by_test false rest = rest

pub receives_are_samples : ReceivesAreSamples
receives_are_samples tasks links streams time number input link fits are found =
    let past = frames_before tasks links streams time in
    let task = task_at tasks number in
    let start = resumed task (get_or streams number []) (past number) in
    let begins = frame_start tasks links streams past time number in
    let v = sample tasks past time link in
    let range = found_holds (IsInRange tasks) (feeds number input) links link (recursion_from_All (IsInRange tasks) links are.in_range) found in
    let outside = found_holds (IsOutsideLoops tasks) (feeds number input) links link (recursion_from_All (IsOutsideLoops tasks) links are.outside) found in
    let leads = led number input link range.1 in
    let inside : number < length tasks = subst (λ n. n < length tasks) leads.0 range.0.to in
    let port : input < length task.inputs = subst (λ n. input < length (task_at tasks n).inputs) leads.0 (subst (λ i. i < length (task_at tasks link.to).inputs) leads.1 range.0.input) in
    let out : receives_in_loop task.body input false ≡ false = subst (λ n. receives_in_loop (task_at tasks n).body input false ≡ false) leads.0 (subst (λ i. receives_in_loop (task_at tasks link.to).body i false ≡ false) leads.1 outside.0) in
    let within : input < length start.inputs = omega (arith, port, inputs_stay tasks links streams number time, as_many tasks streams number fits inside) in
    let some : samples tasks links past time number input ≡ Some (replicate (receives task.body input) v) = ap (option_map (λ (l : Link). replicate (receives task.body input) (sample tasks past time l))) found in
    let has : Has input v (receives task.body input + 0) begins =
    record { left = receives task.body input; enough = omega arith; is = replaced_at (samples tasks links past time number) 0 input input start.inputs (replicate (receives task.body input) v) (omega arith) within some } in
    let gets = block_gets task.body task.vars input v 0 begins out (omega (arith, within, length-replaced (samples tasks links past time number) 0 start.inputs)) has in
    subst (AllByRecursion (IsValue v)) (sym (received_is task.deadline input (exec task.body task.vars begins).events)) gets.all
