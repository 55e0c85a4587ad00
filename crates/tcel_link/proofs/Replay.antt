-- A body that finds on some inputs just what it received from them does the same again.
use Rattle.std.proofs.Common.{◌≡◌, ◌≢◌, ℕ, zero, suc, Bool, true, false, cond, ℤ, pos, List, [], ◌∷◌, ◌++◌, get_or, set, refl, sym, ap, ◌∙◌, subst, ⊎_elim}
use Rattle.std.proofs.lemmas.Bool.{cases_eq, eq-eqb, ne_eqb}
use Rattle.std.proofs.lemmas.List.{append_assoc, get_or-set_other}
use Rattle.tcel_num.specs.Arithmetic.{holds}
use Rattle.tcel_core.specs.declared.event.EventKind.TheVariants.{Receive, Send}
use Rattle.tcel_core.specs.declared.var.Var.{Var}
use Rattle.tcel_core.specs.Cells.{set_element, copy_words, set_word}
use Rattle.tcel_core.specs.Language.{Block, Expr, done, next, Stmt, item, choice, timed, Window, Act, assign, assign_at, receive, send, for_loop, while_loop, copy}
use Rattle.tcel_core.specs.Meaning.{exec, exec_act, exec_stmt, head_or_zero, next_input, tail, value, with_cells}
use Rattle.tcel_core.specs.Outcome.{Memory, Outcome, enclosed, event, inside, quiet, rounds, rounds_while, then_run}
use Rattle.tcel_link.proofs.Samples.{values-append, values-enclosed, values_in}

-- the values that some inputs have
abbrev pub Rest : Type 0
Rest = ℕ → List ℤ

-- another memory has the same words and inputs, but for some inputs, which have these values
pub record Alongside (some : ℕ → Bool) (rest : Rest) (m other : Memory) : Type 0 where
  pub cells : other.cells ≡ m.cells
  pub inputs : (i : ℕ) → get_or other.inputs i [] ≡ cond (some i) (rest i) (get_or m.inputs i [])

-- another run makes the same events, and leaves the same but for some inputs
pub record Same (some : ℕ → Bool) (rest : Rest) (o other : Outcome) : Type 0 where
  pub events : other.events ≡ o.events
  pub memory : Alongside some rest o.memory other.memory

-- what a run received, and then the rest
abbrev pub first_taken : Outcome → Rest → Rest
first_taken o rest i = values_in i o.events ++ rest i

-- another run from what the first one received does the same
abbrev pub Replays : (Memory → Outcome) → Type 0
Replays run = (some : ℕ → Bool) (rest : Rest) (m other : Memory) → Alongside some (first_taken (run m) rest) m other → Same some rest (run m) (run other)

alongside_as : (some : ℕ → Bool) (a b : Rest) (m other : Memory) → ((i : ℕ) → a i ≡ b i) → Alongside some a m other → Alongside some b m other
alongside_as some a b m other same h = record { cells = h.cells; inputs = λ i. h.inputs i ∙ ap (λ xs. cond (some i) xs (get_or m.inputs i [])) (same i) }

-- one run and then another
replays_then : (first : Memory → Outcome) (more : Memory → Outcome) → Replays first → Replays more → Replays (λ m. then_run (first m) more)
replays_then first more one two some rest m other h =
    let o = first m in
    let behind : Rest = first_taken (more o.memory) rest in
    let begun = alongside_as some (first_taken (then_run o more) rest) (first_taken o behind) m other
    (λ i. ap (λ vs. vs ++ rest i) (values-append i o.events (more o.memory).events) ∙ append_assoc (values_in i o.events) (values_in i (more o.memory).events) (rest i)) h in
    let did = one some behind m other begun in
    let ended = two some rest o.memory (first other).memory did.memory in
    record {
      events = ap (λ es. es ++ (more (first other).memory).events) did.events ∙ ap (λ es. o.events ++ es) ended.events;
      memory = record { cells = ended.memory.cells; inputs = ended.memory.inputs };
    }

replays_quiet : Replays quiet
replays_quiet some rest m other h = record { events = refl; memory = record { cells = h.cells; inputs = h.inputs } }

replays_rounds : (round : ℕ → Memory → Outcome) → ((j : ℕ) → Replays (round j)) → (n : ℕ) → Replays (rounds n round)
replays_rounds round each zero = replays_quiet
replays_rounds round each (suc n) = replays_then (rounds n round) (round n) (replays_rounds round each n) (each n)

replays_while : (test : Memory → Bool) (round : Memory → Outcome) → ((m other : Memory) → other.cells ≡ m.cells → test other ≡ test m) → Replays round → (n : ℕ) → Replays (rounds_while n test round)
replays_while test round agree each zero = replays_quiet
replays_while test round agree each (suc n) =
    λ some rest m other h. by_test (replays_then round (rounds_while n test round) each (replays_while test round agree each n)) some rest m other (test m) (agree m other h.cells) refl h
  where
    on : Memory → Outcome
    on k = then_run (round k) (rounds_while n test round)

    by_test : Replays on → (some : ℕ → Bool) (rest : Rest) (m other : Memory) (b : Bool) → test other ≡ test m → test m ≡ b → Alongside some (first_taken (rounds_while (suc n) test round m) rest) m other →
        Same some rest (rounds_while (suc n) test round m) (rounds_while (suc n) test round other)
    by_test both some rest m other true same e h =
        let mine : rounds_while (suc n) test round m ≡ on m = ap (λ b. cond b on quiet m) e in
        let yours : rounds_while (suc n) test round other ≡ on other = ap (λ b. cond b on quiet other) (same ∙ e) in
        subst (λ o. Same some rest o (rounds_while (suc n) test round other)) (sym mine)
        (subst (Same some rest (on m)) (sym yours) (both some rest m other (subst (λ o. Alongside some (first_taken o rest) m other) mine h)))
    by_test both some rest m other false same e h =
        let mine : rounds_while (suc n) test round m ≡ quiet m = ap (λ b. cond b on quiet m) e in
        let yours : rounds_while (suc n) test round other ≡ quiet other = ap (λ b. cond b on quiet other) (same ∙ e) in
        subst (λ o. Same some rest o (rounds_while (suc n) test round other)) (sym mine)
        (subst (Same some rest (quiet m)) (sym yours) (replays_quiet some rest m other (subst (λ o. Alongside some (first_taken o rest) m other) mine h)))

-- a run that only changes words
replays_words : (change : List ℤ → List ℤ) → Replays (λ m. quiet (with_cells m (change m.cells)))
replays_words change some rest m other h = record { events = refl; memory = record { cells = ap change h.cells; inputs = h.inputs } }

replays_behind_words : (change : List ℤ → List ℤ) (run : Memory → Outcome) → Replays run → Replays (λ m. run (with_cells m (change m.cells)))
replays_behind_words change run h some rest m other along =
    h some rest (with_cells m (change m.cells)) (with_cells other (change other.cells)) (record { cells = ap change along.cells; inputs = along.inputs })

-- an input after its next value was taken
tail_at : (inputs : List (List ℤ)) (port : ℕ) → get_or (set inputs port (tail (get_or inputs port []))) port [] ≡ tail (get_or inputs port [])
tail_at [] port = refl
tail_at (xs ∷ inputs) zero = refl
tail_at (xs ∷ inputs) (suc port) = tail_at inputs port

replays_receive : (vars : List Var) (v port : ℕ) → Replays (exec_act (receive v port) vars)
replays_receive vars v port some rest m other h =
    let x = next_input m port in
    let same : next_input other port ≡ x = at_port (some port) refl in
    record {
      events = ap (λ y. event Receive port y ∷ []) same;
      memory =
          record {
            cells = ap (λ cells. set_word vars cells v (next_input other port)) h.cells ∙ ap (set_word vars m.cells v) same;
            inputs = λ i. ⊎_elim (λ (e : i ≡ port). subst (λ k. Left k) (sym e) (here (some port) refl)) (λ (ne : i ≢ port). elsewhere i ne) (cases_eq i port);
          };
    }
  where
    o : Outcome
    o = exec_act (receive v port) vars m

    took : first_taken o rest port ≡ next_input m port ∷ rest port
    took = ap (λ b. (cond b (next_input m port ∷ []) [] ++ []) ++ rest port) (eq-eqb port port refl)

    there : (b : Bool) → some port ≡ b → get_or other.inputs port [] ≡ cond b (next_input m port ∷ rest port) (get_or m.inputs port [])
    there b e = h.inputs port ∙ ap (λ xs. cond (some port) xs (get_or m.inputs port [])) took ∙ ap (λ c. cond c (next_input m port ∷ rest port) (get_or m.inputs port [])) e

    at_port : (b : Bool) → some port ≡ b → next_input other port ≡ next_input m port
    at_port true e = ap head_or_zero (there true e)
    at_port false e = ap head_or_zero (there false e)

    Left : ℕ → Type 0
    Left i = get_or (set other.inputs port (tail (get_or other.inputs port []))) i [] ≡ cond (some i) (rest i) (get_or (set m.inputs port (tail (get_or m.inputs port []))) i [])

    here : (b : Bool) → some port ≡ b → Left port
    here true e = tail_at other.inputs port ∙ ap tail (there true e) ∙ sym (ap (λ b. cond b (rest port) (get_or (set m.inputs port (tail (get_or m.inputs port []))) port [])) e)
    here false e = tail_at other.inputs port ∙ ap tail (there false e) ∙ sym (tail_at m.inputs port) ∙ sym (ap (λ b. cond b (rest port) (get_or (set m.inputs port (tail (get_or m.inputs port []))) port [])) e)

    none : (i : ℕ) → i ≢ port → first_taken o rest i ≡ rest i
    none i ne = ap (λ b. (cond b (next_input m port ∷ []) [] ++ []) ++ rest i) (ne_eqb port i (λ e. ne (sym e)))

    elsewhere : (i : ℕ) → i ≢ port → Left i
    elsewhere i ne =
        get_or-set_other other.inputs port i (tail (get_or other.inputs port [])) [] ne ∙ h.inputs i ∙ ap (λ xs. cond (some i) xs (get_or m.inputs i [])) (none i ne)
        ∙ sym (ap (λ xs. cond (some i) (rest i) xs) (get_or-set_other m.inputs port i (tail (get_or m.inputs port [])) [] ne))

replays_send : (vars : List Var) (e : Expr) (port : ℕ) → Replays (exec_act (send e port) vars)
replays_send vars e port some rest m other h =
    record { events = ap (λ cells. event Send port (value e vars cells) ∷ []) h.cells; memory = record { cells = h.cells; inputs = h.inputs } }

replays_choice : (test : Expr) (vars : List Var) (a b : Memory → Outcome) → Replays a → Replays b → Replays (λ m. (cond (holds (value test vars m.cells)) a b) m)
replays_choice test vars a b first second some rest m other h = by_test (holds (value test vars m.cells)) refl
  where
    run : Memory → Outcome
    run k = cond (holds (value test vars k.cells)) a b k

    by_test : (c : Bool) → holds (value test vars m.cells) ≡ c → Same some rest (run m) (run other)
    by_test true e =
        let mine : run m ≡ a m = ap (λ c. cond c a b m) e in
        let yours : run other ≡ a other = ap (λ c. cond c a b other) (ap (λ cells. holds (value test vars cells)) h.cells ∙ e) in
        subst (λ o. Same some rest o (run other)) (sym mine) (subst (Same some rest (a m)) (sym yours) (first some rest m other (subst (λ o. Alongside some (first_taken o rest) m other) mine h)))
    by_test false e =
        let mine : run m ≡ b m = ap (λ c. cond c a b m) e in
        let yours : run other ≡ b other = ap (λ c. cond c a b other) (ap (λ cells. holds (value test vars cells)) h.cells ∙ e) in
        subst (λ o. Same some rest o (run other)) (sym mine) (subst (Same some rest (b m)) (sym yours) (second some rest m other (subst (λ o. Alongside some (first_taken o rest) m other) mine h)))

replays_inside : (id : ℕ) (window : Window) (run : Memory → Outcome) → Replays run → Replays (λ m. inside id window (run m))
replays_inside id window run each some rest m other h =
    let did = each some rest m other (alongside_as some (first_taken (inside id window (run m)) rest) (first_taken (run m) rest) m other (λ i. ap (λ vs. vs ++ rest i) (values-enclosed i id window true (run m).events)) h) in
    record { events = ap (enclosed id window true) did.events; memory = record { cells = did.memory.cells; inputs = did.memory.inputs } }

mutual
  pub replays_block : (b : Block) (vars : List Var) → Replays (exec b vars)
  replays_block done vars = replays_quiet
  replays_block (next s rest) vars = replays_then (exec_stmt s vars) (exec rest vars) (replays_stmt s vars) (replays_block rest vars)

  replays_stmt : (s : Stmt) (vars : List Var) → Replays (exec_stmt s vars)
  replays_stmt (item id act) vars = replays_act act vars
  replays_stmt (choice id test held other) vars = replays_choice test vars (exec held vars) (exec other vars) (replays_block held vars) (replays_block other vars)
  replays_stmt (timed id window body) vars = replays_inside id window (exec body vars) (replays_block body vars)

  replays_act : (act : Act) (vars : List Var) → Replays (exec_act act vars)
  replays_act (assign v e) vars = replays_words (λ cells. set_word vars cells v (value e vars cells))
  replays_act (assign_at v i e) vars = replays_words (λ cells. set_element vars cells v (value i vars cells) (value e vars cells))
  replays_act (receive v port) vars = replays_receive vars v port
  replays_act (send e port) vars = replays_send vars e port
  replays_act (for_loop v n body) vars = replays_rounds (λ j k. exec body vars (with_cells k (set_word vars k.cells v (pos j)))) (λ j. replays_behind_words (λ cells. set_word vars cells v (pos j)) (exec body vars) (replays_block body vars)) n
  replays_act (while_loop test n body) vars = replays_while (λ k. holds (value test vars k.cells)) (exec body vars) (λ m other same. ap (λ cells. holds (value test vars cells)) same) (replays_block body vars) n
  replays_act (copy from to) vars = replays_words (λ cells. copy_words vars cells from to)
