-- Bodies of checked programs: what they leave of words and inputs, and which events they make.
use Rattle.std.proofs.Common.{pos, ◌≡◌, ℕ, zero, suc, Bool, true, false, cond, ℤ, List, [], ◌∷◌, ◌++◌, length, get_or, refl, sym, ap, ◌∙◌, subst, arith}
use Rattle.std.proofs.lemmas.Bool.{cond_both, true≢false}
use Rattle.std.proofs.lemmas.List.{length-set}
use Rattle.tcel_num.specs.Arithmetic.{holds}
use Rattle.tcel_num.proofs.Words.{length-with_element, length-copied}
use Rattle.tcel_core.specs.declared.var.Var.{Var}
use Rattle.tcel_core.specs.Cells.{all_words, place, width, set_word}
use Rattle.tcel_core.specs.Contents.{has_event, stmt_has_event, act_has_event}
use Rattle.tcel_core.specs.Language.{Block, done, next, Window, Stmt, item, choice, timed, Act, assign, assign_at, receive, send, for_loop, while_loop, copy}
use Rattle.tcel_core.specs.Meaning.{exec, exec_act, exec_stmt, head_or_zero, value, with_cells}
use Rattle.tcel_core.specs.Outcome.{Memory, Occurrence, Outcome, enclosed, quiet, rounds, rounds_while, then_run}
use Rattle.tcel_core.proofs.Remain.{Remain, take_one, takes, takes-append, remain_after}
use Rattle.tcel_core.specs.Scope.{Fits, StmtFits, ActFits, IsUntimed, StmtIsUntimed, ActIsUntimed}
use Rattle.tcel_core.proofs.Scope.{array_within}

-- ---- events in blocks

pub length-enclosed : (id : ℕ) (window : Window) (leads : Bool) (events : List Occurrence) → length (enclosed id window leads events) ≡ length events
length-enclosed id window leads [] = refl
length-enclosed id window leads (e ∷ events) = ap suc (length-enclosed id window false events)

-- the blocks around events take nothing from inputs
pub takes-enclosed : (id : ℕ) (window : Window) (leads : Bool) (events : List Occurrence) (taken : List ℕ) → takes (enclosed id window leads events) taken ≡ takes events taken
takes-enclosed id window leads [] taken = refl
takes-enclosed id window leads (e ∷ events) taken = takes-enclosed id window false events (take_one e.kind e.port taken)

-- ---- what rounds keep

-- what each round keeps, all of them keep
pub rounds_keep : (P : Memory → List ℕ → Type 0) (round : ℕ → Memory → Outcome) → ((j : ℕ) (m : Memory) (t : List ℕ) → P m t → P (round j m).memory (takes (round j m).events t)) →
    (n : ℕ) (m : Memory) (t : List ℕ) → P m t → P (rounds n round m).memory (takes (rounds n round m).events t)
rounds_keep P round keep zero m t h = h
rounds_keep P round keep (suc n) m t h =
    let o = rounds n round m in
    let last = round n o.memory in
    subst (P last.memory) (sym (takes-append o.events last.events t)) (keep n o.memory (takes o.events t) (rounds_keep P round keep n m t h))

pub while_keeps : (P : Memory → List ℕ → Type 0) (test : Memory → Bool) (round : Memory → Outcome) → ((m : Memory) (t : List ℕ) → P m t → P (round m).memory (takes (round m).events t)) →
    (n : ℕ) (m : Memory) (t : List ℕ) → P m t → P (rounds_while n test round m).memory (takes (rounds_while n test round m).events t)
while_keeps P test round keep zero m t h = h
while_keeps P test round keep (suc n) m t h =
    let o = round m in
    let rest = rounds_while n test round o.memory in
    cond_both (test m) (λ k. then_run (round k) (rounds_while n test round)) quiet (λ f. P (f m).memory (takes (f m).events t))
    (λ _. subst (P rest.memory) (sym (takes-append o.events rest.events t)) (while_keeps P test round keep n o.memory (takes o.events t) (keep m t h))) (λ _. h)

-- what holds of each round's events holds of all of them
rounds_events : (E : List Occurrence → Type 0) → E [] → ((a b : List Occurrence) → E a → E b → E (a ++ b)) → (round : ℕ → Memory → Outcome) → ((j : ℕ) (m : Memory) → E (round j m).events) →
    (n : ℕ) (m : Memory) → E (rounds n round m).events
rounds_events E none both round each zero m = none
rounds_events E none both round each (suc n) m = let o = rounds n round m in both o.events (round n o.memory).events (rounds_events E none both round each n m) (each n o.memory)

while_events : (E : List Occurrence → Type 0) → E [] → ((a b : List Occurrence) → E a → E b → E (a ++ b)) → (test : Memory → Bool) (round : Memory → Outcome) → ((m : Memory) → E (round m).events) →
    (n : ℕ) (m : Memory) → E (rounds_while n test round m).events
while_events E none both test round each zero m = none
while_events E none both test round each (suc n) m =
    cond_both (test m) (λ k. then_run (round k) (rounds_while n test round)) quiet (λ f. E (f m).events)
    (λ _. both (round m).events (rounds_while n test round (round m).memory).events (each m) (while_events E none both test round each n (round m).memory)) (λ _. none)

mutual
  -- they leave as many words
  pub block_words : (b : Block) (vars : List Var) → Fits b vars → (m : Memory) → length m.cells ≡ all_words vars → length (exec b vars m).memory.cells ≡ all_words vars
  block_words done vars h m long = long
  block_words (next s rest) vars h m long = block_words rest vars h.1 (exec_stmt s vars m).memory (stmt_words s vars h.0 m long)

  pub stmt_words : (s : Stmt) (vars : List Var) → StmtFits s vars → (m : Memory) → length m.cells ≡ all_words vars → length (exec_stmt s vars m).memory.cells ≡ all_words vars
  stmt_words (item id act) vars h m long = act_words act vars h m long
  stmt_words (choice id test held other) vars h m long =
      cond_both (holds (value test vars m.cells)) (exec held vars) (exec other vars) (λ f. length (f m).memory.cells ≡ all_words vars)
      (λ _. block_words held vars h.1 m long) (λ _. block_words other vars h.2 m long)
  stmt_words (timed id window body) vars h m long = block_words body vars h m long

  act_words : (act : Act) (vars : List Var) → ActFits act vars → (m : Memory) → length m.cells ≡ all_words vars → length (exec_act act vars m).memory.cells ≡ all_words vars
  act_words (assign v e) vars h m long = length-set m.cells (place vars v) (value e vars m.cells) ∙ long
  act_words (assign_at v i e) vars h m long = length-with_element m.cells (place vars v) (width vars v) (value i vars m.cells) (value e vars m.cells) ∙ long
  act_words (receive v port) vars h m long = length-set m.cells (place vars v) (head_or_zero (get_or m.inputs port [])) ∙ long
  act_words (send e port) vars h m long = long
  act_words (for_loop v n body) vars h m long =
      rounds_keep (λ k _. length k.cells ≡ all_words vars) (λ j k. exec body vars (with_cells k (set_word vars k.cells v (pos j))))
      (λ j k t same. block_words body vars h.2 (with_cells k (set_word vars k.cells v (pos j))) (length-set k.cells (place vars v) (pos j) ∙ same)) n m [] long
  act_words (while_loop test n body) vars h m long =
      while_keeps (λ k _. length k.cells ≡ all_words vars) (λ k. holds (value test vars k.cells)) (exec body vars) (λ k t same. block_words body vars h.2 k same) n m [] long
  act_words (copy a b) vars h m long =
      let one = array_within vars a in
      let two = array_within vars b in
      let same = h.same in
      length-copied m.cells (place vars a) (place vars b) (width vars a) (omega arith) (omega arith) ∙ long

mutual
  -- statements take from the inputs what the machine takes
  pub block_remains : (b : Block) (vars : List Var) → Fits b vars → (inputs : List (List ℤ)) (m : Memory) (taken : List ℕ) → Remain inputs m.inputs taken →
      Remain inputs (exec b vars m).memory.inputs (takes (exec b vars m).events taken)
  block_remains done vars h inputs m taken remain = remain
  block_remains (next s rest) vars h inputs m taken remain =
      let o = exec_stmt s vars m in
      let behind = block_remains rest vars h.1 inputs o.memory (takes o.events taken) (stmt_remains s vars h.0 inputs m taken remain) in
      subst (λ t. Remain inputs (exec rest vars o.memory).memory.inputs t) (sym (takes-append o.events (exec rest vars o.memory).events taken)) behind

  pub stmt_remains : (s : Stmt) (vars : List Var) → StmtFits s vars → (inputs : List (List ℤ)) (m : Memory) (taken : List ℕ) → Remain inputs m.inputs taken →
      Remain inputs (exec_stmt s vars m).memory.inputs (takes (exec_stmt s vars m).events taken)
  stmt_remains (item id act) vars h inputs m taken remain = act_remains act vars h inputs m taken remain
  stmt_remains (choice id test held other) vars h inputs m taken remain =
      cond_both (holds (value test vars m.cells)) (exec held vars) (exec other vars) (λ f. Remain inputs (f m).memory.inputs (takes (f m).events taken))
      (λ _. block_remains held vars h.1 inputs m taken remain) (λ _. block_remains other vars h.2 inputs m taken remain)
  stmt_remains (timed id window body) vars h inputs m taken remain =
      subst (λ t. Remain inputs (exec body vars m).memory.inputs t) (sym (takes-enclosed id window true (exec body vars m).events taken))
      (block_remains body vars h inputs m taken remain)

  act_remains : (act : Act) (vars : List Var) → ActFits act vars → (inputs : List (List ℤ)) (m : Memory) (taken : List ℕ) → Remain inputs m.inputs taken →
      Remain inputs (exec_act act vars m).memory.inputs (takes (exec_act act vars m).events taken)
  act_remains (assign v e) vars h inputs m taken remain = remain
  act_remains (assign_at v i e) vars h inputs m taken remain = remain
  act_remains (receive v port) vars h inputs m taken remain = remain_after inputs m.inputs taken port remain
  act_remains (send e port) vars h inputs m taken remain = remain
  act_remains (for_loop v n body) vars h inputs m taken remain =
      rounds_keep (λ k t. Remain inputs k.inputs t) (λ j k. exec body vars (with_cells k (set_word vars k.cells v (pos j))))
      (λ j k t same. block_remains body vars h.2 inputs (with_cells k (set_word vars k.cells v (pos j))) t same) n m taken remain
  act_remains (while_loop test n body) vars h inputs m taken remain =
      while_keeps (λ k t. Remain inputs k.inputs t) (λ k. holds (value test vars k.cells)) (exec body vars) (λ k t same. block_remains body vars h.2 inputs k t same) n m taken remain
  act_remains (copy a b) vars h inputs m taken remain = remain

-- ---- where no event can come, none comes

no_events : (a b : List Occurrence) → a ≡ [] → b ≡ [] → a ++ b ≡ []
no_events a b h g = ap (λ l. l ++ b) h ∙ g

-- neither of two tests holds
neither : (a b : Bool) → cond a true b ≡ false → (a ≡ false) × (b ≡ false)
neither true b h = absurd (true≢false h)
neither false b h = (refl, h)

mutual
  pub block_quiet : (b : Block) (vars : List Var) → Fits b vars → has_event b ≡ false → (m : Memory) → (exec b vars m).events ≡ []
  block_quiet done vars h none m = refl
  block_quiet (next s rest) vars h none m =
      let both = neither (stmt_has_event s) (has_event rest) none in
      let o = exec_stmt s vars m in
      ap (λ l. l ++ (exec rest vars o.memory).events) (stmt_quiet s vars h.0 both.0 m) ∙ block_quiet rest vars h.1 both.1 o.memory

  stmt_quiet : (s : Stmt) (vars : List Var) → StmtFits s vars → stmt_has_event s ≡ false → (m : Memory) → (exec_stmt s vars m).events ≡ []
  stmt_quiet (item id act) vars h none m = act_quiet act vars h none m
  stmt_quiet (choice id test held other) vars h none m =
      let both = neither (has_event held) (has_event other) none in
      cond_both (holds (value test vars m.cells)) (exec held vars) (exec other vars) (λ f. (f m).events ≡ [])
      (λ _. block_quiet held vars h.1 both.0 m) (λ _. block_quiet other vars h.2 both.1 m)
  stmt_quiet (timed id window body) vars h none m = ap (enclosed id window true) (block_quiet body vars h none m)

  act_quiet : (act : Act) (vars : List Var) → ActFits act vars → act_has_event act ≡ false → (m : Memory) → (exec_act act vars m).events ≡ []
  act_quiet (assign v e) vars h none m = refl
  act_quiet (assign_at v i e) vars h none m = refl
  act_quiet (receive v port) vars h none m = absurd (true≢false none)
  act_quiet (send e port) vars h none m = absurd (true≢false none)
  act_quiet (for_loop v n body) vars h none m =
      rounds_events (λ es. es ≡ []) refl no_events (λ j k. exec body vars (with_cells k (set_word vars k.cells v (pos j))))
      (λ j k. block_quiet body vars h.2 none (with_cells k (set_word vars k.cells v (pos j)))) n m
  act_quiet (while_loop test n body) vars h none m =
      while_events (λ es. es ≡ []) refl no_events (λ k. holds (value test vars k.cells)) (exec body vars) (λ k. block_quiet body vars h.2 none k) n m
  act_quiet (copy a b) vars h none m = refl

-- ---- bodies with no `do` block

-- events with no block around them
abbrev pub ArePlain : List Occurrence → Type 0
ArePlain [] = Unit {0}
ArePlain (e ∷ es) = (e.around ≡ []) × ArePlain es

plain-append : (a b : List Occurrence) → ArePlain a → ArePlain b → ArePlain (a ++ b)
plain-append [] b h g = g
plain-append (e ∷ a) b h g = (h.0, plain-append a b h.1 g)

mutual
  pub block_plain : (b : Block) (vars : List Var) → Fits b vars → IsUntimed b → (m : Memory) → ArePlain (exec b vars m).events
  block_plain done vars h plain m = tt
  block_plain (next s rest) vars h plain m =
      let o = exec_stmt s vars m in
      plain-append o.events (exec rest vars o.memory).events (stmt_plain s vars h.0 plain.0 m) (block_plain rest vars h.1 plain.1 o.memory)

  stmt_plain : (s : Stmt) (vars : List Var) → StmtFits s vars → StmtIsUntimed s → (m : Memory) → ArePlain (exec_stmt s vars m).events
  stmt_plain (item id act) vars h plain m = act_plain act vars h plain m
  stmt_plain (choice id test held other) vars h plain m =
      cond_both (holds (value test vars m.cells)) (exec held vars) (exec other vars) (λ f. ArePlain (f m).events)
      (λ _. block_plain held vars h.1 plain.0 m) (λ _. block_plain other vars h.2 plain.1 m)
  stmt_plain (timed id window body) vars h plain m = absurd plain

  pub act_plain : (act : Act) (vars : List Var) → ActFits act vars → ActIsUntimed act → (m : Memory) → ArePlain (exec_act act vars m).events
  act_plain (assign v e) vars h plain m = tt
  act_plain (assign_at v i e) vars h plain m = tt
  act_plain (receive v port) vars h plain m = (refl, tt)
  act_plain (send e port) vars h plain m = (refl, tt)
  act_plain (for_loop v n body) vars h plain m =
      rounds_events ArePlain tt plain-append (λ j k. exec body vars (with_cells k (set_word vars k.cells v (pos j))))
      (λ j k. block_plain body vars h.2 plain (with_cells k (set_word vars k.cells v (pos j)))) n m
  act_plain (while_loop test n body) vars h plain m =
      while_events ArePlain tt plain-append (λ k. holds (value test vars k.cells)) (exec body vars) (λ k. block_plain body vars h.2 plain k) n m
  act_plain (copy a b) vars h plain m = tt
