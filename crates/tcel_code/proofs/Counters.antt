-- Which cells the counters of statements are.
use Rattle.std.proofs.Common.{◌≡◌, ℕ, ◌+◌, ◌<◌, ◌≤◌, List, [], ◌∷◌, ◌++◌, refl, sym, ◌∙◌, arith}
use Rattle.std.specs.Prelude.{◌==◌}
use Rattle.std.specs.List.{AllByRecursion}
use Rattle.std.proofs.lemmas.Bool.{cond_both, eq-eqb, false≢true}
use Rattle.tcel_core.specs.declared.var.Var.{Var}
use Rattle.tcel_core.specs.Cells.{all_words}
use Rattle.tcel_core.specs.Contents.{act_loops, loops, stmt_loops, Looped, item_loops, stmt_item_loops, loops_before}
use Rattle.tcel_core.specs.Language.{Block, done, next, Stmt, item, choice, timed, Act}
use Rattle.tcel_code.specs.Counters.{Counters, by_item, in_order, counter_of, behind, counters_of, HasItsCounters, HaveTheirCounters}

-- the counters of so many loops begin at a cell: it is among so many behind the words of the variables, and none of the lowest of these
pub record AreCounters (vars : List Var) (cell low room n : ℕ) : Type 0 where
  pub number : ℕ
  pub at : cell ≡ all_words vars + number
  pub above : low ≤ number
  pub within : number + n ≤ room

-- so are those of an act, where it has a loop
abbrev pub ActHasCounters : Act → List Var → (cell low room : ℕ) → Type 0
ActHasCounters act vars cell low room = 0 < act_loops act → AreCounters vars cell low room (act_loops act)

-- and those of statements
abbrev mutual
  pub HaveCounters : Block → List Var → Counters → (low room : ℕ) → Type 0
  HaveCounters done vars counters low room = Unit {0}
  HaveCounters (next s rest) vars counters low room = StmtHasCounters s vars counters low room × HaveCounters rest vars (behind counters (stmt_loops s)) low room

  pub StmtHasCounters : Stmt → List Var → Counters → (low room : ℕ) → Type 0
  StmtHasCounters (item id act) vars counters low room = ActHasCounters act vars (counter_of counters id) low room
  StmtHasCounters (choice id test held other) vars counters low room = HaveCounters held vars counters low room × HaveCounters other vars (behind counters (loops held)) low room
  StmtHasCounters (timed id window body) vars counters low room = HaveCounters body vars counters low room

-- ---- in a loop

module _ (vars : List Var) (low room : ℕ) where
  mutual
    pub ordered : (b : Block) (cell number : ℕ) → cell ≡ all_words vars + number → low ≤ number → number + loops b ≤ room → HaveCounters b vars (in_order cell) low room
    ordered done cell number at above within = tt
    ordered (next s rest) cell number at above within =
        (ordered_stmt s cell number at above (omega arith), ordered rest (cell + stmt_loops s) (number + stmt_loops s) (omega arith) (omega arith) (omega arith))

    ordered_stmt : (s : Stmt) (cell number : ℕ) → cell ≡ all_words vars + number → low ≤ number → number + stmt_loops s ≤ room → StmtHasCounters s vars (in_order cell) low room
    ordered_stmt (item id act) cell number at above within = λ some. record { number = number; at = at; above = above; within = within }
    ordered_stmt (choice id test held other) cell number at above within =
        (ordered held cell number at above (omega arith), ordered other (cell + loops held) (number + loops held) (omega arith) (omega arith) (omega arith))
    ordered_stmt (timed id window body) cell number at above within = ordered body cell number at above within

-- ---- outside loops

front : (P : Looped → Type 0) (a b : List Looped) → AllByRecursion P (a ++ b) → AllByRecursion P a
front P [] b h = tt
front P (i ∷ a) b h = (h.0, front P a b h.1)

back : (P : Looped → Type 0) (a b : List Looped) → AllByRecursion P (a ++ b) → AllByRecursion P b
back P [] b h = h
back P (i ∷ a) b h = back P a b h.1

module _ (source : Block) (vars : List Var) where
  abbrev first_of : ℕ → ℕ
  first_of id = all_words vars + loops_before id (item_loops source)

  mutual
    among : (part : Block) → HaveTheirCounters source part → HaveCounters part vars (by_item first_of) 0 (loops source)
    among done h = tt
    among (next s rest) h =
        (among_stmt s (front (HasItsCounters source) (stmt_item_loops s) (item_loops rest) h), among rest (back (HasItsCounters source) (stmt_item_loops s) (item_loops rest) h))

    among_stmt : (s : Stmt) → AllByRecursion (HasItsCounters source) (stmt_item_loops s) → StmtHasCounters s vars (by_item first_of) 0 (loops source)
    among_stmt (item id act) h = λ some. record { number = loops_before id (item_loops source); at = refl; above = omega arith; within = h.0 some }
    among_stmt (choice id test held other) h =
        (among held (front (HasItsCounters source) (item_loops held) (item_loops other) h), among other (back (HasItsCounters source) (item_loops held) (item_loops other) h))
    among_stmt (timed id window body) h = among body h

-- the counters of a part's loops, behind the words of its variables
pub part_counters : (source part : Block) (vars : List Var) → HaveTheirCounters source part → HaveCounters part vars (counters_of source vars) 0 (loops source)
part_counters source part vars h = among source vars part h

-- ---- those of the source itself

abbrev together : List Looped → ℕ
together [] = 0
together (i ∷ items) = i.loops + together items

together-append : (a b : List Looped) → together (a ++ b) ≡ together a + together b
together-append [] b = omega arith
together-append (i ∷ a) b = let rest = together-append a b in omega arith

mutual
  all_together : (b : Block) → together (item_loops b) ≡ loops b
  all_together done = refl
  all_together (next s rest) = omega (arith, together-append (stmt_item_loops s) (item_loops rest), stmt_together s, all_together rest)

  stmt_together : (s : Stmt) → together (stmt_item_loops s) ≡ stmt_loops s
  stmt_together (item id act) = omega arith
  stmt_together (choice id test held other) = omega (arith, together-append (item_loops held) (item_loops other), all_together held, all_together other)
  stmt_together (timed id window body) = all_together body

-- what stands in front of an item of a list, and the item itself, are no more than the whole
record IsRoomy (items : List Looped) (i : Looped) : Type 0 where
  room : loops_before i.id items + i.loops ≤ together items

one_more : (i : Looped) (items : List Looped) (j : Looped) → IsRoomy items j → IsRoomy (i ∷ items) j
one_more i items j h =
    let room = h.room in
    record { room = cond_both (i.id == j.id) 0 (i.loops + loops_before j.id items) (λ n. n + j.loops ≤ together (i ∷ items)) (λ _. omega arith) (λ _. omega arith) }

all_more : (i : Looped) (items some : List Looped) → AllByRecursion (IsRoomy items) some → AllByRecursion (IsRoomy (i ∷ items)) some
all_more i items [] h = tt
all_more i items (j ∷ some) h = (one_more i items j h.0, all_more i items some h.1)

all_roomy : (items : List Looped) → AllByRecursion (IsRoomy items) items
all_roomy [] = tt
all_roomy (i ∷ items) =
    let own : IsRoomy (i ∷ items) i =
    record { room = cond_both (i.id == i.id) 0 (i.loops + loops_before i.id items) (λ n. n + i.loops ≤ together (i ∷ items)) (λ _. omega arith) (λ other. absurd (false≢true (sym other ∙ eq-eqb i.id i.id refl))) } in
    (own, all_more i items items (all_roomy items))

given : (source : Block) (some : List Looped) → AllByRecursion (IsRoomy (item_loops source)) some → AllByRecursion (HasItsCounters source) some
given source [] h = tt
given source (i ∷ some) h = (λ _. let room = h.0.room in omega (arith, all_together source), given source some h.1)

-- a source has its own counters
pub own_counters : (source : Block) → HaveTheirCounters source source
own_counters source = given source (item_loops source) (all_roomy (item_loops source))
