-- The code of a `do` block, behind its hold: its events are made no earlier than its window asks.
use Rattle.std.proofs.Common.{◌≡◌, ℕ, ◌+◌, ◌⊎◌, true, ℤ, List, [], ◌∷◌, ◌++◌, length, refl, sym, ◌∙◌, subst, arith, length-append, Option, Some, None, inl, inr}
use Rattle.std.specs.Prelude.{max, unwrap_or}
use Rattle.std.proofs.lemmas.Bool.{cases_Bool, cond-true}
use Rattle.tcel_core.specs.declared.var.Var.{Var}
use Rattle.tcel_core.specs.Contents.{has_event, hold_of}
use Rattle.tcel_core.specs.Language.{Block, Window, timed}
use Rattle.tcel_core.specs.Meaning.{exec}
use Rattle.tcel_core.specs.Outcome.{Memory, Occurrence, enclosed}
use Rattle.tcel_core.specs.Scope.{Fits}
use Rattle.tcel_core.proofs.Bodies.{block_quiet, length-enclosed, takes-enclosed}
use Rattle.tcel_core.proofs.Remain.{takes}
use Rattle.tcel_image.specs.declared.image.Line.{Line}
use Rattle.tcel_code.specs.Code.{block_code, hold_code}
use Rattle.tcel_cost.specs.Walks.{held_entry}
use Rattle.tcel_code.proofs.Ahead.{Due, has_started, holds_on}
use Rattle.tcel_code.proofs.Dues.{AllSuit, suit_inside}
use Rattle.tcel_code.proofs.ExprRuns.{Stands, stands_back}
use Rattle.tcel_code.proofs.Runs.{release, From, BlockDoes, StmtDoes}
use Rattle.tcel_code.proofs.Steps.{Setting, AheadAt, ready_at, ahead_at}

-- a hold's bound is the time that the window asks for, or no event stands in the block
of_window : (window : Window) (body : Block) (vars : List Var) → Fits body vars → (m : Memory) → (hold_of window body ≡ window.after) ⊎ ((exec body vars m).events ≡ [])
of_window window body vars fits m =
    elim (cases_Bool (has_event body)) [
      | inl some ↦ inl (cond-true _ _ _ some)
      | inr none ↦ inr (block_quiet body vars fits none m)
    ]

-- without events, dues suit from any time on
quiet_suit : (from floor later : ℕ) (counts : List ℕ) (dues : List Due) → AllSuit from floor counts [] dues → AllSuit from later counts [] dues
quiet_suit from floor later [] [] suit = tt
quiet_suit from floor later [] (d ∷ dues) suit = absurd suit
quiet_suit from floor later (c ∷ counts) dues suit = absurd suit

module _ (s : Setting) where
  open s use {costs, task, inputs, last, vars, stack, frame}

  -- the time from which on the block runs
  abbrev inner_floor : ℕ → Option ℕ → ℕ
  inner_floor floor hold = max floor (release s + unwrap_or hold 0)

  inner_suit : (hold : Option ℕ) (floor id : ℕ) (window : Window) (counts : List ℕ) (events : List Occurrence) (dues : List Due) → (hold ≡ window.after) ⊎ (events ≡ []) →
      AllSuit (release s) floor counts (enclosed id window true events) dues → AllSuit (release s) (inner_floor floor hold) counts events dues
  inner_suit hold floor id window counts events dues (inl is) suit =
      subst (λ after. AllSuit (release s) (inner_floor floor after) counts events dues) (sym is) (suit_inside (release s) floor id window true counts events dues suit)
  inner_suit hold floor id window counts events dues (inr none) suit =
      subst (λ es. AllSuit (release s) (inner_floor floor hold) counts es dues) (sym none)
      (quiet_suit (release s) floor (inner_floor floor hold) counts dues (subst (λ es. AllSuit (release s) floor counts (enclosed id window true es) dues) none suit))

  -- past the hold
  held_from : (hold : Option ℕ) (code : List Line) (p entry floor : ℕ) (cells others : List ℤ) (taken : List ℕ) (dues : List Due) → Stands task.code p (hold_code hold ++ code) →
      From s (held_entry hold entry) (inner_floor floor hold) dues (p + length (hold_code hold)) cells others taken → From s entry floor dues p cells others taken
  held_from None code p entry floor cells others taken dues stands then' ran since h waited low =
      let same : p + 0 ≡ p = omega arith in subst (λ k. AheadAt s ran since k stack (cells ++ others) taken dues) same (then' ran since h waited (omega arith))
  held_from (Some bound) code p entry floor cells others taken dues stands then' ran since h waited low =
      holds_on costs task inputs bound 0 (ready_at costs p stack (cells ++ others) frame taken) (has_started costs) stands.0 last dues (max (entry + 1) bound) floor (omega arith)
      (λ ran' since' h' waited' held low'. then' ran' since' h' waited' (omega arith)) (release s + bound) 0 ran since (omega arith) waited (omega arith) low

  -- where its body does what it means, a `do` block does
  pub timed_runs : (id : ℕ) (window : Window) (body : Block) → Fits body vars → BlockDoes s body → StmtDoes s (timed id window body)
  timed_runs id window body fits body_does m low p entry floor counters others taken order has stands =
      let hold = hold_of window body in
      let from = p + length (hold_code hold) in
      let code = block_code body vars from counters in
      let o = exec body vars m in
      let r = body_does m low from (held_entry hold entry) (inner_floor floor hold) counters others taken order has (stands_back task.code p (hold_code hold) code stands) in
      let end_at : p + length (hold_code hold ++ code) ≡ from + length code = omega (arith, length-append (hold_code hold) code) in
      let taken_same = takes-enclosed id window true o.events taken in record {
        end = r.end;
        counts = r.counts;
        left = r.left;
        walk = r.walk;
        each = r.each ∙ sym (length-enclosed id window true o.events);
        as_many = r.as_many;
        kept = r.kept;
        ahead =
            λ dues later suit then'.
            held_from hold code p entry floor m.cells others taken (dues ++ later) stands
            (r.ahead dues later (inner_suit hold floor id window r.counts o.events dues (of_window window body vars fits m) suit)
            (λ ran since h waited low'.
            ahead_at s (takes o.events taken) later _ _ _ _ _ _ stack (o.memory.cells ++ r.left) refl refl end_at
            (subst (λ t. AheadAt s ran since (p + length (hold_code hold ++ code)) stack (o.memory.cells ++ r.left) t later) taken_same (then' ran since h waited (omega arith)))));
      }
