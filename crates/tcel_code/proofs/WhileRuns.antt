-- The code of a `while`: its counter begins at 0, and a round tests, runs the body and counts.
use Rattle.std.proofs.Common.{pos, ◌≡◌, ℕ, zero, suc, ◌+◌, ◌<◌, ◌≤◌, Bool, true, false, ℤ, List, [], ◌++◌, length, refl, sym, ap, ◌∙◌, subst, arith, append_assoc, length-append, inl, inr}
use Rattle.std.specs.Prelude.{nat_lt}
use Rattle.std.proofs.lemmas.Bool.{lt-ltb, le-ltb, cond-false, cond_both, cond-true}
use Rattle.tcel_num.specs.Arithmetic.{holds}
use Rattle.tcel_core.specs.Contents.{loops}
use Rattle.tcel_core.specs.Language.{Expr, Block, while_loop}
use Rattle.tcel_core.specs.Meaning.{exec, value}
use Rattle.tcel_core.specs.Outcome.{Memory, quiet, rounds_while, then_run}
use Rattle.tcel_core.specs.Scope.{ActFits, IsSound}
use Rattle.tcel_core.proofs.Remain.{takes}
use Rattle.tcel_image.specs.declared.image.Instr.TheVariants.{Branch, Const, Loop, Put}
use Rattle.tcel_code.specs.Code.{at, expr_code, act_code, block_code}
use Rattle.tcel_code.specs.Counters.{in_order}
use Rattle.tcel_code.proofs.Counters.{ordered}
use Rattle.tcel_cost.specs.Expressions.{expr_cycles}
use Rattle.tcel_cost.specs.Walks.{Counts, WhileWalks, Walks, Then, RoundsUpTo, Passes}
use Rattle.tcel_code.proofs.ExprRuns.{Stands, stands_front, stands_back}
use Rattle.tcel_code.proofs.LoopRuns.{LoopIn, AtTurn, loop_end, after_turns, begin_goes, begun, turn_goes}
use Rattle.tcel_code.proofs.Runs.{ActDoes, BlockDoes, Goes, InOrder, goes_by, goes_from, goes_lower, goes_to, stays_goes, test_goes, then_goes}
use Rattle.tcel_cost.proofs.RunWalks.{run_walk}
use Rattle.tcel_code.proofs.Steps.{Setting, LineAt}

-- a round, and then some more and a last test
round_and_more : (n : ℕ) (round tested : Counts) (entry end : ℕ) (events : List ℕ) → Then round (RoundsUpTo n round tested) entry end events → RoundsUpTo (suc n) round tested entry end events
round_and_more n round tested entry end events w = go w.two
  where
    go : RoundsUpTo n round tested w.middle end w.after → RoundsUpTo (suc n) round tested entry end events
    go (inl fewer) =
        inl (
          suc fewer.0,
          (let less = fewer.1 in omega arith),
          record {
            middle = fewer.2.middle;
            before = w.before ++ fewer.2.before;
            after = fewer.2.after;
            one = record { middle = w.middle; before = w.before; after = fewer.2.before; one = w.one; two = fewer.2.one; joined = refl };
            two = fewer.2.two;
            joined = w.joined ∙ ap (λ l. w.before ++ l) fewer.2.joined ∙ sym (append_assoc w.before fewer.2.before fewer.2.after);
          },
        )
    go (inr all) = inr (record { middle = w.middle; before = w.before; after = w.after; one = w.one; two = all; joined = w.joined })

module _ (s : Setting) (l : LoopIn s) (test : Expr) (sound : IsSound s.vars test) (tested : Stands s.task.code l.top (expr_code test s.vars 0 ++ at 1 (Branch (loop_end s l)))) (at_body : l.top + length (expr_code test s.vars 0) + 1 ≡ l.body_at) where
  open s use {costs, vars}
  open l use {turns, are_turns, body, counter, low, top, floor}

  abbrev test_cycles : ℕ
  test_cycles = expr_cycles costs test + costs.branch

  abbrev WhileRound : Counts
  WhileRound = Then (Passes test_cycles) (Then (Walks body vars costs) (Passes costs.loop_))

  abbrev holds_in : Memory → Bool
  holds_in m = holds (value test vars m.cells)

  -- so many rounds at most, where as many are done
  while_turns : (i j : ℕ) → i + j ≡ turns → (m : Memory) (entry : ℕ) (others : List ℤ) (taken : List ℕ) → AtTurn s l j m others taken →
      Goes s (RoundsUpTo i WhileRound (Passes test_cycles)) (rounds_while i holds_in (exec body vars) m) low (after_turns s l j) (loop_end s l) entry floor m.cells others taken
  while_turns zero j all_done m entry others taken now =
      let at_end = cond-false (nat_lt j turns) top (loop_end s l) (le-ltb j turns (omega arith)) in
      goes_by s (RoundsUpTo zero WhileRound (Passes test_cycles)) (stays_goes s m low (after_turns s l j) (loop_end s l) entry floor others taken at_end) (λ from to es w. inr w)
  while_turns (suc i) j some_left m entry others taken now =
      let less : j < turns = omega arith in
      let at_top : top ≡ after_turns s l j = sym (cond-true (nat_lt j turns) top (loop_end s l) (lt-ltb j turns less)) in
      let Walk = RoundsUpTo (suc i) WhileRound (Passes test_cycles) in
      let o = exec body vars m in
      goes_from s
      (cond_both (holds_in m) (λ k. then_run (exec body vars k) (rounds_while i holds_in (exec body vars))) quiet (λ f. Goes s Walk (f m) low top (loop_end s l) entry floor m.cells others taken)
      (λ is.
      let first = goes_to s (test_goes s test sound true m low top (loop_end s l) entry floor others taken now.order.words tested is) at_body in
      let turn = turn_goes s l j m first.end others taken now less in
      let rest = while_turns i (suc j) (omega arith) o.memory turn.0.end turn.0.left (takes o.events taken) turn.1 in
      goes_by s Walk (then_goes s (rounds_while i holds_in (exec body vars)) (then_goes s (exec body vars) first turn.0) rest) (round_and_more i WhileRound (Passes test_cycles)))
      (λ is.
      goes_by s Walk (test_goes s test sound false m low top (loop_end s l) entry floor others taken now.order.words tested is)
      (λ from to es w. inl (0, omega arith, record { middle = from; before = []; after = es; one = (omega arith, refl); two = w; joined = refl }))))
      at_top

  -- the whole loop
  while_goes : (m : Memory) (p q entry : ℕ) (others : List ℤ) (taken : List ℕ) → InOrder s m taken → low + (1 + loops body) ≤ length others → LineAt s p 0 (Const (pos 0)) → LineAt s (p + 1) 1 (Put counter) →
      p + 2 ≡ top → loop_end s l ≡ q → Goes s (WhileWalks costs test_cycles turns (Walks body vars costs)) (rounds_while turns holds_in (exec body vars) m) low p q entry floor m.cells others taken
  while_goes m p q entry others taken order room one two at_top at_end =
      let some = are_turns.some in
      let first = begin_goes s l m p entry others taken order.words one two at_top in
      let rest = while_turns turns 0 (omega arith) m first.end first.left taken (begun s l m others taken order room) in
      goes_to s (then_goes s (rounds_while turns holds_in (exec body vars)) first (goes_from s rest (cond-true (nat_lt 0 turns) top (loop_end s l) (lt-ltb 0 turns some)))) at_end

module _ (s : Setting) where
  open s use {task, vars}

  -- where its body does what it means, a `while` does
  pub while_runs : (test : Expr) (n : ℕ) (body : Block) → ActFits (while_loop test n body) vars → BlockDoes s body → ActDoes s (while_loop test n body)
  while_runs test n body fits body_does m low p entry floor counter others taken order has stands =
      let own = has (omega arith) in
      let number = own.number in
      let at_number = own.at in
      let before = expr_code test vars 0 in
      let from = p + 2 + length before + 1 in
      let code = block_code body vars from (in_order (counter + 1)) in
      let line = at 0 (Loop counter n (p + 2)) in
      let branch = at 1 (Branch (from + length code + 1)) in
      let two : p + 1 + 1 ≡ p + 2 = omega arith in
      let behind = subst (λ k. Stands task.code k (before ++ (branch ++ (code ++ line)))) two stands.1.1 in
      let tested = stands_front task.code (p + 2) (before ++ branch) (code ++ line) (subst (Stands task.code (p + 2)) (sym (append_assoc before branch (code ++ line))) behind) in
      let body_stands = (stands_back task.code (p + 2) before (branch ++ (code ++ line)) behind).1 in
      let l : LoopIn s = record {
        turns = n;
        are_turns = fits.1;
        body = body;
        fits = fits.2;
        counter = counter;
        low = number;
        at_low = own.at;
        top = p + 2;
        body_at = from;
        code = code;
        floor = floor;
        body_goes =
            λ m' entry' others' taken' order' room'.
            goes_by s (Walks body vars s.costs)
            (body_does m' (suc number) from entry' floor (in_order (counter + 1)) others' taken' order'
            (ordered vars (suc number) (length others') body (counter + 1) (suc number) (omega arith) (omega arith) room') (stands_front task.code from code line body_stands))
            (run_walk body vars s.costs m');
        count = (stands_back task.code from code line body_stands).0;
      } in
      goes_lower s low
      (while_goes s l test fits.0 tested refl m p (p + length (act_code (while_loop test n body) vars p counter)) entry others taken order own.within stands.0 stands.1.0 refl
      (omega (arith, length-append before (branch ++ (code ++ line)), length-append code line)))
      own.above
