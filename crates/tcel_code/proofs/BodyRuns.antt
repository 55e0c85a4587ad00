-- The code of statements on the machine: what it leaves is what the statements mean, and its ticks are at most those of a walk.
use Rattle.std.proofs.Common.{ℕ, ◌+◌, length, sym, subst, arith}
use Rattle.tcel_core.specs.Contents.{stmt_loops}
use Rattle.tcel_core.specs.Language.{Block, done, next, Stmt, item, choice, timed, Act, assign, assign_at, receive, send, for_loop, while_loop, copy}
use Rattle.tcel_core.specs.Meaning.{exec, exec_stmt}
use Rattle.tcel_core.specs.Scope.{ActFits, StmtFits, Fits}
use Rattle.tcel_core.proofs.Bodies.{stmt_words, stmt_remains}
use Rattle.tcel_core.proofs.Remain.{takes}
use Rattle.tcel_code.specs.Code.{block_code, stmt_code}
use Rattle.tcel_code.specs.Counters.{behind, counter_of}
use Rattle.tcel_code.proofs.ActRuns.{assign_runs, assign_at_runs, copy_runs, receive_runs, send_runs}
use Rattle.tcel_code.proofs.ChoiceRuns.{choice_runs}
use Rattle.tcel_code.proofs.Counters.{HaveCounters}
use Rattle.tcel_code.proofs.ExprRuns.{stands_front, stands_back}
use Rattle.tcel_code.proofs.ForRuns.{for_runs}
use Rattle.tcel_code.proofs.Runs.{ActDoes, BlockDoes, StmtDoes, InOrder, stays_goes, then_runs}
use Rattle.tcel_code.proofs.Steps.{Setting}
use Rattle.tcel_code.proofs.TimedRuns.{timed_runs}
use Rattle.tcel_code.proofs.WhileRuns.{while_runs}

module _ (s : Setting) where
  open s use {task, inputs, vars}

  done_runs : BlockDoes s done
  done_runs m low p entry floor counters others taken order has stands = stays_goes s m low p (p + 0) entry floor others taken (omega arith)

  -- a statement, and those behind it
  next_runs : (stmt : Stmt) (rest : Block) → StmtFits stmt vars → StmtDoes s stmt → BlockDoes s rest → BlockDoes s (next stmt rest)
  next_runs stmt rest fits stmt_does rest_does m low p entry floor counters others taken order has stands =
      let code = stmt_code stmt vars p counters in
      let later = behind counters (stmt_loops stmt) in
      let others_code = block_code rest vars (p + length code) later in
      let one = stmt_does m low p entry floor counters others taken order has.0 (stands_front task.code p code others_code stands) in
      let o = exec_stmt stmt vars m in
      let left : InOrder s o.memory (takes o.events taken) = record { words = stmt_words stmt vars fits m order.words; remain = stmt_remains stmt vars fits inputs m taken order.remain } in
      let room = subst (HaveCounters rest vars later low) (sym one.as_many) has.1 in
      let two = rest_does o.memory low (p + length code) one.end floor later one.left (takes o.events taken) left room (stands_back task.code p code others_code stands) in
      then_runs s code others_code (exec rest vars) one two

  -- a statement of its own: its walk has a count for each event
  item_runs : (id : ℕ) (act : Act) → ActDoes s act → StmtDoes s (item id act)
  item_runs id act act_does m low p entry floor counters others taken order has stands =
      let r = act_does m low p entry floor (counter_of counters id) others taken order has stands in
      record { end = r.end; counts = r.counts; left = r.left; walk = (r.walk, r.each); each = r.each; as_many = r.as_many; kept = r.kept; ahead = r.ahead }

  mutual
    pub block_runs : (b : Block) → Fits b vars → BlockDoes s b
    block_runs done fits = done_runs
    block_runs (next stmt rest) fits = next_runs stmt rest fits.0 (stmt_runs stmt fits.0) (block_runs rest fits.1)

    stmt_runs : (stmt : Stmt) → StmtFits stmt vars → StmtDoes s stmt
    stmt_runs (item id act) fits = item_runs id act (act_runs act fits)
    stmt_runs (choice id test held other) fits = choice_runs s id test held other fits.0 (block_runs held fits.1) (block_runs other fits.2)
    stmt_runs (timed id window body) fits = timed_runs s id window body fits (block_runs body fits)

    act_runs : (act : Act) → ActFits act vars → ActDoes s act
    act_runs (assign v e) fits = assign_runs s v e fits
    act_runs (assign_at v i e) fits = assign_at_runs s v i e fits
    act_runs (copy a b) fits = copy_runs s a b fits
    act_runs (receive v port) fits = receive_runs s v port fits
    act_runs (send e port) fits = send_runs s e port fits
    act_runs (for_loop v n body) fits = for_runs s v n body fits (block_runs body fits.2)
    act_runs (while_loop test n body) fits = while_runs s test n body fits (block_runs body fits.2)
