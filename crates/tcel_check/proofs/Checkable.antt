-- Every program that the grammar accepts is checkable: it has a task, and its outermost expressions have few operators.
use Rattle.std.proofs.Common.{◌≤◌, Bool, List, [], ◌∷◌, ◌++◌, length, Option, All, arith}
use Rattle.std.proofs.lemmas.List.Elements.{All-append, All-cons, All-nil}
use Rattle.std.specs.Prelude.{flat_map}
use Rattle.tcel_check.specs.Answers.{IsCheckable, IsFitExpr, block_exprs, branch_exprs, stmt_exprs}
use Rattle.tcel_grammar.specs.Expressions.{here, there}
use Rattle.tcel_grammar.specs.Faults.{IsAccepted, IsShallow}
use Rattle.tcel_grammar.specs.Programs.{IsFirst, unset, set, set_below, IsFirstTruth, unset_truth, set_true, set_false, IsInt, an_array, a_local, a_state, IsBool, a_local_truth, a_state_truth, IsDecl, an_input, an_output, an_int, a_bool, IsDecls, no_decl, one_decl, every, IsTask, task, IsProgram, last_task, one_task}
use Rattle.tcel_grammar.specs.Statements.{IsNumber, numbered, IsClause, unsaid, said, IsWindow, window, IsBlock, block, IsStmts, no_more, one_more, IsStmt, assigned, assigned_at, received, sent, chosen, counted, repeated, done_in, IsBranch, no_else, with_else}
use Rattle.tcel_token.specs.Terminal.{Terminal}
use Rattle.tcel_token.specs.declared.keyword.Keyword.{Keyword}
use Rattle.tcel_tree.specs.Language.{Block, Branch, Expr, Stmt, Task}
use Rattle.tcel_tree.specs.declared.placed.Placed.{Placed}
use Rattle.tcel_tree.specs.declared.stmt.Window.{Window}
use Rattle.tcel_tree.specs.declared.task.Decl.{Decl}
use Rattle.tcel_tree.specs.declared.task.DeclKind.{DeclKind}
use Rattle.tcel_check.proofs.FewOperators.{Behind, begun, past, reads_whole}

-- statements with these outermost expressions were read
record Fit (all : List Terminal) (es : List Expr) (rest : List Terminal) : Type 0 where
  pub behind : Behind all 0 rest
  pub fit : All IsFitExpr es

alone : (e : Expr) → IsFitExpr e → All IsFitExpr (e ∷ [])
alone e fit = All-cons IsFitExpr e [] fit (All-nil IsFitExpr)

module _ {all : List Terminal} where
  over_number : {ts rest : List Terminal} {n : Placed} → IsNumber ts n rest → Behind all 0 ts → Behind all 0 rest
  over_number (numbered here) b = past b

  over_clause : {first second : Keyword} {ts rest : List Terminal} {n : Option Placed} → IsClause first second ts n rest → Behind all 0 ts → Behind all 0 rest
  over_clause unsaid b = b
  over_clause (said there there n) b = over_number n (past (past b))

  over_window : {ts rest : List Terminal} {w : Window} → IsWindow ts w rest → Behind all 0 ts → Behind all 0 rest
  over_window (window after before within) b = over_clause within (over_clause before (over_clause after b))

  over_first : {ts rest : List Terminal} {n : _} → IsFirst ts n rest → Behind all 0 ts → Behind all 0 rest
  over_first unset b = b
  over_first (set there here) b = past (past b)
  over_first (set_below there there here) b = past (past (past b))

  over_truth : {ts rest : List Terminal} {n : Option Bool} → IsFirstTruth ts n rest → Behind all 0 ts → Behind all 0 rest
  over_truth unset_truth b = b
  over_truth (set_true there there) b = past (past b)
  over_truth (set_false there there) b = past (past b)

  over_int : {state : Bool} {ts rest : List Terminal} {kind : DeclKind} → IsInt state ts kind rest → Behind all 0 ts → Behind all 0 rest
  over_int (an_array there size there) b = past (over_number size (past b))
  over_int a_local b = b
  over_int (a_state first) b = over_first first b

  over_bool : {state : Bool} {ts rest : List Terminal} {kind : DeclKind} → IsBool state ts kind rest → Behind all 0 ts → Behind all 0 rest
  over_bool a_local_truth b = b
  over_bool (a_state_truth first) b = over_truth first b

  over_decl : {ts rest : List Terminal} {d : Decl} → IsDecl ts d rest → Behind all 0 ts → Behind all 0 rest
  over_decl (an_input there here there) b = past (past (past b))
  over_decl (an_output there here there) b = past (past (past b))
  over_decl (an_int there there here kind there) b = past (over_int kind (past (past (past b))))
  over_decl (a_bool there there here kind there) b = past (over_bool kind (past (past (past b))))

  over_decls : {ts rest : List Terminal} {ds : List Decl} → IsDecls ts ds rest → Behind all 0 ts → Behind all 0 rest
  over_decls no_decl b = b
  over_decls (one_decl d others) b = over_decls others (over_decl d b)

  module _ (shallow : IsShallow all) where
    mutual
      block_fit : {ts rest : List Terminal} {body : Block} → IsBlock ts body rest → Behind all 0 ts → Fit all (block_exprs body) rest
      block_fit (block there inner there) b = let a = stmts_fit inner (past b) in record { behind = past a.behind; fit = a.fit }

      stmts_fit : {ts rest : List Terminal} {body : Block} → IsStmts ts body rest → Behind all 0 ts → Fit all (block_exprs body) rest
      stmts_fit no_more b = record { behind = b; fit = All-nil IsFitExpr }
      stmts_fit (one_more {s = s} {others = others} first rest) b =
          let a = stmt_fit first b in
          let c = stmts_fit rest a.behind in
          record { behind = c.behind; fit = All-append IsFitExpr (stmt_exprs s) (block_exprs others) a.fit c.fit }

      stmt_fit : {ts rest : List Terminal} {s : Stmt} → IsStmt ts s rest → Behind all 0 ts → Fit all (stmt_exprs s) rest
      stmt_fit (assigned {value = expr} here there value there) b =
          let e = reads_whole shallow value (past (past b)) in
          record { behind = past e.behind; fit = alone expr e.fit }
      stmt_fit (assigned_at {index = place} {value = expr} here there index there there value there) b =
          let i = reads_whole shallow index (past (past b)) in
          let e = reads_whole shallow value (past (past i.behind)) in
          record { behind = past e.behind; fit = All-cons IsFitExpr place (expr ∷ []) i.fit (alone expr e.fit) }
      stmt_fit (received here here there here there) b = record { behind = past (past (past (past (past b)))); fit = All-nil IsFitExpr }
      stmt_fit (sent {value = expr} here value there here there) b =
          let e = reads_whole shallow value (past b) in
          record { behind = past (past (past e.behind)); fit = alone expr e.fit }
      stmt_fit (chosen {test = expr} {held = held} {other = other} here test body branch) b =
          let e = reads_whole shallow test (past b) in
          let a = block_fit body e.behind in
          let c = branch_fit branch a.behind in
          record { behind = c.behind; fit = All-cons IsFitExpr expr (block_exprs held ++ branch_exprs other) e.fit (All-append IsFitExpr (block_exprs held) (branch_exprs other) a.fit c.fit) }
      stmt_fit (counted here here there turns body) b = block_fit body (over_number turns (past (past (past b))))
      stmt_fit (repeated {test = expr} {body = inner} here test there turns body) b =
          let e = reads_whole shallow test (past b) in
          let a = block_fit body (over_number turns (past e.behind)) in
          record { behind = a.behind; fit = All-cons IsFitExpr expr (block_exprs inner) e.fit a.fit }
      stmt_fit (done_in here w body) b = block_fit body (over_window w (past b))

      branch_fit : {ts rest : List Terminal} {o : Branch} → IsBranch ts o rest → Behind all 0 ts → Fit all (branch_exprs o) rest
      branch_fit no_else b = record { behind = b; fit = All-nil IsFitExpr }
      branch_fit (with_else there body) b = block_fit body (past b)

    task_fit : {ts rest : List Terminal} {t : Task} → IsTask ts t rest → Behind all 0 ts → Fit all (block_exprs t.body) rest
    task_fit (task there here there priority there decls (every there period finish body) there) b =
        let inside = over_decls decls (past (over_number priority (past (past (past b))))) in
        let a = block_fit body (over_clause finish (over_number period (past inside))) in
        record { behind = past a.behind; fit = a.fit }

    abbrev task_exprs : Task → List Expr
    task_exprs t = block_exprs t.body

    program_fit : {ts : List Terminal} {tasks : List Task} → IsProgram ts tasks → Behind all 0 ts → All IsFitExpr (flat_map task_exprs tasks)
    program_fit (last_task {t = t} first) b = All-append IsFitExpr (task_exprs t) [] (task_fit first b).fit (All-nil IsFitExpr)
    program_fit (one_task {t = t} {others = others} first rest) b =
        let a = task_fit first b in
        All-append IsFitExpr (task_exprs t) (flat_map task_exprs others) a.fit (program_fit rest a.behind)

some_task : {ts : List Terminal} {tasks : List Task} → IsProgram ts tasks → 1 ≤ length tasks
some_task (last_task first) = omega arith
some_task (one_task first rest) = omega arith

-- what the grammar accepts can be checked
pub accepted_are_checkable : {ts : List Terminal} {tasks : List Task} → IsAccepted ts tasks → IsCheckable tasks
accepted_are_checkable {ts = ts} a =
    record {
      some = some_task a.program;
      exprs = program_fit a.shallow a.program (begun ts);
    }
