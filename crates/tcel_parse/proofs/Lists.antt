-- Lists of declarations, statements and tasks, which grow at their end.
use Rattle.std.proofs.Common.{◌≡◌, List, [], ◌∷◌, ◌++◌, sym, subst}
use Rattle.tcel_token.specs.declared.sign.Sign.{Sign}
use Rattle.tcel_token.specs.declared.token.TokenKind.{TokenKind}
use Rattle.tcel_token.specs.Terminal.{Terminal}
use Rattle.tcel_tree.specs.declared.stmt.Stmt as tree_stmt
use Rattle.std.proofs.lemmas.List.{map-append}
use Rattle.std.proofs.Common.{map}
use Rattle.tcel_tree.specs.declared.task.Decl.{Decl}
use Rattle.tcel_tree.specs.declared.task.Task as tree_task
use Rattle.tcel_tree.specs.Language.{Block, done, Stmt, Task}
use Rattle.tcel_tree.specs.Plain.{block_of, plain_stmt, plain_block, plain_task}
use Rattle.tcel_grammar.specs.Expressions.{IsToken}
use Rattle.tcel_grammar.specs.Statements.{IsStmts, no_more, one_more, IsStmt, IsBlock, block}
use Rattle.tcel_grammar.specs.Programs.{IsDecl, IsDecls, no_decl, one_decl, IsTask, IsProgram, last_task, one_task}

-- ---- statements

stmts_push : (ss : List Stmt) (s : Stmt) {a b c : List Terminal} → IsStmts a (block_of ss) b → IsStmt b s c → IsStmts a (block_of (ss ++ s ∷ [])) c
stmts_push [] s no_more d = one_more d no_more
stmts_push (t ∷ ss) s (one_more e others) d = one_more e (stmts_push ss s others d)

-- a block's brace and its statements so far
pub data IsOpened : List Terminal → Block → List Terminal → Type 0 where
  opened : {ts a rest : List Terminal} {b : Block} → IsToken (TokenKind.Sign Sign.LeftBrace) ts a → IsStmts a b rest → IsOpened ts b rest

pub opened_first : {ts rest : List Terminal} → IsToken (TokenKind.Sign Sign.LeftBrace) ts rest → IsOpened ts done rest
opened_first d = opened d no_more

-- one more statement
pub opened_push : (ss : List tree_stmt.Stmt) (s : tree_stmt.Stmt) {ts a rest : List Terminal} → IsOpened ts (plain_block ss) a → IsStmt a (plain_stmt s) rest → IsOpened ts (plain_block (ss ++ s ∷ [])) rest
opened_push ss s {ts} {rest = rest} (opened brace ds) d =
    let P : List Stmt → Type 0 = λ us. IsOpened ts (block_of us) rest in
    subst P (sym (map-append plain_stmt ss (s ∷ []))) (opened brace (stmts_push (map plain_stmt ss) (plain_stmt s) ds d))

pub closed : {ts a rest : List Terminal} {b : Block} → IsOpened ts b a → IsToken (TokenKind.Sign Sign.RightBrace) a rest → IsBlock ts b rest
closed (opened brace ds) close = block brace ds close

-- ---- declarations

pub decls_push : (ds : List Decl) (d : Decl) {a b c : List Terminal} → IsDecls a ds b → IsDecl b d c → IsDecls a (ds ++ d ∷ []) c
decls_push [] d no_decl e = one_decl e no_decl
decls_push (x ∷ ds) d (one_decl f others) e = one_decl f (decls_push ds d others e)

-- ---- tasks

-- one task or more, up to what stands behind them
pub data AreTasks : List Terminal → List Task → List Terminal → Type 0 where
  a_task : {ts rest : List Terminal} {t : Task} → IsTask ts t rest → AreTasks ts (t ∷ []) rest
  and_tasks : {ts a rest : List Terminal} {t : Task} {others : List Task} → IsTask ts t a → AreTasks a others rest → AreTasks ts (t ∷ others) rest

tasks_more : {a b c : List Terminal} {us : List Task} (t : Task) → AreTasks a us b → IsTask b t c → AreTasks a (us ++ t ∷ []) c
tasks_more t (a_task d) e = and_tasks d (a_task e)
tasks_more t (and_tasks d others) e = and_tasks d (tasks_more t others e)

pub tasks_push : (us : List tree_task.Task) (t : tree_task.Task) {a b c : List Terminal} → AreTasks a (map plain_task us) b → IsTask b (plain_task t) c → AreTasks a (map plain_task (us ++ t ∷ [])) c
tasks_push us t {a} {c = c} ds d =
    let P : List Task → Type 0 = λ vs. AreTasks a vs c in
    subst P (sym (map-append plain_task us (t ∷ []))) (tasks_more (plain_task t) ds d)

pub tasks_are : {a b : List Terminal} {us : List Task} → AreTasks a us b → b ≡ [] → IsProgram a us
tasks_are {a} (a_task {t = t} d) e = let P : List Terminal → Type 0 = λ r. IsTask a t r in last_task (subst P e d)
tasks_are (and_tasks d others) e = one_task d (tasks_are others e)
