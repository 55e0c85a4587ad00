-- Canonical tokens are read as the tree that they were made of: statements and blocks.
use Rattle.std.proofs.Common.{◌≡◌, ℕ, List, [], ◌∷◌, ◌++◌, Option, Some, None, option_map, refl, ap, ◌∙◌, subst}
use Rattle.std.specs.Prelude.{ℤ}
use Rattle.tcel_num.specs.declared.at.At.{At}
use Rattle.tcel_token.specs.declared.keyword.Keyword.{Keyword}
use Rattle.tcel_token.specs.declared.sign.Sign.{Sign}
use Rattle.tcel_token.specs.declared.token.TokenKind.{TokenKind}
use Rattle.tcel_token.specs.Terminal.{Terminal, kinds}
use Rattle.tcel_token.specs.WellFormed.{IsWritable}
use Rattle.tcel_tree.specs.declared.placed.Placed.{Placed}
use Rattle.tcel_tree.specs.declared.stmt.Window.{Window}
use Rattle.tcel_tree.specs.Language.{Expr, Block, done, next, Stmt, assign, assign_at, receive, send, choice, for_loop, while_loop, timed, Branch, absent, present}
use Rattle.tcel_tree.specs.Unplaced.{nowhere, unplaced, unplaced_window, unplaced_block, unplaced_stmt, unplaced_branch}
use Rattle.tcel_grammar.specs.Expressions.{disjunction}
use Rattle.tcel_grammar.specs.Statements.{IsNumber, numbered, IsClause, unsaid, said, IsWindow, window, IsBlock, block, IsStmts, no_more, one_more, IsStmt, assigned, assigned_at, received, sent, chosen, counted, repeated, done_in, IsBranch, no_else, with_else}
use Rattle.tcel_show.specs.Canonical.{whole_tokens, word, sign, clause_tokens, window_tokens, braced, limit_tokens, block_tokens, stmt_tokens, branch_tokens}
use Rattle.tcel_show.proofs.ReadExprs.{Front, Spells, split, front_placed, front_token, last_placed, last_token, Writable, writable_then, placed_writable, token_writable, Known, expr_known}

-- a number with its place
pub record NumberKnown (n : Placed) (rest : List Terminal) : Type 0 where
  pub number : IsWritable (TokenKind.Number n.value)
  pub behind : Writable (kinds rest)

pub number_known : {ts rest : List Terminal} {n : Placed} → IsNumber ts n rest → Writable (kinds ts) → NumberKnown n rest
number_known (numbered p) w = let q = placed_writable p w in record { number = q.0; behind = q.1 }

-- the number that a token is, at its place
abbrev pub placed_number : {n : ℤ} {ts rest : List Terminal} → Front (TokenKind.Number n) ts rest → Placed
placed_number {n} f = record { value = n; at = f.at }

pub front_number : {n : ℤ} {ts rest : List Terminal} (f : Front (TokenKind.Number n) ts rest) → IsNumber ts (placed_number f) rest
front_number f = numbered (front_placed f)

-- a clause, where it was written
pub record ReadsClause (opening closing : Keyword) (o : Option Placed) (ts rest : List Terminal) : Type 0 where
  pub clause : Option Placed
  pub grammar : IsClause opening closing ts clause rest
  pub same : option_map unplaced clause ≡ option_map unplaced o

pub clause_reads : (opening closing : Keyword) (o : Option Placed) {ts rest : List Terminal} → Spells (clause_tokens opening closing o) ts rest →
    ReadsClause opening closing o ts rest
clause_reads opening closing None {ts} s =
    record { clause = None; grammar = subst (λ (xs : List Terminal). IsClause opening closing ts None xs) s unsaid; same = refl }
clause_reads opening closing (Some n) s =
    record {
      clause = Some (record { value = n.value; at = s.2.2.1.at });
      grammar = said (front_token s.1) (front_token s.2.1) (numbered (last_placed s.2.2));
      same = refl;
    }

pub record ClauseKnown (opening closing : Keyword) (o : Option Placed) (rest : List Terminal) : Type 0 where
  pub clause : Writable (clause_tokens opening closing o)
  pub behind : Writable (kinds rest)

pub clause_known : {opening closing : Keyword} {ts rest : List Terminal} {o : Option Placed} → IsClause opening closing ts o rest → Writable (kinds ts) →
    ClauseKnown opening closing o rest
clause_known unsaid w = record { clause = tt; behind = w }
clause_known (said a b n) w =
    let q = number_known n (token_writable b (token_writable a w)) in
    record { clause = (tt, (tt, (q.number, tt))); behind = q.behind }

-- equal arguments, equal values
pub ap_two : {A B C : Type 0} (f : A → B → C) {a x : A} {b y : B} → a ≡ x → b ≡ y → f a b ≡ f x y
ap_two f {a} {x} {b} {y} p q = ap (λ v. f v b) p ∙ ap (f x) q

pub ap_three : {A B C D : Type 0} (f : A → B → C → D) {a x : A} {b y : B} {c z : C} → a ≡ x → b ≡ y → c ≡ z → f a b c ≡ f x y z
ap_three f {a} {x} {b} {y} {c} {z} p q r = ap (λ v. f v b c) p ∙ ap_two (f x) q r

abbrev window_of : Option Placed → Option Placed → Option Placed → Window
window_of a b c = record { after = a; before = b; within = c }

record ReadsWindow (w : Window) (ts rest : List Terminal) : Type 0 where
  pub window : Window
  pub grammar : IsWindow ts window rest
  pub same : unplaced_window window ≡ unplaced_window w

window_reads : (w : Window) {ts rest : List Terminal} → Spells (window_tokens w) ts rest → ReadsWindow w ts rest
window_reads w s =
    let first = clause_tokens Keyword.Start Keyword.After w.after in
    let second = clause_tokens Keyword.Start Keyword.Before w.before in
    let parts = split (first ++ second) (clause_tokens Keyword.Finish Keyword.Within w.within) s in
    let front = split first second parts.first in
    let a = clause_reads Keyword.Start Keyword.After w.after front.first in
    let b = clause_reads Keyword.Start Keyword.Before w.before front.last in
    let c = clause_reads Keyword.Finish Keyword.Within w.within parts.last in
    record {
      window = record { after = a.clause; before = b.clause; within = c.clause };
      grammar = window a.grammar b.grammar c.grammar;
      same = ap_three window_of a.same b.same c.same;
    }

record WindowKnown (w : Window) (rest : List Terminal) : Type 0 where
  pub window : Writable (window_tokens w)
  pub behind : Writable (kinds rest)

window_known : {ts rest : List Terminal} {w : Window} → IsWindow ts w rest → Writable (kinds ts) → WindowKnown w rest
window_known (window a b c) w =
    let p = clause_known a w in
    let q = clause_known b p.behind in
    let r = clause_known c q.behind in
    record { window = writable_then _ _ (writable_then _ _ p.clause q.clause) r.clause; behind = r.behind }

-- what is read of a block's statements, of a statement and of an else block is it but for places
pub record ReadsBlock (b : Block) (ts rest : List Terminal) : Type 0 where
  pub tree : Block
  pub grammar : IsStmts ts tree rest
  pub same : unplaced_block tree ≡ unplaced_block b

record ReadsStmt (s : Stmt) (ts rest : List Terminal) : Type 0 where
  pub tree : Stmt
  pub grammar : IsStmt ts tree rest
  pub same : unplaced_stmt tree ≡ unplaced_stmt s

record ReadsBranch (b : Branch) (ts rest : List Terminal) : Type 0 where
  pub tree : Branch
  pub grammar : IsBranch ts tree rest
  pub same : unplaced_branch tree ≡ unplaced_branch b

pub record BlockKnown (b : Block) : Type 0 where
  pub writable : Writable (block_tokens b)
  pub reads : (ts rest : List Terminal) → Spells (block_tokens b) ts rest → ReadsBlock b ts rest

record StmtKnown (s : Stmt) : Type 0 where
  pub writable : Writable (stmt_tokens s)
  pub reads : (ts rest : List Terminal) → Spells (stmt_tokens s) ts rest → ReadsStmt s ts rest

record BranchKnown (b : Branch) : Type 0 where
  pub writable : Writable (branch_tokens b)
  pub reads : (ts rest : List Terminal) → Spells (branch_tokens b) ts rest → ReadsBranch b ts rest

pub record KnowsBlock (b : Block) (rest : List Terminal) : Type 0 where
  pub known : BlockKnown b
  pub behind : Writable (kinds rest)

record KnowsStmt (s : Stmt) (rest : List Terminal) : Type 0 where
  pub known : StmtKnown s
  pub behind : Writable (kinds rest)

record KnowsBranch (b : Branch) (rest : List Terminal) : Type 0 where
  pub known : BranchKnown b
  pub behind : Writable (kinds rest)

-- a block in braces
pub record ReadsBraced (b : Block) (ts rest : List Terminal) : Type 0 where
  pub tree : Block
  pub grammar : IsBlock ts tree rest
  pub same : unplaced_block tree ≡ unplaced_block b

pub braced_reads : {b : Block} {ts rest : List Terminal} → BlockKnown b → Spells (braced (block_tokens b)) ts rest → ReadsBraced b ts rest
braced_reads {b} known s =
    let parts = split (block_tokens b) (sign Sign.RightBrace ∷ []) s.2 in
    let read = known.reads s.0 parts.middle parts.first in
    record { tree = read.tree; grammar = block (front_token s.1) read.grammar (last_token parts.last); same = read.same }

pub braced_writable : {b : Block} → BlockKnown b → Writable (braced (block_tokens b))
braced_writable {b} known = (tt, writable_then (block_tokens b) (sign Sign.RightBrace ∷ []) known.writable (tt, tt))

done_known : BlockKnown done
done_known = record { writable = tt; reads = λ ts rest s. record { tree = done; grammar = subst (λ (xs : List Terminal). IsStmts ts done xs) s no_more; same = refl } }

next_known : {s : Stmt} {b : Block} → StmtKnown s → BlockKnown b → BlockKnown (next s b)
next_known {s} {b} stmt others =
    record {
      writable = writable_then (stmt_tokens s) (block_tokens b) stmt.writable others.writable;
      reads = λ ts rest sp.
          let parts = split (stmt_tokens s) (block_tokens b) sp in
          let x = stmt.reads ts parts.middle parts.first in
          let y = others.reads parts.middle rest parts.last in
          record { tree = next x.tree y.tree; grammar = one_more x.grammar y.grammar; same = ap_two next x.same y.same };
    }

absent_known : BranchKnown absent
absent_known = record { writable = tt; reads = λ ts rest s. record { tree = absent; grammar = subst (λ (xs : List Terminal). IsBranch ts absent xs) s no_else; same = refl } }

present_known : {b : Block} → BlockKnown b → BranchKnown (present b)
present_known {b} known =
    record {
      writable = (tt, braced_writable known);
      reads = λ ts rest s.
          let read = braced_reads known s.2 in
          record { tree = present read.tree; grammar = with_else (front_token s.1) read.grammar; same = ap present read.same };
    }

assign_known : (at : At) (name : List ℕ) (value : Expr) → IsWritable (TokenKind.Name name) → Known value → StmtKnown (assign at name value)
assign_known at name value n v =
    let last = sign Sign.Semicolon ∷ [] in
    record {
      writable = (n, (tt, writable_then (whole_tokens value) last (v.writable disjunction) (tt, tt)));
      reads = λ ts rest s.
          let parts = split (whole_tokens value) last s.2.2 in
          let x = v.reads disjunction s.2.0 parts.middle parts.first in
          record {
            tree = assign s.1.at name x.tree;
            grammar = assigned (front_placed s.1) (front_token s.2.1) x.grammar (last_token parts.last);
            same = ap (assign nowhere name) x.same;
          };
    }

assign_at_known : (at : At) (name : List ℕ) (index value : Expr) → IsWritable (TokenKind.Name name) → Known index → Known value →
    StmtKnown (assign_at at name index value)
assign_at_known at name index value n i v =
    let last = sign Sign.Semicolon ∷ [] in
    let behind = sign Sign.RightSquare ∷ sign Sign.Becomes ∷ (whole_tokens value ++ last) in
    record {
      writable =
          (n, (tt, writable_then (whole_tokens index) behind (i.writable disjunction) (tt, (tt, writable_then (whole_tokens value) last (v.writable disjunction) (tt, tt)))));
      reads = λ ts rest s.
          let parts = split (whole_tokens index) behind s.2.2 in
          let x = i.reads disjunction s.2.0 parts.middle parts.first in
          let more = split (whole_tokens value) last parts.last.2.2 in
          let y = v.reads disjunction parts.last.2.0 more.middle more.first in
          record {
            tree = assign_at s.1.at name x.tree y.tree;
            grammar = assigned_at (front_placed s.1) (front_token s.2.1) x.grammar (front_token parts.last.1) (front_token parts.last.2.1) y.grammar (last_token more.last);
            same = ap_two (assign_at nowhere name) x.same y.same;
          };
    }

receive_known : (at name_at port_at : At) (name port : List ℕ) → IsWritable (TokenKind.Name name) → IsWritable (TokenKind.Name port) →
    StmtKnown (receive at name name_at port port_at)
receive_known at name_at port_at name port n p =
    record {
      writable = (tt, (n, (tt, (p, (tt, tt)))));
      reads = λ ts rest s.
          record {
            tree = receive s.1.at name s.2.1.at port s.2.2.2.1.at;
            grammar = received (front_placed s.1) (front_placed s.2.1) (front_token s.2.2.1) (front_placed s.2.2.2.1) (last_token s.2.2.2.2);
            same = refl;
          };
    }

send_known : (at port_at : At) (port : List ℕ) (value : Expr) → IsWritable (TokenKind.Name port) → Known value → StmtKnown (send at value port port_at)
send_known at port_at port value p v =
    let behind = word Keyword.To ∷ TokenKind.Name port ∷ sign Sign.Semicolon ∷ [] in
    record {
      writable = (tt, writable_then (whole_tokens value) behind (v.writable disjunction) (tt, (p, (tt, tt))));
      reads = λ ts rest s.
          let parts = split (whole_tokens value) behind s.2 in
          let x = v.reads disjunction s.0 parts.middle parts.first in
          record {
            tree = send s.1.at x.tree port parts.last.2.1.at;
            grammar = sent (front_placed s.1) x.grammar (front_token parts.last.1) (front_placed parts.last.2.1) (last_token parts.last.2.2);
            same = ap (λ (e : Expr). send nowhere e port nowhere) x.same;
          };
    }

choice_known : (at : At) (test : Expr) (held : Block) (other : Branch) → Known test → BlockKnown held → BranchKnown other → StmtKnown (choice at test held other)
choice_known at test held other t h o =
    let behind = braced (block_tokens held) ++ branch_tokens other in
    record {
      writable = (tt, writable_then (whole_tokens test) behind (t.writable disjunction) (writable_then (braced (block_tokens held)) (branch_tokens other) (braced_writable h) o.writable));
      reads = λ ts rest s.
          let parts = split (whole_tokens test) behind s.2 in
          let x = t.reads disjunction s.0 parts.middle parts.first in
          let more = split (braced (block_tokens held)) (branch_tokens other) parts.last in
          let y = braced_reads h more.first in
          let z = o.reads more.middle rest more.last in
          record {
            tree = choice s.1.at x.tree y.tree z.tree;
            grammar = chosen (front_placed s.1) x.grammar y.grammar z.grammar;
            same = ap_three (choice nowhere) x.same y.same z.same;
          };
    }

for_known : (at name_at : At) (name : List ℕ) (turns : Placed) (body : Block) → IsWritable (TokenKind.Name name) → IsWritable (TokenKind.Number turns.value) →
    BlockKnown body → StmtKnown (for_loop at name name_at turns body)
for_known at name_at name turns body n t b =
    record {
      writable = (tt, (n, (tt, (t, braced_writable b))));
      reads = λ ts rest s.
          let y = braced_reads b s.2.2.2.2 in
          record {
            tree = for_loop s.1.at name s.2.1.at (placed_number s.2.2.2.1) y.tree;
            grammar = counted (front_placed s.1) (front_placed s.2.1) (front_token s.2.2.1) (front_number s.2.2.2.1) y.grammar;
            same = ap (for_loop nowhere name nowhere (unplaced turns)) y.same;
          };
    }

while_known : (at : At) (test : Expr) (turns : Placed) (body : Block) → Known test → IsWritable (TokenKind.Number turns.value) → BlockKnown body →
    StmtKnown (while_loop at test turns body)
while_known at test turns body e t b =
    let behind = limit_tokens turns ++ braced (block_tokens body) in
    record {
      writable = (tt, writable_then (whole_tokens test) behind (e.writable disjunction) (tt, (t, braced_writable b)));
      reads = λ ts rest s.
          let parts = split (whole_tokens test) behind s.2 in
          let x = e.reads disjunction s.0 parts.middle parts.first in
          let y = braced_reads b parts.last.2.2 in
          record {
            tree = while_loop s.1.at x.tree (placed_number parts.last.2.1) y.tree;
            grammar = repeated (front_placed s.1) x.grammar (front_token parts.last.1) (front_number parts.last.2.1) y.grammar;
            same = ap_two (λ (v : Expr) (c : Block). while_loop nowhere v (unplaced turns) c) x.same y.same;
          };
    }

timed_known : (at : At) (w : Window) (body : Block) → Writable (window_tokens w) → BlockKnown body → StmtKnown (timed at w body)
timed_known at w body wr b =
    record {
      writable = (tt, writable_then (window_tokens w) (braced (block_tokens body)) wr (braced_writable b));
      reads = λ ts rest s.
          let parts = split (window_tokens w) (braced (block_tokens body)) s.2 in
          let x = window_reads w parts.first in
          let y = braced_reads b parts.last in
          record {
            tree = timed s.1.at x.window y.tree;
            grammar = done_in (front_placed s.1) x.grammar y.grammar;
            same = ap_two (timed nowhere) x.same y.same;
          };
    }

-- statements of the grammar are known by their canonical tokens
mutual
  pub block_known : {ts rest : List Terminal} {b : Block} → IsBlock ts b rest → Writable (kinds ts) → KnowsBlock b rest
  block_known (block l d r) w =
      let inner = stmts_known d (token_writable l w) in
      record { known = inner.known; behind = token_writable r inner.behind }

  stmts_known : {ts rest : List Terminal} {b : Block} → IsStmts ts b rest → Writable (kinds ts) → KnowsBlock b rest
  stmts_known no_more w = record { known = done_known; behind = w }
  stmts_known (one_more d ds) w =
      let s = stmt_known d w in
      let others = stmts_known ds s.behind in
      record { known = next_known s.known others.known; behind = others.behind }

  stmt_known : {ts rest : List Terminal} {s : Stmt} → IsStmt ts s rest → Writable (kinds ts) → KnowsStmt s rest
  stmt_known (assigned {at = at} {name = name} {value = value} n o d r) w =
      let p = placed_writable n w in
      let v = expr_known d (token_writable o p.1) in
      record { known = assign_known at name value p.0 v.known; behind = token_writable r v.behind }
  stmt_known (assigned_at {at = at} {name = name} {index = index} {value = value} n l d r o e t) w =
      let p = placed_writable n w in
      let i = expr_known d (token_writable l p.1) in
      let v = expr_known e (token_writable o (token_writable r i.behind)) in
      record { known = assign_at_known at name index value p.0 i.known v.known; behind = token_writable t v.behind }
  stmt_known (received {at = at} {name_at = name_at} {port_at = port_at} {name = name} {port = port} r n f p t) w =
      let a = placed_writable n (placed_writable r w).1 in
      let b = placed_writable p (token_writable f a.1) in
      record { known = receive_known at name_at port_at name port a.0 b.0; behind = token_writable t b.1 }
  stmt_known (sent {at = at} {port_at = port_at} {port = port} {value = value} s d o p t) w =
      let v = expr_known d (placed_writable s w).1 in
      let b = placed_writable p (token_writable o v.behind) in
      record { known = send_known at port_at port value b.0 v.known; behind = token_writable t b.1 }
  stmt_known (chosen {at = at} {test = test} {held = held} {other = other} i d b o) w =
      let t = expr_known d (placed_writable i w).1 in
      let h = block_known b t.behind in
      let e = branch_known o h.behind in
      record { known = choice_known at test held other t.known h.known e.known; behind = e.behind }
  stmt_known (counted {at = at} {name_at = name_at} {name = name} {turns = turns} {body = body} f n l t b) w =
      let p = placed_writable n (placed_writable f w).1 in
      let q = number_known t (token_writable l p.1) in
      let h = block_known b q.behind in
      record { known = for_known at name_at name turns body p.0 q.number h.known; behind = h.behind }
  stmt_known (repeated {at = at} {test = test} {turns = turns} {body = body} f d l t b) w =
      let e = expr_known d (placed_writable f w).1 in
      let q = number_known t (token_writable l e.behind) in
      let h = block_known b q.behind in
      record { known = while_known at test turns body e.known q.number h.known; behind = h.behind }
  stmt_known (done_in {at = at} {w = frame} {body = body} d x b) w =
      let v = window_known x (placed_writable d w).1 in
      let h = block_known b v.behind in
      record { known = timed_known at frame body v.window h.known; behind = h.behind }

  branch_known : {ts rest : List Terminal} {b : Branch} → IsBranch ts b rest → Writable (kinds ts) → KnowsBranch b rest
  branch_known no_else w = record { known = absent_known; behind = w }
  branch_known (with_else e d) w =
      let inner = block_known d (token_writable e w) in
      record { known = present_known inner.known; behind = inner.behind }
