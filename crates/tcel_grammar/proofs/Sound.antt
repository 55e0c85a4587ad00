-- What the machine has read can be finished: each move keeps to the grammar, and each stack reads some tokens.
use Rattle.std.proofs.Common.{◌≡◌, ℕ, ℤ, Bool, true, false, cond, List, [], ◌∷◌, Option, Some, None, inl, inr, refl, sym, subst, ◌&&◌, nat_lt}
use Rattle.std.proofs.lemmas.Bool.{true≢false}
use Rattle.std.proofs.lemmas.Option.{same_Some}
use Rattle.std.specs.Cmp.Derive.{both_true}
use Rattle.tcel_num.specs.declared.op.Op.{Op}
use Rattle.tcel_token.specs.declared.keyword.Keyword.{Keyword}
use Rattle.tcel_token.specs.declared.sign.Sign.{Sign}
use Rattle.tcel_token.specs.declared.token.TokenKind.{TokenKind}
use Rattle.tcel_token.specs.Terminal.{Terminal}
use Rattle.tcel_tree.specs.declared.stmt.Window.{Window}
use Rattle.tcel_tree.specs.declared.task.Decl.{Decl}
use Rattle.tcel_tree.specs.Language.{Expr, Stmt}
use Rattle.tcel_grammar.specs.Expressions.{atom, IsPlaced, here, IsToken, there, binary_of, unary_of, level_of, between, before, IsExpr, an_atom, applied, a_number, yes, no, a_variable, an_element, bracketed}
use Rattle.tcel_grammar.specs.Statements.{numbered, unsaid, said, IsWindow, window, block, no_more, one_more, IsStmt, assigned, assigned_at, received, sent, chosen, counted, repeated, done_in, no_else, with_else}
use Rattle.tcel_grammar.specs.Programs.{IsFirst, unset, set, set_below, IsFirstTruth, unset_truth, set_true, set_false, an_array, a_local, a_state, a_local_truth, a_state_truth, keeper, IsDecl, an_input, an_output, an_int, a_bool, no_decl, one_decl, every, task}
use Rattle.tcel_grammar.specs.Machine.{Symbol, this_word, this_sign, any_name, any_number, operand, behind_operand, behind_name, more_stmts, one_block, behind_target, do_clauses, behind_start, behind_after, last_clause, more_decls, task_block, behind_keeper, behind_int, behind_bool, first_int, first_bool, more_tasks, goes_on, compared_after, rank, task_tail, expr, Move, reads, skips, stops, move, moved, step, at_operator, at_name_end, at_operand, at_stmts, at_decls, at_within, is_word, is_sign, is_name, is_numeral}
use Rattle.tcel_grammar.proofs.Tests.{same_word, same_sign, some_name, some_number, is_here, is_there, as_placed, low_operator}
use Rattle.tcel_grammar.proofs.Languages.{Tail, no_tail, tail, whole_of, operand_level, Stmts, Later, Decls, Tasks, no_task, and_task, L, All, none, also, split_all}

-- a move at a token keeps to what the symbol may read
abbrev Keeps : Symbol → Terminal → Move → Type 0
Keeps x t (reads j) = (ts rest : List Terminal) → All j ts rest → L x (t ∷ ts) rest
Keeps x t skips = (ts : List Terminal) → L x ts ts
Keeps x t stops = Unit {0}

pick : (x : Symbol) (t : Terminal) (b : Bool) (m n : Move) → (b ≡ true → Keeps x t m) → Keeps x t n → Keeps x t (cond b m n)
pick x t true m n f g = f refl
pick x t false m n f g = g

-- ---- words and signs at the head

module _ (t : Terminal) {ts : List Terminal} where
  word_there : (w : Keyword) → is_word w t.kind ≡ true → IsToken (TokenKind.Word w) (t ∷ ts) ts
  word_there w e = is_there (TokenKind.Word w) t (same_word w t.kind e)

  word_here : (w : Keyword) → is_word w t.kind ≡ true → IsPlaced (TokenKind.Word w) (t ∷ ts) t.at ts
  word_here w e = is_here (TokenKind.Word w) t (same_word w t.kind e)

  sign_there : (s : Sign) → is_sign s t.kind ≡ true → IsToken (TokenKind.Sign s) (t ∷ ts) ts
  sign_there s e = is_there (TokenKind.Sign s) t (same_sign s t.kind e)

-- ---- expressions

and_second : (a b : Bool) → (a && b) ≡ true → b ≡ true
and_second true b e = e
and_second false b e = cc

and_first : (a b : Bool) → (a && b) ≡ true → a ≡ true
and_first true b e = refl
and_first false b e = cc

-- an atom is an operand with an operator in front, or without
pub as_operand : (signed : Bool) {ts rest : List Terminal} {e : Expr} → IsExpr atom ts e rest → IsExpr (operand_level signed) ts e rest
as_operand true d = an_atom d
as_operand false d = d

operator_keeps : (below : ℕ) (c : Bool) (t : Terminal) (o : Option Op) → binary_of t.kind ≡ o → Keeps (behind_operand below c) t (at_operator below c o)
operator_keeps below c t None e = λ ts. no_tail
operator_keeps below c t (Some op) e =
    pick (behind_operand below c) t (goes_on below c (level_of op)) (reads (operand true (compared_after c (level_of op)) ∷ [])) skips (λ g ts rest h. read g h) (λ ts. no_tail)
  where
    read : goes_on below c (level_of op) ≡ true → {ts rest : List Terminal} → All (operand true (compared_after c (level_of op)) ∷ []) ts rest → Tail c (t ∷ ts) rest
    read g (also (f, a, d, more) none) = tail (between (is_here t.kind t refl) e refl) (both_true (low_operator t.kind op e) (and_second (nat_lt (rank (level_of op)) below) _ g)) d more

name_end_keeps : (c : Bool) (t : Terminal) (o : Option Op) → binary_of t.kind ≡ o → Keeps (behind_name c) t (at_name_end c (is_sign Sign.LeftSquare t.kind) o)
name_end_keeps c t None e = pick (behind_name c) t (is_sign Sign.LeftSquare t.kind) _ skips (λ g ts rest h. index g h) (λ ts. inl no_tail)
  where
    index : is_sign Sign.LeftSquare t.kind ≡ true → {ts rest : List Terminal} → All (expr ∷ this_sign Sign.RightSquare ∷ behind_operand 5 c ∷ []) ts rest → L (behind_name c) (t ∷ ts) rest
    index g (also (f, a, d, more) (also close (also after none))) = let w = whole_of d more in inr (w.0, _, _, _, sign_there t Sign.LeftSquare g, w.1, close, after)
name_end_keeps c t (Some op) e = also_tail (goes_on 5 c (level_of op)) refl
  where
    -- an operator
    read : goes_on 5 c (level_of op) ≡ true → {ts rest : List Terminal} → All (operand true (compared_after c (level_of op)) ∷ []) ts rest → L (behind_name c) (t ∷ ts) rest
    read g (also (f, a, d, more) none) = inl (tail (between (is_here t.kind t refl) e refl) g d more)

    also_tail : (b : Bool) → goes_on 5 c (level_of op) ≡ b → Keeps (behind_name c) t (cond b (reads (operand true (compared_after c (level_of op)) ∷ [])) skips)
    also_tail true g = λ ts rest h. read g h
    also_tail false g = λ ts. inl no_tail

operand_keeps : (signed c : Bool) (t : Terminal) (o : Option Op) → unary_of t.kind ≡ o → Keeps (operand signed c) t (at_operand signed c o t.kind)
operand_keeps true c t (Some op) e = λ ts rest h. read h
  where
    read : {ts rest : List Terminal} → All (operand false c ∷ []) ts rest → L (operand true c) (t ∷ ts) rest
    read (also (f, a, d, more) none) = (_, _, applied (before (is_here t.kind t refl) e) d, more)
operand_keeps false c t (Some op) e = tt
operand_keeps signed c t None e =
    pick (operand signed c) t (is_numeral t.kind) (reads (behind_operand 5 c ∷ [])) _ (λ g ts rest h. a_numeral g h)
    (pick (operand signed c) t (is_name t.kind) (reads (behind_name c ∷ [])) _ (λ g ts rest h. a_name g h)
    (pick (operand signed c) t (is_word Keyword.True t.kind) (reads (behind_operand 5 c ∷ [])) _ (λ g ts rest h. is_true g h)
    (pick (operand signed c) t (is_word Keyword.False t.kind) (reads (behind_operand 5 c ∷ [])) _ (λ g ts rest h. is_false g h)
    (pick (operand signed c) t (is_sign Sign.LeftRound t.kind) (reads (expr ∷ this_sign Sign.RightRound ∷ behind_operand 5 c ∷ [])) stops (λ g ts rest h. brackets g h) tt))))
  where
    a_numeral : is_numeral t.kind ≡ true → {ts rest : List Terminal} → All (behind_operand 5 c ∷ []) ts rest → L (operand signed c) (t ∷ ts) rest
    a_numeral g (also more none) = let n = some_number t.kind g in (_, _, as_operand signed (a_number (is_here _ t n.1)), more)

    a_name : is_name t.kind ≡ true → {ts rest : List Terminal} → All (behind_name c ∷ []) ts rest → L (operand signed c) (t ∷ ts) rest
    a_name g (also (inl more) none) = let n = some_name t.kind g in (_, _, as_operand signed (a_variable (is_here _ t n.1)), more)
    a_name g (also (inr (f, a, b, d, left, index, close, more)) none) =
        let n = some_name t.kind g in (_, _, as_operand signed (an_element (is_here _ t n.1) left index close), more)

    is_true : is_word Keyword.True t.kind ≡ true → {ts rest : List Terminal} → All (behind_operand 5 c ∷ []) ts rest → L (operand signed c) (t ∷ ts) rest
    is_true g (also more none) = (_, _, as_operand signed (yes (word_here t Keyword.True g)), more)

    is_false : is_word Keyword.False t.kind ≡ true → {ts rest : List Terminal} → All (behind_operand 5 c ∷ []) ts rest → L (operand signed c) (t ∷ ts) rest
    is_false g (also more none) = (_, _, as_operand signed (no (word_here t Keyword.False g)), more)

    brackets : is_sign Sign.LeftRound t.kind ≡ true → {ts rest : List Terminal} → All (expr ∷ this_sign Sign.RightRound ∷ behind_operand 5 c ∷ []) ts rest → L (operand signed c) (t ∷ ts) rest
    brackets g (also (f, a, d, inside) (also close (also more none))) =
        let w = whole_of d inside in (_, _, as_operand signed (bracketed (sign_there t Sign.LeftRound g) w.1 close), more)

-- ---- statements

-- statements read where an else block might stand, or not
pub as_stmts : (chosen : Bool) {ts rest : List Terminal} → Stmts ts rest → L (more_stmts chosen) ts rest
as_stmts true h = (_, _, no_else, h)
as_stmts false h = h

-- a statement before others
and_then : {ts a rest : List Terminal} {s : Stmt} → IsStmt ts s a → Stmts a rest → Stmts ts rest
and_then d (b, a, others, close) = (_, a, one_more d others, close)

module _ (t : Terminal) where
  close_stmts : {ts rest : List Terminal} → is_sign Sign.RightBrace t.kind ≡ true → All [] ts rest → Stmts (t ∷ ts) rest
  close_stmts g none = (_, _, no_more, sign_there t Sign.RightBrace g)

  assign_stmts : {ts rest : List Terminal} → is_name t.kind ≡ true → All (behind_target ∷ more_stmts false ∷ []) ts rest → Stmts (t ∷ ts) rest
  assign_stmts {ts = ts} g (also {a = a} target (also others none)) =
      let n = some_name t.kind g in
      let P : Terminal → Type 0 = λ u. (s : Stmt) × IsStmt (u ∷ ts) s a in
      and_then (as_placed P (TokenKind.Name n.0) t n.1 (target n.0 t.at)).1 others

  receive_stmts : {ts rest : List Terminal} → is_word Keyword.Receive t.kind ≡ true →
      All (any_name ∷ this_word Keyword.From ∷ any_name ∷ this_sign Sign.Semicolon ∷ more_stmts false ∷ []) ts rest → Stmts (t ∷ ts) rest
  receive_stmts g (also (n, at, name) (also from (also (m, to, port) (also end (also others none))))) =
      and_then (received (word_here t Keyword.Receive g) name from port end) others

  send_stmts : {ts rest : List Terminal} → is_word Keyword.Send t.kind ≡ true →
      All (expr ∷ this_word Keyword.To ∷ any_name ∷ this_sign Sign.Semicolon ∷ more_stmts false ∷ []) ts rest → Stmts (t ∷ ts) rest
  send_stmts g (also (e, a, d, more) (also to (also (m, at, port) (also end (also others none))))) =
      and_then (sent (word_here t Keyword.Send g) (whole_of d more).1 to port end) others

  if_stmts : {ts rest : List Terminal} → is_word Keyword.If t.kind ≡ true → All (expr ∷ one_block ∷ more_stmts true ∷ []) ts rest → Stmts (t ∷ ts) rest
  if_stmts g (also (e, a, d, more) (also (b, held) (also (o, c, other, others) none))) =
      and_then (chosen (word_here t Keyword.If g) (whole_of d more).1 held other) others

  for_stmts : {ts rest : List Terminal} → is_word Keyword.For t.kind ≡ true → All (any_name ∷ this_sign Sign.Less ∷ any_number ∷ one_block ∷ more_stmts false ∷ []) ts rest → Stmts (t ∷ ts) rest
  for_stmts g (also (n, at, name) (also less (also (m, turns) (also (b, inner) (also others none))))) =
      and_then (counted (word_here t Keyword.For g) name less turns inner) others

  while_stmts : {ts rest : List Terminal} → is_word Keyword.While t.kind ≡ true →
      All (expr ∷ this_word Keyword.Limit ∷ any_number ∷ one_block ∷ more_stmts false ∷ []) ts rest → Stmts (t ∷ ts) rest
  while_stmts g (also (e, a, d, more) (also limit (also (m, turns) (also (b, inner) (also others none))))) =
      and_then (repeated (word_here t Keyword.While g) (whole_of d more).1 limit turns inner) others

  do_stmts : {ts rest : List Terminal} → is_word Keyword.Do t.kind ≡ true → All (do_clauses ∷ one_block ∷ more_stmts false ∷ []) ts rest → Stmts (t ∷ ts) rest
  do_stmts g (also (w, clauses) (also (b, inner) (also others none))) = and_then (done_in (word_here t Keyword.Do g) clauses inner) others

  else_stmts : {ts rest : List Terminal} → is_word Keyword.Else t.kind ≡ true → All (one_block ∷ more_stmts false ∷ []) ts rest → L (more_stmts true) (t ∷ ts) rest
  else_stmts g (also (b, inner) (also others none)) = (_, _, with_else (word_there t Keyword.Else g) inner, others)

stmts_keep : (o : Bool) (t : Terminal) → Keeps (more_stmts o) t (at_stmts o t.kind)
stmts_keep o t =
    let x = more_stmts o in
    let k = t.kind in
    pick x t (is_sign Sign.RightBrace k) (reads []) _ (λ g ts rest h. as_stmts o (close_stmts t g h))
    (pick x t (is_name k) (reads (behind_target ∷ more_stmts false ∷ [])) _ (λ g ts rest h. as_stmts o (assign_stmts t g h))
    (pick x t (is_word Keyword.Receive k) (reads (any_name ∷ this_word Keyword.From ∷ any_name ∷ this_sign Sign.Semicolon ∷ more_stmts false ∷ [])) _ (λ g ts rest h. as_stmts o (receive_stmts t g h))
    (pick x t (is_word Keyword.Send k) (reads (expr ∷ this_word Keyword.To ∷ any_name ∷ this_sign Sign.Semicolon ∷ more_stmts false ∷ [])) _ (λ g ts rest h. as_stmts o (send_stmts t g h))
    (pick x t (is_word Keyword.If k) (reads (expr ∷ one_block ∷ more_stmts true ∷ [])) _ (λ g ts rest h. as_stmts o (if_stmts t g h))
    (pick x t (is_word Keyword.For k) (reads (any_name ∷ this_sign Sign.Less ∷ any_number ∷ one_block ∷ more_stmts false ∷ [])) _ (λ g ts rest h. as_stmts o (for_stmts t g h))
    (pick x t (is_word Keyword.While k) (reads (expr ∷ this_word Keyword.Limit ∷ any_number ∷ one_block ∷ more_stmts false ∷ [])) _ (λ g ts rest h. as_stmts o (while_stmts t g h))
    (pick x t (is_word Keyword.Do k) (reads (do_clauses ∷ one_block ∷ more_stmts false ∷ [])) _ (λ g ts rest h. as_stmts o (do_stmts t g h))
    (else_keeps o t))))))))
  where
    else_keeps : (o : Bool) (t : Terminal) → Keeps (more_stmts o) t (cond (is_word Keyword.Else t.kind && o) (reads (one_block ∷ more_stmts false ∷ [])) stops)
    else_keeps true t =
        pick (more_stmts true) t (is_word Keyword.Else t.kind && true) (reads (one_block ∷ more_stmts false ∷ [])) stops (λ g ts rest h. else_stmts t (and_first (is_word Keyword.Else t.kind) true g) h) tt
    else_keeps false t =
        pick (more_stmts false) t (is_word Keyword.Else t.kind && false) (reads (one_block ∷ more_stmts false ∷ [])) stops
        (λ g. absurd (true≢false (sym (and_second (is_word Keyword.Else t.kind) false g)))) tt

module _ (t : Terminal) where
  assigned_behind : {ts rest : List Terminal} → is_sign Sign.Becomes t.kind ≡ true → All (expr ∷ this_sign Sign.Semicolon ∷ []) ts rest → L behind_target (t ∷ ts) rest
  assigned_behind g (also (e, a, d, more) (also end none)) = λ n at. (_, assigned here (sign_there t Sign.Becomes g) (whole_of d more).1 end)

  assigned_at_behind : {ts rest : List Terminal} → is_sign Sign.LeftSquare t.kind ≡ true →
      All (expr ∷ this_sign Sign.RightSquare ∷ this_sign Sign.Becomes ∷ expr ∷ this_sign Sign.Semicolon ∷ []) ts rest → L behind_target (t ∷ ts) rest
  assigned_at_behind g (also (e, a, d, more) (also close (also becomes (also (f, b, c, others) (also end none))))) =
      λ n at. (_, assigned_at here (sign_there t Sign.LeftSquare g) (whole_of d more).1 close becomes (whole_of c others).1 end)

  block_behind : {ts rest : List Terminal} → is_sign Sign.LeftBrace t.kind ≡ true → All (more_stmts false ∷ []) ts rest → L one_block (t ∷ ts) rest
  block_behind g (also (b, a, inner, close) none) = (_, block (sign_there t Sign.LeftBrace g) inner close)

  within_clause : {ts rest : List Terminal} → is_word Keyword.Finish t.kind ≡ true → All (this_word Keyword.Within ∷ any_number ∷ []) ts rest → L last_clause (t ∷ ts) rest
  within_clause g (also word (also (n, d) none)) = (_, said (word_there t Keyword.Finish g) word d)

  before_clause : {ts rest : List Terminal} → is_word Keyword.Start t.kind ≡ true → All (this_word Keyword.Before ∷ any_number ∷ last_clause ∷ []) ts rest → Later (t ∷ ts) rest
  before_clause g (also word (also (n, d) (also (m, w) none))) = (_, _, _, said (word_there t Keyword.Start g) word d, w)

  first_clause : {ts rest : List Terminal} → is_word Keyword.Start t.kind ≡ true → All (behind_start ∷ []) ts rest → L do_clauses (t ∷ ts) rest
  first_clause {ts = ts} {rest = rest} g (also w none) =
      let P : Terminal → Type 0 = λ u. (v : Window) × IsWindow (u ∷ ts) v rest in
      as_placed P (TokenKind.Word Keyword.Start) t (same_word Keyword.Start t.kind g) (w t.at)

  after_behind : {ts rest : List Terminal} → is_word Keyword.After t.kind ≡ true → All (any_number ∷ behind_after ∷ []) ts rest → L behind_start (t ∷ ts) rest
  after_behind g (also (n, d) (also (p, q, a, v, w) none)) = λ at. (_, window (said there (word_there t Keyword.After g) d) v w)

  before_behind : {ts rest : List Terminal} → is_word Keyword.Before t.kind ≡ true → All (any_number ∷ last_clause ∷ []) ts rest → L behind_start (t ∷ ts) rest
  before_behind g (also (n, d) (also (m, w) none)) = λ at. (_, window unsaid (said there (word_there t Keyword.Before g) d) w)

-- the last clause where a part of a window may stand
within_keeps : (x : Symbol) (t : Terminal) → ((ts rest : List Terminal) → L last_clause ts rest → L x ts rest) → Keeps x t (at_within t.kind)
within_keeps x t lift =
    pick x t (is_word Keyword.Finish t.kind) (reads (this_word Keyword.Within ∷ any_number ∷ [])) skips (λ g ts rest h. lift _ _ (within_clause t g h)) (λ ts. lift ts ts (None, unsaid))

-- ---- declarations and tasks

declare : {ts a rest : List Terminal} {d : Decl} → IsDecl ts d a → Decls a rest → Decls ts rest
declare d (ds, p, f, b, a, c, others, does, close) = (_, p, f, b, a, c, one_decl d others, does, close)

module _ (t : Terminal) where
  input_decls : {ts rest : List Terminal} → is_word Keyword.Input t.kind ≡ true → All (any_name ∷ this_sign Sign.Semicolon ∷ more_decls ∷ []) ts rest → Decls (t ∷ ts) rest
  input_decls g (also (n, at, name) (also end (also others none))) = declare (an_input (word_there t Keyword.Input g) name end) others

  output_decls : {ts rest : List Terminal} → is_word Keyword.Output t.kind ≡ true → All (any_name ∷ this_sign Sign.Semicolon ∷ more_decls ∷ []) ts rest → Decls (t ∷ ts) rest
  output_decls g (also (n, at, name) (also end (also others none))) = declare (an_output (word_there t Keyword.Output g) name end) others

  variable_decls : {ts rest : List Terminal} → (state : Bool) → is_word (keeper state) t.kind ≡ true → All (behind_keeper state ∷ more_decls ∷ []) ts rest → Decls (t ∷ ts) rest
  variable_decls {ts = ts} state g (also {a = a} d (also others none)) =
      let P : Terminal → Type 0 = λ u. (e : Decl) × IsDecl (u ∷ ts) e a in
      declare (as_placed P (TokenKind.Word (keeper state)) t (same_word (keeper state) t.kind g) (d t.at)).1 others

  every_decls : {ts rest : List Terminal} → is_word Keyword.Every t.kind ≡ true → All (any_number ∷ last_clause ∷ one_block ∷ this_sign Sign.RightBrace ∷ []) ts rest → Decls (t ∷ ts) rest
  every_decls g (also (n, period) (also (m, finish) (also (b, inner) (also close none)))) =
      ([], _, _, _, _, _, no_decl, every (word_there t Keyword.Every g) period finish inner, close)

  int_behind : {ts rest : List Terminal} → (state : Bool) → is_word Keyword.Int t.kind ≡ true → All (any_name ∷ behind_int state ∷ this_sign Sign.Semicolon ∷ []) ts rest → L (behind_keeper state) (t ∷ ts) rest
  int_behind state g (also (n, to, name) (also (kind, d) (also end none))) = λ at. (_, an_int there (word_there t Keyword.Int g) name d end)

  bool_behind : {ts rest : List Terminal} → (state : Bool) → is_word Keyword.Bool t.kind ≡ true → All (any_name ∷ behind_bool state ∷ this_sign Sign.Semicolon ∷ []) ts rest → L (behind_keeper state) (t ∷ ts) rest
  bool_behind state g (also (n, to, name) (also (kind, d) (also end none))) = λ at. (_, a_bool there (word_there t Keyword.Bool g) name d end)

  array_behind : {ts rest : List Terminal} → (state : Bool) → is_sign Sign.LeftSquare t.kind ≡ true → All (any_number ∷ this_sign Sign.RightSquare ∷ []) ts rest → L (behind_int state) (t ∷ ts) rest
  array_behind state g (also (n, size) (also close none)) = (_, an_array (sign_there t Sign.LeftSquare g) size close)

  int_value : {ts rest : List Terminal} → is_sign Sign.Is t.kind ≡ true → All (first_int ∷ []) ts rest → L (behind_int true) (t ∷ ts) rest
  int_value {ts = ts} {rest = rest} g (also d none) =
      let P : Terminal → Type 0 = λ u. (n : Option ℤ) × IsFirst (u ∷ ts) n rest in
      (_, a_state (as_placed P (TokenKind.Sign Sign.Is) t (same_sign Sign.Is t.kind g) (d t.at)).1)

  bool_value : {ts rest : List Terminal} → is_sign Sign.Is t.kind ≡ true → All (first_bool ∷ []) ts rest → L (behind_bool true) (t ∷ ts) rest
  bool_value {ts = ts} {rest = rest} g (also d none) =
      let P : Terminal → Type 0 = λ u. (b : Option Bool) × IsFirstTruth (u ∷ ts) b rest in
      (_, a_state_truth (as_placed P (TokenKind.Sign Sign.Is) t (same_sign Sign.Is t.kind g) (d t.at)).1)

  positive_value : {ts rest : List Terminal} → is_numeral t.kind ≡ true → All [] ts rest → L first_int (t ∷ ts) rest
  positive_value g none = let n = some_number t.kind g in λ at. (_, set there (is_here _ t n.1))

  negative_value : {ts rest : List Terminal} → is_sign Sign.Minus t.kind ≡ true → All (any_number ∷ []) ts rest → L first_int (t ∷ ts) rest
  negative_value g (also (n, numbered d) none) = λ at. (_, set_below there (sign_there t Sign.Minus g) d)

  true_value : {ts rest : List Terminal} → is_word Keyword.True t.kind ≡ true → All [] ts rest → L first_bool (t ∷ ts) rest
  true_value g none = λ at. (_, set_true there (word_there t Keyword.True g))

  false_value : {ts rest : List Terminal} → is_word Keyword.False t.kind ≡ true → All [] ts rest → L first_bool (t ∷ ts) rest
  false_value g none = λ at. (_, set_false there (word_there t Keyword.False g))

  body_behind : {ts rest : List Terminal} → is_sign Sign.LeftBrace t.kind ≡ true → All (more_decls ∷ []) ts rest → L task_block (t ∷ ts) rest
  body_behind g (also h none) = (_, sign_there t Sign.LeftBrace g, h)

  more_behind : {ts rest : List Terminal} → is_word Keyword.Task t.kind ≡ true → All task_tail ts rest → Tasks (t ∷ ts) rest
  more_behind g (also (n, at, name) (also priority (also (m, p) (also (a, brace, (ds, period, finish, b, c, e, decls, does, close)) (also others none))))) =
      and_task (task (word_there t Keyword.Task g) name priority p brace decls does close) others

  a_word : {ts rest : List Terminal} → (w : Keyword) → is_word w t.kind ≡ true → All [] ts rest → IsToken (TokenKind.Word w) (t ∷ ts) rest
  a_word w g none = word_there t w g

  a_sign : {ts rest : List Terminal} → (s : Sign) → is_sign s t.kind ≡ true → All [] ts rest → IsToken (TokenKind.Sign s) (t ∷ ts) rest
  a_sign s g none = sign_there t s g

  a_name : {ts rest : List Terminal} → is_name t.kind ≡ true → All [] ts rest → L any_name (t ∷ ts) rest
  a_name g none = let n = some_name t.kind g in (n.0, t.at, is_here _ t n.1)

  a_numeral : {ts rest : List Terminal} → is_numeral t.kind ≡ true → All [] ts rest → L any_number (t ∷ ts) rest
  a_numeral g none = let n = some_number t.kind g in (_, numbered (is_here _ t n.1))

decls_keep : (t : Terminal) → Keeps more_decls t (at_decls t.kind)
decls_keep t =
    let x = more_decls in
    let k = t.kind in
    pick x t (is_word Keyword.Input k) (reads (any_name ∷ this_sign Sign.Semicolon ∷ more_decls ∷ [])) _ (λ g ts rest h. input_decls t g h)
    (pick x t (is_word Keyword.Output k) (reads (any_name ∷ this_sign Sign.Semicolon ∷ more_decls ∷ [])) _ (λ g ts rest h. output_decls t g h)
    (pick x t (is_word Keyword.Local k) (reads (behind_keeper false ∷ more_decls ∷ [])) _ (λ g ts rest h. variable_decls t false g h)
    (pick x t (is_word Keyword.State k) (reads (behind_keeper true ∷ more_decls ∷ [])) _ (λ g ts rest h. variable_decls t true g h)
    (pick x t (is_word Keyword.Every k) (reads (any_number ∷ last_clause ∷ one_block ∷ this_sign Sign.RightBrace ∷ [])) stops (λ g ts rest h. every_decls t g h) tt))))

-- nothing may stand behind the name of a variable
pub no_int : (state : Bool) {ts : List Terminal} → L (behind_int state) ts ts
no_int true = (_, a_state unset)
no_int false = (_, a_local)

pub no_bool : (state : Bool) {ts : List Terminal} → L (behind_bool state) ts ts
no_bool true = (_, a_state_truth unset_truth)
no_bool false = (_, a_local_truth)

value_keeps : (state : Bool) (t : Terminal) → Keeps (behind_int state) t (cond (is_sign Sign.Is t.kind && state) (reads (first_int ∷ [])) skips)
value_keeps true t = pick (behind_int true) t (is_sign Sign.Is t.kind && true) (reads (first_int ∷ [])) skips (λ g ts rest h. int_value t (and_first (is_sign Sign.Is t.kind) true g) h) (λ ts. no_int true)
value_keeps false t =
    pick (behind_int false) t (is_sign Sign.Is t.kind && false) (reads (first_int ∷ [])) skips (λ g. absurd (true≢false (sym (and_second (is_sign Sign.Is t.kind) false g)))) (λ ts. no_int false)

bool_value_keeps : (state : Bool) (t : Terminal) → Keeps (behind_bool state) t (cond (is_sign Sign.Is t.kind && state) (reads (first_bool ∷ [])) skips)
bool_value_keeps true t =
    pick (behind_bool true) t (is_sign Sign.Is t.kind && true) (reads (first_bool ∷ [])) skips (λ g ts rest h. bool_value t (and_first (is_sign Sign.Is t.kind) true g) h) (λ ts. no_bool true)
bool_value_keeps false t =
    pick (behind_bool false) t (is_sign Sign.Is t.kind && false) (reads (first_bool ∷ [])) skips (λ g. absurd (true≢false (sym (and_second (is_sign Sign.Is t.kind) false g)))) (λ ts. no_bool false)

-- each move keeps to what its symbol may read
keeps : (x : Symbol) (t : Terminal) → Keeps x t (move x t.kind)
keeps (this_word w) t = pick (this_word w) t (is_word w t.kind) (reads []) stops (λ g ts rest h. a_word t w g h) tt
keeps (this_sign s) t = pick (this_sign s) t (is_sign s t.kind) (reads []) stops (λ g ts rest h. a_sign t s g h) tt
keeps any_name t = pick any_name t (is_name t.kind) (reads []) stops (λ g ts rest h. a_name t g h) tt
keeps any_number t = pick any_number t (is_numeral t.kind) (reads []) stops (λ g ts rest h. a_numeral t g h) tt
keeps (operand signed c) t = operand_keeps signed c t (unary_of t.kind) refl
keeps (behind_operand below c) t = operator_keeps below c t (binary_of t.kind) refl
keeps (behind_name c) t = name_end_keeps c t (binary_of t.kind) refl
keeps (more_stmts o) t = stmts_keep o t
keeps one_block t = pick one_block t (is_sign Sign.LeftBrace t.kind) (reads (more_stmts false ∷ [])) stops (λ g ts rest h. block_behind t g h) tt
keeps behind_target t =
    pick behind_target t (is_sign Sign.Becomes t.kind) (reads (expr ∷ this_sign Sign.Semicolon ∷ [])) _ (λ g ts rest h. assigned_behind t g h)
    (pick behind_target t (is_sign Sign.LeftSquare t.kind) (reads (expr ∷ this_sign Sign.RightSquare ∷ this_sign Sign.Becomes ∷ expr ∷ this_sign Sign.Semicolon ∷ [])) stops (λ g ts rest h. assigned_at_behind t g h) tt)
keeps do_clauses t =
    pick do_clauses t (is_word Keyword.Start t.kind) (reads (behind_start ∷ [])) (at_within t.kind) (λ g ts rest h. first_clause t g h)
    (within_keeps do_clauses t (λ ts rest w. (_, window unsaid unsaid w.1)))
keeps behind_start t =
    pick behind_start t (is_word Keyword.After t.kind) (reads (any_number ∷ behind_after ∷ [])) _ (λ g ts rest h. after_behind t g h)
    (pick behind_start t (is_word Keyword.Before t.kind) (reads (any_number ∷ last_clause ∷ [])) stops (λ g ts rest h. before_behind t g h) tt)
keeps behind_after t =
    pick behind_after t (is_word Keyword.Start t.kind) (reads (this_word Keyword.Before ∷ any_number ∷ last_clause ∷ [])) (at_within t.kind) (λ g ts rest h. before_clause t g h)
    (within_keeps behind_after t (λ ts rest w. (_, _, _, unsaid, w.1)))
keeps last_clause t = within_keeps last_clause t (λ ts rest w. w)
keeps more_decls t = decls_keep t
keeps task_block t = pick task_block t (is_sign Sign.LeftBrace t.kind) (reads (more_decls ∷ [])) stops (λ g ts rest h. body_behind t g h) tt
keeps (behind_keeper state) t =
    pick (behind_keeper state) t (is_word Keyword.Int t.kind) (reads (any_name ∷ behind_int state ∷ this_sign Sign.Semicolon ∷ [])) _ (λ g ts rest h. int_behind t state g h)
    (pick (behind_keeper state) t (is_word Keyword.Bool t.kind) (reads (any_name ∷ behind_bool state ∷ this_sign Sign.Semicolon ∷ [])) stops (λ g ts rest h. bool_behind t state g h) tt)
keeps (behind_int state) t =
    pick (behind_int state) t (is_sign Sign.LeftSquare t.kind) (reads (any_number ∷ this_sign Sign.RightSquare ∷ [])) _ (λ g ts rest h. array_behind t state g h) (value_keeps state t)
keeps (behind_bool state) t = bool_value_keeps state t
keeps first_int t =
    pick first_int t (is_numeral t.kind) (reads []) _ (λ g ts rest h. positive_value t g h)
    (pick first_int t (is_sign Sign.Minus t.kind) (reads (any_number ∷ [])) stops (λ g ts rest h. negative_value t g h) tt)
keeps first_bool t =
    pick first_bool t (is_word Keyword.True t.kind) (reads []) _ (λ g ts rest h. true_value t g h)
    (pick first_bool t (is_word Keyword.False t.kind) (reads []) stops (λ g ts rest h. false_value t g h) tt)
keeps more_tasks t = pick more_tasks t (is_word Keyword.Task t.kind) (reads task_tail) skips (λ g ts rest h. more_behind t g h) (λ ts. no_task)

-- a move goes back: what is read behind it, the symbol and those below read behind the token
move_back : (x : Symbol) (k : List Symbol) (t : Terminal) (m : Move) → Keeps x t m → (o : Option (List Symbol)) (j : List Symbol) → moved m k o ≡ Some j →
    ((ts : List Terminal) → o ≡ Some j → All j ts [] → All k (t ∷ ts) []) → (ts : List Terminal) → All j ts [] → All (x ∷ k) (t ∷ ts) []
move_back x k t (reads i) l o j e below ts h =
    let P : List Symbol → Type 0 = λ y. All y ts [] in
    let s = split_all i (subst P (sym (same_Some _ _ e)) h) in
    also (l _ _ s.1) s.2
move_back x k t skips l o j e below ts h = also (l _) (below ts e h)
move_back x k t stops l o j e below ts h = cc

-- a step goes back: what the stack behind a token reads, the one before it reads behind that token
pub step_back : (k : List Symbol) (t : Terminal) (j : List Symbol) → step k t.kind ≡ Some j → (ts : List Terminal) → All j ts [] → All k (t ∷ ts) []
step_back [] t j e ts h = cc
step_back (x ∷ k) t j e ts h = move_back x k t (move x t.kind) (keeps x t) (step k t.kind) j e (λ us f g. step_back k t j f us g) ts h
