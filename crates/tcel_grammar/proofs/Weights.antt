-- Brackets that a stack still closes: no more than those that are open.
use Rattle.std.proofs.Common.{◌≡◌, ℕ, ◌+◌, ◌≤◌, Bool, true, false, cond, List, [], ◌∷◌, ◌++◌, Option, Some, None, refl, sym, subst, arith, ◌&&◌}
use Rattle.std.proofs.lemmas.Option.{same_Some}
use Rattle.tcel_num.specs.declared.op.Op.{Op}
use Rattle.tcel_token.specs.declared.keyword.Keyword.{Keyword}
use Rattle.tcel_token.specs.declared.sign.Sign.{Sign}
use Rattle.tcel_token.specs.declared.token.TokenKind.{TokenKind}
use Rattle.tcel_grammar.specs.Expressions.{binary_of, unary_of, level_of}
use Rattle.tcel_grammar.specs.Faults.{is_opening, is_closing}
use Rattle.tcel_grammar.specs.Machine.{Symbol, this_word, this_sign, any_name, any_number, operand, behind_operand, behind_name, more_stmts, one_block, behind_target, do_clauses, behind_start, behind_after, last_clause, more_decls, task_block, behind_keeper, behind_int, behind_bool, first_int, first_bool, more_tasks, goes_on, compared_after, task_tail, expr, Move, reads, skips, stops, move, moved, step, at_operator, at_name_end, at_operand, at_stmts, at_decls, at_within, is_word, is_sign, is_name, is_numeral}
use Rattle.tcel_grammar.proofs.Tests.{same_word, same_sign, some_name, some_number}

abbrev pub bit : Bool → ℕ
bit true = 1
bit false = 0

-- the brackets that a symbol still closes
abbrev pub weight_of : Symbol → ℕ
weight_of (this_sign s) = bit (is_closing (TokenKind.Sign s))
weight_of (more_stmts o) = 1
weight_of more_decls = 1
weight_of _ = 0

abbrev pub weight : List Symbol → ℕ
weight [] = 0
weight (x ∷ k) = weight_of x + weight k

-- a move at a token of this kind closes no more than it has
abbrev Weighs : Symbol → TokenKind → Move → Type 0
Weighs x kind (reads j) = bit (is_closing kind) + weight j ≤ bit (is_opening kind) + weight_of x
Weighs x kind skips = Unit {0}
Weighs x kind stops = Unit {0}

pick : (x : Symbol) (kind : TokenKind) (b : Bool) (m n : Move) → (b ≡ true → Weighs x kind m) → Weighs x kind n → Weighs x kind (cond b m n)
pick x kind true m n f g = f refl
pick x kind false m n f g = g

at_kind : (x : Symbol) (j : List Symbol) (kind literal : TokenKind) → kind ≡ literal → Weighs x literal (reads j) → Weighs x kind (reads j)
at_kind x j kind literal e h = let P : TokenKind → Type 0 = λ y. Weighs x y (reads j) in subst P (sym e) h

-- an operator is no bracket
no_closing : (kind : TokenKind) (op : Op) → binary_of kind ≡ Some op → is_closing kind ≡ false
no_closing (TokenKind.Sign Sign.RightBrace) op e = cc
no_closing (TokenKind.Sign Sign.RightRound) op e = cc
no_closing (TokenKind.Sign Sign.RightSquare) op e = cc
no_closing (TokenKind.Sign _) op e = refl
no_closing (TokenKind.Word w) op e = refl
no_closing (TokenKind.Name n) op e = refl
no_closing (TokenKind.Number n) op e = refl

no_unary_closing : (kind : TokenKind) (op : Op) → unary_of kind ≡ Some op → is_closing kind ≡ false
no_unary_closing (TokenKind.Sign Sign.RightBrace) op e = cc
no_unary_closing (TokenKind.Sign Sign.RightRound) op e = cc
no_unary_closing (TokenKind.Sign Sign.RightSquare) op e = cc
no_unary_closing (TokenKind.Sign _) op e = refl
no_unary_closing (TokenKind.Word w) op e = refl
no_unary_closing (TokenKind.Name n) op e = refl
no_unary_closing (TokenKind.Number n) op e = refl

operator_weighs : (x : Symbol) (below : ℕ) (c : Bool) (kind : TokenKind) (o : Option Op) → binary_of kind ≡ o → Weighs x kind (at_operator below c o)
operator_weighs x below c kind None e = tt
operator_weighs x below c kind (Some op) e =
    pick x kind (goes_on below c (level_of op)) (reads (operand true (compared_after c (level_of op)) ∷ [])) skips (λ _. rw (no_closing kind op e) (omega arith)) tt

module _ (x : Symbol) (kind : TokenKind) where
  word_weighs : (w : Keyword) (j : List Symbol) → weight j ≤ weight_of x → is_word w kind ≡ true → Weighs x kind (reads j)
  word_weighs w j h g = at_kind x j kind (TokenKind.Word w) (same_word w kind g) (omega arith)

  sign_weighs : (s : Sign) (j : List Symbol) → Weighs x (TokenKind.Sign s) (reads j) → is_sign s kind ≡ true → Weighs x kind (reads j)
  sign_weighs s j h g = at_kind x j kind (TokenKind.Sign s) (same_sign s kind g) h

  name_weighs : (j : List Symbol) → weight j ≤ weight_of x → is_name kind ≡ true → Weighs x kind (reads j)
  name_weighs j h g = let n = some_name kind g in at_kind x j kind (TokenKind.Name n.0) n.1 (omega arith)

  number_weighs : (j : List Symbol) → weight j ≤ weight_of x → is_numeral kind ≡ true → Weighs x kind (reads j)
  number_weighs j h g = let n = some_number kind g in at_kind x j kind (TokenKind.Number n.0) n.1 (omega arith)

and_first : (a b : Bool) → (a && b) ≡ true → a ≡ true
and_first true b e = refl
and_first false b e = cc

operand_weighs : (signed c : Bool) (kind : TokenKind) (o : Option Op) → unary_of kind ≡ o → Weighs (operand signed c) kind (at_operand signed c o kind)
operand_weighs true c kind (Some op) e = rw (no_unary_closing kind op e) (omega arith)
operand_weighs false c kind (Some op) e = tt
operand_weighs signed c kind None e =
    let x = operand signed c in
    let behind = behind_operand 5 c ∷ [] in
    let inside = expr ∷ this_sign Sign.RightRound ∷ behind_operand 5 c ∷ [] in
    pick x kind (is_numeral kind) (reads behind) _ (number_weighs x kind behind (omega arith))
    (pick x kind (is_name kind) (reads (behind_name c ∷ [])) _ (name_weighs x kind (behind_name c ∷ []) (omega arith))
    (pick x kind (is_word Keyword.True kind) (reads behind) _ (word_weighs x kind Keyword.True behind (omega arith))
    (pick x kind (is_word Keyword.False kind) (reads behind) _ (word_weighs x kind Keyword.False behind (omega arith))
    (pick x kind (is_sign Sign.LeftRound kind) (reads inside) stops (sign_weighs x kind Sign.LeftRound inside (omega arith)) tt))))

name_end_weighs : (c : Bool) (kind : TokenKind) (o : Option Op) → binary_of kind ≡ o → Weighs (behind_name c) kind (at_name_end c (is_sign Sign.LeftSquare kind) o)
name_end_weighs c kind None e =
    let inside = expr ∷ this_sign Sign.RightSquare ∷ behind_operand 5 c ∷ [] in
    pick (behind_name c) kind (is_sign Sign.LeftSquare kind) (reads inside) skips (sign_weighs (behind_name c) kind Sign.LeftSquare inside (omega arith)) tt
name_end_weighs c kind (Some op) e = operator_weighs (behind_name c) 5 c kind (Some op) e

stmts_weigh : (o : Bool) (kind : TokenKind) → Weighs (more_stmts o) kind (at_stmts o kind)
stmts_weigh o kind =
    let x = more_stmts o in
    let assigning = behind_target ∷ more_stmts false ∷ [] in
    let receiving = any_name ∷ this_word Keyword.From ∷ any_name ∷ this_sign Sign.Semicolon ∷ more_stmts false ∷ [] in
    let sending = expr ∷ this_word Keyword.To ∷ any_name ∷ this_sign Sign.Semicolon ∷ more_stmts false ∷ [] in
    let choosing = expr ∷ one_block ∷ more_stmts true ∷ [] in
    let counting = any_name ∷ this_sign Sign.Less ∷ any_number ∷ one_block ∷ more_stmts false ∷ [] in
    let repeating = expr ∷ this_word Keyword.Limit ∷ any_number ∷ one_block ∷ more_stmts false ∷ [] in
    let timing = do_clauses ∷ one_block ∷ more_stmts false ∷ [] in
    let other = one_block ∷ more_stmts false ∷ [] in
    pick x kind (is_sign Sign.RightBrace kind) (reads []) _ (sign_weighs x kind Sign.RightBrace [] (omega arith))
    (pick x kind (is_name kind) (reads assigning) _ (name_weighs x kind assigning (omega arith))
    (pick x kind (is_word Keyword.Receive kind) (reads receiving) _ (word_weighs x kind Keyword.Receive receiving (omega arith))
    (pick x kind (is_word Keyword.Send kind) (reads sending) _ (word_weighs x kind Keyword.Send sending (omega arith))
    (pick x kind (is_word Keyword.If kind) (reads choosing) _ (word_weighs x kind Keyword.If choosing (omega arith))
    (pick x kind (is_word Keyword.For kind) (reads counting) _ (word_weighs x kind Keyword.For counting (omega arith))
    (pick x kind (is_word Keyword.While kind) (reads repeating) _ (word_weighs x kind Keyword.While repeating (omega arith))
    (pick x kind (is_word Keyword.Do kind) (reads timing) _ (word_weighs x kind Keyword.Do timing (omega arith))
    (pick x kind (is_word Keyword.Else kind && o) (reads other) stops (λ g. word_weighs x kind Keyword.Else other (omega arith) (and_first (is_word Keyword.Else kind) o g)) tt))))))))

within_weighs : (x : Symbol) (kind : TokenKind) → Weighs x kind (at_within kind)
within_weighs x kind =
    let clause = this_word Keyword.Within ∷ any_number ∷ [] in
    pick x kind (is_word Keyword.Finish kind) (reads clause) skips (word_weighs x kind Keyword.Finish clause (omega arith)) tt

decls_weigh : (kind : TokenKind) → Weighs more_decls kind (at_decls kind)
decls_weigh kind =
    let x = more_decls in
    let port = any_name ∷ this_sign Sign.Semicolon ∷ more_decls ∷ [] in
    let doing = any_number ∷ last_clause ∷ one_block ∷ this_sign Sign.RightBrace ∷ [] in
    pick x kind (is_word Keyword.Input kind) (reads port) _ (word_weighs x kind Keyword.Input port (omega arith))
    (pick x kind (is_word Keyword.Output kind) (reads port) _ (word_weighs x kind Keyword.Output port (omega arith))
    (pick x kind (is_word Keyword.Local kind) (reads (behind_keeper false ∷ more_decls ∷ [])) _ (word_weighs x kind Keyword.Local (behind_keeper false ∷ more_decls ∷ []) (omega arith))
    (pick x kind (is_word Keyword.State kind) (reads (behind_keeper true ∷ more_decls ∷ [])) _ (word_weighs x kind Keyword.State (behind_keeper true ∷ more_decls ∷ []) (omega arith))
    (pick x kind (is_word Keyword.Every kind) (reads doing) stops (word_weighs x kind Keyword.Every doing (omega arith)) tt))))

target_weighs : (kind : TokenKind) → Weighs behind_target kind (move behind_target kind)
target_weighs kind =
    let x = behind_target in
    let value = expr ∷ this_sign Sign.Semicolon ∷ [] in
    let place = expr ∷ this_sign Sign.RightSquare ∷ this_sign Sign.Becomes ∷ value in
    pick x kind (is_sign Sign.Becomes kind) (reads value) _ (sign_weighs x kind Sign.Becomes value (omega arith))
    (pick x kind (is_sign Sign.LeftSquare kind) (reads place) stops (sign_weighs x kind Sign.LeftSquare place (omega arith)) tt)

keeper_weighs : (state : Bool) (kind : TokenKind) → Weighs (behind_keeper state) kind (move (behind_keeper state) kind)
keeper_weighs state kind =
    let x = behind_keeper state in
    let number = any_name ∷ behind_int state ∷ this_sign Sign.Semicolon ∷ [] in
    let truth = any_name ∷ behind_bool state ∷ this_sign Sign.Semicolon ∷ [] in
    pick x kind (is_word Keyword.Int kind) (reads number) _ (word_weighs x kind Keyword.Int number (omega arith))
    (pick x kind (is_word Keyword.Bool kind) (reads truth) stops (word_weighs x kind Keyword.Bool truth (omega arith)) tt)

int_weighs : (state : Bool) (kind : TokenKind) → Weighs (behind_int state) kind (move (behind_int state) kind)
int_weighs state kind =
    let x = behind_int state in
    let size = any_number ∷ this_sign Sign.RightSquare ∷ [] in
    pick x kind (is_sign Sign.LeftSquare kind) (reads size) _ (sign_weighs x kind Sign.LeftSquare size (omega arith))
    (pick x kind (is_sign Sign.Is kind && state) (reads (first_int ∷ [])) skips (λ g. sign_weighs x kind Sign.Is (first_int ∷ []) (omega arith) (and_first (is_sign Sign.Is kind) state g)) tt)

-- each move closes no more than its symbol has
weighs : (x : Symbol) (kind : TokenKind) → Weighs x kind (move x kind)
weighs (this_word w) kind = pick (this_word w) kind (is_word w kind) (reads []) stops (word_weighs (this_word w) kind w [] (omega arith)) tt
weighs (this_sign s) kind = pick (this_sign s) kind (is_sign s kind) (reads []) stops (sign_weighs (this_sign s) kind s [] (omega arith)) tt
weighs any_name kind = pick any_name kind (is_name kind) (reads []) stops (name_weighs any_name kind [] (omega arith)) tt
weighs any_number kind = pick any_number kind (is_numeral kind) (reads []) stops (number_weighs any_number kind [] (omega arith)) tt
weighs (operand signed c) kind = operand_weighs signed c kind (unary_of kind) refl
weighs (behind_operand below c) kind = operator_weighs (behind_operand below c) below c kind (binary_of kind) refl
weighs (behind_name c) kind = name_end_weighs c kind (binary_of kind) refl
weighs (more_stmts o) kind = stmts_weigh o kind
weighs one_block kind = pick one_block kind (is_sign Sign.LeftBrace kind) (reads (more_stmts false ∷ [])) stops (sign_weighs one_block kind Sign.LeftBrace (more_stmts false ∷ []) (omega arith)) tt
weighs behind_target kind = target_weighs kind
weighs do_clauses kind =
    pick do_clauses kind (is_word Keyword.Start kind) (reads (behind_start ∷ [])) (at_within kind) (word_weighs do_clauses kind Keyword.Start (behind_start ∷ []) (omega arith)) (within_weighs do_clauses kind)
weighs behind_start kind =
    pick behind_start kind (is_word Keyword.After kind) (reads (any_number ∷ behind_after ∷ [])) _ (word_weighs behind_start kind Keyword.After (any_number ∷ behind_after ∷ []) (omega arith))
    (pick behind_start kind (is_word Keyword.Before kind) (reads (any_number ∷ last_clause ∷ [])) stops (word_weighs behind_start kind Keyword.Before (any_number ∷ last_clause ∷ []) (omega arith)) tt)
weighs behind_after kind =
    pick behind_after kind (is_word Keyword.Start kind) (reads (this_word Keyword.Before ∷ any_number ∷ last_clause ∷ [])) (at_within kind)
    (word_weighs behind_after kind Keyword.Start (this_word Keyword.Before ∷ any_number ∷ last_clause ∷ []) (omega arith)) (within_weighs behind_after kind)
weighs last_clause kind = within_weighs last_clause kind
weighs more_decls kind = decls_weigh kind
weighs task_block kind = pick task_block kind (is_sign Sign.LeftBrace kind) (reads (more_decls ∷ [])) stops (sign_weighs task_block kind Sign.LeftBrace (more_decls ∷ []) (omega arith)) tt
weighs (behind_keeper state) kind = keeper_weighs state kind
weighs (behind_int state) kind = int_weighs state kind
weighs (behind_bool state) kind =
    pick (behind_bool state) kind (is_sign Sign.Is kind && state) (reads (first_bool ∷ [])) skips (λ g. sign_weighs (behind_bool state) kind Sign.Is (first_bool ∷ []) (omega arith) (and_first (is_sign Sign.Is kind) state g)) tt
weighs first_int kind =
    pick first_int kind (is_numeral kind) (reads []) _ (number_weighs first_int kind [] (omega arith))
    (pick first_int kind (is_sign Sign.Minus kind) (reads (any_number ∷ [])) stops (sign_weighs first_int kind Sign.Minus (any_number ∷ []) (omega arith)) tt)
weighs first_bool kind =
    pick first_bool kind (is_word Keyword.True kind) (reads []) _ (word_weighs first_bool kind Keyword.True [] (omega arith))
    (pick first_bool kind (is_word Keyword.False kind) (reads []) stops (word_weighs first_bool kind Keyword.False [] (omega arith)) tt)
weighs more_tasks kind = pick more_tasks kind (is_word Keyword.Task kind) (reads task_tail) skips (word_weighs more_tasks kind Keyword.Task task_tail (omega arith)) tt

weight-append : (j k : List Symbol) → weight (j ++ k) ≡ weight j + weight k
weight-append [] k = omega arith
weight-append (x ∷ j) k = let e = weight-append j k in omega arith

move_weighs : (x : Symbol) (k : List Symbol) (kind : TokenKind) (m : Move) → Weighs x kind m → (o : Option (List Symbol)) (j : List Symbol) → moved m k o ≡ Some j →
    (o ≡ Some j → bit (is_closing kind) + weight j ≤ bit (is_opening kind) + weight k) → bit (is_closing kind) + weight j ≤ bit (is_opening kind) + (weight_of x + weight k)
move_weighs x k kind (reads i) h o j e below =
    let P : List Symbol → Type 0 = λ y. bit (is_closing kind) + weight y ≤ bit (is_opening kind) + (weight_of x + weight k) in
    subst P (same_Some _ _ e) (let f = weight-append i k in omega arith)
move_weighs x k kind skips h o j e below = let f = below e in omega arith
move_weighs x k kind stops h o j e below = cc

-- a step closes no more than the stack has
pub step_weighs : (k : List Symbol) (kind : TokenKind) (j : List Symbol) → step k kind ≡ Some j → bit (is_closing kind) + weight j ≤ bit (is_opening kind) + weight k
step_weighs [] kind j e = cc
step_weighs (x ∷ k) kind j e = move_weighs x k kind (move x kind) (weighs x kind) (step k kind) j e (step_weighs k kind j)
