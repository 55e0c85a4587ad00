-- A greedy machine that reads programs without making trees: a stack of symbols says what must still come, and each token moves it.
use Rattle.std.specs.Prelude.{◌==◌, ◌+◌, ◌-◌, ◌&&◌, not, ℕ, Bool, true, false, List, [], ◌∷◌, ◌++◌, Option, Some, None, nat_lt, if◌then◌else◌}
use Rattle.tcel_num.specs.declared.op.Op.{Op}
use Rattle.tcel_token.specs.declared.keyword.Keyword.{Keyword}
use Rattle.tcel_token.specs.declared.sign.Sign.{Sign}
use Rattle.tcel_token.specs.declared.token.TokenKind.{TokenKind}
use Rattle.tcel_token.specs.Terminal.{Terminal}
use Rattle.tcel_grammar.specs.declared.deep.Deep.{Deep}
use Rattle.tcel_grammar.specs.Expressions.{Level, disjunction, conjunction, comparison, sum, term, factor, atom, binary_of, unary_of, level_of}
use Rattle.tcel_grammar.specs.Faults.{is_opening, is_closing, is_operator, is_border}

-- a number for each word, and for each sign
abbrev pub word_number : Keyword → ℕ
word_number Keyword.Task = 0
word_number Keyword.Priority = 1
word_number Keyword.Input = 2
word_number Keyword.Output = 3
word_number Keyword.State = 4
word_number Keyword.Local = 5
word_number Keyword.Int = 6
word_number Keyword.Bool = 7
word_number Keyword.Every = 8
word_number Keyword.Finish = 9
word_number Keyword.Within = 10
word_number Keyword.Start = 11
word_number Keyword.After = 12
word_number Keyword.Before = 13
word_number Keyword.Do = 14
word_number Keyword.Receive = 15
word_number Keyword.From = 16
word_number Keyword.Send = 17
word_number Keyword.To = 18
word_number Keyword.If = 19
word_number Keyword.Else = 20
word_number Keyword.For = 21
word_number Keyword.While = 22
word_number Keyword.Limit = 23
word_number Keyword.True = 24
word_number Keyword.False = 25
word_number Keyword.And = 26
word_number Keyword.Or = 27
word_number Keyword.Not = 28

abbrev pub sign_number : Sign → ℕ
sign_number Sign.LeftBrace = 0
sign_number Sign.RightBrace = 1
sign_number Sign.LeftRound = 2
sign_number Sign.RightRound = 3
sign_number Sign.LeftSquare = 4
sign_number Sign.RightSquare = 5
sign_number Sign.Semicolon = 6
sign_number Sign.Becomes = 7
sign_number Sign.Is = 8
sign_number Sign.Equal = 9
sign_number Sign.Unequal = 10
sign_number Sign.Less = 11
sign_number Sign.LessOrEqual = 12
sign_number Sign.Greater = 13
sign_number Sign.GreaterOrEqual = 14
sign_number Sign.Plus = 15
sign_number Sign.Minus = 16
sign_number Sign.Star = 17
sign_number Sign.Slash = 18
sign_number Sign.Percent = 19

abbrev pub is_word : Keyword → TokenKind → Bool
is_word w (TokenKind.Word v) = word_number v == word_number w
is_word w _ = false

abbrev pub is_sign : Sign → TokenKind → Bool
is_sign s (TokenKind.Sign r) = sign_number r == sign_number s
is_sign s _ = false

abbrev pub is_name : TokenKind → Bool
is_name (TokenKind.Name _) = true
is_name _ = false

abbrev pub is_numeral : TokenKind → Bool
is_numeral (TokenKind.Number _) = true
is_numeral _ = false

-- what must come
pub data Symbol : Type 0 where
  this_word : Keyword → Symbol
  this_sign : Sign → Symbol
  any_name : Symbol
  any_number : Symbol
  -- an operand, which may have an operator in front of it, behind a comparison or not
  operand : Bool → Bool → Symbol
  -- behind an operand: an operator of a level below this one, behind a comparison or not
  behind_operand : ℕ → Bool → Symbol
  -- behind a name in an expression: an index too
  behind_name : Bool → Symbol
  -- statements and the brace that closes them, maybe behind an `if` block
  more_stmts : Bool → Symbol
  one_block : Symbol
  -- behind the name that begins an assignment
  behind_target : Symbol
  -- the clauses of a `do`, and what is left of them behind `start`, behind the first and behind the second
  do_clauses : Symbol
  behind_start : Symbol
  behind_after : Symbol
  last_clause : Symbol
  -- declarations, the task's `every` and the brace that closes the task
  more_decls : Symbol
  task_block : Symbol
  -- behind `local` and behind `state`
  behind_keeper : Bool → Symbol
  behind_int : Bool → Symbol
  behind_bool : Bool → Symbol
  first_int : Symbol
  first_bool : Symbol
  -- more tasks, or the end
  more_tasks : Symbol

-- what a symbol does at a token: it reads it and leaves others in its place, or is passed over, or can't go on
pub data Move : Type 0 where
  reads : List Symbol → Move
  skips : Move
  stops : Move

-- the numbers of levels, the loosest first
abbrev pub rank : Level → ℕ
rank disjunction = 0
rank conjunction = 1
rank comparison = 2
rank sum = 3
rank term = 4
rank factor = 5
rank atom = 6

abbrev pub is_comparison : Level → Bool
is_comparison comparison = true
is_comparison _ = false

-- whether a comparison stands in front of the next operand, where an operator of this level does
abbrev pub compared_after : Bool → Level → Bool
compared_after compared disjunction = false
compared_after compared conjunction = false
compared_after compared comparison = true
compared_after compared _ = compared

-- an operator of this level may come
abbrev pub goes_on : ℕ → Bool → Level → Bool
goes_on below compared level = nat_lt (rank level) below && not (is_comparison level && compared)

abbrev pub at_operator : ℕ → Bool → Option Op → Move
at_operator below compared None = skips
at_operator below compared (Some op) =
    if goes_on below compared (level_of op) then reads (operand true (compared_after compared (level_of op)) ∷ []) else skips

abbrev pub at_name_end : Bool → Bool → Option Op → Move
at_name_end compared indexed (Some op) = at_operator 5 compared (Some op)
at_name_end compared indexed None =
    if indexed then reads (operand true false ∷ this_sign Sign.RightSquare ∷ behind_operand 5 compared ∷ []) else skips

-- an operator in front of an operand, or the operand
abbrev pub at_operand : Bool → Bool → Option Op → TokenKind → Move
at_operand signed compared (Some op) kind = if signed then reads (operand false compared ∷ []) else stops
at_operand signed compared None kind =
    if is_numeral kind then reads (behind_operand 5 compared ∷ [])
    else (if is_name kind then reads (behind_name compared ∷ [])
    else (if is_word Keyword.True kind then reads (behind_operand 5 compared ∷ [])
    else (if is_word Keyword.False kind then reads (behind_operand 5 compared ∷ [])
    else (if is_sign Sign.LeftRound kind then reads (operand true false ∷ this_sign Sign.RightRound ∷ behind_operand 5 compared ∷ []) else stops))))

abbrev pub expr : Symbol
expr = operand true false

abbrev pub at_stmts : Bool → TokenKind → Move
at_stmts chosen kind =
    if is_sign Sign.RightBrace kind then reads []
    else (if is_name kind then reads (behind_target ∷ more_stmts false ∷ [])
    else (if is_word Keyword.Receive kind then reads (any_name ∷ this_word Keyword.From ∷ any_name ∷ this_sign Sign.Semicolon ∷ more_stmts false ∷ [])
    else (if is_word Keyword.Send kind then reads (expr ∷ this_word Keyword.To ∷ any_name ∷ this_sign Sign.Semicolon ∷ more_stmts false ∷ [])
    else (if is_word Keyword.If kind then reads (expr ∷ one_block ∷ more_stmts true ∷ [])
    else (if is_word Keyword.For kind then reads (any_name ∷ this_sign Sign.Less ∷ any_number ∷ one_block ∷ more_stmts false ∷ [])
    else (if is_word Keyword.While kind then reads (expr ∷ this_word Keyword.Limit ∷ any_number ∷ one_block ∷ more_stmts false ∷ [])
    else (if is_word Keyword.Do kind then reads (do_clauses ∷ one_block ∷ more_stmts false ∷ [])
    else (if is_word Keyword.Else kind && chosen then reads (one_block ∷ more_stmts false ∷ [])
    else stops))))))))

abbrev pub at_target : TokenKind → Move
at_target kind =
    if is_sign Sign.Becomes kind then reads (expr ∷ this_sign Sign.Semicolon ∷ [])
    else (if is_sign Sign.LeftSquare kind then reads (expr ∷ this_sign Sign.RightSquare ∷ this_sign Sign.Becomes ∷ expr ∷ this_sign Sign.Semicolon ∷ [])
    else stops)

abbrev pub at_within : TokenKind → Move
at_within kind = if is_word Keyword.Finish kind then reads (this_word Keyword.Within ∷ any_number ∷ []) else skips

abbrev pub at_decls : TokenKind → Move
at_decls kind =
    if is_word Keyword.Input kind then reads (any_name ∷ this_sign Sign.Semicolon ∷ more_decls ∷ [])
    else (if is_word Keyword.Output kind then reads (any_name ∷ this_sign Sign.Semicolon ∷ more_decls ∷ [])
    else (if is_word Keyword.Local kind then reads (behind_keeper false ∷ more_decls ∷ [])
    else (if is_word Keyword.State kind then reads (behind_keeper true ∷ more_decls ∷ [])
    else (if is_word Keyword.Every kind then reads (any_number ∷ last_clause ∷ one_block ∷ this_sign Sign.RightBrace ∷ [])
    else stops))))

-- what must come behind the word `task`
abbrev pub task_tail : List Symbol
task_tail = any_name ∷ this_word Keyword.Priority ∷ any_number ∷ task_block ∷ more_tasks ∷ []

abbrev pub move : Symbol → TokenKind → Move
move (this_word w) kind = if is_word w kind then reads [] else stops
move (this_sign s) kind = if is_sign s kind then reads [] else stops
move any_name kind = if is_name kind then reads [] else stops
move any_number kind = if is_numeral kind then reads [] else stops
move (operand signed compared) kind = at_operand signed compared (unary_of kind) kind
move (behind_operand below compared) kind = at_operator below compared (binary_of kind)
move (behind_name compared) kind = at_name_end compared (is_sign Sign.LeftSquare kind) (binary_of kind)
move (more_stmts chosen) kind = at_stmts chosen kind
move one_block kind = if is_sign Sign.LeftBrace kind then reads (more_stmts false ∷ []) else stops
move behind_target kind = at_target kind
move do_clauses kind = if is_word Keyword.Start kind then reads (behind_start ∷ []) else at_within kind
move behind_start kind =
    if is_word Keyword.After kind then reads (any_number ∷ behind_after ∷ [])
    else (if is_word Keyword.Before kind then reads (any_number ∷ last_clause ∷ []) else stops)
move behind_after kind =
    if is_word Keyword.Start kind then reads (this_word Keyword.Before ∷ any_number ∷ last_clause ∷ []) else at_within kind
move last_clause kind = at_within kind
move more_decls kind = at_decls kind
move task_block kind = if is_sign Sign.LeftBrace kind then reads (more_decls ∷ []) else stops
move (behind_keeper state) kind =
    if is_word Keyword.Int kind then reads (any_name ∷ behind_int state ∷ this_sign Sign.Semicolon ∷ [])
    else (if is_word Keyword.Bool kind then reads (any_name ∷ behind_bool state ∷ this_sign Sign.Semicolon ∷ []) else stops)
move (behind_int state) kind =
    if is_sign Sign.LeftSquare kind then reads (any_number ∷ this_sign Sign.RightSquare ∷ [])
    else (if is_sign Sign.Is kind && state then reads (first_int ∷ []) else skips)
move (behind_bool state) kind = if is_sign Sign.Is kind && state then reads (first_bool ∷ []) else skips
move first_int kind =
    if is_numeral kind then reads [] else (if is_sign Sign.Minus kind then reads (any_number ∷ []) else stops)
move first_bool kind =
    if is_word Keyword.True kind then reads [] else (if is_word Keyword.False kind then reads [] else stops)
move more_tasks kind = if is_word Keyword.Task kind then reads task_tail else skips

-- what a symbol does at the end of the tokens
abbrev pub at_end : Symbol → Move
at_end (behind_operand below compared) = skips
at_end (behind_name compared) = skips
at_end do_clauses = skips
at_end behind_after = skips
at_end last_clause = skips
at_end (behind_int state) = skips
at_end (behind_bool state) = skips
at_end more_tasks = skips
at_end _ = stops

-- what a symbol does at the first of some tokens
abbrev pub first : Symbol → List Terminal → Move
first x [] = at_end x
first x (t ∷ ts) = move x t.kind

abbrev pub moved : Move → List Symbol → Option (List Symbol) → Option (List Symbol)
moved (reads symbols) k later = Some (symbols ++ k)
moved skips k later = later
moved stops k later = None

-- the stack behind a token; none where the token can't come
abbrev pub step : List Symbol → TokenKind → Option (List Symbol)
step [] kind = None
step (x ∷ k) kind = moved (move x kind) k (step k kind)

abbrev pub passed : Move → Bool → Bool
passed skips later = later
passed _ later = false

-- the tokens may end here
abbrev pub ends : List Symbol → Bool
ends [] = true
ends (x ∷ k) = passed (at_end x) (ends k)

-- what must come in front of a program
abbrev pub program : List Symbol
program = this_word Keyword.Task ∷ task_tail

-- what is counted: the brackets that are open, and the operators of the outermost expression so far
pub record Counts : Type 0 where
  pub brackets : ℕ
  pub operators : ℕ

abbrev pub zero_counts : Counts
zero_counts = record { brackets = 0; operators = 0 }

-- the counts behind a token, or what there is too much of
pub data Entered : Type 0 where
  within_limits : Counts → Entered
  too_deep : Deep → Entered

abbrev pub brackets_after : ℕ → TokenKind → ℕ
brackets_after n kind = if is_opening kind then n + 1 else (if is_closing kind then n - 1 else n)

abbrev pub operators_after : ℕ → TokenKind → ℕ
operators_after n kind = if is_border kind then 0 else (if is_operator kind then n + 1 else n)

abbrev pub counts_after : Counts → TokenKind → Counts
counts_after c kind =
    record { brackets = brackets_after c.brackets kind; operators = operators_after c.operators kind }

abbrev pub enter : Counts → TokenKind → Entered
enter c kind =
    if is_opening kind && not (nat_lt c.brackets 32) then too_deep Deep.Nesting
    else (if is_operator kind && not (nat_lt c.operators 64) then too_deep Deep.Operators
    else within_limits (counts_after c kind))

-- how reading ends: the tokens are a program's, or it stops or goes too deep at the first of those that are left
pub data Outcome : Type 0 where
  accepted : Outcome
  stopped : List Terminal → Outcome
  deep : Deep → List Terminal → Outcome

abbrev pub ended : Bool → Outcome
ended true = accepted
ended false = stopped []

-- reading goes on behind a token, if it may come and isn't too deep
abbrev pub after_token : Option (List Symbol) → Entered → List Terminal → (Counts → List Symbol → Outcome) → Outcome
after_token None entered ts go_on = stopped ts
after_token (Some k) (too_deep what) ts go_on = deep what ts
after_token (Some k) (within_limits c) ts go_on = go_on c k

unfoldable pub run : Counts → List Symbol → List Terminal → Outcome
run c k [] = ended (ends k)
run c k (t ∷ ts) = after_token (step k t.kind) (enter c t.kind) (t ∷ ts) (λ d j. run d j ts)
