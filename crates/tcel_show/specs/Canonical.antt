-- The canonical tokens of a tree: those that it was written with, and round brackets only where the grammar needs them.
use Rattle.std.specs.Prelude.{ℕ, suc, ℤ, pos, negsuc, Bool, true, false, nat_lt, if◌then◌else◌, List, [], ◌∷◌, ◌++◌, flat_map, Option, Some, None}
use Rattle.tcel_num.specs.declared.op.Op.{Op}
use Rattle.tcel_token.specs.declared.keyword.Keyword.{Keyword}
use Rattle.tcel_token.specs.declared.sign.Sign.{Sign}
use Rattle.tcel_token.specs.declared.token.TokenKind.{TokenKind}
use Rattle.tcel_tree.specs.declared.placed.Placed.{Placed}
use Rattle.tcel_tree.specs.declared.stmt.Window.{Window}
use Rattle.tcel_tree.specs.declared.task.Decl.{Decl}
use Rattle.tcel_tree.specs.declared.task.DeclKind.{DeclKind}
use Rattle.tcel_tree.specs.Language.{Expr, number, truth, variable, element, unary, binary, Block, done, next, Stmt, assign, assign_at, receive, send, choice, for_loop, while_loop, timed, Branch, absent, present, Task}
use Rattle.tcel_grammar.specs.Expressions.{Level, disjunction, conjunction, comparison, sum, term, factor, atom, level_of}

-- the token of an operator
abbrev pub op_token : Op → TokenKind
op_token Op.Or = TokenKind.Word Keyword.Or
op_token Op.And = TokenKind.Word Keyword.And
op_token Op.Equal = TokenKind.Sign Sign.Equal
op_token Op.Unequal = TokenKind.Sign Sign.Unequal
op_token Op.Less = TokenKind.Sign Sign.Less
op_token Op.LessOrEqual = TokenKind.Sign Sign.LessOrEqual
op_token Op.Greater = TokenKind.Sign Sign.Greater
op_token Op.GreaterOrEqual = TokenKind.Sign Sign.GreaterOrEqual
op_token Op.Add = TokenKind.Sign Sign.Plus
op_token Op.Sub = TokenKind.Sign Sign.Minus
op_token Op.Mul = TokenKind.Sign Sign.Star
op_token Op.Div = TokenKind.Sign Sign.Slash
op_token Op.Rem = TokenKind.Sign Sign.Percent
op_token Op.Neg = TokenKind.Sign Sign.Minus
op_token Op.Not = TokenKind.Word Keyword.Not

-- how tightly a level binds
abbrev pub rank : Level → ℕ
rank disjunction = 0
rank conjunction = 1
rank comparison = 2
rank sum = 3
rank term = 4
rank factor = 5
rank atom = 6

-- the levels that the operands of an operator of this level take
abbrev pub left_place : Level → Level
left_place disjunction = disjunction
left_place conjunction = conjunction
left_place comparison = sum
left_place sum = sum
left_place term = term
left_place factor = atom
left_place atom = atom

abbrev pub right_place : Level → Level
right_place disjunction = conjunction
right_place conjunction = comparison
right_place comparison = sum
right_place sum = term
right_place term = factor
right_place factor = atom
right_place atom = atom

-- tokens of a level where a place takes another: in round brackets where the level is lower
abbrev pub enclosed : Level → Level → List TokenKind → List TokenKind
enclosed level place ts =
    if nat_lt (rank level) (rank place) then TokenKind.Sign Sign.LeftRound ∷ (ts ++ TokenKind.Sign Sign.RightRound ∷ []) else ts

abbrev pub truth_token : Bool → TokenKind
truth_token true = TokenKind.Word Keyword.True
truth_token false = TokenKind.Word Keyword.False

-- an expression where a place takes a level
abbrev pub expr_tokens : Expr → Level → List TokenKind
expr_tokens (number at n) place = TokenKind.Number n ∷ []
expr_tokens (truth at b) place = truth_token b ∷ []
expr_tokens (variable at name) place = TokenKind.Name name ∷ []
expr_tokens (element at name i) place =
    TokenKind.Name name ∷ TokenKind.Sign Sign.LeftSquare ∷ (expr_tokens i disjunction ++ TokenKind.Sign Sign.RightSquare ∷ [])
expr_tokens (unary at op e) place = enclosed factor place (op_token op ∷ expr_tokens e atom)
expr_tokens (binary at op a b) place =
    enclosed (level_of op) place (expr_tokens a (left_place (level_of op)) ++ op_token op ∷ expr_tokens b (right_place (level_of op)))

-- an outermost expression
abbrev pub whole_tokens : Expr → List TokenKind
whole_tokens e = expr_tokens e disjunction

abbrev pub word : Keyword → TokenKind
word w = TokenKind.Word w

abbrev pub sign : Sign → TokenKind
sign s = TokenKind.Sign s

-- a clause of two words and a number, where it was written
abbrev pub clause_tokens : Keyword → Keyword → Option Placed → List TokenKind
clause_tokens opening closing None = []
clause_tokens opening closing (Some n) = word opening ∷ word closing ∷ TokenKind.Number n.value ∷ []

abbrev pub window_tokens : Window → List TokenKind
window_tokens w =
    clause_tokens Keyword.Start Keyword.After w.after ++ clause_tokens Keyword.Start Keyword.Before w.before
    ++ clause_tokens Keyword.Finish Keyword.Within w.within

-- tokens in braces
abbrev pub braced : List TokenKind → List TokenKind
braced ts = sign Sign.LeftBrace ∷ (ts ++ sign Sign.RightBrace ∷ [])

-- the head of a loop over a variable
abbrev pub for_head : List ℕ → Placed → List TokenKind
for_head name turns = word Keyword.For ∷ TokenKind.Name name ∷ sign Sign.Less ∷ TokenKind.Number turns.value ∷ []

-- what stands behind the test of a loop
abbrev pub limit_tokens : Placed → List TokenKind
limit_tokens turns = word Keyword.Limit ∷ TokenKind.Number turns.value ∷ []

abbrev mutual
  pub block_tokens : Block → List TokenKind
  block_tokens done = []
  block_tokens (next s rest) = stmt_tokens s ++ block_tokens rest

  pub stmt_tokens : Stmt → List TokenKind
  stmt_tokens (assign at name value) = TokenKind.Name name ∷ sign Sign.Becomes ∷ (whole_tokens value ++ sign Sign.Semicolon ∷ [])
  stmt_tokens (assign_at at name index value) =
      TokenKind.Name name ∷ sign Sign.LeftSquare
      ∷ (whole_tokens index ++ sign Sign.RightSquare ∷ sign Sign.Becomes ∷ (whole_tokens value ++ sign Sign.Semicolon ∷ []))
  stmt_tokens (receive at name name_at port port_at) =
      word Keyword.Receive ∷ TokenKind.Name name ∷ word Keyword.From ∷ TokenKind.Name port ∷ sign Sign.Semicolon ∷ []
  stmt_tokens (send at value port port_at) =
      word Keyword.Send ∷ (whole_tokens value ++ word Keyword.To ∷ TokenKind.Name port ∷ sign Sign.Semicolon ∷ [])
  stmt_tokens (choice at test held other) =
      word Keyword.If ∷ (whole_tokens test ++ (braced (block_tokens held) ++ branch_tokens other))
  stmt_tokens (for_loop at name name_at turns body) = for_head name turns ++ braced (block_tokens body)
  stmt_tokens (while_loop at test turns body) =
      word Keyword.While ∷ (whole_tokens test ++ (limit_tokens turns ++ braced (block_tokens body)))
  stmt_tokens (timed at window body) = word Keyword.Do ∷ (window_tokens window ++ braced (block_tokens body))

  -- an else block is written where it was, also an empty one
  pub branch_tokens : Branch → List TokenKind
  branch_tokens absent = []
  branch_tokens (present body) = word Keyword.Else ∷ braced (block_tokens body)

-- a first value: a number below 0 is a minus sign and its magnitude
abbrev pub first_tokens : Option ℤ → List TokenKind
first_tokens None = []
first_tokens (Some (pos n)) = sign Sign.Is ∷ TokenKind.Number (pos n) ∷ []
first_tokens (Some (negsuc n)) = sign Sign.Is ∷ sign Sign.Minus ∷ TokenKind.Number (pos (suc n)) ∷ []

abbrev pub first_truth_tokens : Option Bool → List TokenKind
first_truth_tokens None = []
first_truth_tokens (Some b) = sign Sign.Is ∷ truth_token b ∷ []

abbrev pub keeper : Bool → TokenKind
keeper true = word Keyword.State
keeper false = word Keyword.Local

-- the words in front of a declared name, and what stands behind it
abbrev pub front_tokens : DeclKind → List TokenKind
front_tokens DeclKind.Input = word Keyword.Input ∷ []
front_tokens DeclKind.Output = word Keyword.Output ∷ []
front_tokens (DeclKind.Int state first) = keeper state ∷ word Keyword.Int ∷ []
front_tokens (DeclKind.Bool state first) = keeper state ∷ word Keyword.Bool ∷ []
front_tokens (DeclKind.Array state size) = keeper state ∷ word Keyword.Int ∷ []

abbrev pub back_tokens : DeclKind → List TokenKind
back_tokens DeclKind.Input = []
back_tokens DeclKind.Output = []
back_tokens (DeclKind.Int state first) = first_tokens first
back_tokens (DeclKind.Bool state first) = first_truth_tokens first
back_tokens (DeclKind.Array state size) =
    sign Sign.LeftSquare ∷ TokenKind.Number size.value ∷ sign Sign.RightSquare ∷ []

abbrev pub decl_tokens : Decl → List TokenKind
decl_tokens d = front_tokens d.kind ++ TokenKind.Name d.name ∷ (back_tokens d.kind ++ sign Sign.Semicolon ∷ [])

abbrev pub every_tokens : Task → List TokenKind
every_tokens t =
    word Keyword.Every ∷ TokenKind.Number t.period.value
    ∷ (clause_tokens Keyword.Finish Keyword.Within t.finish ++ braced (block_tokens t.body))

abbrev pub task_tokens : Task → List TokenKind
task_tokens t =
    word Keyword.Task ∷ TokenKind.Name t.name ∷ word Keyword.Priority ∷ TokenKind.Number t.priority.value
    ∷ braced (flat_map decl_tokens t.decls ++ every_tokens t)

abbrev pub program_tokens : List Task → List TokenKind
program_tokens ts = flat_map task_tokens ts
