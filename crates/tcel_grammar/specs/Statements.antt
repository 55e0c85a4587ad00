-- The grammar of statements and blocks.
use Rattle.std.specs.Prelude.{ℕ, ℤ, List, Option, Some, None}
use Rattle.tcel_num.specs.declared.at.At.{At}
use Rattle.tcel_token.specs.declared.keyword.Keyword.{Keyword}
use Rattle.tcel_token.specs.declared.sign.Sign.{Sign}
use Rattle.tcel_token.specs.declared.token.TokenKind.{TokenKind}
use Rattle.tcel_token.specs.Terminal.{Terminal}
use Rattle.tcel_tree.specs.declared.placed.Placed.{Placed}
use Rattle.tcel_tree.specs.declared.stmt.Window.{Window}
use Rattle.tcel_tree.specs.Language.{Expr, Block, done, next, Stmt, assign, assign_at, receive, send, choice, for_loop, while_loop, timed, Branch, absent, present}
use Rattle.tcel_grammar.specs.Expressions.{IsPlaced, IsToken, IsExpr, disjunction}

-- an expression, of the loosest level
abbrev pub IsWhole : List Terminal → Expr → List Terminal → Type 0
IsWhole ts e rest = IsExpr disjunction ts e rest

-- a number with its place
pub data IsNumber : List Terminal → Placed → List Terminal → Type 0 where
  numbered : {ts rest : List Terminal} {at : At} {n : ℤ} →
      IsPlaced (TokenKind.Number n) ts at rest → IsNumber ts (record { value = n; at = at }) rest

-- [ first second NUMBER ]
pub data IsClause (first second : Keyword) : List Terminal → Option Placed → List Terminal → Type 0 where
  unsaid : {ts : List Terminal} → IsClause first second ts None ts
  said : {ts a b rest : List Terminal} {n : Placed} →
      IsToken (TokenKind.Word first) ts a → IsToken (TokenKind.Word second) a b → IsNumber b n rest →
      IsClause first second ts (Some n) rest

-- window = [ "start" "after" NUMBER ] [ "start" "before" NUMBER ] [ "finish" "within" NUMBER ]
pub data IsWindow : List Terminal → Window → List Terminal → Type 0 where
  window : {ts a b rest : List Terminal} {after before within : Option Placed} →
      IsClause Keyword.Start Keyword.After ts after a → IsClause Keyword.Start Keyword.Before a before b →
      IsClause Keyword.Finish Keyword.Within b within rest →
      IsWindow ts (record { after = after; before = before; within = within }) rest

mutual
  -- block = "{" { stmt } "}"
  pub data IsBlock : List Terminal → Block → List Terminal → Type 0 where
    block : {ts a b rest : List Terminal} {body : Block} →
        IsToken (TokenKind.Sign Sign.LeftBrace) ts a → IsStmts a body b → IsToken (TokenKind.Sign Sign.RightBrace) b rest →
        IsBlock ts body rest

  -- { stmt }
  pub data IsStmts : List Terminal → Block → List Terminal → Type 0 where
    no_more : {ts : List Terminal} → IsStmts ts done ts
    one_more : {ts a rest : List Terminal} {s : Stmt} {others : Block} →
        IsStmt ts s a → IsStmts a others rest → IsStmts ts (next s others) rest

  -- a statement; its place is its first token's
  pub data IsStmt : List Terminal → Stmt → List Terminal → Type 0 where
    -- NAME ":=" expr ";"
    assigned : {ts a b c rest : List Terminal} {at : At} {name : List ℕ} {value : Expr} →
        IsPlaced (TokenKind.Name name) ts at a → IsToken (TokenKind.Sign Sign.Becomes) a b → IsWhole b value c →
        IsToken (TokenKind.Sign Sign.Semicolon) c rest →
        IsStmt ts (assign at name value) rest
    -- NAME "[" expr "]" ":=" expr ";"
    assigned_at : {ts a b c d e f rest : List Terminal} {at : At} {name : List ℕ} {index value : Expr} →
        IsPlaced (TokenKind.Name name) ts at a → IsToken (TokenKind.Sign Sign.LeftSquare) a b → IsWhole b index c →
        IsToken (TokenKind.Sign Sign.RightSquare) c d → IsToken (TokenKind.Sign Sign.Becomes) d e → IsWhole e value f →
        IsToken (TokenKind.Sign Sign.Semicolon) f rest →
        IsStmt ts (assign_at at name index value) rest
    -- "receive" NAME "from" NAME ";"
    received : {ts a b c d rest : List Terminal} {at name_at port_at : At} {name port : List ℕ} →
        IsPlaced (TokenKind.Word Keyword.Receive) ts at a → IsPlaced (TokenKind.Name name) a name_at b →
        IsToken (TokenKind.Word Keyword.From) b c → IsPlaced (TokenKind.Name port) c port_at d →
        IsToken (TokenKind.Sign Sign.Semicolon) d rest →
        IsStmt ts (receive at name name_at port port_at) rest
    -- "send" expr "to" NAME ";"
    sent : {ts a b c d rest : List Terminal} {at port_at : At} {port : List ℕ} {value : Expr} →
        IsPlaced (TokenKind.Word Keyword.Send) ts at a → IsWhole a value b → IsToken (TokenKind.Word Keyword.To) b c →
        IsPlaced (TokenKind.Name port) c port_at d → IsToken (TokenKind.Sign Sign.Semicolon) d rest →
        IsStmt ts (send at value port port_at) rest
    -- "if" expr block [ "else" block ]
    chosen : {ts a b c rest : List Terminal} {at : At} {test : Expr} {held : Block} {other : Branch} →
        IsPlaced (TokenKind.Word Keyword.If) ts at a → IsWhole a test b → IsBlock b held c → IsBranch c other rest →
        IsStmt ts (choice at test held other) rest
    -- "for" NAME "<" NUMBER block
    counted : {ts a b c d rest : List Terminal} {at name_at : At} {name : List ℕ} {turns : Placed} {body : Block} →
        IsPlaced (TokenKind.Word Keyword.For) ts at a → IsPlaced (TokenKind.Name name) a name_at b →
        IsToken (TokenKind.Sign Sign.Less) b c → IsNumber c turns d → IsBlock d body rest →
        IsStmt ts (for_loop at name name_at turns body) rest
    -- "while" expr "limit" NUMBER block
    repeated : {ts a b c d rest : List Terminal} {at : At} {test : Expr} {turns : Placed} {body : Block} →
        IsPlaced (TokenKind.Word Keyword.While) ts at a → IsWhole a test b → IsToken (TokenKind.Word Keyword.Limit) b c →
        IsNumber c turns d → IsBlock d body rest →
        IsStmt ts (while_loop at test turns body) rest
    -- "do" window block
    done_in : {ts a b rest : List Terminal} {at : At} {w : Window} {body : Block} →
        IsPlaced (TokenKind.Word Keyword.Do) ts at a → IsWindow a w b → IsBlock b body rest →
        IsStmt ts (timed at w body) rest

  -- [ "else" block ]
  pub data IsBranch : List Terminal → Branch → List Terminal → Type 0 where
    no_else : {ts : List Terminal} → IsBranch ts absent ts
    with_else : {ts a rest : List Terminal} {body : Block} →
        IsToken (TokenKind.Word Keyword.Else) ts a → IsBlock a body rest → IsBranch ts (present body) rest
