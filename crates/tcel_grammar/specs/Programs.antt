-- The grammar of declarations, tasks and programs.
use Rattle.std.specs.Prelude.{ℕ, ℤ, Bool, true, false, List, [], ◌∷◌, ◌++◌, Option, Some, None}
use Rattle.tcel_num.specs.Arithmetic.{unary_value}
use Rattle.tcel_num.specs.declared.at.At.{At}
use Rattle.tcel_num.specs.declared.op.Op.{Op}
use Rattle.tcel_token.specs.declared.keyword.Keyword.{Keyword}
use Rattle.tcel_token.specs.declared.sign.Sign.{Sign}
use Rattle.tcel_token.specs.declared.token.TokenKind.{TokenKind}
use Rattle.tcel_token.specs.Terminal.{Terminal}
use Rattle.tcel_tree.specs.declared.placed.Placed.{Placed}
use Rattle.tcel_tree.specs.declared.task.Decl.{Decl}
use Rattle.tcel_tree.specs.declared.task.DeclKind.{DeclKind}
use Rattle.tcel_tree.specs.Language.{Block, Task}
use Rattle.tcel_grammar.specs.Expressions.{IsPlaced, IsToken}
use Rattle.tcel_grammar.specs.Statements.{IsNumber, IsClause, IsBlock}

-- [ "=" [ "-" ] NUMBER ], where the sign means what it means in front of an operand
pub data IsFirst : List Terminal → Option ℤ → List Terminal → Type 0 where
  unset : {ts : List Terminal} → IsFirst ts None ts
  set : {ts a rest : List Terminal} {at : At} {n : ℤ} →
      IsToken (TokenKind.Sign Sign.Is) ts a → IsPlaced (TokenKind.Number n) a at rest → IsFirst ts (Some n) rest
  set_below : {ts a b rest : List Terminal} {at : At} {n : ℤ} →
      IsToken (TokenKind.Sign Sign.Is) ts a → IsToken (TokenKind.Sign Sign.Minus) a b → IsPlaced (TokenKind.Number n) b at rest →
      IsFirst ts (Some (unary_value Op.Neg n)) rest

-- [ "=" ( "true" | "false" ) ]
pub data IsFirstTruth : List Terminal → Option Bool → List Terminal → Type 0 where
  unset_truth : {ts : List Terminal} → IsFirstTruth ts None ts
  set_true : {ts a rest : List Terminal} →
      IsToken (TokenKind.Sign Sign.Is) ts a → IsToken (TokenKind.Word Keyword.True) a rest → IsFirstTruth ts (Some true) rest
  set_false : {ts a rest : List Terminal} →
      IsToken (TokenKind.Sign Sign.Is) ts a → IsToken (TokenKind.Word Keyword.False) a rest → IsFirstTruth ts (Some false) rest

-- what stands behind `int NAME`: "[" NUMBER "]", or the variable's first value, if `state` allows one
pub data IsInt : Bool → List Terminal → DeclKind → List Terminal → Type 0 where
  an_array : {state : Bool} {ts a b rest : List Terminal} {size : Placed} →
      IsToken (TokenKind.Sign Sign.LeftSquare) ts a → IsNumber a size b → IsToken (TokenKind.Sign Sign.RightSquare) b rest →
      IsInt state ts (DeclKind.Array state size) rest
  a_local : {ts : List Terminal} → IsInt false ts (DeclKind.Int false None) ts
  a_state : {ts rest : List Terminal} {first : Option ℤ} → IsFirst ts first rest → IsInt true ts (DeclKind.Int true first) rest

-- what stands behind `bool NAME`
pub data IsBool : Bool → List Terminal → DeclKind → List Terminal → Type 0 where
  a_local_truth : {ts : List Terminal} → IsBool false ts (DeclKind.Bool false None) ts
  a_state_truth : {ts rest : List Terminal} {first : Option Bool} →
      IsFirstTruth ts first rest → IsBool true ts (DeclKind.Bool true first) rest

-- the word for a variable that is kept from frame to frame, and for one that isn't
abbrev pub keeper : Bool → Keyword
keeper true = Keyword.State
keeper false = Keyword.Local

-- a declaration; its place is its name's
pub data IsDecl : List Terminal → Decl → List Terminal → Type 0 where
  -- "input" NAME ";"
  an_input : {ts a b rest : List Terminal} {at : At} {name : List ℕ} →
      IsToken (TokenKind.Word Keyword.Input) ts a → IsPlaced (TokenKind.Name name) a at b →
      IsToken (TokenKind.Sign Sign.Semicolon) b rest →
      IsDecl ts (record { kind = DeclKind.Input; name = name; at = at }) rest
  -- "output" NAME ";"
  an_output : {ts a b rest : List Terminal} {at : At} {name : List ℕ} →
      IsToken (TokenKind.Word Keyword.Output) ts a → IsPlaced (TokenKind.Name name) a at b →
      IsToken (TokenKind.Sign Sign.Semicolon) b rest →
      IsDecl ts (record { kind = DeclKind.Output; name = name; at = at }) rest
  -- "local" "int" NAME [ "[" NUMBER "]" ] ";"
  -- "state" "int" NAME ( "[" NUMBER "]" | [ "=" [ "-" ] NUMBER ] ) ";"
  an_int : {state : Bool} {ts a b c d rest : List Terminal} {at : At} {name : List ℕ} {kind : DeclKind} →
      IsToken (TokenKind.Word (keeper state)) ts a → IsToken (TokenKind.Word Keyword.Int) a b →
      IsPlaced (TokenKind.Name name) b at c → IsInt state c kind d → IsToken (TokenKind.Sign Sign.Semicolon) d rest →
      IsDecl ts (record { kind = kind; name = name; at = at }) rest
  -- "local" "bool" NAME ";"
  -- "state" "bool" NAME [ "=" ( "true" | "false" ) ] ";"
  a_bool : {state : Bool} {ts a b c d rest : List Terminal} {at : At} {name : List ℕ} {kind : DeclKind} →
      IsToken (TokenKind.Word (keeper state)) ts a → IsToken (TokenKind.Word Keyword.Bool) a b →
      IsPlaced (TokenKind.Name name) b at c → IsBool state c kind d → IsToken (TokenKind.Sign Sign.Semicolon) d rest →
      IsDecl ts (record { kind = kind; name = name; at = at }) rest

-- { decl }
pub data IsDecls : List Terminal → List Decl → List Terminal → Type 0 where
  no_decl : {ts : List Terminal} → IsDecls ts [] ts
  one_decl : {ts a rest : List Terminal} {d : Decl} {others : List Decl} →
      IsDecl ts d a → IsDecls a others rest → IsDecls ts (d ∷ others) rest

-- every = "every" NUMBER [ "finish" "within" NUMBER ] block
pub data IsEvery : List Terminal → Placed → Option Placed → Block → List Terminal → Type 0 where
  every : {ts a b c rest : List Terminal} {period : Placed} {finish : Option Placed} {body : Block} →
      IsToken (TokenKind.Word Keyword.Every) ts a → IsNumber a period b → IsClause Keyword.Finish Keyword.Within b finish c →
      IsBlock c body rest →
      IsEvery ts period finish body rest

-- task = "task" NAME "priority" NUMBER "{" { decl } every "}"; its place is its name's
pub data IsTask : List Terminal → Task → List Terminal → Type 0 where
  task : {ts a b c d e f g rest : List Terminal} {at : At} {name : List ℕ} {priority period : Placed} {decls : List Decl}
      {finish : Option Placed} {body : Block} →
      IsToken (TokenKind.Word Keyword.Task) ts a → IsPlaced (TokenKind.Name name) a at b →
      IsToken (TokenKind.Word Keyword.Priority) b c → IsNumber c priority d → IsToken (TokenKind.Sign Sign.LeftBrace) d e →
      IsDecls e decls f → IsEvery f period finish body g → IsToken (TokenKind.Sign Sign.RightBrace) g rest →
      IsTask ts
      (record { name = name; at = at; priority = priority; decls = decls; period = period; finish = finish; body = body })
      rest

-- program = task { task }: the whole list
pub data IsProgram : List Terminal → List Task → Type 0 where
  last_task : {ts : List Terminal} {t : Task} → IsTask ts t [] → IsProgram ts (t ∷ [])
  one_task : {ts rest : List Terminal} {t : Task} {others : List Task} →
      IsTask ts t rest → IsProgram rest others → IsProgram ts (t ∷ others)

-- the tokens are the first ones of a program
abbrev pub Begins : List Terminal → Type 0
Begins ts = (more : List Terminal) × (p : List Task) × IsProgram (ts ++ more) p
