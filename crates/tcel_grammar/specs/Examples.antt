-- Lists of tokens on which the grammar is worked out, and their trees.
use Rattle.std.specs.Prelude.{ℕ, zero, suc, ◌+◌, pos, List, [], ◌∷◌, ◌++◌, None, codes, replicate}
use Rattle.tcel_num.specs.declared.at.At.{At}
use Rattle.tcel_num.specs.declared.op.Op.{Op}
use Rattle.tcel_token.specs.declared.keyword.Keyword.{Keyword}
use Rattle.tcel_token.specs.declared.sign.Sign.{Sign}
use Rattle.tcel_token.specs.declared.token.TokenKind.{TokenKind}
use Rattle.tcel_token.specs.Terminal.{Terminal}
use Rattle.tcel_tree.specs.declared.placed.Placed.{Placed}
use Rattle.tcel_tree.specs.Language.{number, binary, Block, done, next, assign, Task}

-- the n-th token of a text, counted from 1, stands in column n of line 1
abbrev pub column : ℕ → At
column n = record { line = 1; column = n }

abbrev pub placed_from : ℕ → List TokenKind → List Terminal
placed_from n [] = []
placed_from n (kind ∷ kinds) = record { kind = kind; at = column n } ∷ placed_from (suc n) kinds

abbrev pub tokens_of : List TokenKind → List Terminal
tokens_of kinds = placed_from 1 kinds

abbrev pub word : Keyword → TokenKind
word w = TokenKind.Word w

abbrev pub sign : Sign → TokenKind
sign s = TokenKind.Sign s

abbrev pub name : List ℕ → TokenKind
name bytes = TokenKind.Name bytes

abbrev pub numeral : ℕ → TokenKind
numeral n = TokenKind.Number (pos n)

abbrev pub placed_number : ℕ → ℕ → Placed
placed_number n at = record { value = pos n; at = column at }

-- `task t priority 1 { every 9 {`, twelve tokens with what stands in the block, and `} }`
abbrev pub around : List TokenKind → List TokenKind
around body =
    word Keyword.Task ∷ name (codes "t") ∷ word Keyword.Priority ∷ numeral 1 ∷ sign Sign.LeftBrace ∷ word Keyword.Every ∷ numeral 9 ∷ sign Sign.LeftBrace
    ∷ (body ++ sign Sign.RightBrace ∷ sign Sign.RightBrace ∷ [])

-- the tree of such a program
abbrev pub task_around : Block → List Task
task_around body =
    record {
      name = codes "t";
      at = column 2;
      priority = placed_number 1 4;
      decls = [];
      period = placed_number 9 7;
      finish = None;
      body = body;
    } ∷ []

-- `x := 1 - 2 - 3;`, which groups to the left
abbrev pub chain : List TokenKind
chain =
    name (codes "x") ∷ sign Sign.Becomes ∷ numeral 1 ∷ sign Sign.Minus ∷ numeral 2 ∷ sign Sign.Minus ∷ numeral 3 ∷ sign Sign.Semicolon ∷ []

abbrev pub chain_tree : Block
chain_tree =
    next
    (assign (column 9) (codes "x")
    (binary (column 14) Op.Sub (binary (column 12) Op.Sub (number (column 11) (pos 1)) (number (column 13) (pos 2))) (number (column 15) (pos 3)))) done

-- `x := - - 1;`
abbrev pub doubled : List TokenKind
doubled = name (codes "x") ∷ sign Sign.Becomes ∷ sign Sign.Minus ∷ sign Sign.Minus ∷ numeral 1 ∷ sign Sign.Semicolon ∷ []

-- `send` and some round brackets, a number in them and as many that close, `to o;`
abbrev pub nested : ℕ → List TokenKind
nested n =
    word Keyword.Send
    ∷ (replicate n (sign Sign.LeftRound) ++ numeral 1 ∷ (replicate n (sign Sign.RightRound) ++ word Keyword.To ∷ name (codes "o") ∷ sign Sign.Semicolon ∷ []))

-- `send 1`, then as many times ` + 1`, `to o;`
abbrev pub ones : ℕ → List TokenKind
ones zero = word Keyword.To ∷ name (codes "o") ∷ sign Sign.Semicolon ∷ []
ones (suc n) = sign Sign.Plus ∷ numeral 1 ∷ ones n

abbrev pub summed : ℕ → List TokenKind
summed n = word Keyword.Send ∷ numeral 1 ∷ ones n

-- the text's end, behind some number of tokens
abbrev pub end_of : ℕ → At
end_of n = column (n + 1)
