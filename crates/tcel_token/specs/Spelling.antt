-- How the reserved words and the signs are spelled.
use Rattle.std.specs.Prelude.{ℕ, List, [], ◌∷◌, Option, codes, find, nat_eq, option_map, unwrap_or}
use Rattle.std.specs.Cmp.Lexicographic.{pointwise}
use Rattle.tcel_token.specs.declared.keyword.Keyword.{Keyword}
use Rattle.tcel_token.specs.declared.sign.Sign.{Sign}
use Rattle.tcel_token.specs.declared.token.TokenKind.{TokenKind}

abbrev pub word_bytes : Keyword → List ℕ
word_bytes Keyword.Task = codes "task"
word_bytes Keyword.Priority = codes "priority"
word_bytes Keyword.Input = codes "input"
word_bytes Keyword.Output = codes "output"
word_bytes Keyword.State = codes "state"
word_bytes Keyword.Local = codes "local"
word_bytes Keyword.Int = codes "int"
word_bytes Keyword.Bool = codes "bool"
word_bytes Keyword.Every = codes "every"
word_bytes Keyword.Finish = codes "finish"
word_bytes Keyword.Within = codes "within"
word_bytes Keyword.Start = codes "start"
word_bytes Keyword.After = codes "after"
word_bytes Keyword.Before = codes "before"
word_bytes Keyword.Do = codes "do"
word_bytes Keyword.Receive = codes "receive"
word_bytes Keyword.From = codes "from"
word_bytes Keyword.Send = codes "send"
word_bytes Keyword.To = codes "to"
word_bytes Keyword.If = codes "if"
word_bytes Keyword.Else = codes "else"
word_bytes Keyword.For = codes "for"
word_bytes Keyword.While = codes "while"
word_bytes Keyword.Limit = codes "limit"
word_bytes Keyword.True = codes "true"
word_bytes Keyword.False = codes "false"
word_bytes Keyword.And = codes "and"
word_bytes Keyword.Or = codes "or"
word_bytes Keyword.Not = codes "not"

abbrev pub sign_bytes : Sign → List ℕ
sign_bytes Sign.LeftBrace = codes "{"
sign_bytes Sign.RightBrace = codes "}"
sign_bytes Sign.LeftRound = codes "("
sign_bytes Sign.RightRound = codes ")"
sign_bytes Sign.LeftSquare = codes "["
sign_bytes Sign.RightSquare = codes "]"
sign_bytes Sign.Semicolon = codes ";"
sign_bytes Sign.Becomes = codes ":="
sign_bytes Sign.Is = codes "="
sign_bytes Sign.Equal = codes "=="
sign_bytes Sign.Unequal = codes "!="
sign_bytes Sign.Less = codes "<"
sign_bytes Sign.LessOrEqual = codes "<="
sign_bytes Sign.Greater = codes ">"
sign_bytes Sign.GreaterOrEqual = codes ">="
sign_bytes Sign.Plus = codes "+"
sign_bytes Sign.Minus = codes "-"
sign_bytes Sign.Star = codes "*"
sign_bytes Sign.Slash = codes "/"
sign_bytes Sign.Percent = codes "%"

-- all reserved words
abbrev pub words : List Keyword
words =
    Keyword.Task ∷ Keyword.Priority ∷ Keyword.Input ∷ Keyword.Output ∷ Keyword.State ∷ Keyword.Local ∷
    Keyword.Int ∷ Keyword.Bool ∷ Keyword.Every ∷ Keyword.Finish ∷ Keyword.Within ∷ Keyword.Start ∷
    Keyword.After ∷ Keyword.Before ∷ Keyword.Do ∷ Keyword.Receive ∷ Keyword.From ∷ Keyword.Send ∷ Keyword.To ∷
    Keyword.If ∷ Keyword.Else ∷ Keyword.For ∷ Keyword.While ∷ Keyword.Limit ∷ Keyword.True ∷ Keyword.False ∷
    Keyword.And ∷ Keyword.Or ∷ Keyword.Not ∷ []

-- all signs
abbrev pub signs : List Sign
signs =
    Sign.LeftBrace ∷ Sign.RightBrace ∷ Sign.LeftRound ∷ Sign.RightRound ∷ Sign.LeftSquare ∷ Sign.RightSquare ∷
    Sign.Semicolon ∷ Sign.Becomes ∷ Sign.Is ∷ Sign.Equal ∷ Sign.Unequal ∷ Sign.Less ∷ Sign.LessOrEqual ∷
    Sign.Greater ∷ Sign.GreaterOrEqual ∷ Sign.Plus ∷ Sign.Minus ∷ Sign.Star ∷ Sign.Slash ∷ Sign.Percent ∷ []

-- the word and the sign that these bytes spell, if they spell one
abbrev pub word_of : List ℕ → Option Keyword
word_of bytes = find (λ w. pointwise nat_eq bytes (word_bytes w)) words

abbrev pub sign_of : List ℕ → Option Sign
sign_of bytes = find (λ s. pointwise nat_eq bytes (sign_bytes s)) signs

-- a run of letters, digits and underscores is a reserved word, or else a name
abbrev pub kind_of_word : List ℕ → TokenKind
kind_of_word bytes = unwrap_or (option_map (λ w. TokenKind.Word w) (word_of bytes)) (TokenKind.Name bytes)
