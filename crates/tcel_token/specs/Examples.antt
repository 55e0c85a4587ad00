-- Worked examples of texts and their tokens.
use Rattle.std.specs.Prelude.{ℕ, ◌+◌, ◌++◌, pos, List, [], ◌∷◌, codes, replicate}
use Rattle.tcel_num.specs.declared.at.At.{At}
use Rattle.tcel_token.specs.declared.keyword.Keyword.{Keyword}
use Rattle.tcel_token.specs.declared.sign.Sign.{Sign}
use Rattle.tcel_token.specs.declared.token.Token.{Token}
use Rattle.tcel_token.specs.declared.token.TokenKind.{TokenKind}
use Rattle.tcel_token.specs.declared.token.Tokens.{Tokens}
use Rattle.tcel_token.specs.Pieces.{Piece, word, sign}

abbrev pub at : ℕ → ℕ → At
at line column = record { line = line; column = column }

abbrev pub name : List ℕ → TokenKind
name bytes = TokenKind.Name bytes

abbrev pub number : ℕ → TokenKind
number n = TokenKind.Number (pos n)

-- a token of the first line: what it is, its offset and its length
abbrev pub first_line : TokenKind → ℕ → ℕ → Token
first_line kind start size = record { kind = kind; start = start; length = size; at = at 1 (start + 1) }

-- a token of the second line, which begins at an offset
abbrev pub second_line : ℕ → TokenKind → ℕ → ℕ → Token
second_line begin kind start size = record { kind = kind; start = begin + start; length = size; at = at 2 (start + 1) }

abbrev pub tokens : List Token → At → Tokens
tokens list end = record { list = list; end = end }

-- two lines with a comment
abbrev pub two_lines : List ℕ
two_lines = codes "a<=b//< 1" ++ (10 ∷ 9 ∷ codes "-07 12or")

abbrev pub two_line_tokens : Tokens
two_line_tokens =
    tokens
    (first_line (name (codes "a")) 0 1 ∷ first_line (TokenKind.Sign Sign.LessOrEqual) 1 2 ∷ first_line (name (codes "b")) 3 1
    ∷ second_line 10 (TokenKind.Sign Sign.Minus) 1 1 ∷ second_line 10 (number 7) 2 2 ∷ second_line 10 (number 12) 5 2
    ∷ second_line 10 (TokenKind.Word Keyword.Or) 7 2 ∷ [])
    (at 2 10)

-- names of this many letters
abbrev pub letters : ℕ → List ℕ
letters n = replicate n 97

-- pieces that are cut too short
abbrev pub less_is : List Piece
less_is = sign Sign.Less ∷ sign Sign.Is ∷ []

abbrev pub two_words : List Piece
two_words = word (codes "a") ∷ word (codes "b") ∷ []

abbrev pub two_slashes : List Piece
two_slashes = sign Sign.Slash ∷ sign Sign.Slash ∷ []
