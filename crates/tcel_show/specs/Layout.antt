-- How tokens are laid out: two spaces of indentation a block, one declaration or statement a line, one space between tokens.
use Rattle.std.specs.Prelude.{ℕ, ◌+◌, ◌-◌, ◌*◌, Bool, true, false, if◌then◌else◌, List, [], ◌∷◌, ◌++◌, replicate}
use Rattle.std.specs.Fmt.{signed_decimal}
use Rattle.tcel_token.specs.declared.keyword.Keyword.{Keyword}
use Rattle.tcel_token.specs.declared.sign.Sign.{Sign}
use Rattle.tcel_token.specs.declared.token.TokenKind.{TokenKind}
use Rattle.tcel_token.specs.Spelling.{word_bytes, sign_bytes}
use Rattle.tcel_show.specs.declared.writer.Before.{Before}

-- how a token is spelled
abbrev pub spelling : TokenKind → List ℕ
spelling (TokenKind.Word w) = word_bytes w
spelling (TokenKind.Name name) = name
spelling (TokenKind.Number n) = signed_decimal n
spelling (TokenKind.Sign s) = sign_bytes s

-- where a token is put: how many blocks are open, and what stands before
pub record Layout : Type 0 where
  pub depth : ℕ
  pub before : Before

-- at the start of a text
abbrev pub start : Layout
start = record { depth = 0; before = Before.Nothing }

abbrev pub is_nothing : Before → Bool
is_nothing Before.Nothing = true
is_nothing _ = false

-- no space stands before these
abbrev pub closes : TokenKind → Bool
closes (TokenKind.Sign Sign.Semicolon) = true
closes (TokenKind.Sign Sign.RightRound) = true
closes (TokenKind.Sign Sign.LeftSquare) = true
closes (TokenKind.Sign Sign.RightSquare) = true
closes _ = false

abbrev pub closes_block : TokenKind → Bool
closes_block (TokenKind.Sign Sign.RightBrace) = true
closes_block _ = false

-- a line ends, and the next one is indented by the blocks that are open; a closing brace stands at its block's own indentation
abbrev pub new_line : ℕ → TokenKind → List ℕ
new_line depth kind = 10 ∷ replicate (2 * (if closes_block kind then depth - 1 else depth)) 32

abbrev pub is_else : TokenKind → Bool
is_else (TokenKind.Word Keyword.Else) = true
is_else _ = false

-- behind a block's closing brace only `else` stands on the same line
abbrev pub behind_block : ℕ → TokenKind → List ℕ
behind_block depth kind = if is_else kind then 32 ∷ [] else new_line depth kind

abbrev pub spaced : TokenKind → List ℕ
spaced kind = if closes kind then [] else 32 ∷ []

-- what stands between a token and the one before it
abbrev pub gap_behind : Before → ℕ → TokenKind → List ℕ
gap_behind Before.Nothing depth kind = []
gap_behind Before.Line depth kind = new_line depth kind
gap_behind Before.Block depth kind = behind_block depth kind
gap_behind Before.Tight depth kind = []
gap_behind Before.Operand depth kind = spaced kind
gap_behind Before.Other depth kind = spaced kind

-- a minus sign behind an operand stands between two of them; any other one belongs to what follows it
abbrev pub minus_before : Before → Before
minus_before Before.Operand = Before.Other
minus_before _ = Before.Tight

-- what a token is to the next one
abbrev pub sign_before : Before → Sign → Before
sign_before before Sign.LeftBrace = Before.Line
sign_before before Sign.Semicolon = Before.Line
sign_before before Sign.RightBrace = Before.Block
sign_before before Sign.LeftRound = Before.Tight
sign_before before Sign.LeftSquare = Before.Tight
sign_before before Sign.RightRound = Before.Operand
sign_before before Sign.RightSquare = Before.Operand
sign_before before Sign.Minus = minus_before before
sign_before before _ = Before.Other

abbrev pub kind_before : Before → TokenKind → Before
kind_before before (TokenKind.Word Keyword.True) = Before.Operand
kind_before before (TokenKind.Word Keyword.False) = Before.Operand
kind_before before (TokenKind.Word _) = Before.Other
kind_before before (TokenKind.Name name) = Before.Operand
kind_before before (TokenKind.Number n) = Before.Operand
kind_before before (TokenKind.Sign s) = sign_before before s

-- the blocks that are open behind a token
abbrev pub depth_behind : ℕ → TokenKind → ℕ
depth_behind depth (TokenKind.Sign Sign.LeftBrace) = depth + 1
depth_behind depth (TokenKind.Sign Sign.RightBrace) = depth - 1
depth_behind depth _ = depth

abbrev pub behind : Layout → TokenKind → Layout
behind l kind = record { depth = depth_behind l.depth kind; before = kind_before l.before kind }

abbrev pub behind_all : Layout → List TokenKind → Layout
behind_all l [] = l
behind_all l (kind ∷ kinds) = behind_all (behind l kind) kinds

-- the text of tokens
abbrev pub laid : Layout → List TokenKind → List ℕ
laid l [] = []
laid l (kind ∷ kinds) = (gap_behind l.before l.depth kind ++ spelling kind) ++ laid (behind l kind) kinds

-- the text of all tokens, which ends with its last line
abbrev pub whole_text : List TokenKind → List ℕ
whole_text [] = []
whole_text (kind ∷ kinds) = laid start (kind ∷ kinds) ++ 10 ∷ []
