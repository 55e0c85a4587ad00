-- What a text is cut into: blanks, comments, words, numbers and signs, each as long as it can be.
use Rattle.std.specs.Prelude.{ℕ, ◌^◌, pos, Bool, true, false, not, ◌&&◌, ◌||◌, ◌==◌, nat_lt, nat_le, nat_eq, List, [], ◌∷◌, ◌++◌, length, flat_map, Option, Some, None, is_some}
use Rattle.std.specs.Char.{is_ascii_digit}
use Rattle.std.specs.Cmp.Lexicographic.{pointwise}
use Rattle.std.specs.List.{list_all}
use Rattle.std.specs.Str.Parse.{digits_value}
use Rattle.tcel_num.specs.Name.{is_word, may_follow}
use Rattle.tcel_token.specs.declared.sign.Sign.{Sign}
use Rattle.tcel_token.specs.declared.token.TokenKind.{TokenKind}
use Rattle.tcel_token.specs.Spelling.{kind_of_word, sign_bytes, sign_of}

-- a space, a tab, a carriage return or a line feed
abbrev pub is_blank : ℕ → Bool
is_blank b = b == 32 || (b == 9 || (b == 13 || b == 10))

abbrev pub is_line_feed : ℕ → Bool
is_line_feed b = b == 10

-- any other byte
abbrev pub in_line : ℕ → Bool
in_line b = not (is_line_feed b)

-- one blank, what stands behind the `//` of a comment, a run of letters, digits and underscores, a run of digits, or a sign
pub data Piece : Type 0 where
  blank : ℕ → Piece
  comment : List ℕ → Piece
  word : List ℕ → Piece
  number : List ℕ → Piece
  sign : Sign → Piece

-- the bytes of a piece
abbrev pub piece_bytes : Piece → List ℕ
piece_bytes (blank b) = b ∷ []
piece_bytes (comment bytes) = 47 ∷ 47 ∷ bytes
piece_bytes (word bytes) = bytes
piece_bytes (number bytes) = bytes
piece_bytes (sign s) = sign_bytes s

-- 1 or more digits
abbrev pub is_number : List ℕ → Bool
is_number bytes = nat_lt 0 (length bytes) && list_all is_ascii_digit bytes

-- the bytes are such as the piece has: a word has at most 32, and a number is at most 9223372036854775807
abbrev pub is_piece : Piece → Bool
is_piece (blank b) = is_blank b
is_piece (comment bytes) = list_all in_line bytes
is_piece (word bytes) = is_word bytes && nat_le (length bytes) 32
is_piece (number bytes) = is_number bytes && nat_lt (digits_value 10 bytes) (2 ^ 63)
is_piece (sign s) = true

-- the two slashes before a comment
abbrev pub opens_comment : List ℕ → Bool
opens_comment bytes = pointwise nat_eq bytes (47 ∷ 47 ∷ [])

-- whether the piece would be longer with this byte behind it
abbrev pub goes_on : Piece → ℕ → Bool
goes_on (blank b) next = false
goes_on (comment bytes) next = in_line next
goes_on (word bytes) next = may_follow next
goes_on (number bytes) next = is_ascii_digit next
goes_on (sign s) next = let longer = sign_bytes s ++ next ∷ [] in is_some (sign_of longer) || opens_comment longer

-- the bytes don't begin with one that passes
abbrev pub stops : (ℕ → Bool) → List ℕ → Bool
stops passes [] = true
stops passes (next ∷ more) = not (passes next)

-- the piece is as long as it can be where these bytes stand behind it
abbrev pub ends : Piece → List ℕ → Bool
ends p rest = stops (goes_on p) rest

-- the bytes of all pieces, one after another
abbrev pub bytes_of : List Piece → List ℕ
bytes_of ps = flat_map piece_bytes ps

-- these are pieces, each as long as it can be, with these bytes behind the last one
abbrev pub are_pieces : List Piece → List ℕ → Bool
are_pieces [] rest = true
are_pieces (p ∷ ps) rest = is_piece p && (ends p (bytes_of ps ++ rest) && are_pieces ps rest)

-- what a piece is as a token, unless it is a blank or a comment
abbrev pub kind_of : Piece → Option TokenKind
kind_of (blank b) = None
kind_of (comment bytes) = None
kind_of (word bytes) = Some (kind_of_word bytes)
kind_of (number bytes) = Some (TokenKind.Number (pos (digits_value 10 bytes)))
kind_of (sign s) = Some (TokenKind.Sign s)
