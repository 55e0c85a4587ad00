-- What the tests of tokens say.
use Rattle.std.proofs.Common.{◌≡◌, ℕ, ℤ, Bool, true, List, [], ◌∷◌, Option, Some, None, get_or, refl, sym, ap, ◌∙◌, subst, nat_lt}
use Rattle.std.proofs.lemmas.Bool.{eqb-true}
use Rattle.tcel_num.specs.declared.op.Op.{Op}
use Rattle.tcel_token.specs.declared.keyword.Keyword.{Keyword}
use Rattle.tcel_token.specs.declared.sign.Sign.{Sign}
use Rattle.tcel_token.specs.declared.token.TokenKind.{TokenKind}
use Rattle.tcel_token.specs.Terminal.{Terminal}
use Rattle.tcel_grammar.specs.Expressions.{placed, IsPlaced, here, IsToken, there, binary_of, level_of}
use Rattle.tcel_grammar.specs.Machine.{is_word, is_sign, is_name, is_numeral, word_number, sign_number, rank}

-- the words and signs in the order of their numbers
abbrev words : List Keyword
words =
    Keyword.Task ∷ Keyword.Priority ∷ Keyword.Input ∷ Keyword.Output ∷ Keyword.State ∷ Keyword.Local ∷ Keyword.Int ∷ Keyword.Bool ∷ Keyword.Every ∷ Keyword.Finish
    ∷ Keyword.Within ∷ Keyword.Start ∷ Keyword.After ∷ Keyword.Before ∷ Keyword.Do ∷ Keyword.Receive ∷ Keyword.From ∷ Keyword.Send ∷ Keyword.To ∷ Keyword.If
    ∷ Keyword.Else ∷ Keyword.For ∷ Keyword.While ∷ Keyword.Limit ∷ Keyword.True ∷ Keyword.False ∷ Keyword.And ∷ Keyword.Or ∷ Keyword.Not ∷ []

abbrev signs : List Sign
signs =
    Sign.LeftBrace ∷ Sign.RightBrace ∷ Sign.LeftRound ∷ Sign.RightRound ∷ Sign.LeftSquare ∷ Sign.RightSquare ∷ Sign.Semicolon ∷ Sign.Becomes ∷ Sign.Is ∷ Sign.Equal
    ∷ Sign.Unequal ∷ Sign.Less ∷ Sign.LessOrEqual ∷ Sign.Greater ∷ Sign.GreaterOrEqual ∷ Sign.Plus ∷ Sign.Minus ∷ Sign.Star ∷ Sign.Slash ∷ Sign.Percent ∷ []

word_at : (w : Keyword) → get_or words (word_number w) Keyword.Task ≡ w
word_at Keyword.Task = refl
word_at _ = refl

sign_at : (s : Sign) → get_or signs (sign_number s) Sign.LeftBrace ≡ s
sign_at Sign.LeftBrace = refl
sign_at _ = refl

-- a test of a word says that it is this word
pub same_word : (w : Keyword) (kind : TokenKind) → is_word w kind ≡ true → kind ≡ TokenKind.Word w
same_word w (TokenKind.Word v) e =
    ap TokenKind.Word (sym (word_at v) ∙ ap (λ n. get_or words n Keyword.Task) (eqb-true (word_number v) (word_number w) e) ∙ word_at w)
same_word w (TokenKind.Name n) e = cc
same_word w (TokenKind.Number n) e = cc
same_word w (TokenKind.Sign s) e = cc

pub same_sign : (s : Sign) (kind : TokenKind) → is_sign s kind ≡ true → kind ≡ TokenKind.Sign s
same_sign s (TokenKind.Sign r) e =
    ap TokenKind.Sign (sym (sign_at r) ∙ ap (λ n. get_or signs n Sign.LeftBrace) (eqb-true (sign_number r) (sign_number s) e) ∙ sign_at s)
same_sign s (TokenKind.Name n) e = cc
same_sign s (TokenKind.Number n) e = cc
same_sign s (TokenKind.Word w) e = cc

pub some_name : (kind : TokenKind) → is_name kind ≡ true → (n : List ℕ) × (kind ≡ TokenKind.Name n)
some_name (TokenKind.Name n) e = (n, refl)
some_name (TokenKind.Word w) e = cc
some_name (TokenKind.Number n) e = cc
some_name (TokenKind.Sign s) e = cc

pub some_number : (kind : TokenKind) → is_numeral kind ≡ true → (n : ℤ) × (kind ≡ TokenKind.Number n)
some_number (TokenKind.Number n) e = (n, refl)
some_number (TokenKind.Word w) e = cc
some_number (TokenKind.Name n) e = cc
some_number (TokenKind.Sign s) e = cc

-- a token of this kind stands at the head
pub is_here : (kind : TokenKind) (t : Terminal) → t.kind ≡ kind → {ts : List Terminal} → IsPlaced kind (t ∷ ts) t.at ts
is_here kind t e {ts} = let P : TokenKind → Type 0 = λ k. IsPlaced kind (placed k t.at ∷ ts) t.at ts in subst P (sym e) here

pub is_there : (kind : TokenKind) (t : Terminal) → t.kind ≡ kind → {ts : List Terminal} → IsToken kind (t ∷ ts) ts
is_there kind t e {ts} = let P : TokenKind → Type 0 = λ k. IsToken kind (placed k t.at ∷ ts) ts in subst P (sym e) there

-- what follows of a token of this kind at any place follows of this one
pub as_placed : (P : Terminal → Type 0) (kind : TokenKind) (t : Terminal) → t.kind ≡ kind → P (placed kind t.at) → P t
as_placed P kind t e h = subst (λ (k : TokenKind). P (placed k t.at)) (sym e) h

abbrev is_low : Option Op → Bool
is_low None = true
is_low (Some op) = nat_lt (rank (level_of op)) 5

-- an operator between operands is of a level below an operand's
pub binary_is_low : (kind : TokenKind) → is_low (binary_of kind) ≡ true
binary_is_low (TokenKind.Word Keyword.Or) = refl
binary_is_low (TokenKind.Word _) = refl
binary_is_low (TokenKind.Sign Sign.Plus) = refl
binary_is_low (TokenKind.Sign _) = refl
binary_is_low (TokenKind.Name n) = refl
binary_is_low (TokenKind.Number n) = refl

pub low_operator : (kind : TokenKind) (op : Op) → binary_of kind ≡ Some op → nat_lt (rank (level_of op)) 5 ≡ true
low_operator kind op e = sym (ap is_low e) ∙ binary_is_low kind
