-- What the first token's tests say where a parser stands.
use Rattle.std.proofs.Common.{◌≡◌, ℕ, ℤ, true, false, List, [], ◌∷◌, Result, Ok, Err, IfOk, refl, sym, ap, ◌∙◌, subst, pos, eq-eqb, ◌<◌, length, get_or}
use Rattle.tcel_num.specs.declared.at.At.{At}
use Rattle.tcel_token.specs.declared.keyword.Keyword.{Keyword}
use Rattle.tcel_token.specs.declared.sign.Sign.{Sign}
use Rattle.tcel_token.specs.declared.token.TokenKind.{TokenKind}
use Rattle.tcel_token.specs.declared.token.Token.{Token}
use Rattle.tcel_token.specs.Terminal.{Terminal, terminal, terminals}
use Rattle.tcel_grammar.specs.Statements.{IsNumber, numbered}
use Rattle.tcel_grammar.specs.Expressions.{IsPlaced, here, IsToken, there}
use Rattle.tcel_grammar.specs.Machine.{Symbol, reads, stops, first, move, is_word, is_sign, is_name, is_numeral, this_word, this_sign, any_name, any_number, word_number, sign_number}
use Rattle.tcel_grammar.proofs.Tests.{same_word, same_sign, some_name, some_number, is_here}
use Rattle.tcel_parse.specs.declared.fail.Stop.{Stop}
use Rattle.tcel_parse.specs.declared.parser.Parser.{Parser}
use Rattle.tcel_parse.specs.Reading.{left, sees, reach, fails, Takes, TakesKind, IsHead}
use Rattle.tcel_parse.proofs.Reaches.{fails-syntax, reach_stops, first_of_rest}

-- ---- words

-- a symbol does at this word what it does there
pub first_word : (w : Keyword) (ts : List Terminal) → sees (is_word w) ts ≡ true → (x : Symbol) → first x ts ≡ move x (TokenKind.Word w)
first_word w [] e x = cc
first_word w (t ∷ ts) e x = ap (move x) (same_word w t.kind e)

at_word : (w : Keyword) {ts : List Terminal} {at : At} {rest : List Terminal} → sees (is_word w) ts ≡ true → IsHead ts at rest → IsPlaced (TokenKind.Word w) ts at rest
at_word w {at = at} {rest = rest} e (kind, here) = is_here (TokenKind.Word w) (record { kind = kind; at = at }) (same_word w kind e)

pub word_head : (w : Keyword) (ts rest : List Terminal) (r : Result At Stop) → sees (is_word w) ts ≡ true → IfOk r (λ at. IsHead ts at rest) → IfOk r (λ at. IsPlaced (TokenKind.Word w) ts at rest)
word_head w ts rest (Ok at) e h = at_word w e h
word_head w ts rest (Err stop) e h = h

pub takes_word : {A : Type 0} (w : Keyword) (r : Result A Stop) (p q : Parser) → sees (is_word w) (left p) ≡ true → Takes r p q → TakesKind (TokenKind.Word w) r p q
takes_word w r p q e h x after f = h x after (first_word w (left p) e x ∙ f)

-- ---- signs

pub first_sign : (s : Sign) (ts : List Terminal) → sees (is_sign s) ts ≡ true → (x : Symbol) → first x ts ≡ move x (TokenKind.Sign s)
first_sign s [] e x = cc
first_sign s (t ∷ ts) e x = ap (move x) (same_sign s t.kind e)

at_sign : (s : Sign) {ts : List Terminal} {at : At} {rest : List Terminal} → sees (is_sign s) ts ≡ true → IsHead ts at rest → IsPlaced (TokenKind.Sign s) ts at rest
at_sign s {at = at} {rest = rest} e (kind, here) = is_here (TokenKind.Sign s) (record { kind = kind; at = at }) (same_sign s kind e)

pub sign_head : (s : Sign) (ts rest : List Terminal) (r : Result At Stop) → sees (is_sign s) ts ≡ true → IfOk r (λ at. IsHead ts at rest) → IfOk r (λ at. IsPlaced (TokenKind.Sign s) ts at rest)
sign_head s ts rest (Ok at) e h = at_sign s e h
sign_head s ts rest (Err stop) e h = h

pub takes_sign : {A : Type 0} (s : Sign) (r : Result A Stop) (p q : Parser) → sees (is_sign s) (left p) ≡ true → Takes r p q → TakesKind (TokenKind.Sign s) r p q
takes_sign s r p q e h x after f = h x after (first_sign s (left p) e x ∙ f)

-- ---- names and numbers

-- each symbol does the same at each name, and at each number
pub move_name : (x : Symbol) (m n : List ℕ) → move x (TokenKind.Name m) ≡ move x (TokenKind.Name n)
move_name (this_word w) m n = refl
move_name _ m n = refl

pub move_number : (x : Symbol) (m n : ℤ) → move x (TokenKind.Number m) ≡ move x (TokenKind.Number n)
move_number (this_word w) m n = refl
move_number _ m n = refl

first_name : (ts : List Terminal) → sees is_name ts ≡ true → (x : Symbol) → first x ts ≡ move x (TokenKind.Name [])
first_name [] e x = cc
first_name (t ∷ ts) e x = let n = some_name t.kind e in ap (move x) n.1 ∙ move_name x n.0 []

first_number : (ts : List Terminal) → sees is_numeral ts ≡ true → (x : Symbol) → first x ts ≡ move x (TokenKind.Number (pos 0))
first_number [] e x = cc
first_number (t ∷ ts) e x = let n = some_number t.kind e in ap (move x) n.1 ∙ move_number x n.0 (pos 0)

pub takes_name : {A : Type 0} (r : Result A Stop) (p q : Parser) → sees is_name (left p) ≡ true → Takes r p q → TakesKind (TokenKind.Name []) r p q
takes_name r p q e h x after f = h x after (first_name (left p) e x ∙ f)

pub takes_number : {A : Type 0} (r : Result A Stop) (p q : Parser) → sees is_numeral (left p) ≡ true → Takes r p q → TakesKind (TokenKind.Number (pos 0)) r p q
takes_number r p q e h x after f = h x after (first_number (left p) e x ∙ f)

-- a word's own symbol reads it, and a sign's
pub reads_word : (w : Keyword) → move (this_word w) (TokenKind.Word w) ≡ reads []
reads_word w = rw (eq-eqb (word_number w) (word_number w) refl) refl

pub reads_sign : (s : Sign) → move (this_sign s) (TokenKind.Sign s) ≡ reads []
reads_sign s = rw (eq-eqb (sign_number s) (sign_number s) refl) refl

-- ---- stops

-- a token's place may be left out
pub placed_token : {kind : TokenKind} {ts rest : List Terminal} {at : At} → IsPlaced kind ts at rest → IsToken kind ts rest
placed_token here = there

pub stop_here : (p : Parser) (x : Symbol) (k : List Symbol) → first x (left p) ≡ stops → reach (x ∷ k) p ≡ fails Stop.Syntax (reach (x ∷ k) p) (left p)
stop_here p x k e = reach_stops p x k e ∙ sym (fails-syntax (reach (x ∷ k) p) (left p))

first_no_word : (w : Keyword) (ts : List Terminal) → sees (is_word w) ts ≡ false → first (this_word w) ts ≡ stops
first_no_word w [] e = refl
first_no_word w (t ∷ ts) e = rw e refl

first_no_sign : (s : Sign) (ts : List Terminal) → sees (is_sign s) ts ≡ false → first (this_sign s) ts ≡ stops
first_no_sign s [] e = refl
first_no_sign s (t ∷ ts) e = rw e refl

-- another token stands in the place of this word
pub no_word : (w : Keyword) (p : Parser) (k : List Symbol) → sees (is_word w) (left p) ≡ false → reach (this_word w ∷ k) p ≡ fails Stop.Syntax (reach (this_word w ∷ k) p) (left p)
no_word w p k e = stop_here p (this_word w) k (first_no_word w (left p) e)

pub no_sign : (s : Sign) (p : Parser) (k : List Symbol) → sees (is_sign s) (left p) ≡ false → reach (this_sign s ∷ k) p ≡ fails Stop.Syntax (reach (this_sign s ∷ k) p) (left p)
no_sign s p k e = stop_here p (this_sign s) k (first_no_sign s (left p) e)

first_no_name : (ts : List Terminal) → sees is_name ts ≡ false → first any_name ts ≡ stops
first_no_name [] e = refl
first_no_name (t ∷ ts) e = rw e refl

first_no_number : (ts : List Terminal) → sees is_numeral ts ≡ false → first any_number ts ≡ stops
first_no_number [] e = refl
first_no_number (t ∷ ts) e = rw e refl

pub no_name : (p : Parser) (k : List Symbol) → sees is_name (left p) ≡ false → reach (any_name ∷ k) p ≡ fails Stop.Syntax (reach (any_name ∷ k) p) (left p)
no_name p k e = stop_here p any_name k (first_no_name (left p) e)

pub no_number : (p : Parser) (k : List Symbol) → sees is_numeral (left p) ≡ false → reach (any_number ∷ k) p ≡ fails Stop.Syntax (reach (any_number ∷ k) p) (left p)
no_number p k e = stop_here p any_number k (first_no_number (left p) e)

-- ---- a number that was read

head_kind : {kind : TokenKind} {ts rest : List Terminal} {at : At} → IsPlaced kind ts at rest → (t : Terminal) (us : List Terminal) → ts ≡ t ∷ us → kind ≡ t.kind
head_kind here t us e = cc

pub number_here : (xs : List Token) (t : Token) (v w : ℤ) (at : At) (rest : List Terminal) → 0 < length xs → t ≡ get_or xs 0 t → t.kind ≡ TokenKind.Number v → w ≡ v →
    IsHead (terminals xs) at rest → IsNumber (terminals xs) (record { value = w; at = at }) rest
number_here xs t v w at rest l e f g (kind, d) =
    let h = head_kind d (terminal t) _ (first_of_rest xs t l e) in
    let P : TokenKind → Type 0 = λ k. IsPlaced k (terminals xs) at rest in
    numbered (subst P (h ∙ f ∙ ap TokenKind.Number (sym g)) d)
