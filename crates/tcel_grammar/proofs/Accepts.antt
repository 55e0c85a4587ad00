-- The machine without counts: whether it reads tokens to their end.
use Rattle.std.proofs.Common.{◌≡◌, Bool, true, false, List, [], ◌∷◌, Option, Some, None, refl, eq-eqb}
use Rattle.tcel_num.specs.declared.at.At.{At}
use Rattle.tcel_num.specs.declared.op.Op.{Op}
use Rattle.tcel_token.specs.declared.sign.Sign.{Sign}
use Rattle.tcel_token.specs.declared.keyword.Keyword.{Keyword}
use Rattle.tcel_token.specs.declared.token.TokenKind.{TokenKind}
use Rattle.tcel_token.specs.Terminal.{Terminal}
use Rattle.tcel_grammar.specs.Expressions.{Level, binary_of, here, IsToken, there, IsBinary, between}
use Rattle.tcel_grammar.specs.Machine.{Symbol, operand, behind_operand, behind_name, step, ends, is_sign, this_word, this_sign, word_number, sign_number, goes_on, compared_after}

-- what a stack at which reading has come does with the rest
abbrev pub accepts_after : Option (List Symbol) → (List Symbol → Bool) → Bool
accepts_after None on = false
accepts_after (Some k) on = on k

-- the machine reads all the tokens and may end
abbrev pub accepts : List Symbol → List Terminal → Bool
accepts k [] = ends k
accepts k (t ∷ ts) = accepts_after (step k t.kind) (λ j. accepts j ts)

-- behind an operand: a name, or any other
abbrev pub last : Bool → Bool → Symbol
last true compared = behind_name compared
last false compared = behind_operand 5 compared

-- an operator is read behind an operand
pub operator_read : (named compared : Bool) {level : Level} {ts rest : List Terminal} {at : At} {op : Op} → IsBinary level ts at op rest → goes_on 5 compared level ≡ true →
    (k : List Symbol) → accepts (last named compared ∷ k) ts ≡ accepts (operand true (compared_after compared level) ∷ k) rest
operator_read true compared (between here e f) g k = rw (e, f, g) refl
operator_read false compared (between here e f) g k = rw (e, f, g) refl

-- any other token is left to what stands below
pub past_operand : (named compared : Bool) {kind : TokenKind} {ts rest : List Terminal} → IsToken kind ts rest → binary_of kind ≡ None → is_sign Sign.LeftSquare kind ≡ false →
    (k : List Symbol) → accepts (last named compared ∷ k) ts ≡ accepts k ts
past_operand true compared there e f k = rw (e, f) refl
past_operand false compared there e f k = rw e refl

-- a sign that must come is read
pub sign_read : {s : Sign} {ts rest : List Terminal} → IsToken (TokenKind.Sign s) ts rest → (k : List Symbol) → accepts (this_sign s ∷ k) ts ≡ accepts k rest
sign_read {s} there k = rw (eq-eqb (sign_number s) (sign_number s) refl) refl

-- a word that must come is read
pub word_read : {w : Keyword} {ts rest : List Terminal} → IsToken (TokenKind.Word w) ts rest → (k : List Symbol) → accepts (this_word w ∷ k) ts ≡ accepts k rest
word_read {w} there k = rw (eq-eqb (word_number w) (word_number w) refl) refl
