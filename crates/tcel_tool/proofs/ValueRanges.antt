-- Every value on the machine is of 64 bits.
use Rattle.std.proofs.Common.{ℕ, ◌+◌, ℤ, pos, negsuc, Bool, true, false, List, [], ◌∷◌, length, get_or, drop, set, sym, subst, arith, inl, inr}
use Rattle.std.specs.Prelude.{All, FitsSigned, nat_lt, int_rem}
use Rattle.std.specs.Int.{w64}
use Rattle.std.specs.Ordering.{int_eq}
use Rattle.std.specs.Int.Signed.{mag_rem}
use Rattle.std.proofs.lemmas.Bool.{cases_lt, cond_both}
use Rattle.std.proofs.lemmas.Int.{SFits-int_wrap}
use Rattle.std.proofs.lemmas.List.Elements.{All-append, All-cons, All-drop, All-get_or, All-head, All-set, All-tail, All-take}
use Rattle.std.proofs.lemmas.List.{get_or_past}
use Rattle.tcel_num.specs.declared.op.Op.{Op}
use Rattle.tcel_num.specs.declared.op.Op.TheVariants.{Add, Sub, Mul, Div, Rem, Neg, Not, And, Or, Equal, Unequal, Less, LessOrEqual, Greater, GreaterOrEqual}
use Rattle.tcel_num.specs.Arithmetic.{wrapped, truth, quotient, remainder, unary_value, binary_value, is_unary}
use Rattle.tcel_num.specs.Words.{element, with_element, copied}
use Rattle.tcel_image.specs.Machine.{top, below, applied}

pub zero_fits : FitsSigned w64 (pos 0)
zero_fits = record { sfits = omega arith }

truth_fits : (b : Bool) → FitsSigned w64 (truth b)
truth_fits true = record { sfits = omega arith }
truth_fits false = zero_fits

pub wrapped_fits : (z : ℤ) → FitsSigned w64 (wrapped z)
wrapped_fits z = SFits-int_wrap w64 z

remainder_fits : (a b : ℤ) → FitsSigned w64 a → FitsSigned w64 (remainder a b)
remainder_fits a b fits =
    cond_both (int_eq b (pos 0)) (pos 0) (int_rem a b) (FitsSigned w64) (λ _. zero_fits)
    (λ _. record { sfits = let most = mag_rem a b in let less = fits.sfits in omega arith })

quotient_fits : (a b : ℤ) → FitsSigned w64 (quotient a b)
quotient_fits a b = cond_both (int_eq b (pos 0)) (pos 0) _ (FitsSigned w64) (λ _. zero_fits) (λ _. wrapped_fits _)

unary_fits : (op : Op) (a : ℤ) → FitsSigned w64 (unary_value op a)
unary_fits Neg a = wrapped_fits _
unary_fits Not a = truth_fits _
unary_fits Add a = zero_fits
unary_fits Sub a = zero_fits
unary_fits Mul a = zero_fits
unary_fits Div a = zero_fits
unary_fits Rem a = zero_fits
unary_fits And a = zero_fits
unary_fits Or a = zero_fits
unary_fits Equal a = zero_fits
unary_fits Unequal a = zero_fits
unary_fits Less a = zero_fits
unary_fits LessOrEqual a = zero_fits
unary_fits Greater a = zero_fits
unary_fits GreaterOrEqual a = zero_fits

binary_fits : (op : Op) (a b : ℤ) → FitsSigned w64 a → FitsSigned w64 (binary_value op a b)
binary_fits Neg a b fits = zero_fits
binary_fits Not a b fits = zero_fits
binary_fits Add a b fits = wrapped_fits _
binary_fits Sub a b fits = wrapped_fits _
binary_fits Mul a b fits = wrapped_fits _
binary_fits Div a b fits = quotient_fits a b
binary_fits Rem a b fits = remainder_fits a b fits
binary_fits And a b fits = truth_fits _
binary_fits Or a b fits = truth_fits _
binary_fits Equal a b fits = truth_fits _
binary_fits Unequal a b fits = truth_fits _
binary_fits Less a b fits = truth_fits _
binary_fits LessOrEqual a b fits = truth_fits _
binary_fits Greater a b fits = truth_fits _
binary_fits GreaterOrEqual a b fits = truth_fits _

-- ---- words

-- the words of a list are of 64 bits
abbrev pub WordsFit : List ℤ → Type 0
WordsFit words = All (FitsSigned w64) words

pub word_fits : (words : List ℤ) (k : ℕ) → WordsFit words → FitsSigned w64 (get_or words k (pos 0))
word_fits words k fits =
    elim (cases_lt k (length words)) [
      | inl less ↦ All-get_or (FitsSigned w64) words k (pos 0) less fits
      | inr most ↦ subst (FitsSigned w64) (sym (get_or_past words k (pos 0) most)) zero_fits
    ]

pub top_fits : (stack : List ℤ) → WordsFit stack → FitsSigned w64 (top stack)
top_fits [] fits = zero_fits
top_fits (value ∷ stack) fits = All-head (FitsSigned w64) value stack fits

pub below_fits : (stack : List ℤ) → WordsFit stack → WordsFit (below stack)
below_fits [] fits = fits
below_fits (value ∷ stack) fits = All-tail (FitsSigned w64) value stack fits

pub push_fits : (value : ℤ) (stack : List ℤ) → FitsSigned w64 value → WordsFit stack → WordsFit (value ∷ stack)
push_fits value stack fits rest = All-cons (FitsSigned w64) value stack fits rest

pub set_fits : (words : List ℤ) (k : ℕ) (value : ℤ) → FitsSigned w64 value → WordsFit words → WordsFit (set words k value)
set_fits words k value fits rest = All-set (FitsSigned w64) words k value fits rest

pub applied_fits : (op : Op) (stack : List ℤ) → WordsFit stack → WordsFit (applied op stack)
applied_fits op stack fits =
    let under = below_fits stack fits in
    cond_both (is_unary op) (unary_value op (top stack) ∷ below stack) (binary_value op (top (below stack)) (top stack) ∷ below (below stack)) WordsFit
    (λ _. push_fits _ _ (unary_fits op (top stack)) under)
    (λ _. push_fits _ _ (binary_fits op (top (below stack)) (top stack) (top_fits (below stack) under)) (below_fits (below stack) under))

pub element_fits : (words : List ℤ) (from size : ℕ) (index : ℤ) → WordsFit words → FitsSigned w64 (element words from size index)
element_fits words from size (pos index) fits =
    cond_both (nat_lt index size) (get_or words (from + index) (pos 0)) (pos 0) (FitsSigned w64) (λ _. word_fits words (from + index) fits) (λ _. zero_fits)
element_fits words from size (negsuc index) fits = zero_fits

pub with_element_fits : (words : List ℤ) (from size : ℕ) (index value : ℤ) → FitsSigned w64 value → WordsFit words → WordsFit (with_element words from size index value)
with_element_fits words from size (pos index) value fits rest =
    cond_both (nat_lt index size) (set words (from + index) value) words WordsFit (λ _. set_fits words (from + index) value fits rest) (λ _. rest)
with_element_fits words from size (negsuc index) value fits rest = rest

pub copied_fits : (words : List ℤ) (from to size : ℕ) → WordsFit words → WordsFit (copied words from to size)
copied_fits words from to size fits =
    All-append (FitsSigned w64) _ _ (All-take (FitsSigned w64) to words fits)
    (All-append (FitsSigned w64) _ _ (All-take (FitsSigned w64) size (drop from words) (All-drop (FitsSigned w64) from words fits)) (All-drop (FitsSigned w64) (to + size) words fits))
