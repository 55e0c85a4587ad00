-- The values of a script are of 64 bits.
use Rattle.std.proofs.Common.{◌≡◌, ℕ, zero, suc, ◌≤◌, ◌^◌, ℤ, pos, List, [], ◌∷◌, length, map, get_or, refl, sym, subst, arith, Option, Some, None, inl, inr}
use Rattle.std.specs.Prelude.{All, FitsSigned, neg_ℤ, nat_le, nat_lt, ◌&&◌, ◌==◌, option_map, unwrap_or, find}
use Rattle.std.specs.Int.{w64}
use Rattle.std.proofs.lemmas.Bool.{and_parts, cases_lt, cond_both, leb-true, ltb-true}
use Rattle.std.proofs.lemmas.List.{get_or_past}
use Rattle.std.proofs.lemmas.List.Elements.{All-cons, All-get_or, All-map, All-nil}
use Rattle.std.proofs.lemmas.Option.{cond_some, none-some, option_and_then_some, same_Some}
use Rattle.tcel_num.specs.declared.port_row.PortRow.{PortRow}
use Rattle.tcel_script.specs.Lines.{Line, passed, short, stream}
use Rattle.tcel_script.specs.Numbers.{is_digits, magnitude, negative_number, number_of, numbers_of, plain_number}
use Rattle.tcel_script.specs.Script.{Streams, is_for, stream_in, streams_of, values_of}
use Rattle.tcel_tool.proofs.ValueRanges.{WordsFit, word_fits}
use Rattle.tcel_tool.proofs.RunEntries.{InputsFit, StreamsFit}

negative_fits : (n : ℕ) → n ≤ 2 ^ 63 → FitsSigned w64 (neg_ℤ (pos n))
negative_fits zero most = record { sfits = omega arith }
negative_fits (suc n) most = record { sfits = omega arith }

number_fits : (word : List ℕ) (z : ℤ) → number_of word ≡ Some z → FitsSigned w64 z
number_fits [] z e = absurd (none-some z e)
number_fits (first ∷ rest) z e =
    cond_both (first == 45) (negative_number rest) (plain_number (first ∷ rest)) (λ (o : Option ℤ). o ≡ Some z → FitsSigned w64 z)
    (λ _ is.
    let parts = cond_some (is_digits rest && nat_le (magnitude rest) (2 ^ 63)) (neg_ℤ (pos (magnitude rest))) z is in
    subst (FitsSigned w64) parts.1 (negative_fits (magnitude rest) (leb-true _ _ (and_parts _ _ parts.0).1)))
    (λ _ is.
    let word = first ∷ rest in
    let parts = cond_some (is_digits word && nat_lt (magnitude word) (2 ^ 63)) (pos (magnitude word)) z is in
    let less = ltb-true _ _ (and_parts _ _ parts.0).1 in
    subst (FitsSigned w64) parts.1 (record { sfits = less }))
    e

numbers_fit : (words : List (List ℕ)) (zs : List ℤ) → numbers_of words ≡ Some zs → WordsFit zs
numbers_fit [] zs e = subst WordsFit (same_Some [] zs e) (All-nil (FitsSigned w64))
numbers_fit (word ∷ words) zs e =
    option_and_then_some {P = WordsFit zs} (λ number. option_map (λ numbers. number ∷ numbers) (numbers_of words)) (number_of word) zs e
    (λ z is more. both z (numbers_of words) (numbers_fit words) (number_fits word z is) more)
  where
    both : (z : ℤ) (o : Option (List ℤ)) → ((others : List ℤ) → o ≡ Some others → WordsFit others) → FitsSigned w64 z → option_map (λ numbers. z ∷ numbers) o ≡ Some zs → WordsFit zs
    both z None rest fits is = absurd (none-some zs is)
    both z (Some others) rest fits is = subst WordsFit (same_Some (z ∷ others) zs is) (All-cons (FitsSigned w64) z others fits (rest others refl))

or_none_fits : (o : Option (List ℤ)) → ((zs : List ℤ) → o ≡ Some zs → WordsFit zs) → WordsFit (unwrap_or o [])
or_none_fits None each = All-nil (FitsSigned w64)
or_none_fits (Some zs) each = each zs refl

values_fit : (line : Line) → WordsFit (values_of line)
values_fit passed = All-nil (FitsSigned w64)
values_fit short = All-nil (FitsSigned w64)
values_fit (stream task port words) = or_none_fits (numbers_of words) (numbers_fit words)

found_fits : (o : Option Line) → WordsFit (unwrap_or (option_map values_of o) [])
found_fits None = All-nil (FitsSigned w64)
found_fits (Some line) = values_fit line

-- those of an input
input_fits : (lines : List Line) (task input : List ℕ) → WordsFit (unwrap_or (stream_in lines task input) [])
input_fits lines task input = found_fits (find (is_for task input) lines)

row_fits : (lines : List Line) (row : PortRow) → All (All (FitsSigned w64)) (map (λ input. unwrap_or (stream_in lines row.task input) []) row.inputs)
row_fits lines row =
    All-map (All (FitsSigned w64)) (λ input. unwrap_or (stream_in lines row.task input) []) row.inputs
    (λ n d less. input_fits lines row.task (get_or row.inputs n d))

-- those of all
pub script_fits : (ports : List PortRow) (lines : List Line) → All (All (All (FitsSigned w64))) (streams_of ports lines)
script_fits ports lines =
    All-map (All (All (FitsSigned w64))) (λ (row : PortRow). map (λ input. unwrap_or (stream_in lines row.task input) []) row.inputs) ports
    (λ k d less. row_fits lines (get_or ports k d))

inputs_fit : (inputs : List (List ℤ)) → All (All (FitsSigned w64)) inputs → InputsFit inputs
inputs_fit inputs fits port k =
    elim (cases_lt port (length inputs)) [
      | inl less ↦ word_fits (get_or inputs port []) k (All-get_or (All (FitsSigned w64)) inputs port [] less fits)
      | inr most ↦ word_fits (get_or inputs port []) k (subst WordsFit (sym (get_or_past inputs port [] most)) (All-nil (FitsSigned w64)))
    ]

-- so whichever is taken next is
pub streams_fit : (streams : Streams) → All (All (All (FitsSigned w64))) streams → StreamsFit streams
streams_fit streams fits n =
    elim (cases_lt n (length streams)) [
      | inl less ↦ inputs_fit (get_or streams n []) (All-get_or (All (All (FitsSigned w64))) streams n [] less fits)
      | inr most ↦ inputs_fit (get_or streams n []) (subst (All (All (FitsSigned w64))) (sym (get_or_past streams n [] most)) (All-nil (All (FitsSigned w64))))
    ]
