-- Words are read as what they are the text of.
use Rattle.std.proofs.Common.{int_eq, to_z, of_z, is_some, ◌≡◌, ℕ, ℤ, ◌<◌, ◌^◌, Bool, true, false, List, length, not, Option, Some, None, refl, sym, ap, ◌∙◌, arith}
use Rattle.std.specs.Prelude.{◌&&◌, nat_lt, nat_le, Result, Ok, Err, FitsSigned, IfSome, IsSome, ◌↔◌}
use Rattle.std.specs.Int.{w64}
use Rattle.std.proofs.lemmas.Int.{to_z-of_z}
use Rattle.std.specs.Int.Signed.{mag}
use Rattle.std.specs.Fmt.{decimal, signed_decimal}
use Rattle.std.specs.Str.{IsUtf8}
use Rattle.std.specs.Str.Parse.{digits_value, signed_digits_value, ParsesUnsigned, ParsesSigned}
use Rattle.std.proofs.lemmas.Str.{IsUtf8-from_ascii}
use Rattle.std.proofs.lemmas.Fmt.{decimal_is_IsNumeral, parse-decimal, parse-signed_decimal, IsAscii-decimal, IsAscii-signed}
use Rattle.std.proofs.lemmas.Option.{cond_some}
use Rattle.std.proofs.lemmas.Bool.{ltb-true, lt-ltb, leb-true, le-leb, not-true, both_ways}
use Rattle.std.proofs.lemmas.Bool.Decides.{Decides-int_eq}
use Rattle.std.proofs.lemmas.Slice.Eq.{bytes_eq-Decides}
use Rattle.tcel_num.specs.Name.{IsName, is_word, is_reserved}
use Rattle.tcel_trace.specs.Reading.{number_in, signed_in, is_name, name_in}
use Rattle.tcel_script.specs.Script.{same}

-- both tests hold
pub both : (a b : Bool) → (a && b) ≡ true → (a ≡ true) × (b ≡ true)
both true true h = (refl, refl)
both true false h = absurd cc
both false b h = absurd cc

-- ---- numbers

pub number_sound : (word : List ℕ) (n : ℕ) → number_in word ≡ Some n → (n < 2 ^ 64) × (word ≡ decimal n)
number_sound word n h =
    let m = digits_value 10 word in
    let chosen = cond_some (nat_lt m (2 ^ 64) && same (decimal m) word) m n h in
    let tests = both (nat_lt m (2 ^ 64)) (same (decimal m) word) chosen.0 in
    let text : decimal m ≡ word = (bytes_eq-Decides (decimal m) word).0 tests.1 in
    rw (← chosen.1) (ltb-true m (2 ^ 64) tests.0, sym text)

pub number_there : (n : ℕ) → n < 2 ^ 64 → number_in (decimal n) ≡ Some n
number_there n small =
    let value : digits_value 10 (decimal n) ≡ n = (decimal_is_IsNumeral n small).1 in
    rw (value, lt-ltb n (2 ^ 64) small, (bytes_eq-Decides (decimal n) (decimal n)).1 refl) refl

-- no number has this text
pub no_number : (word : List ℕ) → ((n : ℕ) → n < 2 ^ 64 → word ≡ decimal n → ⊥) → None ≡ number_in word
no_number word none = by_found (number_in word) refl
  where
    by_found : (o : Option ℕ) → number_in word ≡ o → None ≡ o
    by_found None h = refl
    by_found (Some n) h = let found = number_sound word n h in absurd (none n found.0 found.1)

pub no_utf8_number : (word : List ℕ) → (IsUtf8 word → ⊥) → None ≡ number_in word
no_utf8_number word broken = no_number word (λ n small e. broken (rw e (IsUtf8-from_ascii (decimal n) (IsAscii-decimal n small))))

-- what is parsed of the text of a number is that number
parsed : {E : Type 0} (word text : List ℕ) (r : Result ℕ E) (n : ℕ) → text ≡ word → ParsesUnsigned 64 10 text r → n < 2 ^ 64 → word ≡ decimal n → r ≡ Ok n
parsed word text r n same_text h small e = parse-decimal 64 n text r small small (same_text ∙ e) h

pub failed_number : {E : Type 0} (word text : List ℕ) (r : Result ℕ E) (e : E) → text ≡ word → ParsesUnsigned 64 10 text r → r ≡ Err e → None ≡ number_in word
failed_number word text r e same_text h is = no_number word (λ n small w. let ok = parsed word text r n same_text h small w in cc)

range : {E : Type 0} (text : List ℕ) (r : Result ℕ E) (n : ℕ) → ParsesUnsigned 64 10 text r → r ≡ Ok n → n < 2 ^ 64
range text (Ok m) n h is = let same_number : m ≡ n = cc in omega (arith, h.0.1, h.1, same_number)
range text (Err e) n h is = absurd cc

pub same_number : {E : Type 0} (word text written : List ℕ) (r : Result ℕ E) (n : ℕ) → ParsesUnsigned 64 10 text r → r ≡ Ok n → written ≡ decimal n
    → same written word ≡ true → Some n ≡ number_in word
same_number word text written r n h is w tells =
    let there : decimal n ≡ word = sym w ∙ (bytes_eq-Decides written word).0 tells in
    rw (← there) (sym (number_there n (range text r n h is)))

pub other_number : {E : Type 0} (word text written : List ℕ) (r : Result ℕ E) (n : ℕ) → text ≡ word → ParsesUnsigned 64 10 text r → r ≡ Ok n
    → written ≡ decimal n → same written word ≡ false → None ≡ number_in word
other_number word text written r n same_text h is w tells =
    no_number word (λ m small e.
    let ok = parsed word text r m same_text h small e in
    let one : m ≡ n = cc in
    let there : written ≡ word = w ∙ ap decimal (sym one) ∙ sym e in
    both_ways (same written word) tells ((bytes_eq-Decides written word).1 there))

-- ---- signed numbers

pub fits_mag : (z : ℤ) → FitsSigned w64 z → mag z < 2 ^ 63
fits_mag z fits = fits.sfits

pub signed_sound : (word : List ℕ) (z : ℤ) → signed_in word ≡ Some z → FitsSigned w64 z × (word ≡ signed_decimal z)
signed_sound word z h =
    let y = signed_digits_value 10 word in
    let chosen = cond_some (nat_lt (mag y) (2 ^ 63) && same (signed_decimal y) word) y z h in
    let tests = both (nat_lt (mag y) (2 ^ 63)) (same (signed_decimal y) word) chosen.0 in
    let text : signed_decimal y ≡ word = (bytes_eq-Decides (signed_decimal y) word).0 tests.1 in
    rw (← chosen.1) (record { sfits = ltb-true (mag y) (2 ^ 63) tests.0 }, sym text)

pub no_signed : (word : List ℕ) → ((z : ℤ) → FitsSigned w64 z → word ≡ signed_decimal z → ⊥) → None ≡ signed_in word
no_signed word none = by_found (signed_in word) refl
  where
    by_found : (o : Option ℤ) → signed_in word ≡ o → None ≡ o
    by_found None h = refl
    by_found (Some z) h = let found = signed_sound word z h in absurd (none z found.0 found.1)

-- digits behind a sign write the number again
read_as : (z : ℤ) (r : Result ℤ ℕ) → FitsSigned w64 z → ParsesSigned w64 10 (signed_decimal z) r → r ≡ Ok z
read_as z r fits h = parse-signed_decimal w64 z (signed_decimal z) r fits (fits_mag z fits) refl h

not_refused : (z : ℤ) (r : Result ℤ ℕ) (e : ℕ) → r ≡ Err e → r ≡ Ok z → ⊥
not_refused z r e h k = let both_one : ok_or_err (Err e) ≡ ok_or_err (Ok z) = ap ok_or_err (sym h ∙ k) in absurd cc
  where
    ok_or_err : Result ℤ ℕ → Bool
    ok_or_err (Ok y) = true
    ok_or_err (Err d) = false

ok_same : (y x : ℤ) → (let r : Result ℤ ℕ = Ok y in r) ≡ Ok x → y ≡ x
ok_same y x h = cc

signed_value : (z : ℤ) → FitsSigned w64 z → signed_digits_value 10 (signed_decimal z) ≡ z
signed_value z fits = by_test (int_eq (signed_digits_value 10 (signed_decimal z)) z) refl
  where
    by_test : (b : Bool) → int_eq (signed_digits_value 10 (signed_decimal z)) z ≡ b → signed_digits_value 10 (signed_decimal z) ≡ z
    by_test true h = (Decides-int_eq (signed_digits_value 10 (signed_decimal z)) z).0 h
    by_test false h =
        let value = signed_digits_value 10 (signed_decimal z) in
        absurd (not_refused z (Err 0) 0 refl
        (read_as z (Err 0) fits (λ p.
        let one : value ≡ z = ok_same value z (read_as z (Ok value) fits (p, refl)) in
        both_ways (int_eq value z) h ((Decides-int_eq value z).1 one))))

pub signed_there : (z : ℤ) → FitsSigned w64 z → signed_in (signed_decimal z) ≡ Some z
signed_there z fits =
    rw (signed_value z fits, lt-ltb (mag z) (2 ^ 63) (fits_mag z fits), (bytes_eq-Decides (signed_decimal z) (signed_decimal z)).1 refl) refl

pub no_utf8_signed : (word : List ℕ) → (IsUtf8 word → ⊥) → None ≡ signed_in word
no_utf8_signed word broken = no_signed word (λ z fits e. broken (rw e (IsUtf8-from_ascii (signed_decimal z) (IsAscii-signed z (fits_mag z fits)))))

parsed_signed : {E : Type 0} (word text : List ℕ) (r : Result ℤ E) (z : ℤ) → text ≡ word → ParsesSigned w64 10 text r → FitsSigned w64 z
    → word ≡ signed_decimal z → r ≡ Ok z
parsed_signed word text r z same_text h fits e = parse-signed_decimal w64 z text r fits (fits_mag z fits) (same_text ∙ e) h

pub failed_signed : {E : Type 0} (word text : List ℕ) (r : Result ℤ E) (e : E) → text ≡ word → ParsesSigned w64 10 text r → r ≡ Err e → None ≡ signed_in word
failed_signed word text r e same_text h is = no_signed word (λ z fits w. let ok = parsed_signed word text r z same_text h fits w in cc)

-- the number that is parsed of the text that it has
value_of : {E : Type 0} (text : List ℕ) (r : Result ℤ E) (z : ℤ) → ParsesSigned w64 10 text r → r ≡ Ok z → FitsSigned w64 z × (signed_digits_value 10 text ≡ z)
value_of text (Ok y) z h is = let one : y ≡ z = cc in rw (← one) (rw (h.1) (h.0.1, refl))
value_of text (Err e) z h is = absurd cc

pub same_signed : {E : Type 0} (word text written : List ℕ) (r : Result ℤ E) (z : ℤ) → text ≡ word → ParsesSigned w64 10 text r → r ≡ Ok z
    → written ≡ signed_decimal (to_z w64 (of_z w64 z)) → same written word ≡ true → Some (to_z w64 (of_z w64 z)) ≡ signed_in word
same_signed word text written r z same_text h is w tells =
    let value = value_of text r z h is in
    let of_word : signed_digits_value 10 word ≡ z = rw same_text at value.1 in
    let told : same (signed_decimal z) word ≡ true = rw (w, to_z-of_z w64 z value.0) at tells in
    rw (of_word, lt-ltb (mag z) (2 ^ 63) (fits_mag z value.0), told, to_z-of_z w64 z value.0) refl

pub other_signed : {E : Type 0} (word text written : List ℕ) (r : Result ℤ E) (z : ℤ) → text ≡ word → ParsesSigned w64 10 text r → r ≡ Ok z
    → written ≡ signed_decimal (to_z w64 (of_z w64 z)) → same written word ≡ false → None ≡ signed_in word
other_signed word text written r z same_text h is w tells =
    no_signed word (λ y fits e.
    let ok = parsed_signed word text r y same_text h fits e in
    let one : y ≡ z = cc in
    let back : to_z w64 (of_z w64 z) ≡ z = to_z-of_z w64 z (value_of text r z h is).0 in
    let there : written ≡ word = w ∙ ap signed_decimal (back ∙ sym one) ∙ sym e in
    both_ways (same written word) tells ((bytes_eq-Decides written word).1 there))

-- ---- names

pub is_name_sound : (word : List ℕ) → is_name word ≡ true → IsName word
is_name_sound word h =
    let first = both (is_word word) (nat_le (length word) 32 && not (is_reserved word)) h in
    let second = both (nat_le (length word) 32) (not (is_reserved word)) first.1 in
    record { word = first.0; short = leb-true (length word) 32 second.0; free = not-true (is_reserved word) second.1 }

pub is_name_there : (word : List ℕ) → IsName word → is_name word ≡ true
is_name_there word name = rw (name.word, le-leb (length word) 32 name.short, name.free) refl

pub name_sound : (word name : List ℕ) → name_in word ≡ Some name → IsName name × (word ≡ name)
name_sound word name h =
    let chosen = cond_some (is_name word) word name h in
    rw (← chosen.1) (is_name_sound word chosen.0, refl)

pub name_there : (name : List ℕ) → IsName name → name_in name ≡ Some name
name_there name named = rw (is_name_there name named) refl

-- what is named is the word, where it is a name
pub named : (word : List ℕ) (r : Option (List ℕ)) → IfSome r (λ name. name ≡ word) → (IsSome r ↔ IsName word) → r ≡ name_in word
named word (Some name) value valid = rw (is_name_there word (valid.0 refl), value) refl
named word None value valid = by_test (is_name word) refl
  where
    none : Option (List ℕ)
    none = None

    by_test : (b : Bool) → is_name word ≡ b → None ≡ name_in word
    by_test true h = let some : is_some none ≡ true = valid.1 (is_name_sound word h) in absurd cc
    by_test false h = rw h refl
