-- The texts of states are told from all others.
use Rattle.std.proofs.Common.{◌⊎◌, inl, inr, ⊎_elim, subst, append-nil, pos, negsuc, ◌≡◌, ℕ, ℤ, suc, ◌<◌, ◌^◌, ◌==◌, Bool, true, false, List, [], ◌∷◌, ◌++◌, length, map, All, Option, Some, None, is_some, refl, sym, ap, ◌∙◌, arith}
use Rattle.std.specs.Prelude.{◌||◌, FitsSigned, codes}
use Rattle.std.specs.Int.{w64}
use Rattle.std.specs.List.{list_all, flat_map, slice_split, join_with_byte}
use Rattle.std.specs.Char.{is_ascii_digit}
use Rattle.std.specs.Str.{all_ascii_digits}
use Rattle.std.specs.Str.Parse.{digits_value}
use Rattle.std.specs.Fmt.{decimal, signed_decimal}
use Rattle.std.proofs.lemmas.Fmt.{digits_decimal}
use Rattle.std.proofs.lemmas.Str.Parse.{IsNumeralModel, numerals_by_value, tells_all_ascii_digits}
use Rattle.std.proofs.lemmas.Bool.{eqb-true, both_ways}
use Rattle.std.proofs.lemmas.Bool.Decides.{eqb_tells}
use Rattle.std.proofs.lemmas.Slice.Eq.{bytes_eq-Decides}
use Rattle.std.proofs.lemmas.List.Elements.{All-head, All-tail, All-nil, All-cons}
use Rattle.std.proofs.lemmas.List.{length-map}
use Rattle.std.proofs.lemmas.List.Splits.{join_with_byte-slice_split, length-slice_split}
use Rattle.tcel_num.specs.Name.{IsName, is_word, may_start, may_follow}
use Rattle.tcel_trace.specs.TraceForm.{Value, int, truth, array, ValueFits, value_text, State, StateFits, state_text, states_text, AreStates}
use Rattle.tcel_trace.specs.Reading.{cut, behind, signed_in, name_in, are_numbers, closed_numbers, opened_numbers, is_array, is_value, named_value, is_state, are_states}
use Rattle.tcel_script.specs.Script.{same}
use Rattle.tcel_trace.proofs.WordTexts.{both, fits_mag, signed_sound, signed_there, name_sound, name_there}
use Rattle.tcel_trace.proofs.Cutting.{has, lacks_both, cut_there, cut_sound, split_there, split_whole, behind_sound}

-- ---- bytes that texts lack

-- a byte that fails a test stands in no text whose bytes pass it
passing_lack : (test : ℕ → Bool) (byte : ℕ) (text : List ℕ) → test byte ≡ false → list_all test text ≡ true → has byte text ≡ false
passing_lack test byte [] fails each = refl
passing_lack test byte (b ∷ text) fails each =
    let parts = both (test b) (list_all test text) each in
    ⊎_elim (λ h. absurd (both_ways (test byte) fails (ap test (sym h.1) ∙ parts.0))) (λ h. rw (h.0) (passing_lack test byte text fails parts.1))
    (eqb_tells b byte)

all_digits : (text : List ℕ) → all_ascii_digits text ≡ true → list_all is_ascii_digit text ≡ true
all_digits [] h = refl
all_digits (b ∷ text) h =
    let parts = both (is_ascii_digit b) (all_ascii_digits text) h in
    rw (parts.0) (all_digits text parts.1)

pub decimal_lacks : (byte n : ℕ) → is_ascii_digit byte ≡ false → n < 2 ^ 64 → has byte (decimal n) ≡ false
decimal_lacks byte n fails small =
    let own : IsNumeralModel (λ text. all_ascii_digits text ≡ true) (digits_value 10) = numerals_by_value _ tells_all_ascii_digits in
    passing_lack is_ascii_digit byte (decimal n) fails (all_digits (decimal n) (digits_decimal own n small))

pub signed_lacks : (byte : ℕ) (z : ℤ) → is_ascii_digit byte ≡ false → (45 == byte) ≡ false → FitsSigned w64 z → has byte (signed_decimal z) ≡ false
signed_lacks byte (pos n) fails other fits = let small = fits_mag (pos n) fits in decimal_lacks byte n fails (omega arith)
signed_lacks byte (negsuc n) fails other fits = let small = fits_mag (negsuc n) fits in rw other (decimal_lacks byte (suc n) fails (omega arith))

-- a name is a word, of which each byte may follow
word_follows : (name : List ℕ) → is_word name ≡ true → list_all may_follow name ≡ true
word_follows [] h = absurd cc
word_follows (b ∷ name) h =
    let parts = both (may_start b) (list_all may_follow name) h in
    rw (parts.0, parts.1) refl

pub name_lacks : (byte : ℕ) (name : List ℕ) → may_follow byte ≡ false → IsName name → has byte name ≡ false
name_lacks byte name fails named = passing_lack may_follow byte name fails (word_follows name named.word)

-- ---- numbers with commas between

abbrev is_number : List ℕ → Bool
is_number word = is_some (signed_in word)

some_of : {A : Type 0} (o : Option A) → is_some o ≡ true → (x : A) × (o ≡ Some x)
some_of (Some x) h = (x, refl)
some_of None h = absurd cc

-- the numbers of words
numbers_of : (words : List (List ℕ)) → list_all is_number words ≡ true
    → (numbers : List ℤ) × All (FitsSigned w64) numbers × (words ≡ map signed_decimal numbers)
numbers_of [] h = ([], All-nil (FitsSigned w64), refl)
numbers_of (word ∷ words) h =
    let parts = both (is_number word) (list_all is_number words) h in
    let found = some_of (signed_in word) parts.0 in
    let text = signed_sound word found.0 found.1 in
    let more = numbers_of words parts.1 in
    (found.0 ∷ more.0, All-cons (FitsSigned w64) found.0 more.0 text.0 more.1, rw (← text.1, ← more.2) refl)

numbers_pass : (numbers : List ℤ) → All (FitsSigned w64) numbers → list_all is_number (map signed_decimal numbers) ≡ true
numbers_pass [] fit = refl
numbers_pass (z ∷ numbers) fit =
    rw (signed_there z (All-head (FitsSigned w64) z numbers fit)) (numbers_pass numbers (All-tail (FitsSigned w64) z numbers fit))

joined_lacks : (byte : ℕ) (numbers : List ℤ) → is_ascii_digit byte ≡ false → (45 == byte) ≡ false → (44 == byte) ≡ false
    → All (FitsSigned w64) numbers → has byte (join_with_byte 44 (map signed_decimal numbers)) ≡ false
joined_lacks byte [] digit minus comma fit = refl
joined_lacks byte (z ∷ []) digit minus comma fit = signed_lacks byte z digit minus (All-head (FitsSigned w64) z [] fit)
joined_lacks byte (z ∷ y ∷ numbers) digit minus comma fit =
    lacks_both byte (signed_decimal z) (44 ∷ join_with_byte 44 (map signed_decimal (y ∷ numbers)))
    (signed_lacks byte z digit minus (All-head (FitsSigned w64) z (y ∷ numbers) fit))
    (rw comma (joined_lacks byte (y ∷ numbers) digit minus comma (All-tail (FitsSigned w64) z (y ∷ numbers) fit)))

joined_split : (z : ℤ) (numbers : List ℤ) → All (FitsSigned w64) (z ∷ numbers)
    → slice_split (λ b. b == 44) (join_with_byte 44 (map signed_decimal (z ∷ numbers))) ≡ map signed_decimal (z ∷ numbers)
joined_split z [] fit = split_whole 44 (signed_decimal z) (signed_lacks 44 z refl refl (All-head (FitsSigned w64) z [] fit))
joined_split z (y ∷ numbers) fit =
    split_there 44 (signed_decimal z) (join_with_byte 44 (map signed_decimal (y ∷ numbers)))
    (signed_lacks 44 z refl refl (All-head (FitsSigned w64) z (y ∷ numbers) fit))
    ∙ ap (λ more. signed_decimal z ∷ more) (joined_split y numbers (All-tail (FitsSigned w64) z (y ∷ numbers) fit))

joined_there : (numbers : List ℤ) → 0 < length numbers → All (FitsSigned w64) numbers → are_numbers (join_with_byte 44 (map signed_decimal numbers)) ≡ true
joined_there [] some fit = absurd (omega arith)
joined_there (z ∷ numbers) some fit = rw (joined_split z numbers fit) (numbers_pass (z ∷ numbers) fit)

-- ---- values

array_there : (numbers : List ℤ) → 0 < length numbers → All (FitsSigned w64) numbers → is_array (value_text (array numbers)) ≡ true
array_there numbers some fit =
    let joined = join_with_byte 44 (map signed_decimal numbers) in
    rw (cut_there 93 joined [] (joined_lacks 93 numbers refl refl refl fit)) (joined_there numbers some fit)

-- the text is that of a value
abbrev HasValue : List ℕ → Type 0
HasValue text = (value : Value) × ValueFits value × (text ≡ value_text value)

opened : (o : Option (List ℕ)) → opened_numbers o ≡ true → (rest : List ℕ) × (o ≡ Some rest) × (closed_numbers (cut 93 rest) ≡ true)
opened (Some rest) h = (rest, refl, h)
opened None h = absurd cc

closed : (o : Option (List ℕ × List ℕ)) → closed_numbers o ≡ true
    → (parts : List ℕ × List ℕ) × (o ≡ Some parts) × ((length parts.1 == 0) ≡ true) × (are_numbers parts.0 ≡ true)
closed (Some parts) h = let tests = both (length parts.1 == 0) (are_numbers parts.0) h in (parts, refl, tests.0, tests.1)
closed None h = absurd cc

array_sound : (text : List ℕ) → is_array text ≡ true → HasValue text
array_sound text h =
    let front = opened (behind (codes "[") text) h in
    let rest = front.0 in
    let back = closed (cut 93 rest) front.2 in
    let inner = back.0.0 in
    let words = slice_split (λ b. b == 44) inner in
    let numbers = numbers_of words back.3 in
    let some : 0 < length numbers.0 = omega (arith, length-slice_split (λ b. b == 44) inner, ap length numbers.2, length-map numbers.0 signed_decimal) in
    let joined : inner ≡ join_with_byte 44 (map signed_decimal numbers.0) = sym (join_with_byte-slice_split 44 inner) ∙ ap (join_with_byte 44) numbers.2 in
    let ended : rest ≡ inner ++ 93 ∷ [] = cut_sound 93 rest back.0 back.1 ∙ ap (λ more. inner ++ 93 ∷ more)
    (nothing back.0.1 (eqb-true (length back.0.1) 0 back.2)) in
    (array numbers.0, (some, numbers.1), behind_sound (codes "[") text rest front.1 ∙ ap (λ more. 91 ∷ more) (ended ∙ ap (λ more. more ++ 93 ∷ []) joined))
  where
    nothing : (xs : List ℕ) → length xs ≡ 0 → xs ≡ []
    nothing [] e = refl
    nothing (x ∷ xs) e = absurd (omega arith)

either : (a b : Bool) → (a || b) ≡ true → (a ≡ true) ⊎ (b ≡ true)
either true b h = inl refl
either false b h = inr h

value_sound : (text : List ℕ) → is_value text ≡ true → HasValue text
value_sound text h =
    let number = is_some (signed_in text) in
    ⊎_elim (λ yes. (truth true, tt, (bytes_eq-Decides text (codes "true")).0 yes)) (λ more.
    ⊎_elim (λ yes. (truth false, tt, (bytes_eq-Decides text (codes "false")).0 yes)) (λ last.
    ⊎_elim (λ yes. let found = some_of (signed_in text) yes in let told = signed_sound text found.0 found.1 in (int found.0, told.0, told.1))
    (λ yes. array_sound text yes)
    (either number (is_array text) last))
    (either (same text (codes "false")) (number || is_array text) more))
    (either (same text (codes "true")) (same text (codes "false") || (number || is_array text)) h)

-- a later test holds
later : (a b : Bool) → b ≡ true → (a || b) ≡ true
later true b h = refl
later false b h = h

value_there : (value : Value) → ValueFits value → is_value (value_text value) ≡ true
value_there (truth true) fits = refl
value_there (truth false) fits = refl
value_there (int z) fits =
    let text = signed_decimal z in
    later (same text (codes "true")) _ (later (same text (codes "false")) _ (rw (signed_there z fits) refl))
value_there (array numbers) fits =
    let text = value_text (array numbers) in
    later (same text (codes "true")) _ (later (same text (codes "false")) _ (later (is_some (signed_in text)) _ (array_there numbers fits.0 fits.1)))

value_lacks : (byte : ℕ) (value : Value) → may_follow byte ≡ false → is_ascii_digit byte ≡ false → (45 == byte) ≡ false → (44 == byte) ≡ false
    → (91 == byte) ≡ false → (93 == byte) ≡ false
    → has byte (codes "true") ≡ false → has byte (codes "false") ≡ false → ValueFits value → has byte (value_text value) ≡ false
value_lacks byte (truth true) follow digit minus comma left right t f fits = t
value_lacks byte (truth false) follow digit minus comma left right t f fits = f
value_lacks byte (int z) follow digit minus comma left right t f fits = signed_lacks byte z digit minus fits
value_lacks byte (array numbers) follow digit minus comma left right t f fits =
    let joined = join_with_byte 44 (map signed_decimal numbers) in
    rw left (lacks_both byte joined (codes "]") (joined_lacks byte numbers digit minus comma fits.1) (rw right refl))

-- ---- states

-- no space and no line feed stands in a state
pub state_lacks_space : (state : State) → StateFits state → has 32 (state_text state) ≡ false
state_lacks_space state fits =
    lacks_both 32 state.name (codes "=" ++ value_text state.value) (name_lacks 32 state.name refl fits.name)
    (value_lacks 32 state.value refl refl refl refl refl refl refl refl fits.value)

pub state_lacks_feed : (state : State) → StateFits state → has 10 (state_text state) ≡ false
state_lacks_feed state fits =
    lacks_both 10 state.name (codes "=" ++ value_text state.value) (name_lacks 10 state.name refl fits.name)
    (value_lacks 10 state.value refl refl refl refl refl refl refl refl fits.value)

state_there : (state : State) → StateFits state → is_state (state_text state) ≡ true
state_there state fits =
    rw (cut_there 61 state.name (value_text state.value) (name_lacks 61 state.name refl fits.name), name_there state.name fits.name)
    (value_there state.value fits.value)

named_parts : (o : Option (List ℕ × List ℕ)) → named_value o ≡ true
    → (parts : List ℕ × List ℕ) × (o ≡ Some parts) × (is_some (name_in parts.0) ≡ true) × (is_value parts.1 ≡ true)
named_parts (Some parts) h = let tests = both (is_some (name_in parts.0)) (is_value parts.1) h in (parts, refl, tests.0, tests.1)
named_parts None h = absurd cc

state_sound : (word : List ℕ) → is_state word ≡ true → (state : State) × StateFits state × (word ≡ state_text state)
state_sound word h =
    let found = named_parts (cut 61 word) h in
    let parts = found.0 in
    let value = value_sound parts.1 found.3 in
    let some = some_of (name_in parts.0) found.2 in
    let name = name_sound parts.0 some.0 some.1 in
    let state : State = record { name = some.0; value = value.0 } in
    let text : word ≡ parts.0 ++ 61 ∷ parts.1 = cut_sound 61 word parts found.1 in
    (state, record { name = name.0; value = value.1 }, text ∙ ap (λ front. front ++ 61 ∷ parts.1) name.1 ∙ ap (λ more. some.0 ++ 61 ∷ more) value.2)

-- each word behind a space
abbrev spaced : List (List ℕ) → List ℕ
spaced words = flat_map (λ word. 32 ∷ word) words

spaced_join : (word : List ℕ) (words : List (List ℕ)) → 32 ∷ join_with_byte 32 (word ∷ words) ≡ spaced (word ∷ words)
spaced_join word [] = rw (append-nil word) refl
spaced_join word (next ∷ words) = ap (λ more. 32 ∷ (word ++ more)) (spaced_join next words)

words_sound : (words : List (List ℕ)) → list_all is_state words ≡ true → (states : List State) × All StateFits states × (spaced words ≡ states_text states)
words_sound [] h = ([], All-nil StateFits, refl)
words_sound (word ∷ words) h =
    let parts = both (is_state word) (list_all is_state words) h in
    let state = state_sound word parts.0 in
    let more = words_sound words parts.1 in
    (state.0 ∷ more.0, All-cons StateFits state.0 more.0 state.1 more.1, rw (← state.2, ← more.2) refl)

all_words : (words : List (List ℕ)) → 0 < length words → list_all is_state words ≡ true → AreStates (32 ∷ join_with_byte 32 words)
all_words [] some h = absurd (omega arith)
all_words (word ∷ words) some h =
    let found = words_sound (word ∷ words) h in
    record { states = found.0; fit = found.1; text = spaced_join word words ∙ found.2 }

pub states_sound : (bytes : List ℕ) → are_states bytes ≡ true → AreStates bytes
states_sound [] h = record { states = []; fit = All-nil StateFits; text = refl }
states_sound (first ∷ rest) h =
    let words = slice_split (λ b. b == 32) rest in
    let parts = both (first == 32) (list_all is_state words) h in
    let front : first ≡ 32 = eqb-true first 32 parts.0 in
    let told = all_words words (omega (arith, length-slice_split (λ b. b == 32) rest)) parts.1 in
    subst AreStates (ap (λ more. 32 ∷ more) (join_with_byte-slice_split 32 rest) ∙ ap (λ b. b ∷ rest) (sym front)) told

-- the words of states
states_split : (state : State) (states : List State) → All StateFits (state ∷ states)
    → list_all is_state (slice_split (λ b. b == 32) (state_text state ++ states_text states)) ≡ true
states_split state [] fit =
    let fits = All-head StateFits state [] fit in
    rw (append-nil (state_text state), split_whole 32 (state_text state) (state_lacks_space state fits), state_there state fits) refl
states_split state (next ∷ states) fit =
    let fits = All-head StateFits state (next ∷ states) fit in
    rw (split_there 32 (state_text state) (state_text next ++ states_text states) (state_lacks_space state fits), state_there state fits)
    (states_split next states (All-tail StateFits state (next ∷ states) fit))

text_there : (states : List State) → All StateFits states → are_states (states_text states) ≡ true
text_there [] fit = refl
text_there (state ∷ states) fit = states_split state states fit

pub states_there : (bytes : List ℕ) → AreStates bytes → are_states bytes ≡ true
states_there bytes h = rw h.text (text_there h.states h.fit)

text_lacks_feed : (states : List State) → All StateFits states → has 10 (states_text states) ≡ false
text_lacks_feed [] fit = refl
text_lacks_feed (state ∷ states) fit =
    lacks_both 10 (state_text state) (states_text states) (state_lacks_feed state (All-head StateFits state states fit))
    (text_lacks_feed states (All-tail StateFits state states fit))

pub states_lack_feed : (bytes : List ℕ) → AreStates bytes → has 10 bytes ≡ false
states_lack_feed bytes h = rw h.text (text_lacks_feed h.states h.fit)
