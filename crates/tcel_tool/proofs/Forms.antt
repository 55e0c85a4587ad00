-- Words and the commands whose form they have.
use Rattle.std.proofs.Common.{◌≡◌, ℕ, ◌<◌, ◌≤◌, Bool, true, false, List, [], ◌∷◌, ◌&&◌, nat_le, nat_lt, ◌-◌, length, get_or, map, take, drop, refl, sym, ap, ◌∙◌, arith}
use Rattle.std.proofs.lemmas.Bool.Decides.{nat_tests}
use Rattle.std.proofs.lemmas.List.{take_rest}
use Rattle.std.proofs.lemmas.List.Folds.{list_all_at}
use Rattle.std.specs.Char.{is_ascii_digit}
use Rattle.std.specs.Prelude.{IsTrue, if◌then◌else◌, nat_eq}
use Rattle.std.specs.Cmp.Lexicographic.{pointwise}
use Rattle.std.specs.List.{AllByRecursion, list_all}
use Rattle.tcel_tool.specs.CommandLine.{AreWords, fit, is_number, is_positive, number_at, word_at}
use Rattle.tcel_script.specs.Numbers.{magnitude}
use Rattle.tcel_tool.specs.Commands.{HasForm, HaveNoForm, name_of}
use Rattle.tcel_tool.specs.declared.command.Slot.{Slot}
use Rattle.tcel_tool.specs.declared.command.Command.{Command}
use Rattle.tcel_tool.specs.declared.command.Command.TheVariants.{Compile, Run, Format, Check, Mean, Analyse, Timeline, Linked, Fewest, Make, Trial, Judge}

-- no two commands have one name
abbrev command_named : List ℕ → Command
command_named word =
    if pointwise nat_eq word (name_of Compile) then Compile
    else (if pointwise nat_eq word (name_of Run) then Run
    else (if pointwise nat_eq word (name_of Format) then Format
    else (if pointwise nat_eq word (name_of Check) then Check
    else (if pointwise nat_eq word (name_of Mean) then Mean else (if pointwise nat_eq word (name_of Analyse) then Analyse
    else (if pointwise nat_eq word (name_of Timeline) then Timeline else (if pointwise nat_eq word (name_of Linked) then Linked
    else (if pointwise nat_eq word (name_of Fewest) then Fewest else (if pointwise nat_eq word (name_of Make) then Make
    else (if pointwise nat_eq word (name_of Judge) then Judge else Trial))))))))))

named : (command : Command) → command_named (name_of command) ≡ command
named Compile = refl
named Run = refl
named Format = refl
named Check = refl
named Mean = refl
named Analyse = refl
named Timeline = refl
named Linked = refl
named Fewest = refl
named Make = refl
named Trial = refl
named Judge = refl

one_name : (a b : Command) → name_of a ≡ name_of b → a ≡ b
one_name a b e = sym (named a) ∙ ap command_named e ∙ named b

-- words have the form of one command at most
pub one_form : (words : List (List ℕ)) (a b : Command) → HasForm a words → HasForm b words → a ≡ b
one_form [] a b h k = absurd h
one_form (first ∷ words) a b h k = one_name a b (sym h.0 ∙ k.0)

-- words that have the form of none of these have the form of none
pub of_none : (words : List (List ℕ)) →
    AllByRecursion (λ (command : Command). ¬ HasForm command words) (Compile ∷ Run ∷ Format ∷ Check ∷ Mean ∷ Analyse ∷ Timeline ∷ Linked ∷ Fewest ∷ Make ∷ Trial ∷ Judge ∷ []) →
    HaveNoForm words
of_none words none Compile = none.0
of_none words none Run = none.1.0
of_none words none Format = none.1.1.0
of_none words none Check = none.1.1.1.0
of_none words none Mean = none.1.1.1.1.0
of_none words none Analyse = none.1.1.1.1.1.0
of_none words none Timeline = none.1.1.1.1.1.1.0
of_none words none Linked = none.1.1.1.1.1.1.1.0
of_none words none Fewest = none.1.1.1.1.1.1.1.1.0
of_none words none Make = none.1.1.1.1.1.1.1.1.1.0
of_none words none Trial = none.1.1.1.1.1.1.1.1.1.1.0
of_none words none Judge = none.1.1.1.1.1.1.1.1.1.1.1.0

both : (a b : Bool) → IsTrue (a && b) → IsTrue a × IsTrue b
both true b h = (refl, h)
both false b h = absurd cc

-- the third word behind two files is a number
third_is_number : (name : List ℕ) (words : List (List ℕ)) → AreWords name (Slot.File ∷ Slot.File ∷ Slot.Number ∷ []) words → IsTrue (is_number (word_at words 3))
third_is_number own [] h = absurd h
third_is_number own (name ∷ []) h = absurd (let e = h.1 in cc)
third_is_number own (name ∷ a ∷ []) h = absurd (let e = h.1 in cc)
third_is_number own (name ∷ a ∷ b ∷ []) h = absurd (let e = h.1 in cc)
third_is_number own (name ∷ a ∷ b ∷ c ∷ words) h = (both (is_number c) (fit [] words) h.1).0

pub ticks_are_a_number : (words : List (List ℕ)) → HasForm Run words → IsTrue (is_number (word_at words 3))
ticks_are_a_number words h = third_is_number (name_of Run) words h

pub frames_are_a_number : (words : List (List ℕ)) → HasForm Mean words → IsTrue (is_number (word_at words 3))
frames_are_a_number words h = third_is_number (name_of Mean) words h

-- the fifth word behind four files
fifth_is_number : (name : List ℕ) (words : List (List ℕ)) → AreWords name (Slot.File ∷ Slot.File ∷ Slot.File ∷ Slot.File ∷ Slot.Number ∷ []) words
    → IsTrue (is_number (word_at words 5))
fifth_is_number own [] h = absurd h
fifth_is_number own (name ∷ []) h = absurd (let e = h.1 in cc)
fifth_is_number own (name ∷ a ∷ []) h = absurd (let e = h.1 in cc)
fifth_is_number own (name ∷ a ∷ b ∷ []) h = absurd (let e = h.1 in cc)
fifth_is_number own (name ∷ a ∷ b ∷ c ∷ []) h = absurd (let e = h.1 in cc)
fifth_is_number own (name ∷ a ∷ b ∷ c ∷ d ∷ []) h = absurd (let e = h.1 in cc)
fifth_is_number own (name ∷ a ∷ b ∷ c ∷ d ∷ e ∷ words) h = (both (is_number e) (fit [] words) h.1).0

pub judged_ticks_are_a_number : (words : List (List ℕ)) → HasForm Judge words → IsTrue (is_number (word_at words 5))
judged_ticks_are_a_number words h = fifth_is_number (name_of Judge) words h

pub linked_ticks_are_a_number : (words : List (List ℕ)) → HasForm Linked words → IsTrue (is_number (word_at words 5))
linked_ticks_are_a_number words h = fifth_is_number (name_of Linked) words h

-- the seed and the number of tasks, which is above 0, behind the name
seed_and_count : (name : List ℕ) (slots : List Slot) (words : List (List ℕ)) → AreWords name (Slot.Number ∷ Slot.Positive ∷ slots) words
    → IsTrue (is_number (word_at words 1)) × IsTrue (is_positive (word_at words 2))
seed_and_count own slots [] h = absurd h
seed_and_count own slots (name ∷ []) h = absurd (let e = h.1 in cc)
seed_and_count own slots (name ∷ a ∷ []) h = absurd (let e = (both (is_number a) (fit (Slot.Positive ∷ slots) []) h.1).1 in cc)
seed_and_count own slots (name ∷ a ∷ b ∷ words) h =
    let rest = both (is_number a) (fit (Slot.Positive ∷ slots) (b ∷ words)) h.1 in
    (rest.0, (both (is_positive b) (fit slots words) rest.1).0)

is_above : (word : List ℕ) → IsTrue (is_positive word) → IsTrue (is_number word) × (1 ≤ magnitude word)
is_above word h =
    let parts = both (is_number word) (nat_lt 0 (magnitude word)) h in
    let some : nat_lt 0 (magnitude word) ≡ true = parts.1 in
    (parts.0, grind (arith, nat_tests))

pub seeds_are_numbers : (words : List (List ℕ)) → HasForm Make words → IsTrue (is_number (word_at words 1))
seeds_are_numbers words h = (seed_and_count (name_of Make) [] words h).0

pub counts_are_numbers : (words : List (List ℕ)) → HasForm Make words → IsTrue (is_number (word_at words 2))
counts_are_numbers words h = (is_above (word_at words 2) (seed_and_count (name_of Make) [] words h).1).0

pub some_are_made : (words : List (List ℕ)) → HasForm Make words → 1 ≤ number_at words 2
some_are_made words h = (is_above (word_at words 2) (seed_and_count (name_of Make) [] words h).1).1

pub trial_seeds_are_numbers : (words : List (List ℕ)) → HasForm Trial words → IsTrue (is_number (word_at words 1))
trial_seeds_are_numbers words h = (seed_and_count (name_of Trial) (Slot.Number ∷ []) words h).0

pub trial_counts_are_numbers : (words : List (List ℕ)) → HasForm Trial words → IsTrue (is_number (word_at words 2))
trial_counts_are_numbers words h = (is_above (word_at words 2) (seed_and_count (name_of Trial) (Slot.Number ∷ []) words h).1).0

pub some_are_tried : (words : List (List ℕ)) → HasForm Trial words → 1 ≤ number_at words 2
some_are_tried words h = (is_above (word_at words 2) (seed_and_count (name_of Trial) (Slot.Number ∷ []) words h).1).1

trial_ends : (name : List ℕ) (words : List (List ℕ)) → AreWords name (Slot.Number ∷ Slot.Positive ∷ Slot.Number ∷ []) words → IsTrue (is_number (word_at words 3))
trial_ends own [] h = absurd h
trial_ends own (name ∷ []) h = absurd (let e = h.1 in cc)
trial_ends own (name ∷ a ∷ []) h = absurd (let e = (both (is_number a) (fit (Slot.Positive ∷ Slot.Number ∷ []) []) h.1).1 in cc)
trial_ends own (name ∷ a ∷ b ∷ []) h =
    absurd (let e = (both (is_positive b) (fit (Slot.Number ∷ []) []) (both (is_number a) (fit (Slot.Positive ∷ Slot.Number ∷ []) (b ∷ [])) h.1).1).1 in cc)
trial_ends own (name ∷ a ∷ b ∷ c ∷ words) h =
    let rest = both (is_number a) (fit (Slot.Positive ∷ Slot.Number ∷ []) (b ∷ c ∷ words)) h.1 in
    let last = both (is_positive b) (fit (Slot.Number ∷ []) (c ∷ words)) rest.1 in
    (both (is_number c) (fit [] words) last.1).0

pub trial_ticks_are_a_number : (words : List (List ℕ)) → HasForm Trial words → IsTrue (is_number (word_at words 3))
trial_ticks_are_a_number words h = trial_ends (name_of Trial) words h

one_way : (b : Bool) → (b ≡ false → ⊥) → b ≡ true
one_way true h = refl
one_way false h = absurd (h refl)

-- a number has at most 18 digits
pub few_digits : (word : List ℕ) → IsTrue (is_number word) → length word ≤ 18
few_digits word h =
    let rest = both (nat_lt 0 (length word)) (nat_le (length word) 18 && list_all is_ascii_digit word) h in
    let few : nat_le (length word) 18 ≡ true = (both (nat_le (length word) 18) (list_all is_ascii_digit word) rest.1).0 in
    grind (arith, nat_tests)

-- and each of its bytes is one
pub is_digit_at : (word : List ℕ) (i : ℕ) → IsTrue (is_number word) → i < length word → is_ascii_digit (get_or word i 0) ≡ true
is_digit_at word i h lt =
    let rest = both (nat_lt 0 (length word)) (nat_le (length word) 18 && list_all is_ascii_digit word) h in
    let all : list_all is_ascii_digit word ≡ true = (both (nat_le (length word) 18) (list_all is_ascii_digit word) rest.1).1 in
    one_way (is_ascii_digit (get_or word i 0)) (λ none. let no = list_all_at is_ascii_digit word i 0 lt none in cc)

-- words of which the first is a name, where a test tells whether the others fit the slots
pub has_words : {A : Type 0} (f : A → List ℕ) (words : List A) (first : A) (name : List ℕ) (slots : List Slot) (b : Bool) → 1 ≤ length words → first ≡ get_or words 0 first
    → f first ≡ name → b ≡ fit slots (map f (take (length words - 1) (drop 1 words)))
    → (IsTrue b → AreWords name slots (map f words)) × (AreWords name slots (map f words) → IsTrue b)
has_words f [] first name slots b some is named e = absurd (omega arith)
has_words f (word ∷ words) first name slots b some is named e =
    let rest = take_rest (word ∷ words) 1 in
    let same : b ≡ fit slots (map f words) = e ∙ ap (λ l. fit slots (map f l)) rest in (
      λ t. (sym (ap f is) ∙ named, sym same ∙ t),
      λ h. same ∙ h.1,
    )
