-- What the lists of a task's inputs have left.
use Rattle.std.proofs.Common.{◌≡◌, ℕ, zero, suc, ◌<◌, ◌≤◌, List, [], ◌∷◌, length, replicate, map, drop, get_or, set, refl, sym, ap, ◌∙◌, Vec, ℤ, pos, Global, Result, Ok, Err, IfErr, arith}
use Rattle.std.proofs.lemmas.List.{set-get_or, get_or_default}
use Rattle.tcel_core.specs.Inputs.{left_of}
use Rattle.tcel_core.specs.Meaning.{head_or_zero, tail}

pub left_of-none : (lists : List (Vec ℤ Global)) → left_of lists (replicate (length lists) 0) ≡ map (λ (list : Vec ℤ Global). list.items) lists
left_of-none [] = refl
left_of-none (list ∷ lists) = ap (λ rest. list.items ∷ rest) (left_of-none lists)

-- the list of a port without the values that are taken
pub left_at : (lists : List (Vec ℤ Global)) (taken : List ℕ) (port : ℕ) (other : Vec ℤ Global) → length lists ≡ length taken → port < length lists →
    get_or (left_of lists taken) port [] ≡ drop (get_or taken port 0) (get_or lists port other).items
left_at [] taken port other same h = absurd (omega arith)
left_at (list ∷ lists) [] port other same h = absurd (omega arith)
left_at (list ∷ lists) (n ∷ taken) zero other same h = refl
left_at (list ∷ lists) (n ∷ taken) (suc port) other same h = left_at lists taken port other (omega (arith, same)) (omega (arith, h))

-- there is no list behind the last port's
pub left_past : (lists : List (Vec ℤ Global)) (taken : List ℕ) (port : ℕ) → length lists ≤ port → get_or (left_of lists taken) port [] ≡ []
left_past [] taken port h = refl
left_past (list ∷ lists) [] zero h = absurd (omega arith)
left_past (list ∷ lists) (n ∷ taken) zero h = absurd (omega arith)
left_past (list ∷ lists) [] (suc port) h = left_past lists [] port (omega arith)
left_past (list ∷ lists) (n ∷ taken) (suc port) h = left_past lists taken port (omega arith)

-- another list, of which so many values are taken, in the place of a port's
pub left_set : (lists : List (Vec ℤ Global)) (taken : List ℕ) (port : ℕ) (list : Vec ℤ Global) (n : ℕ) → length lists ≡ length taken →
    left_of (set lists port list) (set taken port n) ≡ set (left_of lists taken) port (drop n list.items)
left_set [] taken port list n same = refl
left_set (x ∷ lists) [] port list n same = absurd (omega arith)
left_set (x ∷ lists) (m ∷ taken) zero list n same = refl
left_set (x ∷ lists) (m ∷ taken) (suc port) list n same = ap (λ rest. drop m x.items ∷ rest) (left_set lists taken port list n (omega (arith, same)))

-- one value more is taken from a port's list
pub left_taken : (lists : List (Vec ℤ Global)) (taken : List ℕ) (port : ℕ) (list : Vec ℤ Global) (n : ℕ) → length lists ≡ length taken → list ≡ get_or lists port list →
    left_of lists (set taken port n) ≡ set (left_of lists taken) port (drop n list.items)
left_taken [] taken port list n same e = refl
left_taken (x ∷ lists) [] port list n same e = absurd (omega arith)
left_taken (x ∷ lists) (m ∷ taken) zero list n same e = ap (λ (l : Vec ℤ Global). drop n l.items ∷ left_of lists taken) (sym e)
left_taken (x ∷ lists) (m ∷ taken) (suc port) list n same e = ap (λ rest. drop m x.items ∷ rest) (left_taken lists taken port list n (omega (arith, same)) e)

-- there is nothing to take behind the last port
pub next_past : {inputs : List (List ℤ)} (lists : List (Vec ℤ Global)) (taken : List ℕ) (port : ℕ) → left_of lists taken ≡ inputs → length lists ≤ port → get_or inputs port [] ≡ []
next_past lists taken port e h = ap (λ i. get_or i port []) (sym e) ∙ left_past lists taken port h

-- the list of a port, where so many of its values are taken
pub next_at : {inputs : List (List ℤ)} (lists : List (Vec ℤ Global)) (taken : List ℕ) (port n : ℕ) (list : Vec ℤ Global) → left_of lists taken ≡ inputs →
    length lists ≡ length taken → port < length lists → list ≡ get_or lists port list → n ≡ get_or taken port n → get_or inputs port [] ≡ drop n list.items
next_at lists taken port n list e same h of_list of_taken =
    ap (λ i. get_or i port []) (sym e) ∙ left_at lists taken port list same h ∙ ap (λ k. drop k (get_or lists port list).items) (get_or_default taken port 0 n (omega arith) ∙ sym of_taken)
    ∙ ap (λ (l : Vec ℤ Global). drop n l.items) (sym of_list)

-- a port that has nothing left stays as it is
pub none_left : (inputs : List (List ℤ)) (port : ℕ) → get_or inputs port [] ≡ [] → inputs ≡ set inputs port (tail (get_or inputs port []))
none_left inputs port none = sym (set-get_or inputs port []) ∙ ap (set inputs port) (none ∙ ap tail (sym none))

-- the first value that is left, and those behind it
pub first_left : (xs : List ℤ) (n : ℕ) → n < length xs → head_or_zero (drop n xs) ≡ get_or xs n (pos 0)
first_left [] n h = absurd (omega arith)
first_left (x ∷ xs) zero h = refl
first_left (x ∷ xs) (suc n) h = first_left xs n (omega (arith, h))

pub rest_left : (xs : List ℤ) (n : ℕ) → tail (drop n xs) ≡ drop (suc n) xs
rest_left [] zero = refl
rest_left [] (suc n) = refl
rest_left (x ∷ xs) zero = refl
rest_left (x ∷ xs) (suc n) = rest_left xs n

-- a list in the place of one with the same values
pub left_same : (lists : List (Vec ℤ Global)) (taken : List ℕ) (port : ℕ) (list other : Vec ℤ Global) → other ≡ get_or lists port other → list.items ≡ other.items →
    left_of (set lists port list) taken ≡ left_of lists taken
left_same [] taken port list other e same = refl
left_same (x ∷ lists) [] zero list other e same = ap (λ xs. xs ∷ left_of lists []) (same ∙ ap (λ (l : Vec ℤ Global). l.items) e)
left_same (x ∷ lists) [] (suc port) list other e same = ap (λ rest. x.items ∷ rest) (left_same lists [] port list other e same)
left_same (x ∷ lists) (m ∷ taken) zero list other e same = ap (λ xs. drop m xs ∷ left_of lists taken) (same ∙ ap (λ (l : Vec ℤ Global). l.items) e)
left_same (x ∷ lists) (m ∷ taken) (suc port) list other e same = ap (λ rest. drop m x.items ∷ rest) (left_same lists taken port list other e same)

pub length-left_of : (lists : List (Vec ℤ Global)) (taken : List ℕ) → length (left_of lists taken) ≡ length lists
length-left_of [] taken = refl
length-left_of (list ∷ lists) [] = ap suc (length-left_of lists [])
length-left_of (list ∷ lists) (n ∷ taken) = ap suc (length-left_of lists taken)

pub if_any_err : {A B P : Type 0} (r : Result A B) → P → IfErr r (λ _. P)
if_any_err (Ok a) h = tt
if_any_err (Err e) h = h
