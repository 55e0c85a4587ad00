-- Lists of variables by their numbers.
use Rattle.std.proofs.Common.{◌≡◌, ℕ, zero, suc, ◌+◌, ◌<◌, ◌||◌, Bool, false, cond, List, [], ◌∷◌, ◌++◌, filter, Result, Ok, Err, IfOk, Vec, Global, refl, sym, ap, ◌∙◌, arith}
use Rattle.std.proofs.lemmas.Bool.{cond_both}
use Rattle.std.proofs.lemmas.List.{append-nil}
use Rattle.std.proofs.lemmas.List.Elements.{filter-append}
use Rattle.tcel_num.specs.declared.memory.NoMemory.{NoMemory}
use Rattle.tcel_core.specs.declared.row.Row.{Row}
use Rattle.tcel_core.specs.Numbering.{numbers_from}
use Rattle.tcel_core.specs.Rows.{Adds, stands_in}
use Rattle.tcel_core.specs.Uses.{AreVariables}

-- the last of the numbers
numbers_last : (first count : ℕ) → numbers_from first (count + 1) ≡ numbers_from first count ++ ((first + count) ∷ [])
numbers_last first zero = ap (λ n. n ∷ []) (omega arith)
numbers_last first (suc count) =
    let more : suc count + 1 ≡ suc (count + 1) = omega arith in
    let here : first + 1 + count ≡ first + suc count = omega arith in
    ap (numbers_from first) more ∙ ap (λ ns. first ∷ ns) (numbers_last (first + 1) count ∙ ap (λ n. numbers_from (first + 1) count ++ (n ∷ [])) here)

pub next_number : (holds : ℕ → Bool) (n : ℕ) → filter holds (numbers_from 0 (n + 1)) ≡ filter holds (numbers_from 0 n) ++ cond (holds n) (n ∷ []) []
next_number holds n =
    let here : 0 + n ≡ n = omega arith in
    ap (filter holds) (numbers_last 0 n ∙ ap (λ k. numbers_from 0 n ++ (k ∷ [])) here) ∙ filter-append holds (numbers_from 0 n) (n ∷ [])

-- one number more was asked
pub number_asked : (holds : ℕ → Bool) (n : ℕ) (list : List ℕ) → list ≡ filter holds (numbers_from 0 n) → cond (holds n) (list ++ (n ∷ [])) list ≡ filter holds (numbers_from 0 (n + 1))
number_asked holds n list e =
    cond_both (holds n) (list ++ (n ∷ [])) list (λ l. l ≡ filter holds (numbers_from 0 (n + 1)))
    (λ there. rw e (sym (next_number holds n ∙ ap (λ b. filter holds (numbers_from 0 n) ++ cond b (n ∷ []) []) there)))
    (λ missing. e ∙ sym (next_number holds n ∙ ap (λ b. filter holds (numbers_from 0 n) ++ cond b (n ∷ []) []) missing ∙ append-nil (filter holds (numbers_from 0 n))))

filter_within : (f g : ℕ → Bool) (first count : ℕ) → ((v : ℕ) → v < first + count → f v ≡ g v) → filter f (numbers_from first count) ≡ filter g (numbers_from first count)
filter_within f g first zero same = refl
filter_within f g first (suc count) same =
    ap (λ b. cond b (first ∷ filter f (numbers_from (first + 1) count)) (filter f (numbers_from (first + 1) count))) (same first (omega arith))
    ∙ ap (λ rest. cond (g first) (first ∷ rest) rest) (filter_within f g (first + 1) count (λ v less. same v (omega (arith, less))))

-- the variables of a row that was filled from an empty one
pub variables_added : (before after : Row) (holds : ℕ → Bool) (r : Result (Vec ℕ Global) NoMemory) → ((v : ℕ) → stands_in before v ≡ false) → Adds before after holds →
    IfOk r (λ list. list.items ≡ filter (stands_in after) (numbers_from 0 256)) → IfOk r (λ list. AreVariables holds list.items)
variables_added before after holds (Err e) none adds h = h
variables_added before after holds (Ok list) none adds h =
    record { all = h ∙ filter_within (stands_in after) holds 0 256 (λ v less. adds v (omega (arith, less)) ∙ ap (λ b. b || holds v) (none v)) }
