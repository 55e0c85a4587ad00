-- Words of a task beside others that stand behind them.
use Rattle.std.proofs.Common.{◌≡◌, ℕ, ◌+◌, ◌≤◌, ℤ, pos, negsuc, List, ◌++◌, length, refl, sym, ap, ◌∙◌, arith, inl, inr}
use Rattle.std.proofs.lemmas.Bool.{cases_lt, lt-ltb, le-ltb, cond-true, cond-false}
use Rattle.std.proofs.lemmas.List.{length-set, length-drop, length-take-le, length-append, append_assoc, get_or_append_left, set-append_left, take-append-le, drop-append-le}
use Rattle.std.specs.Prelude.{take, drop}
use Rattle.tcel_num.specs.Words.{element, with_element, copied}

pub element_front : (cells others : List ℤ) (first many : ℕ) (i : ℤ) → first + many ≤ length cells → element (cells ++ others) first many i ≡ element cells first many i
element_front cells others first many (pos i) h =
    elim (cases_lt i many) [
      | inl less ↦ cond-true _ _ _ (lt-ltb i many less) ∙ get_or_append_left cells others (pos 0) (first + i) (omega arith) ∙ sym (cond-true _ _ _ (lt-ltb i many less))
      | inr past ↦ cond-false _ _ _ (le-ltb i many past) ∙ sym (cond-false _ _ _ (le-ltb i many past))
    ]
element_front cells others first many (negsuc i) h = refl

pub with_element_front : (cells others : List ℤ) (first many : ℕ) (i x : ℤ) → first + many ≤ length cells → with_element (cells ++ others) first many i x ≡ with_element cells first many i x ++ others
with_element_front cells others first many (pos i) x h =
    elim (cases_lt i many) [
      | inl less ↦
          cond-true _ _ _ (lt-ltb i many less) ∙ set-append_left cells others (first + i) x (omega arith)
          ∙ ap (λ l. l ++ others) (sym (cond-true _ _ _ (lt-ltb i many less)))
      | inr past ↦ cond-false _ _ _ (le-ltb i many past) ∙ ap (λ l. l ++ others) (sym (cond-false _ _ _ (le-ltb i many past)))
    ]
with_element_front cells others first many (negsuc i) x h = refl

pub length-with_element : (cells : List ℤ) (first many : ℕ) (i x : ℤ) → length (with_element cells first many i x) ≡ length cells
length-with_element cells first many (pos i) x =
    elim (cases_lt i many) [
      | inl less ↦ ap length (cond-true _ _ _ (lt-ltb i many less)) ∙ length-set cells (first + i) x
      | inr past ↦ ap length (cond-false _ _ _ (le-ltb i many past))
    ]
length-with_element cells first many (negsuc i) x = refl

-- a copy moves the same words
pub copied_front : (cells others : List ℤ) (from to many : ℕ) → from + many ≤ length cells → to + many ≤ length cells → copied (cells ++ others) from to many ≡ copied cells from to many ++ others
copied_front cells others from to many h g =
    let before = take-append-le to cells others (omega arith) in
    let source = drop-append-le from cells others (omega arith) in
    let part = take-append-le many (drop from cells) others (omega (arith, length-drop from cells)) in
    let behind = drop-append-le (to + many) cells others g in
    let moved = ap (take many) source ∙ part in
    ap (λ l. l ++ (take many (drop from (cells ++ others)) ++ drop (to + many) (cells ++ others))) before
    ∙ ap (λ l. take to cells ++ (l ++ drop (to + many) (cells ++ others))) moved
    ∙ ap (λ l. take to cells ++ (take many (drop from cells) ++ l)) behind
    ∙ ap (λ l. take to cells ++ l) (sym (append_assoc (take many (drop from cells)) (drop (to + many) cells) others))
    ∙ sym (append_assoc (take to cells) (take many (drop from cells) ++ drop (to + many) cells) others)

pub length-copied : (cells : List ℤ) (from to many : ℕ) → from + many ≤ length cells → to + many ≤ length cells → length (copied cells from to many) ≡ length cells
length-copied cells from to many h g =
    omega (
      arith,
      length-append (take to cells) (take many (drop from cells) ++ drop (to + many) cells),
      length-append (take many (drop from cells)) (drop (to + many) cells),
      length-take-le to cells (omega arith),
      length-take-le many (drop from cells) (omega (arith, length-drop from cells)),
      length-drop (to + many) cells,
    )
