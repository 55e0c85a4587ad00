-- What the inputs of a task have left behind the values that were taken.
use Rattle.std.proofs.Common.{◌≡◌, ℕ, zero, suc, ◌+◌, ◌<◌, ◌≤◌, ℤ, pos, List, [], ◌∷◌, ◌++◌, length, get_or, set, drop, refl, sym, ap, ◌∙◌, subst, arith, inl, inr}
use Rattle.std.proofs.lemmas.Bool.{cases_eq, cases_lt}
use Rattle.std.proofs.lemmas.List.{length-set, get_or-set_same, get_or-set_other, set_past}
use Rattle.tcel_core.specs.declared.event.EventKind.{EventKind}
use Rattle.tcel_core.specs.declared.event.EventKind.TheVariants as kinds
use Rattle.tcel_core.specs.Meaning.{head_or_zero, tail}
use Rattle.tcel_core.specs.Outcome.{Occurrence}

-- the values that each input has left are those behind the taken ones
pub record Remain (inputs left : List (List ℤ)) (taken : List ℕ) : Type 0 where
  pub counts : length taken ≡ length inputs
  pub lists : length left ≡ length inputs
  pub each : (port : ℕ) → get_or left port [] ≡ drop (get_or taken port 0) (get_or inputs port [])

-- how many values each input has given after an event
abbrev pub take_one : EventKind → ℕ → List ℕ → List ℕ
take_one kinds.Receive port taken = set taken port (get_or taken port 0 + 1)
take_one kinds.Send port taken = taken

-- the same after some events
abbrev pub takes : List Occurrence → List ℕ → List ℕ
takes [] taken = taken
takes (e ∷ es) taken = takes es (take_one e.kind e.port taken)

pub takes-append : (a b : List Occurrence) (taken : List ℕ) → takes (a ++ b) taken ≡ takes b (takes a taken)
takes-append [] b taken = refl
takes-append (e ∷ a) b taken = takes-append a b (take_one e.kind e.port taken)

pub head-drop : (n : ℕ) (xs : List ℤ) → head_or_zero (drop n xs) ≡ get_or xs n (pos 0)
head-drop zero [] = refl
head-drop zero (x ∷ xs) = refl
head-drop (suc n) [] = refl
head-drop (suc n) (x ∷ xs) = head-drop n xs

tail-drop : (n : ℕ) (xs : List ℤ) → tail (drop n xs) ≡ drop (suc n) xs
tail-drop zero [] = refl
tail-drop zero (x ∷ xs) = refl
tail-drop (suc n) [] = refl
tail-drop (suc n) (x ∷ xs) = tail-drop n xs

-- where a value is taken, the rest remain
pub remain_after : (inputs left : List (List ℤ)) (taken : List ℕ) (port : ℕ) → Remain inputs left taken →
    Remain inputs (set left port (tail (get_or left port []))) (take_one kinds.Receive port taken)
remain_after inputs left taken port remain = record {
  counts = length-set taken port (get_or taken port 0 + 1) ∙ remain.counts;
  lists = length-set left port (tail (get_or left port [])) ∙ remain.lists;
  each = each;
}
  where
    inside : port < length inputs → get_or (set left port (tail (get_or left port []))) port [] ≡ drop (get_or (set taken port (get_or taken port 0 + 1)) port 0) (get_or inputs port [])
    inside h =
        let e : get_or taken port 0 + 1 ≡ suc (get_or taken port 0) = omega arith in
        get_or-set_same left port (tail (get_or left port [])) [] (omega (arith, remain.lists))
        ∙ ap tail (remain.each port) ∙ tail-drop (get_or taken port 0) (get_or inputs port [])
        ∙ ap (λ k. drop k (get_or inputs port [])) (sym (get_or-set_same taken port (get_or taken port 0 + 1) 0 (omega (arith, remain.counts)) ∙ e))

    outside : length inputs ≤ port → get_or (set left port (tail (get_or left port []))) port [] ≡ drop (get_or (set taken port (get_or taken port 0 + 1)) port 0) (get_or inputs port [])
    outside h =
        ap (λ l. get_or l port []) (set_past left port (tail (get_or left port [])) (omega (arith, remain.lists)))
        ∙ remain.each port
        ∙ ap (λ t. drop (get_or t port 0) (get_or inputs port [])) (sym (set_past taken port (get_or taken port 0 + 1) (omega (arith, remain.counts))))

    each : (q : ℕ) → get_or (set left port (tail (get_or left port []))) q [] ≡ drop (get_or (set taken port (get_or taken port 0 + 1)) q 0) (get_or inputs q [])
    each q =
        elim (cases_eq q port) [
          | inl same ↦
              subst (λ k. get_or (set left port (tail (get_or left port []))) k [] ≡ drop (get_or (set taken port (get_or taken port 0 + 1)) k 0) (get_or inputs k [])) (sym same)
              (elim (cases_lt port (length inputs)) [ inl h ↦ inside h | inr h ↦ outside h ])
          | inr other ↦
              get_or-set_other left port q (tail (get_or left port [])) [] other ∙ remain.each q
              ∙ ap (λ k. drop k (get_or inputs q [])) (sym (get_or-set_other taken port q (get_or taken port 0 + 1) 0 other))
        ]
