-- The list of keys.
use Rattle.std.proofs.Common.{◌≡◌, ◌≢◌, ℕ, ◌<◌, ◌⊎◌, ◌+◌, true, false, List, [], ◌∷◌, ◌++◌, get_or, take, drop, refl, sym, ap, ◌∙◌, subst, arith, All, inl, inr}
use Rattle.std.specs.Prelude.{nat_eq}
use Rattle.std.specs.Cmp.Lexicographic.{pointwise}
use Rattle.std.specs.List.{list_any}
use Rattle.std.proofs.lemmas.Bool.{cases_lt, and_parts, or_cases, eqb-true, false≢true}
use Rattle.std.proofs.lemmas.List.{take-append-drop, drop_more}
use Rattle.tcel_target.specs.declared.costs.CostKey.{CostKey}
use Rattle.tcel_target.specs.declared.costs.CostKey.TheVariants as keys
use Rattle.std.proofs.Math.Path.{fun_ext}
use Rattle.tcel_target.specs.declared.costs.Costs.{Costs}
use Rattle.std.specs.Int.{IsInRange}
use Rattle.tcel_target.specs.Costs.{all_keys, cost_of, CostsInRange, unit_costs}
use Rattle.tcel_target.specs.Target.{key_text}
use Rattle.tcel_target.specs.Reading.{is_listed}

same_bytes : (xs ys : List ℕ) → pointwise nat_eq xs ys ≡ true → xs ≡ ys
same_bytes [] [] h = refl
same_bytes [] (y ∷ ys) h = absurd cc
same_bytes (x ∷ xs) [] h = absurd cc
same_bytes (x ∷ xs) (y ∷ ys) h =
    let p = and_parts (nat_eq x y) (pointwise nat_eq xs ys) h in
    let head : x ≡ y = eqb-true x y p.0 in
    rw (head, same_bytes xs ys p.1) refl

-- where a key stands in the list
abbrev place : CostKey → ℕ
place keys.Const = 0
place keys.Load = 1
place keys.Store = 2
place keys.LoadAt = 3
place keys.StoreAt = 4
place keys.Arith = 5
place keys.Multiply = 6
place keys.Divide = 7
place keys.Jump = 8
place keys.Branch = 9
place keys.Loop = 10
place keys.Receive = 11
place keys.Send = 12
place keys.Mark = 13
place keys.End = 14
place keys.Dispatch = 15

record IsPlaced (key : CostKey) : Type 0 where
  within : place key < 16
  there : (d : CostKey) → get_or all_keys (place key) d ≡ key
  listed : is_listed (key_text key) ≡ true

placed : (key : CostKey) → IsPlaced key
placed keys.Const = record { within = omega arith; there = λ d. refl; listed = refl }
placed keys.Load = record { within = omega arith; there = λ d. refl; listed = refl }
placed keys.Store = record { within = omega arith; there = λ d. refl; listed = refl }
placed keys.LoadAt = record { within = omega arith; there = λ d. refl; listed = refl }
placed keys.StoreAt = record { within = omega arith; there = λ d. refl; listed = refl }
placed keys.Arith = record { within = omega arith; there = λ d. refl; listed = refl }
placed keys.Multiply = record { within = omega arith; there = λ d. refl; listed = refl }
placed keys.Divide = record { within = omega arith; there = λ d. refl; listed = refl }
placed keys.Jump = record { within = omega arith; there = λ d. refl; listed = refl }
placed keys.Branch = record { within = omega arith; there = λ d. refl; listed = refl }
placed keys.Loop = record { within = omega arith; there = λ d. refl; listed = refl }
placed keys.Receive = record { within = omega arith; there = λ d. refl; listed = refl }
placed keys.Send = record { within = omega arith; there = λ d. refl; listed = refl }
placed keys.Mark = record { within = omega arith; there = λ d. refl; listed = refl }
placed keys.End = record { within = omega arith; there = λ d. refl; listed = refl }
placed keys.Dispatch = record { within = omega arith; there = λ d. refl; listed = refl }

-- what holds of the listed keys holds of each key
pub every_key : (P : CostKey → Type 0) → All P all_keys → (key : CostKey) → P key
every_key P h key =
    let is = placed key in
    subst P (is.there key) (h (place key) key is.within)

pub listed_key : (P : CostKey → Type 0) → ((key : CostKey) → P key) → All P all_keys
listed_key P h k d lt = h (get_or all_keys k d)

-- two keys are one or not
pub same_or_not : (a b : CostKey) → (a ≡ b) ⊎ (a ≢ b)
same_or_not a b =
    elim (cases_lt (place a) (place b)) [
      | inl less ↦ inr (λ e. let same = ap place e in absurd (omega arith))
      | inr most ↦
          elim (cases_lt (place b) (place a)) [
            | inl less ↦ inr (λ e. let same = ap place e in absurd (omega arith))
            | inr least ↦
                let same : place a ≡ place b = omega arith in
                inl (sym ((placed a).there a) ∙ ap (λ n. get_or all_keys n a) same ∙ (placed b).there a)
          ]
    ]

-- the keys before a place, the key there and those behind
pub split_at : (i : ℕ) (d : CostKey) → i < 16 → all_keys ≡ take i all_keys ++ get_or all_keys i d ∷ drop (i + 1) all_keys
split_at i d lt = sym (take-append-drop i all_keys) ∙ ap (λ l. take i all_keys ++ l) (drop_more all_keys i d lt)

-- a text that isn't listed is that of no key
pub unlisted : (text : List ℕ) → is_listed text ≡ false → (key : CostKey) → text ≢ key_text key
unlisted text h key e = false≢true (sym h ∙ ap is_listed e ∙ (placed key).listed)

among : (text : List ℕ) (ks : List CostKey) → list_any (λ key. pointwise nat_eq text (key_text key)) ks ≡ true → (key : CostKey) × (text ≡ key_text key)
among text [] h = absurd (false≢true h)
among text (key ∷ ks) h =
    elim (or_cases (pointwise nat_eq text (key_text key)) (list_any (λ key. pointwise nat_eq text (key_text key)) ks) h) [
      | inl here ↦ (key, same_bytes text (key_text key) here)
      | inr later ↦ among text ks later
    ]

-- and one that is listed is that of some key
pub listed : (text : List ℕ) → is_listed text ≡ true → (key : CostKey) × (text ≡ key_text key)
listed text h = among text all_keys h

-- the table with these costs
abbrev table : (CostKey → ℕ) → Costs
table cost =
    record {
      const_ = cost keys.Const;
      load = cost keys.Load;
      store = cost keys.Store;
      load_at = cost keys.LoadAt;
      store_at = cost keys.StoreAt;
      arith = cost keys.Arith;
      multiply = cost keys.Multiply;
      divide = cost keys.Divide;
      jump = cost keys.Jump;
      branch = cost keys.Branch;
      loop_ = cost keys.Loop;
      receive = cost keys.Receive;
      send = cost keys.Send;
      mark = cost keys.Mark;
      end = cost keys.End;
      dispatch = cost keys.Dispatch;
    }

-- two tables with the same costs are one
pub same_costs : (a b : Costs) → ((key : CostKey) → cost_of a key ≡ cost_of b key) → a ≡ b
same_costs a b h = ap table (fun_ext h)

pub one_cycle : IsInRange 1 1000 1
one_cycle = (omega arith, omega arith)

pub unit_in_range : CostsInRange unit_costs
unit_in_range keys.Const = one_cycle
unit_in_range keys.Load = one_cycle
unit_in_range keys.Store = one_cycle
unit_in_range keys.LoadAt = one_cycle
unit_in_range keys.StoreAt = one_cycle
unit_in_range keys.Arith = one_cycle
unit_in_range keys.Multiply = one_cycle
unit_in_range keys.Divide = one_cycle
unit_in_range keys.Jump = one_cycle
unit_in_range keys.Branch = one_cycle
unit_in_range keys.Loop = one_cycle
unit_in_range keys.Receive = one_cycle
unit_in_range keys.Send = one_cycle
unit_in_range keys.Mark = one_cycle
unit_in_range keys.End = one_cycle
unit_in_range keys.Dispatch = (omega arith, omega arith)
