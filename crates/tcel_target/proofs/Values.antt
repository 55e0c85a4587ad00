-- The value at a key, and the first key that has no cost.
use Rattle.std.proofs.Common.{◌≡◌, ◌≢◌, ℕ, ◌+◌, ◌<◌, List, take, drop, get_or, Some, None, Result, Ok, Err, refl, sym, ap, ◌∙◌, subst, All, inl, inr}
use Rattle.std.specs.Prelude.{IfOk, IfErr}
use Rattle.std.proofs.lemmas.List.Elements.{All-more}
use Rattle.toml.specs.Data.{Data, Members}
use Rattle.tcel_target.specs.declared.costs.CostKey.{CostKey}
use Rattle.tcel_target.specs.declared.costs.CostKey.TheVariants.{Dispatch}
use Rattle.tcel_target.specs.declared.fail.TargetFail.{TargetFail}
use Rattle.tcel_target.specs.declared.fail.TargetFail.TheVariants.{NotToml, Strange, Missing, Range, NoMemory}
use Rattle.tcel_target.specs.declared.costs.Costs.{Costs}
use Rattle.tcel_target.specs.Costs.{cost_of, all_keys, ChangesCost, IsCost}
use Rattle.tcel_target.specs.Target.{value_at, EarlierHaveCosts, GivesCost, IsMissing, IsOutOfRange}
use Rattle.tcel_target.specs.Reading.{IsCostIn, IsNoCost, IsKeyFault, IsFirstKeyFault}
use Rattle.tcel_target.proofs.Keys.{same_or_not, split_at}

module _ (top : Members) (key : CostKey) where
  -- a value at the key
  module _ (value : Data) (at : value_at top key ≡ Some value) where
    pub given_in : (r : Result ℕ TargetFail) → IfOk r (IsCostIn value key) → IfOk r (GivesCost top key)
    given_in (Ok n) h = inl (h.0, at ∙ ap Some h.1)
    given_in (Err e) h = tt

    pub fault_in : (r : Result ℕ TargetFail) → IfErr r (λ fail. (fail ≡ Range key) × IsNoCost value key) → IfErr r (IsKeyFault top key)
    fault_in (Ok n) h = tt
    fault_in (Err e) h = subst (IsKeyFault top key) (sym h.0) (refl, (value, at, h.1))

    pub range_in : (r : Result ℕ TargetFail) → IfOk r (IsCostIn value key) → IfOk r (IsCost key)
    range_in (Ok n) h = h.0
    range_in (Err e) h = tt

  -- nothing at the key
  module _ (at : value_at top key ≡ None) where
    pub given_without : (r : Result ℕ TargetFail) → IfOk r (λ n. (key ≡ Dispatch) × (n ≡ 0)) → IfOk r (GivesCost top key)
    given_without (Ok n) h = inr (h.0, h.1, at)
    given_without (Err e) h = tt

    pub missing_without : (r : Result ℕ TargetFail) → IfErr r (λ fail. (fail ≡ Missing key) × (key ≢ Dispatch)) → IfErr r (IsKeyFault top key)
    missing_without (Ok n) h = tt
    missing_without (Err e) h = subst (IsKeyFault top key) (sym h.0) (refl, (h.1, at))

-- ---- one key after another

-- the document gives each of these keys its cost
abbrev pub AreGivenAt : Members → Costs → List CostKey → Type 0
AreGivenAt top costs ks = All (λ key. GivesCost top key (cost_of costs key)) ks

module _ (top : Members) (i : ℕ) (d : CostKey) (lt : i < 16) where
  abbrev here : CostKey
  here = get_or all_keys i d

  pub one_more : (old new : Costs) (n : ℕ) → AreGivenAt top old (take i all_keys) → GivesCost top here n → ChangesCost old new here n → AreGivenAt top new (take (i + 1) all_keys)
  one_more old new n so_far gives changes =
      let own : GivesCost top here (cost_of new here) = subst (GivesCost top here) (sym changes.changed) gives in
      All-more (λ key. GivesCost top key (cost_of new key)) all_keys i d lt
      (λ k e within. kept (get_or (take i all_keys) k e) own (so_far k e within)) own
    where
      kept : (key : CostKey) → GivesCost top here (cost_of new here) → GivesCost top key (cost_of old key) → GivesCost top key (cost_of new key)
      kept key own h =
          elim (same_or_not key here) [
            | inl same ↦ subst (λ k. GivesCost top k (cost_of new k)) (sym same) own
            | inr other ↦ subst (GivesCost top key) (sym (changes.others key other)) h
          ]

  earlier_have : (costs : Costs) → AreGivenAt top costs (take i all_keys) → EarlierHaveCosts top here
  earlier_have costs so_far =
      (take i all_keys, drop (i + 1) all_keys, split_at i d lt, λ k e within. (cost_of costs (get_or (take i all_keys) k e), so_far k e within))

  pub first_fault : (costs : Costs) → AreGivenAt top costs (take i all_keys) → (fail : TargetFail) → IsKeyFault top here fail → IsFirstKeyFault top fail
  first_fault costs so_far (Missing key) h =
      (subst (IsMissing top) (sym h.0) h.1, subst (EarlierHaveCosts top) (sym h.0) (earlier_have costs so_far))
  first_fault costs so_far (Range key) h =
      (subst (IsOutOfRange top) (sym h.0) h.1, subst (EarlierHaveCosts top) (sym h.0) (earlier_have costs so_far))
  first_fault costs so_far (Strange key) h = absurd h
  first_fault costs so_far NotToml h = absurd h
  first_fault costs so_far NoMemory h = absurd h
