-- What the parts of the reader find in a document.
use Rattle.std.specs.Prelude.{◌≡◌, ◌≢◌, ℕ, pos, nat_eq, Bool, List}
use Rattle.std.specs.List.{list_any}
use Rattle.std.specs.Cmp.Lexicographic.{pointwise}
use Rattle.toml.specs.Data.{Data, Members, integer}
use Rattle.tcel_target.specs.declared.costs.Costs.{Costs}
use Rattle.tcel_target.specs.declared.costs.CostKey.{CostKey}
use Rattle.tcel_target.specs.declared.fail.TargetFail.{TargetFail}
use Rattle.tcel_target.specs.declared.fail.TargetFail.TheVariants as fails
use Rattle.tcel_target.specs.Costs.{cost_of, all_keys, IsCost}
use Rattle.tcel_target.specs.Target.{key_text, GivesCost, HasNoStrange, IsLeastStrange, IsMissing, IsOutOfRange, EarlierHaveCosts}

-- the text is that of a key of the list
abbrev pub is_listed : List ℕ → Bool
is_listed text = list_any (λ key. pointwise nat_eq text (key_text key)) all_keys

-- the value is this cost of the key
abbrev pub IsCostIn : Data → CostKey → ℕ → Type 0
IsCostIn value key n = IsCost key n × (value ≡ integer (pos n))

-- the value is no cost of the key
abbrev pub IsNoCost : Data → CostKey → Type 0
IsNoCost value key = (n : ℕ) → IsCost key n → value ≢ integer (pos n)

-- the document gives each key its cost
abbrev pub AreGiven : Members → Costs → Type 0
AreGiven top costs = (key : CostKey) → GivesCost top key (cost_of costs key)

-- why a key has no cost
abbrev pub IsKeyFault : Members → CostKey → TargetFail → Type 0
IsKeyFault top key (fails.Missing k) = (k ≡ key) × IsMissing top key
IsKeyFault top key (fails.Range k) = (k ≡ key) × IsOutOfRange top key
IsKeyFault top key _ = ⊥

-- the first key of the list that has none, and why
abbrev pub IsFirstKeyFault : Members → TargetFail → Type 0
IsFirstKeyFault top (fails.Missing key) = IsMissing top key × EarlierHaveCosts top key
IsFirstKeyFault top (fails.Range key) = IsOutOfRange top key × EarlierHaveCosts top key
IsFirstKeyFault top _ = ⊥

-- why a document gives no costs, or memory ran out
abbrev pub IsRefusal : Members → TargetFail → Type 0
IsRefusal top fails.NotToml = ⊥
IsRefusal top (fails.Strange text) = IsLeastStrange top text
IsRefusal top fails.NoMemory = Unit {0}
IsRefusal top fail = HasNoStrange top × IsFirstKeyFault top fail
