-- The cost table of a target's bytes, or its fault. What a TOML document is, and what stands at its keys, is the kit's `toml`.
use Rattle.std.specs.Prelude.{◌≡◌, ◌≢◌, ℕ, pos, ◌⊎◌, List, ◌∷◌, ◌++◌, Option, Some, None, IsSome, Result, Ok, Err, All, codes}
use Rattle.std.specs.Ordering.{nat_cmp}
use Rattle.std.specs.Cmp.Lexicographic.{slice_cmp}
use Rattle.std.specs.Str.{IsUtf8}
use Rattle.std.specs.declared.cmp.Ordering.TheVariants.{Greater}
use Rattle.toml.specs.Data.{Data, integer, Members, get_member}
use Rattle.toml.specs.Parse.{parse_document}
use Rattle.tcel_target.specs.declared.costs.Costs.{Costs}
use Rattle.tcel_target.specs.declared.costs.CostKey.{CostKey}
use Rattle.tcel_target.specs.declared.costs.CostKey.TheVariants as keys
use Rattle.tcel_target.specs.declared.fail.TargetFail.{TargetFail}
use Rattle.tcel_target.specs.declared.fail.TargetFail.TheVariants as fails
use Rattle.tcel_target.specs.Costs.{cost_of, all_keys, IsCost}

-- the text of a key
abbrev pub key_text : CostKey → List ℕ
key_text keys.Const = codes "const"
key_text keys.Load = codes "load"
key_text keys.Store = codes "store"
key_text keys.LoadAt = codes "load_at"
key_text keys.StoreAt = codes "store_at"
key_text keys.Arith = codes "arith"
key_text keys.Multiply = codes "multiply"
key_text keys.Divide = codes "divide"
key_text keys.Jump = codes "jump"
key_text keys.Branch = codes "branch"
key_text keys.Loop = codes "loop"
key_text keys.Receive = codes "receive"
key_text keys.Send = codes "send"
key_text keys.Mark = codes "mark"
key_text keys.End = codes "end"
key_text keys.Dispatch = codes "dispatch"

-- the bytes are a document with this top table
pub record IsDocument (bytes : List ℕ) (top : Members) : Type 0 where
  pub text : IsUtf8 bytes
  pub table : parse_document bytes ≡ Some top

-- the bytes are no document
abbrev pub IsNoDocument : List ℕ → Type 0
IsNoDocument bytes = IsUtf8 bytes → parse_document bytes ≡ None

-- what stands at a key of the list
abbrev pub value_at : Members → CostKey → Option Data
value_at top key = get_member (key_text key) top

-- ---- the keys that a document has

-- a key of the document that isn't in the list
pub record IsStrange (top : Members) (text : List ℕ) : Type 0 where
  pub there : IsSome (get_member text top)
  pub unlisted : (key : CostKey) → text ≢ key_text key

-- the least of these by bytes
pub record IsLeastStrange (top : Members) (text : List ℕ) : Type 0 where
  pub strange : IsStrange top text
  pub least : (other : List ℕ) → IsStrange top other → slice_cmp nat_cmp text other ≢ Greater

abbrev pub HasNoStrange : Members → Type 0
HasNoStrange top = (text : List ℕ) → IsStrange top text → ⊥

-- ---- the values at the keys

-- the document gives a key this cost: it is written, or it is that of dispatch where nothing is written
abbrev pub GivesCost : Members → CostKey → ℕ → Type 0
GivesCost top key n =
    (IsCost key n × (value_at top key ≡ Some (integer (pos n)))) ⊎ ((key ≡ keys.Dispatch) × (n ≡ 0) × (value_at top key ≡ None))

-- the document gives a key some cost
abbrev pub HasCost : Members → CostKey → Type 0
HasCost top key = (n : ℕ) × GivesCost top key n

-- a key of an instruction at which nothing stands
abbrev pub IsMissing : Members → CostKey → Type 0
IsMissing top key = (key ≢ keys.Dispatch) × (value_at top key ≡ None)

-- a key at which something stands that isn't a cost of it
abbrev pub IsOutOfRange : Members → CostKey → Type 0
IsOutOfRange top key = (value : Data) × (value_at top key ≡ Some value) × ((n : ℕ) → IsCost key n → value ≢ integer (pos n))

-- each key that is listed before this one has a cost
abbrev pub EarlierHaveCosts : Members → CostKey → Type 0
EarlierHaveCosts top key =
    (earlier : List CostKey) × (later : List CostKey) × (all_keys ≡ earlier ++ key ∷ later) × All (HasCost top) earlier

-- ---- the whole

-- a document without strange keys has such a fault at a key, and at none that is listed before it
pub record HasFirstFault (bytes : List ℕ) (Fault : Members → CostKey → Type 0) (key : CostKey) : Type 0 where
  pub top : Members
  pub document : IsDocument bytes top
  pub known : HasNoStrange top
  pub fault : Fault top key
  pub earlier : EarlierHaveCosts top key

-- the bytes are a target with these costs
pub record IsTarget (bytes : List ℕ) (costs : Costs) : Type 0 where
  pub top : Members
  pub document : IsDocument bytes top
  pub known : HasNoStrange top
  pub each : (key : CostKey) → GivesCost top key (cost_of costs key)

-- what the bytes say: costs, or a fault; anything where memory ran out
abbrev pub Says : List ℕ → Result Costs TargetFail → Type 0
Says bytes (Ok costs) = IsTarget bytes costs
Says bytes (Err fails.NotToml) = IsNoDocument bytes
Says bytes (Err (fails.Strange text)) = (top : Members) × IsDocument bytes top × IsLeastStrange top text
Says bytes (Err (fails.Missing key)) = HasFirstFault bytes IsMissing key
Says bytes (Err (fails.Range key)) = HasFirstFault bytes IsOutOfRange key
Says bytes (Err fails.NoMemory) = Unit {0}
