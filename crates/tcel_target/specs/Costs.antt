-- Cost tables: how many cycles each kind of instruction takes, and how many ticks the start of a frame.
use Rattle.std.specs.Prelude.{◌≡◌, ◌≢◌, ℕ, List, [], ◌∷◌}
use Rattle.std.specs.Int.{IsInRange}
use Rattle.tcel_target.specs.declared.costs.Costs.{Costs}
use Rattle.tcel_target.specs.declared.costs.CostKey.{CostKey}
use Rattle.tcel_target.specs.declared.costs.CostKey.TheVariants as keys

-- the cost of a key
abbrev pub cost_of : Costs → CostKey → ℕ
cost_of c keys.Const = c.const_
cost_of c keys.Load = c.load
cost_of c keys.Store = c.store
cost_of c keys.LoadAt = c.load_at
cost_of c keys.StoreAt = c.store_at
cost_of c keys.Arith = c.arith
cost_of c keys.Multiply = c.multiply
cost_of c keys.Divide = c.divide
cost_of c keys.Jump = c.jump
cost_of c keys.Branch = c.branch
cost_of c keys.Loop = c.loop_
cost_of c keys.Receive = c.receive
cost_of c keys.Send = c.send
cost_of c keys.Mark = c.mark
cost_of c keys.End = c.end
cost_of c keys.Dispatch = c.dispatch

-- the keys of instructions, in the order in which targets and images list them
abbrev pub instruction_keys : List CostKey
instruction_keys =
    keys.Const ∷ keys.Load ∷ keys.Store ∷ keys.LoadAt ∷ keys.StoreAt ∷ keys.Arith ∷ keys.Multiply ∷ keys.Divide ∷ keys.Jump
    ∷ keys.Branch ∷ keys.Loop ∷ keys.Receive ∷ keys.Send ∷ keys.Mark ∷ keys.End ∷ []

-- all keys in this order, dispatch last
abbrev pub all_keys : List CostKey
all_keys =
    keys.Const ∷ keys.Load ∷ keys.Store ∷ keys.LoadAt ∷ keys.StoreAt ∷ keys.Arith ∷ keys.Multiply ∷ keys.Divide ∷ keys.Jump
    ∷ keys.Branch ∷ keys.Loop ∷ keys.Receive ∷ keys.Send ∷ keys.Mark ∷ keys.End ∷ keys.Dispatch ∷ []

-- the least cost of a key: an instruction takes a cycle, the start of a frame maybe none
abbrev pub least_cost : CostKey → ℕ
least_cost keys.Dispatch = 0
least_cost _ = 1

-- a cost that a table may have for a key
abbrev pub IsCost : CostKey → ℕ → Type 0
IsCost key n = IsInRange (least_cost key) 1000 n

-- each key has a cost that a table may have
abbrev pub CostsInRange : Costs → Type 0
CostsInRange c = (key : CostKey) → IsCost key (cost_of c key)

-- new is old but for the cost of one key
pub record ChangesCost (old new : Costs) (key : CostKey) (cost : ℕ) : Type 0 where
  pub changed : cost_of new key ≡ cost
  pub others : (k : CostKey) → k ≢ key → cost_of new k ≡ cost_of old k

-- each instruction takes one cycle, and a frame starts at once
abbrev pub unit_costs : Costs
unit_costs =
    record {
      const_ = 1;
      load = 1;
      store = 1;
      load_at = 1;
      store_at = 1;
      arith = 1;
      multiply = 1;
      divide = 1;
      jump = 1;
      branch = 1;
      loop_ = 1;
      receive = 1;
      send = 1;
      mark = 1;
      end = 1;
      dispatch = 0;
    }
