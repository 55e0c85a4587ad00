-- Walks that have their events in order, and that can begin later.
use Rattle.std.specs.Prelude.{ℕ, ◌≤◌, List, [], ◌∷◌}
use Rattle.tcel_core.specs.declared.var.Var.{Var}
use Rattle.tcel_core.specs.Language.{Block}
use Rattle.tcel_target.specs.declared.costs.Costs.{Costs}
use Rattle.tcel_cost.specs.Walks.{Counts, Walks}

-- counts in order, from an entry to an end
abbrev pub AreInOrder : List ℕ → ℕ → ℕ → Type 0
AreInOrder [] entry end = entry ≤ end
AreInOrder (c ∷ cs) entry end = (entry ≤ c) × AreInOrder cs c end

-- as many counts, each no earlier
abbrev pub AreLater : List ℕ → List ℕ → Type 0
AreLater [] [] = Unit {0}
AreLater (c ∷ cs) (d ∷ ds) = (c ≤ d) × AreLater cs ds
AreLater _ _ = ⊥

-- a walk from an entry that ends no earlier than this, with as many events, each no earlier
pub record Delayed (walks : Counts) (entry end : ℕ) (events : List ℕ) : Type 0 where
  pub to : ℕ
  pub moved : List ℕ
  pub walk : walks entry to moved
  pub ends_later : end ≤ to
  pub events_later : AreLater events moved

-- walks with their events in order, which can begin later
pub record IsSteady (walks : Counts) : Type 0 where
  pub ordered : (entry end : ℕ) (events : List ℕ) → walks entry end events → AreInOrder events entry end
  pub delayed : (entry end : ℕ) (events : List ℕ) → walks entry end events → (later : ℕ) → entry ≤ later → Delayed walks later end events

-- so are all walks through statements: a later entry never ends sooner
abbrev pub WalksAreSteady : Type 0
WalksAreSteady = (b : Block) (vars : List Var) (costs : Costs) → IsSteady (Walks b vars costs)
