-- Walks through statements: where a walk may end, counted in cycles from the frame's start, and at which counts its events are. A walk takes
-- either branch of an `if` and any number of rounds of a `while`, whatever the tests are.
use Rattle.std.specs.Prelude.{◌≡◌, ℕ, zero, suc, ◌+◌, ◌*◌, ◌≤◌, ◌<◌, ◌⊎◌, max, List, [], ◌∷◌, ◌++◌, Option, None, Some, if◌then◌else◌}
use Rattle.tcel_core.specs.declared.var.Var.{Var}
use Rattle.tcel_core.specs.Cells.{width}
use Rattle.tcel_core.specs.Language.{Block, done, next, Stmt, item, choice, timed, Act, assign, assign_at, receive, send, for_loop, while_loop, copy}
use Rattle.tcel_target.specs.declared.costs.Costs.{Costs}
use Rattle.tcel_core.specs.Contents.{has_statement, hold_of}
use Rattle.tcel_cost.specs.Expressions.{expr_cycles}

-- from an entry count to an end count, with the counts of the events
abbrev pub Counts : Type 1
Counts = ℕ → ℕ → List ℕ → Type 0

-- so many cycles, without an event
abbrev pub Passes : ℕ → Counts
Passes cycles entry end events = (end ≡ entry + cycles) × (events ≡ [])

-- so many cycles, with an event at their end
abbrev pub Shows : ℕ → Counts
Shows cycles entry end events = (end ≡ entry + cycles) × (events ≡ end ∷ [])

-- one walk and then another
pub record Then (first second : Counts) (entry end : ℕ) (events : List ℕ) : Type 0 where
  pub middle : ℕ
  pub before : List ℕ
  pub after : List ℕ
  pub one : first entry middle before
  pub two : second middle end after
  pub joined : events ≡ before ++ after

-- one of two walks
abbrev pub Either : Counts → Counts → Counts
Either first second entry end events = first entry end events ⊎ second entry end events

-- so many rounds
abbrev pub Rounds : ℕ → Counts → Counts
Rounds zero round = Passes 0
Rounds (suc n) round = Then round (Rounds n round)

-- any number of rounds up to so many, and where there are fewer, a last test
abbrev pub RoundsUpTo : ℕ → Counts → Counts → Counts
RoundsUpTo n round last entry end events =
    ((m : ℕ) × (m < n) × Then (Rounds m round) last entry end events) ⊎ Rounds n round entry end events

-- where a `do` block is entered: at once, or behind a hold
abbrev pub held_entry : Option ℕ → ℕ → ℕ
held_entry None entry = entry
held_entry (Some bound) entry = max (entry + 1) bound

-- the cost of the jump that ends the `yes` code, where there is `no` code
abbrev pub jump_cost : Costs → Block → ℕ
jump_cost costs other = if has_statement other then costs.jump else 0

-- a `for`: its counter is set; a round sets its variable, runs the body and counts
abbrev pub ForWalks : Costs → ℕ → Counts → Counts
ForWalks costs turns body =
    Then (Passes (costs.const_ + costs.store)) (Rounds turns (Then (Passes (costs.load + costs.store)) (Then body (Passes costs.loop_))))

-- a `while`: its counter is set; a round tests, runs the body and counts
abbrev pub WhileWalks : Costs → ℕ → ℕ → Counts → Counts
WhileWalks costs test turns body =
    Then (Passes (costs.const_ + costs.store)) (RoundsUpTo turns (Then (Passes test) (Then body (Passes costs.loop_))) (Passes test))

-- the walks of statements
abbrev mutual
  pub Walks : Block → List Var → Costs → Counts
  Walks done vars costs = Passes 0
  Walks (next s rest) vars costs = Then (StmtWalks s vars costs) (Walks rest vars costs)

  pub StmtWalks : Stmt → List Var → Costs → Counts
  StmtWalks (item id act) vars costs = ActWalks act vars costs
  StmtWalks (choice id test held other) vars costs =
      Then (Passes (expr_cycles costs test + costs.branch))
      (Either (Then (Walks held vars costs) (Passes (jump_cost costs other))) (Walks other vars costs))
  StmtWalks (timed id window body) vars costs = λ entry. Walks body vars costs (held_entry (hold_of window body) entry)

  pub ActWalks : Act → List Var → Costs → Counts
  ActWalks (assign v e) vars costs = Passes (expr_cycles costs e + costs.store)
  ActWalks (assign_at v i e) vars costs = Passes (expr_cycles costs i + expr_cycles costs e + costs.store_at)
  ActWalks (receive v port) vars costs = Shows costs.receive
  ActWalks (send e port) vars costs = Shows (expr_cycles costs e + costs.send)
  ActWalks (copy a b) vars costs = Passes (width vars a * (costs.load + costs.store))
  ActWalks (for_loop v turns body) vars costs = ForWalks costs turns (Walks body vars costs)
  ActWalks (while_loop test turns body) vars costs = WhileWalks costs (expr_cycles costs test + costs.branch) turns (Walks body vars costs)

-- the greatest number with a property
pub record IsGreatest (P : ℕ → Type 0) (n : ℕ) : Type 0 where
  pub there : P n
  pub greatest : (m : ℕ) → P m → m ≤ n

-- the greatest number with a property, or none where no number has it
abbrev pub IsGreatestIfAny : (ℕ → Type 0) → Option ℕ → Type 0
IsGreatestIfAny P None = (n : ℕ) → P n → ⊥
IsGreatestIfAny P (Some n) = IsGreatest P n

-- the first number of a list, and the last
abbrev pub IsFirst : List ℕ → ℕ → Type 0
IsFirst numbers n = (others : List ℕ) × (numbers ≡ n ∷ others)

abbrev pub IsLast : List ℕ → ℕ → Type 0
IsLast numbers n = (others : List ℕ) × (numbers ≡ others ++ n ∷ [])

-- a walk ends at this count
abbrev pub EndsAt : Counts → ℕ → ℕ → Type 0
EndsAt walks entry count = (events : List ℕ) × walks entry count events

-- a walk has its first event at this count, and its last
abbrev pub FirstAt : Counts → ℕ → ℕ → Type 0
FirstAt walks entry count = (end : ℕ) × (events : List ℕ) × walks entry end events × IsFirst events count

abbrev pub LastAt : Counts → ℕ → ℕ → Type 0
LastAt walks entry count = (end : ℕ) × (events : List ℕ) × walks entry end events × IsLast events count

-- the greatest counts at which walks from an entry end, have their first event and their last, and end without an event
abbrev pub IsTotal : Counts → ℕ → ℕ → Type 0
IsTotal walks entry = IsGreatest (EndsAt walks entry)

abbrev pub IsFirstCount : Counts → ℕ → Option ℕ → Type 0
IsFirstCount walks entry = IsGreatestIfAny (FirstAt walks entry)

abbrev pub IsLastCount : Counts → ℕ → Option ℕ → Type 0
IsLastCount walks entry = IsGreatestIfAny (LastAt walks entry)

abbrev pub IsQuietCount : Counts → ℕ → Option ℕ → Type 0
IsQuietCount walks entry = IsGreatestIfAny (λ end. walks entry end [])
