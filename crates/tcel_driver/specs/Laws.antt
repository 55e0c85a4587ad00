-- The answers exclude each other: of a set and its costs there is one choice or one cause of refusal.
use Rattle.std.specs.Prelude.{◌≡◌, ℕ, ◌⊎◌, List}
use Rattle.tcel_num.specs.Plan.{Plan}
use Rattle.tcel_core.specs.Language.{Task}
use Rattle.tcel_core.specs.Parts.{TaskParts}
use Rattle.tcel_target.specs.declared.costs.Costs.{Costs}
use Rattle.tcel_driver.specs.Choice.{IsChosen}
use Rattle.tcel_driver.specs.Forms.{AreForms}
use Rattle.tcel_driver.specs.Refusals.{ForbidsForms, Refuses}
use Rattle.tcel_driver.specs.declared.refused.Refused.{Refused}
use Rattle.tcel_driver.specs.declared.refused.Refused.TheVariants as refused

-- two refusals are one, but for want of memory
abbrev pub RefusalsAreOne : Type 0
RefusalsAreOne =
    (tasks : List Task) (costs : Costs) (a b : Refused) → Refuses tasks costs a → Refuses tasks costs b
    → (a ≡ b) ⊎ (a ≡ refused.NoMemory) ⊎ (b ≡ refused.NoMemory)

-- where a choice can be made, only want of memory refuses it
abbrev pub ChoicesAreMade : Type 0
ChoicesAreMade =
    (tasks : List Task) (costs : Costs) (sliced : ℕ) (plans : List Plan) (parts : List TaskParts) (cause : Refused)
    → IsChosen tasks costs sliced plans parts → Refuses tasks costs cause → cause ≡ refused.NoMemory

-- two choices have the same number of sliced tasks, the same plans and the same parts
abbrev pub ChoicesAreOne : Type 0
ChoicesAreOne =
    (tasks : List Task) (costs : Costs) (k l : ℕ) (plans others : List Plan) (parts own : List TaskParts)
    → IsChosen tasks costs k plans parts → IsChosen tasks costs l others own → (k ≡ l) × (plans ≡ others) × (parts ≡ own)

-- so it is with the forms of a set
abbrev pub FormsAreGiven : Type 0
FormsAreGiven =
    (tasks : List Task) (costs : Costs) (parts : List TaskParts) (whole sliced : List Plan) (hyper : ℕ) (cause : Refused)
    → AreForms tasks costs parts whole sliced hyper → ForbidsForms tasks costs cause → cause ≡ refused.NoMemory

-- what forms a set has
pub record TheForms : Type 0 where
  pub parts : List TaskParts
  pub whole : List Plan
  pub sliced : List Plan
  pub hyper : ℕ

abbrev pub FormsAreOne : Type 0
FormsAreOne =
    (tasks : List Task) (costs : Costs) (a b : TheForms) → AreForms tasks costs a.parts a.whole a.sliced a.hyper
    → AreForms tasks costs b.parts b.whole b.sliced b.hyper → a ≡ b
