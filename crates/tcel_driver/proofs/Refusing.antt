-- What a step refuses for one task is why the set is refused.
use Rattle.std.proofs.Common.{◌≡◌, ℕ, ◌+◌, ◌<◌, List, [], ◌∷◌, ◌++◌, map, length, get_or, take, sym, subst, Some}
use Rattle.std.specs.Prelude.{slice_get}
use Rattle.std.proofs.lemmas.List.{take-map}
use Rattle.tcel_num.specs.Plan.{Plan}
use Rattle.tcel_core.specs.Language.{Task}
use Rattle.tcel_core.specs.Parts.{TaskParts}
use Rattle.tcel_target.specs.declared.costs.Costs.{Costs}
use Rattle.tcel_cost.specs.Forms.{Form}
use Rattle.tcel_driver.specs.Forms.{AreCosted, AreSplit, IsCosted}
use Rattle.tcel_driver.specs.Refusals.{ForbidsForms, IsDearForm, IsDearTask, IsTooDear, IsTooLarge}
use Rattle.tcel_driver.specs.Steps.{IsDearAt, IsLargeAt}
use Rattle.tcel_driver.specs.declared.refused.Refused.{Refused}
use Rattle.tcel_driver.specs.declared.refused.Refused.TheVariants as refused
use Rattle.tcel_driver.proofs.Costed.{costed_push}
use Rattle.tcel_driver.proofs.Lists.{map_step, read_map}

pub large_forbids : (tasks : List Task) (before : List TaskParts) (number : ℕ) (task : Task) (cause : Refused) → slice_get tasks number ≡ Some task → AreSplit (take number tasks) before
    → IsLargeAt number task cause → (costs : Costs) → ForbidsForms tasks costs cause
large_forbids tasks before number task (refused.TooManyCells at words) there earlier h costs =
    subst (λ n. IsTooLarge tasks n words) (sym h.0)
    (let large : IsTooLarge tasks number words = record { task = task; there = there; needs = h.1; above = h.2; before = before; earlier = earlier } in large)
large_forbids tasks before number task refused.NoMemory there earlier h costs = tt
large_forbids tasks before number task cause there earlier h costs = absurd h

-- what is known of the tasks before one
pub record StandsAt (tasks : List Task) (costs : Costs) (parts : List TaskParts) (number : ℕ) (task : Task) (own : TaskParts) : Type 0 where
  pub split : AreSplit tasks parts
  pub there : slice_get tasks number ≡ Some task
  pub of_task : slice_get parts number ≡ Some own
  pub whole : List Plan
  pub sliced : List Plan
  pub earlier : AreCosted costs (take number tasks) (take number parts) whole sliced

pub dear_forbids : (tasks : List Task) (costs : Costs) (parts : List TaskParts) (number : ℕ) (task : Task) (own : TaskParts) (form : Form) (cause : Refused) → StandsAt tasks costs parts number task own
    → ((cycles : ℕ) → IsDearForm form costs cycles → IsDearTask task own costs cycles) → IsDearAt number form costs cause → ForbidsForms tasks costs cause
dear_forbids tasks costs parts number task own form (refused.TooDear at cycles) s dear h =
    subst (λ n. IsTooDear tasks costs n cycles) (sym h.0)
    (let is : IsTooDear tasks costs number cycles =
    record {
      parts = parts;
      split = s.split;
      task = task;
      own = own;
      there = s.there;
      of_task = s.of_task;
      dear = dear cycles h.1;
      whole = s.whole;
      sliced = s.sliced;
      earlier = s.earlier;
    } in is)
dear_forbids tasks costs parts number task own form refused.NoMemory s dear h = tt
dear_forbids tasks costs parts number task own form cause s dear h = absurd h

-- ---- in a loop over tasks with their parts

module _ {X Y : Type 0} (f : X → Task) (g : Y → TaskParts) (xs : List X) (ys : List Y) (number : ℕ) (x : X) (y : Y) (within : number < length xs) (there : number < length ys) (is : x ≡ get_or xs number x) (at : y ≡ get_or ys number y) where
  pub stands_at : (costs : Costs) (whole sliced : List Plan) → AreSplit (map f xs) (map g ys) → AreCosted costs (map f (take number xs)) (map g (take number ys)) whole sliced
      → StandsAt (map f xs) costs (map g ys) number (f x) (g y)
  stands_at costs whole sliced split costed =
      record {
        split = split;
        there = read_map f xs number x within is;
        of_task = read_map g ys number y there at;
        whole = whole;
        sliced = sliced;
        earlier = subst (λ l. AreCosted costs l (take number (map g ys)) whole sliced) (sym (take-map f number xs))
            (subst (λ l. AreCosted costs (map f (take number xs)) l whole sliced) (sym (take-map g number ys)) costed);
      }

  pub costed_step : (costs : Costs) (whole sliced : List Plan) (a b : Plan) → AreCosted costs (map f (take number xs)) (map g (take number ys)) whole sliced → IsCosted costs (f x) (g y) a b
      → AreCosted costs (map f (take (number + 1) xs)) (map g (take (number + 1) ys)) (whole ++ a ∷ []) (sliced ++ b ∷ [])
  costed_step costs whole sliced a b costed here =
      subst (λ l. AreCosted costs l (map g (take (number + 1) ys)) (whole ++ a ∷ []) (sliced ++ b ∷ [])) (sym (map_step f xs number x within is))
      (subst (λ l. AreCosted costs (map f (take number xs) ++ f x ∷ []) l (whole ++ a ∷ []) (sliced ++ b ∷ [])) (sym (map_step g ys number y there at))
      (costed_push costs (map f (take number xs)) (map g (take number ys)) whole sliced (f x) (g y) a b costed here))
