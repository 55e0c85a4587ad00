-- Whether an item stands in an `if`, as a walk along the steps finds it.
use Rattle.std.specs.Prelude.{ℕ, zero, suc, Bool, false, ◌==◌, ◌||◌, List, [], ◌∷◌, if◌then◌else◌}
use Rattle.tcel_flow.specs.declared.step.Step.{Step}
use Rattle.tcel_flow.specs.declared.step.Step.TheVariants as steps

-- behind a place that is so many ifs deep in an `if` with this test: the item stands there, or behind in such an `if`
abbrev pub is_around : ℕ → ℕ → ℕ → List Step → Bool
is_around item test depth [] = false
is_around item test zero (steps.Item id reads writes event ∷ xs) = is_around item test 0 xs
is_around item test (suc depth) (steps.Item id reads writes event ∷ xs) = (id == item) || is_around item test (suc depth) xs
is_around item test zero (steps.Open id reads ∷ xs) = is_around item test (if id == test then 1 else 0) xs
is_around item test (suc depth) (steps.Open id reads ∷ xs) = is_around item test (suc (suc depth)) xs
is_around item test depth (steps.Middle ∷ xs) = is_around item test depth xs
is_around item test zero (steps.Close ∷ xs) = is_around item test 0 xs
is_around item test (suc depth) (steps.Close ∷ xs) = is_around item test depth xs
