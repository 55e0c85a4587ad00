-- The worked examples, computed.
use Rattle.std.proofs.Common.{◌≡◌, [], ◌∷◌, ◌++◌, map, refl}
use Rattle.std.specs.Fmt.{digits}
use Rattle.tcel_show.specs.Examples.{statements, stmt_text, task, task_text}
use Rattle.tcel_show.specs.Text.{canonical_text}

pub statements_written : map (λ e. stmt_text e.0) statements ≡ map (λ e. e.1) statements
unfolding digits
statements_written = refl

pub task_written : canonical_text (task ∷ []) ≡ task_text
unfolding digits
task_written = refl

pub tasks_written : canonical_text (task ∷ task ∷ []) ≡ task_text ++ task_text
unfolding digits
tasks_written = refl
