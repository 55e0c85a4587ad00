-- The fault line of a late point, from its pieces.
use Rattle.std.proofs.Common.{◌≡◌, ℕ, List, [], ◌∷◌, subst}
use Rattle.std.specs.Prelude.{codes}
use Rattle.std.specs.Fmt.{decimal}
use Rattle.tcel_io.specs.InTurn.{ArePut}
use Rattle.tcel_io.specs.Seen.{Seen}
use Rattle.tcel_num.specs.Lateness.{Lateness}
use Rattle.tcel_tool.specs.FaultLine.{late_pieces, point_number, point_word}

pub late_put : (late : Lateness) (task word number frame response bound : List ℕ) (old new : Seen) → word ≡ point_word late.name → number ≡ point_number late.name
    → frame ≡ decimal late.frame → response ≡ decimal late.response → bound ≡ decimal late.bound
    → ArePut (codes "rejected: late task " ∷ task ∷ codes " frame " ∷ frame ∷ codes " point " ∷ word ∷ number ∷ codes " response " ∷ response ∷ codes " bound " ∷ bound ∷ codes "\n" ∷ []) old new
    → ArePut (late_pieces late task) old new
late_put late task word number frame response bound old new words numbers frames responses bounds put =
    let pieces : List (List ℕ) =
    codes "rejected: late task " ∷ task ∷ codes " frame " ∷ frame ∷ codes " point " ∷ word ∷ number ∷ codes " response " ∷ response ∷ codes " bound " ∷ bound ∷ codes "\n" ∷ [] in
    let same : pieces ≡ late_pieces late task = cc in
    subst (λ (ps : List (List ℕ)). ArePut ps old new) same put
