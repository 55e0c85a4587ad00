-- Of any faults and limits one is the first.
use Rattle.std.proofs.Common.{◌≡◌, ℕ, false, List, [], ◌∷◌, Some, get_or, refl, sym, ap, ◌∙◌, arith}
use Rattle.std.proofs.lemmas.Bool.Decides.{nat_tests}
use Rattle.tcel_check.specs.Marks.{IsFirst, precedes, rank}
use Rattle.tcel_check.specs.declared.fail.CheckKind.TheVariants.{Twice, Unknown, WrongType, NotAPort, WindowInLoop, LoopDepth, SamePriority, BadBound}
use Rattle.tcel_check.specs.declared.fail.LimitKind.TheVariants.{Tasks, Variables, Words, Nodes, Windows}
use Rattle.tcel_check.specs.declared.mark.Mark.{Mark}
use Rattle.tcel_check.specs.declared.mark.Row.{Row}
use Rattle.tcel_check.specs.declared.mark.Row.TheVariants.{Fault, Limit}

-- the rows in the table's order
abbrev rows : List Row
rows =
    Limit Tasks ∷ Limit Variables ∷ Limit Words ∷ Limit Nodes ∷ Limit Windows ∷ Fault Twice ∷ Fault Unknown ∷ Fault WrongType ∷ Fault NotAPort ∷ Fault WindowInLoop
    ∷ Fault LoopDepth ∷ Fault SamePriority ∷ Fault BadBound ∷ []

abbrev row_at : ℕ → Row
row_at n = get_or rows n (Fault BadBound)

at_rank : (row : Row) → row_at (rank row) ≡ row
at_rank (Limit Tasks) = refl
at_rank (Limit Variables) = refl
at_rank (Limit Words) = refl
at_rank (Limit Nodes) = refl
at_rank (Limit Windows) = refl
at_rank (Fault Twice) = refl
at_rank (Fault Unknown) = refl
at_rank (Fault WrongType) = refl
at_rank (Fault NotAPort) = refl
at_rank (Fault WindowInLoop) = refl
at_rank (Fault LoopDepth) = refl
at_rank (Fault SamePriority) = refl
at_rank (Fault BadBound) = refl

one_row : (a b : Row) → rank a ≡ rank b → a ≡ b
one_row a b e = sym (at_rank a) ∙ ap row_at e ∙ at_rank b

abbrev mark_of : ℕ → ℕ → Row → Mark
mark_of line column row = record { row = row; at = record { line = line; column = column } }

-- two marks of which none precedes the other
same_line : (a b : Mark) → precedes a b ≡ false → precedes b a ≡ false → a.at.line ≡ b.at.line
same_line a b h k = grind (arith, nat_tests)

same_column : (a b : Mark) → precedes a b ≡ false → precedes b a ≡ false → a.at.column ≡ b.at.column
same_column a b h k = grind (arith, nat_tests)

same_rank : (a b : Mark) → precedes a b ≡ false → precedes b a ≡ false → rank a.row ≡ rank b.row
same_rank a b h k = grind (arith, nat_tests)

one_mark : (a b : Mark) → precedes a b ≡ false → precedes b a ≡ false → a ≡ b
one_mark a b h k =
    ap (λ n. mark_of n a.at.column a.row) (same_line a b h k) ∙ ap (λ n. mark_of b.at.line n a.row) (same_column a b h k)
    ∙ ap (mark_of b.at.line b.at.column) (one_row a.row b.row (same_rank a b h k))

pub one_first : (marks : List Mark) (a b : Mark) → IsFirst marks (Some a) → IsFirst marks (Some b) → a ≡ b
one_first marks a b first other = one_mark a b (other.1 a first.0) (first.1 b other.0)
