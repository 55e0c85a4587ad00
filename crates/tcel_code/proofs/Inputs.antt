-- The values that the machine takes from inputs.
use Rattle.std.proofs.Common.{◌≡◌, ℕ, ℤ, List, [], get_or, sym, ap, ◌∙◌}
use Rattle.tcel_core.specs.Meaning.{head_or_zero}
use Rattle.tcel_core.proofs.Remain.{Remain, head-drop}
use Rattle.tcel_image.specs.Machine.{next_input}

-- the machine takes the value that the statement takes
pub same_input : (inputs left : List (List ℤ)) (taken : List ℕ) (port : ℕ) → Remain inputs left taken → next_input inputs taken port ≡ head_or_zero (get_or left port [])
same_input inputs left taken port remain =
    sym (ap head_or_zero (remain.each port) ∙ head-drop (get_or taken port 0) (get_or inputs port []))
