use Rattle.std.proofs.Common.{◌≡◌, ◌++◌, ℕ, List, length}
use Rattle.tcel_tool.specs.Chosen.{plain_choice}
use Rattle.tcel_tool.specs.Report.{AreTaskTexts, head_line}
use Rattle.tcel_tool.proofs.report.report_on.Given as goal

abbrev pub invariant-loop-number : goal.invariant-loop-number
invariant-loop-number l =
    let c = plain_choice l.chosen in
    (front : List ℕ) × AreTaskTexts c l.number front × (l.text.items ≡ head_line c.sliced (length c.set) ++ front)
