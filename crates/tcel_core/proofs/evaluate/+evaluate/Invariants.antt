use Rattle.std.proofs.Common.{◌≡◌, pos, length, map, drop}
use Rattle.tcel_num.specs.Arithmetic.{holds}
use Rattle.tcel_core.specs.Cells.{all_words, set_word}
use Rattle.tcel_core.specs.Evaluation.{Left}
use Rattle.tcel_core.specs.Meaning.{exec, value, with_cells}
use Rattle.tcel_core.specs.Outcome.{rounds, rounds_while}
use Rattle.tcel_core.specs.Plain.{block_of, plain_body, plain_expr, plain_stmt}
use Rattle.tcel_core.specs.Scope.{Fits}
use Rattle.tcel_core.proofs.Evaluation.{Behind, Goes}
use Rattle.tcel_core.proofs.evaluate.+evaluate.Given as goal

abbrev pub decreases-run_body : goal.decreases-run_body
decreases-run_body l = goal.size-run_body l

abbrev pub decreases-run_item : goal.decreases-run_item
decreases-run_item l = goal.size-run_item l

abbrev pub decreases-run_stmt : goal.decreases-run_stmt
decreases-run_stmt l = goal.size-run_stmt l

abbrev pub invariant-run_body-loop-stmt : goal.invariant-run_body-loop-stmt
invariant-run_body-loop-stmt l =
    let left = block_of (map plain_stmt (drop l.stmt-index l.body.list)) in
    Fits left l.layout
    × (length l.cells ≡ all_words l.layout)
    × Behind l.bounds l.initial.events.items l.events.items
    × Goes l.bounds l.initial.events.items (exec (plain_body l.body) l.layout (record { cells = l.initial.cells; inputs = l.initial.inputs }))
    l.events.items (exec left l.layout (record { cells = l.cells; inputs = l.inputs }))

abbrev pub invariant-run_item-loop-turn : goal.invariant-run_item-loop-turn
invariant-run_item-loop-turn l =
    (length l.cells ≡ all_words l.layout)
    × Behind l.bounds l.initial.events.items l.events.items
    × Left l.bounds l.initial.events.items
    (rounds l.turn (λ j k. exec (plain_body l.body) l.layout (with_cells k (set_word l.layout k.cells l.var (pos j)))) (record { cells = l.initial.cells; inputs = l.initial.inputs }))
    l.cells l.inputs l.events.items

abbrev pub invariant-run_item-loop-left : goal.invariant-run_item-loop-left
invariant-run_item-loop-left l =
    (length l.cells ≡ all_words l.layout)
    × Behind l.bounds l.initial.events.items l.events.items
    × Goes l.bounds l.initial.events.items
    (rounds_while l.initial.left (λ k. holds (value (plain_expr l.test) l.layout k.cells)) (exec (plain_body l.body) l.layout) (record { cells = l.initial.cells; inputs = l.initial.inputs }))
    l.events.items (rounds_while l.left (λ k. holds (value (plain_expr l.test) l.layout k.cells)) (exec (plain_body l.body) l.layout) (record { cells = l.cells; inputs = l.inputs }))

abbrev pub decreases-run_item-loop-left : goal.decreases-run_item-loop-left
decreases-run_item-loop-left l = l.left
