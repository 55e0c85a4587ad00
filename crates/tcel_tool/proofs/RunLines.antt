-- The lines of a run, tick by tick.
use Rattle.std.proofs.Common.{◌≡◌, ◌<◌, ◌-◌, ℕ, zero, suc, List, ◌++◌, sym, ◌∙◌, ap, subst, Result, Ok, Err, arith}
use Rattle.std.specs.Prelude.{OnErr, option_to_list}
use Rattle.tcel_image.specs.Machine.{entries}
use Rattle.tcel_image.specs.TraceText.{line}
use Rattle.tcel_machine.specs.Run.{Run, after_tick, tick_of}
use Rattle.tcel_tool.specs.Lines.{lines, tick_lines}
use Rattle.std.proofs.lemmas.List.{map-append}

after_one : (run : Run) (left : ℕ) → lines run (suc left) ≡ tick_lines run ++ lines (after_tick run) left
after_one run left = map-append (line run.image) (option_to_list (tick_of run).entry) (entries run.image run.streams left (after_tick run).machine)

-- what holds of the next tick's lines and then those of the ticks behind it
pub line_by_line : (P : List (List ℕ) → Type 0) (run next : Run) (left : ℕ) → 0 < left → next ≡ after_tick run → P (tick_lines run ++ lines next (left - 1)) → P (lines run left)
line_by_line P run next zero some is h = absurd (omega (arith, some))
line_by_line P run next (suc left) some is h =
    let one_less : suc left - 1 ≡ left = omega arith in
    subst P (ap (λ n. tick_lines run ++ lines n (suc left - 1)) is ∙ ap (λ k. tick_lines run ++ lines (after_tick run) k) one_less ∙ sym (after_one run left)) h

-- what holds anyway holds after an error
pub on_err : {T E : Type 0} (r : Result T E) (P : Type 0) → P → OnErr r P
on_err (Ok x) P h = tt
on_err (Err e) P h = h
