use Rattle.std.proofs.Common.{◌≡◌, ◌≤◌, length, ℕ, slice_index}
use Rattle.tcel_core.specs.Cells.{all_words, place}
use Rattle.tcel_core.proofs.layout.Layout.new.Given as goal

abbrev pub invariant-loop-v : goal.invariant-loop-v
invariant-loop-v l =
    (length l.places ≡ 257)
    × (l.words ≡ place l.vars l.v)
    × ((u : ℕ) → u ≤ l.v → slice_index l.places u ≡ place l.vars u)

abbrev pub invariant-loop-v-2 : goal.invariant-loop-v-2
invariant-loop-v-2 l =
    (length l.places ≡ 257)
    × (l.words ≡ all_words l.vars)
    × ((u : ℕ) → u ≤ l.v → slice_index l.places u ≡ place l.vars u)
