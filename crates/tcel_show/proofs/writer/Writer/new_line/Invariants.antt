use Rattle.std.proofs.Common.{◌≡◌, ◌*◌, ◌∷◌, ◌++◌, replicate}
use Rattle.tcel_show.proofs.writer.Writer.new_line.Given as goal

-- a line indented so far
abbrev pub invariant-loop-level : goal.invariant-loop-level
invariant-loop-level l = record {
  text : l.self.text.items ≡ l.fn.self.text.items ++ (10 ∷ replicate (2 * l._level) 32);
  depth : l.self.depth ≡ l.fn.self.depth;
  before : l.self.before ≡ l.fn.self.before;
}
