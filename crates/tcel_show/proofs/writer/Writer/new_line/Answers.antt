use Rattle.std.proofs.Common.{◌∙◌, ◌++◌, ◌∷◌, [], ap, List, ℕ}
use Rattle.tcel_show.proofs.Putting.{indent_more}
use Rattle.tcel_show.proofs.writer.Writer.new_line.Goals as goal

pub loop-level-preserved : goal.loop-level-preserved
loop-level-preserved c = record {
  text =
      c.in_ok-extend_from_slice.ensures.items ∙ ap (λ (xs : List ℕ). xs ++ (32 ∷ 32 ∷ [])) c.loop-level.invariant.text
      ∙ indent_more c.args.self.now.text.items c.loop-level._level;
  depth = c.loop-level.invariant.depth;
  before = c.loop-level.invariant.before;
}
