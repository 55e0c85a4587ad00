use Rattle.std.proofs.Common.{◌≡◌, ◌<◌, ◌≤◌, ◌∷◌, sym, ◌∙◌, arith, refl, ap, length, take, drop, ◌-◌}
use Rattle.std.specs.Prelude.{unwrap_or}
use Rattle.std.proofs.lemmas.List.{length-take}
use Rattle.tcel_script.specs.Lines.{words}
use Rattle.tcel_script.proofs.Cuts.{no_words, next_word_is}
use Rattle.tcel_script.proofs.line.next_word.Goals as goal
use Rattle.tcel_script.proofs.line.next_word.Goals.{After-unwrap_or}

-- the word, cut off where the blank was found
word : (c : After-unwrap_or) → (words c.args.line.now ≡ take c.unwrap_or.result (take (length c.args.line.now - c.in_ok-start.start) (drop c.in_ok-start.start c.args.line.now)) ∷ words (drop c.unwrap_or.result (take (length c.args.line.now - c.in_ok-start.start) (drop c.in_ok-start.start c.args.line.now)))) × (0 < c.unwrap_or.result) × (c.unwrap_or.result ≤ length (take (length c.args.line.now - c.in_ok-start.start) (drop c.in_ok-start.start c.args.line.now)))
word c =
    let line = c.args.line.now in
    let text = take (length line - c.in_ok-start.start) (drop c.in_ok-start.start line) in
    next_word_is line text c.in_ok-start.start c.unwrap_or.result (sym c.word_start.ensures ∙ c.in_ok-start.was) refl (c.unwrap_or.ensures ∙ ap (λ o. unwrap_or o (length text)) c.first_blank.ensures)

pub returns-in_err-start-clause-none : goal.returns-in_err-start-clause-none
returns-in_err-start-clause-none c = rw c.from_residual.ensures (no_words c.args.line.now (sym c.word_start.ensures ∙ c.in_err-start.was))

pub split_at-requires : goal.split_at-requires
split_at-requires c = (word c).2

pub returns-clause-found : goal.returns-clause-found
returns-clause-found c = rw (c.split_at.ensures.front, c.split_at.ensures.back) (word (goal.at.returns-clause-found c).After-unwrap_or).0

pub returns-clause-shorter : goal.returns-clause-shorter
returns-clause-shorter c =
    let cut = word (goal.at.returns-clause-shorter c).After-unwrap_or in
    omega (arith, cut.1, c.split_at.ensures.back_len, length-take (length c.args.line.now - c.in_ok-start.start) (drop c.in_ok-start.start c.args.line.now))
