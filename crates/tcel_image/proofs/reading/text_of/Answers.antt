use Rattle.std.proofs.Common.{◌≡◌, ◌∙◌, ◌≤◌, length, take, arith, ap}
use Rattle.std.proofs.lemmas.Bool.{false≢true}
use Rattle.tcel_image.specs.Reading.{name_front}
use Rattle.tcel_image.proofs.NameFields.{reserved_word}
use Rattle.tcel_image.proofs.reading.text_of.Goals as goal

pub returns-in-None : goal.returns-in-None
returns-in-None c =
    let count : c.from-count.result ≡ c.args.count = c.from-count.ensures in
    let long : c.args.count ≤ length c.args.bytes.now = omega arith in
    let word_long : c.args.count ≤ name_front c.split_at.result.0.now = omega arith in
    reserved_word c.args.count c.requires c.args.bytes.now c.split_at.result.0.now long
    (c.split_at.ensures.front ∙ ap (λ n. take n c.args.bytes.now) count) word_long
    (λ name. false≢true (c.in-None.ensures.valid.1 name))
