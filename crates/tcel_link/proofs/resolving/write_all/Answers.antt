use Rattle.std.proofs.Common.{◌≡◌, ◌<◌, length, map, get_or, ap, sym, ◌∙◌, arith}
use Rattle.std.proofs.lemmas.List.{get_or-map, length-map}
use Rattle.std.specs.Prelude.{ℤ, List}
use Rattle.tcel_link.specs.Feeds.{carried}
use Rattle.tcel_link.proofs.Steps.{leads_among, placed, shape_kept, written_next}
use Rattle.tcel_script.specs.Script.{with_stream}
use Rattle.tcel_link.proofs.resolving.write_all.Goals as goal

pub set-requires-clause-task : goal.set-requires-clause-task
set-requires-clause-task c =
    (leads_among c.loop-feed.script (map (λ (row : List (List ℤ)). length row) c.args.script.now) (carried c.feed-item.result) c.loop-feed.invariant.shape
    (placed c.args.feeds.now c.loop-feed.feed-index c.feed-item.result _ c.loop-feed-test.true c.feed-item.is c.requires)).0

pub set-requires-clause-port : goal.set-requires-clause-port
set-requires-clause-port c =
    (leads_among c.loop-feed.script (map (λ (row : List (List ℤ)). length row) c.args.script.now) (carried c.feed-item.result) c.loop-feed.invariant.shape
    (placed c.args.feeds.now c.loop-feed.feed-index c.feed-item.result _ c.loop-feed-test.true c.feed-item.is c.requires)).1

pub loop-feed-preserved : goal.loop-feed-preserved
loop-feed-preserved c =
    let x = c.feed-item.result in
    let cs = map carried c.args.feeds.now in
    let i = c.loop-feed.feed-index in
    let there : i < length cs = omega (arith, c.loop-feed-test.true, length-map c.args.feeds.now carried) in
    let is : carried x ≡ get_or cs i (carried x) = ap carried c.feed-item.is ∙ sym (get_or-map carried c.args.feeds.now i x (carried x) c.loop-feed-test.true) in
    let wrote = c.in_ok-set.ensures.ok ∙ ap (λ values. with_stream c.loop-feed.script x.link.to x.link.input values) c.as_slice.ensures.value in
    record {
      script = written_next i cs (carried x) c.loop-feed.script c.set.new.self _ there is wrote c.loop-feed.invariant.script;
      shape = ap (map (λ (row : List (List ℤ)). length row)) wrote ∙ shape_kept c.loop-feed.script x.link.to x.link.input x.received.items ∙ c.loop-feed.invariant.shape;
    }
