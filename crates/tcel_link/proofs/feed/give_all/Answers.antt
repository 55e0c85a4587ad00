use Rattle.std.proofs.Common.{◌≡◌, ◌<◌, length, map, ap, sym, ◌∙◌, subst, arith}
use Rattle.std.proofs.lemmas.List.{length-map}
use Rattle.std.proofs.lemmas.List.Elements.{All-get_or}
use Rattle.tcel_link.specs.declared.feed.Feed.{Feed}
use Rattle.tcel_link.specs.Feeds.{LeadsWithin, begun, carried, given}
use Rattle.tcel_link.proofs.Halves.{half_all, half_more, viewed}
use Rattle.tcel_link.proofs.Steps.{given_next, length-given}
use Rattle.tcel_link.proofs.feed.give_all.Goals as goal

pub give-requires : goal.give-requires
give-requires c =
    let links = map carried c.args.feeds.now in
    let i = c.loop-feed.feed-index in
    let x = c.feed-item.result in
    let many = length (c.args.inputs.now) in
    let within : i < length c.loop-feed.feeds = omega (arith, c.loop-feed-test.true, c.loop-feed.auto.feeds) in
    let there : i < length links = omega (arith, c.loop-feed-test.true, length-map c.args.feeds.now carried) in
    let is = viewed carried (begun c.args.number c.args.time) i links c.loop-feed.feeds x c.loop-feed.invariant.feeds within c.feed-item.is in
    let here = subst (LeadsWithin c.args.number many) (sym is) (All-get_or (LeadsWithin c.args.number many) links i (carried x) there c.requires) in
    subst (λ (y : Feed). y.link.to ≡ c.args.number → y.link.input < length c.loop-feed.inputs) c.feed-item.is (λ to. omega (arith, here to, c.loop-feed.invariant.counted))

pub loop-feed-preserved : goal.loop-feed-preserved
loop-feed-preserved c =
    let links = map carried c.args.feeds.now in
    let i = c.loop-feed.feed-index in
    let x = c.feed-item.result in
    let f = begun c.args.number c.args.time in
    let within : i < length c.loop-feed.feeds = omega (arith, c.loop-feed-test.true, c.loop-feed.auto.feeds) in
    let there : i < length links = omega (arith, c.loop-feed-test.true, length-map c.args.feeds.now carried) in
    let is = viewed carried f i links c.loop-feed.feeds x c.loop-feed.invariant.feeds within c.feed-item.is in
    let changed = subst (λ (y : Feed). carried c.give.new.self ≡ f (carried y)) (sym c.feed-item.is) c.in_ok-give.ensures.feed in
    let gave = subst (λ (y : Feed). c.give.new.inputs ≡ given c.args.number c.args.time (carried y) c.loop-feed.inputs) (sym c.feed-item.is) c.in_ok-give.ensures.inputs in
    record {
      feeds = half_more carried f i links c.loop-feed.feeds x c.give.new.self c.loop-feed.invariant.feeds within c.feed-item.is changed;
      inputs = given_next c.args.number c.args.time i links (carried x) c.loop-feed.inputs c.give.new.inputs _ there is gave c.loop-feed.invariant.inputs;
      counted = ap length gave ∙ length-given c.args.number c.args.time (carried x) c.loop-feed.inputs ∙ c.loop-feed.invariant.counted;
    }

pub returns-clause-feeds : goal.returns-clause-feeds
returns-clause-feeds c =
    c.loop-feed.invariant.feeds ∙ half_all (begun c.args.number c.args.time) c.loop-feed.feed-index (map carried c.args.feeds.now) (omega (arith, c.loop-feed-test.false, length-map c.args.feeds.now carried))
