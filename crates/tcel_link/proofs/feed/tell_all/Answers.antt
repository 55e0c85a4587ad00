use Rattle.std.proofs.Common.{◌≡◌, ◌<◌, length, map, ap, sym, ◌∙◌, subst, arith}
use Rattle.std.proofs.lemmas.List.{length-map}
use Rattle.tcel_link.specs.declared.feed.Feed.{Feed}
use Rattle.tcel_link.specs.Feeds.{carried, ended, heard, told}
use Rattle.tcel_link.proofs.Halves.{half_all, half_more}
use Rattle.tcel_link.proofs.feed.tell_all.Goals as goal

pub loop-feed-preserved : goal.loop-feed-preserved
loop-feed-preserved c =
    let links = map carried c.args.feeds.now in
    let i = c.loop-feed.feed-index in
    let x = c.feed-item.result in
    let events = c.args.events.now in
    let f = ended c.args.number c.args.time c.args.due events in
    let within : i < length c.loop-feed.feeds = omega (arith, c.loop-feed-test.true, c.loop-feed.auto.feeds) in
    let before = subst (λ (y : Feed). carried c.hear.new.self ≡ heard c.args.number events (carried y)) (sym c.feed-item.is) c.in_ok-hear.ensures in
    let changed = c.in_ok-tell.ensures ∙ ap (told c.args.number c.args.time c.args.due events) before in
    half_more carried f i links c.loop-feed.feeds x c.tell.new.self c.loop-feed.invariant within c.feed-item.is changed

pub returns : goal.returns
returns c =
    c.loop-feed.invariant ∙ half_all (ended c.args.number c.args.time c.args.due c.args.events.now) c.loop-feed.feed-index (map carried c.args.feeds.now)
    (omega (arith, c.loop-feed-test.false, length-map c.args.feeds.now carried))
