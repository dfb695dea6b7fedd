use Rattle.open_links.proofs.Gathered.{place-step}
use Rattle.open_links.proofs.copies.add_all.Goals as goal

pub loop-place-preserved : goal.loop-place-preserved
loop-place-preserved c =
    place-step c.args.requests.now c.args.waiting.now.requests c.loop-place.place c.loop-place.requests _
    c.loop-place.invariant c.in_ok-add_from.ensures
