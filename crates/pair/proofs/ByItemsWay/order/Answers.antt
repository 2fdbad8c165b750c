-- From the start to the items: three tokens without choice.
use Rattle.std.proofs.Common.{ap, rules}
use Rattle.reader.specs.Laws.{ready_start}
use Rattle.pair.specs.Moves.{togo}
use Rattle.pair.proofs.ByItemsWay.order.Goals as goal

pub three-requires : goal.three-requires
unfolding togo
three-requires c =
    let s = c.start-cursor.ensures.starts in
    (ready_start _ _ _ _ _ s c.requires (search rules), ap togo s.wanted)
