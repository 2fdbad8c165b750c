-- The two buffers are as long as what they are lent to asks. Written, since a search for a length that is wrong gives up only
-- after a minute.
use Rattle.std.proofs.Common.{refl}
use Rattle.planlist.proofs.main.Goals as goal

pub read_full-length-requires : goal.read_full-length-requires
read_full-length-requires c = refl

pub list-end-requires : goal.list-end-requires
list-end-requires c = refl
