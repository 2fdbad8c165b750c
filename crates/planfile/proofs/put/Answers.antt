-- The bytes of the number are set at the place.
use Rattle.std.proofs.Common.{arith}
use Rattle.planfile.specs.Stores.{put_number}
use Rattle.planfile.proofs.put.Goals as goal

pub returns : goal.returns
returns g c = put_number c.args.b.now _ _ c.args.at g.row.N c.args.x _ c.requires.short (omega arith) c.to_le_bytes.ensures c.copy_from_slice.ensures.after
