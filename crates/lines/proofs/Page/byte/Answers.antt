-- A list with one element set is the list with that one byte stored.
use Rattle.std.proofs.Common.{arith, refl}
use Rattle.laws.specs.Stores.{put_one}
use Rattle.lines.proofs.Page.byte.Goals as goal

pub returns : goal.returns
returns c =
    record { same_buffer = refl; holds = put_one c.args.self.now.bytes.now c.args.self.now.end c.args.x (omega arith); ends = refl; few = omega arith }
