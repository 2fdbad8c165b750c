-- The text's bytes are copied over a part of the page.
use Rattle.std.proofs.Common.{arith, refl}
use Rattle.lines.specs.Pages.{text_copied}
use Rattle.lines.proofs.Page.text.Goals as goal

pub returns : goal.returns
returns c = record { same_buffer = refl; holds = text_copied _ _ _ _ c.copy_from_slice.ensures.after; ends = refl; few = omega arith }
