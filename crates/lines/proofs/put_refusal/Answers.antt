-- The word, then its two numbers as fields.
use Rattle.std.proofs.Common.{arith, refl, rules}
use Rattle.rules.specs.Listings.{refused_line}
use Rattle.lines.specs.Pages.{puts_then, room_left, page_put}
use Rattle.lines.proofs.put_refusal.Goals as goal

pub fields-requires : goal.fields-requires
fields-requires c = room_left _ (omega arith) c.text.ensures

pub returns : goal.returns
unfolding refused_line
returns c = page_put refl (puts_then (omega arith) c.text.ensures c.fields.ensures) (search rules)
