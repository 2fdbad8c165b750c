-- What the methods of a page say: which bytes are put at its end.
use borrow.Rule.Slice.PartMut.{put_mid, post_of}
use Rattle.std.specs.Prelude.{◌≡◌, refl, List, [], ◌++◌, ℕ, ◌+◌, ◌-◌, ◌≤◌, length, take, drop}
use Rattle.std.proofs.Common.{ap, ◌∙◌, arith, length-append, drop-drop}
use Rattle.std.proofs.Math.Nat.{add-sub_cancel_left}
use Rattle.laws.specs.Stores.{stored, stored_none, behind, length-stored}
use Rattle.lines.specs.declared.Page.{Page}
use Rattle.lines.specs.Digits.{Put}

-- so many bytes have room behind the page's end
abbrev pub Room : Page → ℕ → Type 0
Room p n = p.end + n ≤ length p.bytes.now

-- These bytes, at most `most`, were put at the end of the page p, which then is q.
pub record Puts (p q : Page) (v : List ℕ) (most : ℕ) : Type 0 where
  pub same_buffer : q.bytes.ghost_name ≡ p.bytes.ghost_name
  pub holds : q.bytes.now ≡ stored p.bytes.now p.end v
  pub ends : q.end ≡ p.end + length v
  pub few : length v ≤ most

pub nothing_put : (p : Page) → Puts p p [] 0
nothing_put p =
    record { same_buffer = refl; holds = stored_none p.bytes.now p.end; ends = omega arith; few = omega arith }

pub at_most : {p q : Page} {v : List ℕ} {m : ℕ} (k : ℕ) → m ≤ k → Puts p q v m → Puts p q v k
at_most k h a = record { same_buffer = a.same_buffer; holds = a.holds; ends = a.ends; few = omega (arith, a.few) }

pub puts_length : {p q : Page} {v : List ℕ} {m : ℕ} → Room p m → Puts p q v m →
    length q.bytes.now ≡ length p.bytes.now
puts_length {p} {q} {v} h a = ap length a.holds ∙ length-stored p.bytes.now p.end v (omega (arith, a.few))

-- what room is left
pub room_left : {p q : Page} {v : List ℕ} {m : ℕ} (k : ℕ) → Room p (m + k) → Puts p q v m → Room q k
room_left k h a = omega (arith, puts_length (omega arith) a, a.ends, a.few)

-- what is put behind what was put
pub puts_then : {p q r : Page} {v w : List ℕ} {m k : ℕ} → Room p (m + k) → Puts p q v m → Puts q r w k →
    Puts p r (v ++ w) (m + k)
puts_then {p} {q} {r} {v} {w} h a b =
    record {
      same_buffer = b.same_buffer ∙ a.same_buffer;
      holds = behind p.bytes.now q.bytes.now r.bytes.now p.end q.end v w a.holds b.holds a.ends (omega (arith, a.few, b.few));
      ends = omega (arith, a.ends, b.ends, length-append v w);
      few = omega (arith, a.few, b.few, length-append v w);
    }

-- a page that was filled from its start, and the buffer that it lent
pub page_put : {p q : Page} {v b : List ℕ} {m : ℕ} → p.end ≡ 0 → Puts p q v m → b ≡ q.bytes.now → Put p.bytes.now 0 v b q.end
page_put {p} {q} {v} e a f =
    record { holds = f ∙ a.holds ∙ ap (λ (at : ℕ). stored p.bytes.now at v) e; ends = a.ends ∙ ap (λ (at : ℕ). at + length v) e }

-- a text copied over a part of the page
pub text_copied : (b : List ℕ) (at : ℕ) (w part : List ℕ) → part ≡ w → put_mid at (at + length w - at) b part ≡ stored b at w
unfolding stored
text_copied b at w part e =
    ap (λ (v : List ℕ). take at b ++ (v ++ post_of at (at + length w - at) b)) e
    ∙ ap (λ (k : ℕ). take at b ++ (w ++ drop k (drop at b))) (add-sub_cancel_left at (length w))
    ∙ ap (λ (t : List ℕ). take at b ++ (w ++ t)) (drop-drop (length w) at b)
