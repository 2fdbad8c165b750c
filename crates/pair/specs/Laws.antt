-- Laws of the moves from place to place, for the proofs to cite.
use Rattle.std.specs.Prelude.{◌≡◌, refl, Option, Some, None, Ok, ◌⊎◌, ℕ, suc, ◌+◌, ◌-◌, ◌≤◌, ◌<◌}
use Rattle.std.proofs.Common.{ap, subst, ◌∙◌, inl, inr, arith}
use Rattle.rules.specs.declared.Wanted.{Wanted}
use Rattle.rules.specs.declared.Wanted.TheVariants.{OrderOpen, OrderWord, Boards, ItemOrClose, ItemWord, GroupDue, JobWork, JobDue, JobClose, Finish}
use Rattle.grammar.specs.declared.Cursor.{Cursor}
use Rattle.grammar.specs.declared.Order.{Order}
use Rattle.reader.specs.Ways.{Closes, Moved, Onward, Steps}
use Rattle.pair.specs.Moves.{togo}

-- ---- three tokens without choice
pub togo_step : (w w' : Wanted) (l k n : ℕ) → togo w ≡ suc n → n < 3 → Moved w l w' k → (togo w' ≡ n) × (k ≡ l)
unfolding togo
togo_step OrderOpen w' l k n e h m = (ap togo m.0 ∙ omega arith, m.1)
togo_step OrderWord w' l k n e h m = (ap togo m.0 ∙ omega arith, m.1)
togo_step Boards w' l k n e h m = (ap togo m.0 ∙ omega arith, m.1)
togo_step ItemOrClose w' l k n e h m = absurd (omega arith)
togo_step ItemWord w' l k n e h m = absurd (omega arith)
togo_step GroupDue w' l k n e h m = absurd (omega arith)
togo_step JobWork w' l k n e h m = (ap togo m.0 ∙ omega arith, m.1)
togo_step JobDue w' l k n e h m = (ap togo m.0 ∙ omega arith, m.1)
togo_step JobClose w' l k n e h m = (ap togo m.0 ∙ omega arith, m.1)
togo_step Finish w' l k n e h m = absurd (omega arith)

pub togo_none : (w : Wanted) → togo w ≡ 0 → w ≡ ItemOrClose
unfolding togo
togo_none OrderOpen e = absurd (omega arith)
togo_none OrderWord e = absurd (omega arith)
togo_none Boards e = absurd (omega arith)
togo_none ItemOrClose e = refl
togo_none ItemWord e = absurd (omega arith)
togo_none GroupDue e = absurd (omega arith)
togo_none JobWork e = absurd (omega arith)
togo_none JobDue e = absurd (omega arith)
togo_none JobClose e = absurd (omega arith)
togo_none Finish e = absurd (omega arith)

-- ---- an item
pub at_word : (w w' : Wanted) (l k : ℕ) → w ≡ ItemWord → Moved w l w' k → ((w' ≡ GroupDue) × (k ≡ l) × (l < 32)) ⊎ ((w' ≡ JobWork) × (k ≡ l))
at_word w w' l k e m = subst (λ (x : Wanted). Moved x l w' k) e m

pub at_group : (w w' : Wanted) (l k : ℕ) → w ≡ GroupDue → Moved w l w' k → (w' ≡ ItemOrClose) × (k ≡ l + 1)
at_group w w' l k e m = subst (λ (x : Wanted). Moved x l w' k) e m

pub at_item : (w w' : Wanted) (l k : ℕ) → w ≡ ItemOrClose → Moved w l w' k → ((w' ≡ ItemWord) × (k ≡ l)) ⊎ Closes l w' k
at_item w w' l k e m = subst (λ (x : Wanted). Moved x l w' k) e m

pub is_group : (w w' : Wanted) (l k : ℕ) → w ≡ ItemWord → w' ≡ GroupDue → Moved w l w' k → (k ≡ l) × (l < 32)
is_group w w' l k e g m =
    elim (at_word w w' l k e m) [
      | inl h ↦ (h.1, h.2)
      | inr h ↦ absurd (let z : ◌≡◌ {A = ℕ} 0 1 = cc (g, h.0) in omega arith)
    ]

pub is_job : (w w' : Wanted) (l k : ℕ) → w ≡ ItemWord → (w' ≡ GroupDue → ⊥) → Moved w l w' k → (togo w' ≡ 3) × (k ≡ l)
unfolding togo
is_job w w' l k e n m = elim (at_word w w' l k e m) [ inl h ↦ absurd (n h.0) | inr h ↦ (ap togo h.0, h.1) ]

pub is_item : (w w' : Wanted) (l k : ℕ) → w ≡ ItemOrClose → w' ≡ ItemWord → Moved w l w' k → k ≡ l
is_item w w' l k e g m =
    elim (at_item w w' l k e m) [
      | inl h ↦ h.1
      | inr h ↦ elim h [
        | inl z ↦ absurd (let q : ◌≡◌ {A = ℕ} 0 1 = cc (g, z.1) in omega arith)
        | inr z ↦ absurd (let q : ◌≡◌ {A = ℕ} 0 1 = cc (g, z.1) in omega arith)
      ]
    ]

pub is_close : (w w' : Wanted) (l k : ℕ) → w ≡ ItemOrClose → (w' ≡ ItemWord → ⊥) → Moved w l w' k → Closes l w' k
is_close w w' l k e n m = elim (at_item w w' l k e m) [ inl h ↦ absurd (n h.0) | inr h ↦ h ]

-- behind the closing bracket of a group
pub group_left : (l k : ℕ) (w : Wanted) (outer : ℕ) → l ≡ outer + 1 → Closes l w k → (w ≡ ItemOrClose) × (k ≡ outer)
group_left l k w outer e (inl z) = absurd (omega (arith, z.0))
group_left l k w outer e (inr z) = (z.1, omega (arith, z.0))

pub togo_less : (a b : Cursor) (left : ℕ) → togo a.state.wanted ≡ left → 0 < left → left ≤ 3 → Moved a.state.wanted a.state.level b.state.wanted b.state.level → (togo b.state.wanted ≡ left - 1) × (b.state.level ≡ a.state.level)
togo_less a b left e h k m = togo_step a.state.wanted b.state.wanted a.state.level b.state.level (left - 1) (e ∙ omega arith) (omega arith) m

-- behind the order's closing bracket no token goes on
pub order_left : (l k : ℕ) (w : Wanted) → l ≡ 0 → Closes l w k → w ≡ Finish
order_left l k w e (inl z) = z.1
order_left l k w e (inr z) = absurd (omega (arith, z.0))

pub nowhere : (w w' : Wanted) (l k : ℕ) → w ≡ Finish → Moved w l w' k → ⊥
nowhere w w' l k e m = subst (λ (x : Wanted). Moved x l w' k) e m

-- ---- one token where the end is not wanted
pub goes_on : (s : Cursor) (o : Option Order) (s' : Cursor) → (s.state.wanted ≡ Finish → ⊥) → Steps s (Ok o) s' → Onward (λ x. Moved s.state.wanted s.state.level x.state.wanted x.state.level) s s'
goes_on s None s' n t = t
goes_on s (Some order) s' n t = absurd (n t.1)

pub not_finish : (w : Wanted) (n : ℕ) → togo w ≡ n → n ≤ 3 → w ≡ Finish → ⊥
unfolding togo
not_finish w n e h q = let z : togo w ≡ togo Finish = ap togo q in absurd (omega arith)

pub not_finish_word : (w : Wanted) → w ≡ ItemWord → w ≡ Finish → ⊥
not_finish_word w e q = cc (e, q)
