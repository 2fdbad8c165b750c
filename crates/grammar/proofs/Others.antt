-- What is left of a wanted thing where a last arm stands for the other cases.
use Rattle.std.proofs.Common.{◌≡◌, refl, ℕ}
use Rattle.rules.specs.declared.Wanted.{Wanted}
use Rattle.rules.specs.declared.Wanted.TheVariants.{OrderOpen, OrderWord, Boards, ItemOrClose, ItemWord, GroupDue, JobWork, JobDue, JobClose, Finish}
use Rattle.rules.specs.Orders.{Reading}
use Rattle.grammar.specs.Turns.{taken}

-- where no number is wanted none is taken
pub no_take : (w : Wanted) → (w ≡ Boards → ⊥) → (w ≡ GroupDue → ⊥) → (w ≡ JobWork → ⊥) → (w ≡ JobDue → ⊥) → (r : Reading) (n : ℕ) → taken w r n ≡ r
unfolding taken
no_take OrderOpen b g j d r n = refl
no_take OrderWord b g j d r n = refl
no_take Boards b g j d r n = absurd (b refl)
no_take ItemOrClose b g j d r n = refl
no_take ItemWord b g j d r n = refl
no_take GroupDue b g j d r n = absurd (g refl)
no_take JobWork b g j d r n = absurd (j refl)
no_take JobDue b g j d r n = absurd (d refl)
no_take JobClose b g j d r n = refl
no_take Finish b g j d r n = refl
