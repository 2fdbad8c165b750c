-- What is known of a day that passed 12 and 13.
use Rattle.std.proofs.Common.{eqb-true}
use Rattle.std.specs.Prelude.{◌≡◌, true, false, ◌&&◌, List, ℕ, ◌≤◌, length, eqb}
use Rattle.std.proofs.lemmas.Bool.{not-false}
use Rattle.rules.specs.Basics.{within, most_boards, most_jobs}
use Rattle.rules.specs.Planning.{bad_boards, bad_lists}
use Rattle.laws.specs.Tests.{and_left, and_right, within_low, within_high}

pub boards_fit : (m : ℕ) → bad_boards m ≡ false → (1 ≤ m) × (m ≤ most_boards)
unfolding bad_boards
boards_fit m e = (within_low 1 most_boards m (not-false _ e), within_high 1 most_boards m (not-false _ e))

pub lists_fit : (works dues : List ℕ) → bad_lists works dues ≡ false →
    (length works ≡ length dues) × ((1 ≤ length works) × (length works ≤ most_jobs))
unfolding bad_lists
lists_fit works dues e =
    let both : (eqb (length works) (length dues) && within 1 most_jobs (length works)) ≡ true = not-false _ e in
    let few : within 1 most_jobs (length works) ≡ true = and_right (eqb (length works) (length dues)) _ both in (
      eqb-true _ _ (and_left _ (within 1 most_jobs (length works)) both),
      (within_low 1 most_jobs (length works) few, within_high 1 most_jobs (length works) few),
    )
