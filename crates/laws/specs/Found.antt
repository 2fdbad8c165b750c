-- What a search answers: the definitions say 0 for "none", the code says `None`.
use Rattle.std.specs.Prelude.{◌≡◌, refl, Option, None, Some, ℕ, zero, suc, ◌+◌, ◌<◌}
use Rattle.std.proofs.Common.{arith, add-one}

abbrev pub found : ℕ → Option ℕ
found zero = None
found (suc n) = Some (suc n)

pub found_none : {o : Option ℕ} (n : ℕ) → o ≡ found n → o ≡ None → n ≡ 0
found_none zero p q = refl
found_none (suc n) p q = cc

pub found_some : {o : Option ℕ} {k : ℕ} (n : ℕ) → o ≡ found n → o ≡ Some k → n ≡ k
found_some zero p q = cc
found_some (suc n) p q = cc

pub found_above : {o : Option ℕ} {k : ℕ} (n : ℕ) → o ≡ found n → o ≡ Some k → 0 < n
found_above zero p q = cc
found_above (suc n) p q = omega arith

pub some_found : (k : ℕ) {n : ℕ} → k + 1 ≡ n → Some (k + 1) ≡ found n
some_found k e = rw (← e, add-one k) refl

pub none_found : {n : ℕ} → n ≡ 0 → None ≡ found n
none_found e = rw e refl
