-- What a loop that counts needs. Assumes nothing.
use Prim.Native.Nat.{◌≤◌, ℕ}
use mathlib.Core.Bool.{Bool}
use mathlib.Core.Path.{◌≡◌}
use Rattle.base.proofs.Scan.{at_end, bit_le, count_le}
use Rattle.base.specs.Scan.{count_below}
use Rattle.blocksystem.specs.Audit.{tally}

-- a count is at most the number of places passed, so it fits
pub count_fits : (g : ℕ → Bool) (i : ℕ) {n : ℕ} → n ≡ count_below g i → n ≤ i
count_fits g i e = rw e (count_le g i)

pub tally_fits : (b : Bool) {x : ℕ} → x ≡ tally b → x ≤ 1
unfolding tally
tally_fits b e = rw e (bit_le b)

pub count_end : (g : ℕ → Bool) {i n c : ℕ} → c ≡ count_below g i → i ≤ n → n ≤ i → c ≡ count_below g n
count_end g e u v = at_end (count_below g) e u v
