-- Every device of document 01's table has a good row: one test, computed over the table. Assumes nothing.
use mathlib.Core.Path.{◌≡◌, refl}
use mathlib.Core.Bool.{Bool, true, ◌&&◌, not}
use mathlib.Core.List.{List, [], ◌∷◌}
use mathlib.Core.Logic.{◌↔◌}
use Prim.Native.Nat.{ℕ, zero, suc, ◌+◌, ◌^◌, ◌<◌, ◌≤◌}
use native.Mathlib.Nat.{not-suc-le-zero, le_of_suc-le-suc}
use native.Mathlib.Omega.{arith}
use lib.Dec.{eqb, leb, ltb}
use lib.ListN.{length, get_or, get_or-eq_default}
use borrow.Author.Tests.{ltb-true, ltb-false}
use Rattle.base.specs.Scan.{all_below}
use Rattle.base.proofs.Scan.{all_at}
use Rattle.base.proofs.Tests.{split, tests}
use Rattle.disklayout.specs.declared.Device.{Device}
use Rattle.disklayout.specs.Layout.{node_block_size, indirection_table2_addr, indirection_table_max_length}
use Rattle.disklayout.specs.Blocks.{first_node_addr, node_blocks_end}
use Rattle.disklayout.specs.Device.{Good, devices, device_of, device0}

unfoldable pub good : Device → Bool
good w =
    not (eqb (node_block_size w) 0)
    && leb (indirection_table2_addr w + indirection_table_max_length w) (first_node_addr w)
    && ltb (node_blocks_end w) (2 ^ 64)

pub good_iff : (w : Device) → (good w ≡ true) ↔ Good w
unfolding good
good_iff w =
    ((λ e. let h = simp tests at e in record { sized = h.0.0; past = h.0.1; fits = h.1 }), (λ g. simp tests ((g.sized, g.past), g.fits)))

-- the test over the table
pub table_good : all_below (λ d. good (device_of d)) (length devices) ≡ true
unfolding all_below good device_of devices
table_good = refl

-- within the table the default of a read is idle
get_d_idle : {A : Type 0} (l : List A) (i : ℕ) (y z : A) → i < length l → get_or l i y ≡ get_or l i z
get_d_idle [] i y z h = absurd (not-suc-le-zero h)
get_d_idle (x ∷ xs) zero y z h = refl
get_d_idle (x ∷ xs) (suc i) y z h = get_d_idle xs i y z (le_of_suc-le-suc h)

pub row_within : (d : ℕ) (z : Device) → d < 3 → get_or devices d z ≡ device_of d
unfolding device_of devices
row_within d z h = get_d_idle devices d z device0 h

-- and past the table it is what is read
pub row_past : (d : ℕ) → 3 ≤ d → device_of d ≡ device0
unfolding device_of devices
row_past d h = get_or-eq_default devices device0 h

pub device_good : (d : ℕ) → Good (device_of d)
unfolding device_of devices
device_good d =
    split (ltb d 3) (λ t. known d (ltb-true d 3 t)) (λ f. rw (row_past d (ltb-false d 3 f)) (known 0 (omega arith)))
  where
    known : (d : ℕ) → d < 3 → Good (device_of d)
    known d h = (good_iff (device_of d)).0 (all_at (λ d. good (device_of d)) 3 d table_good h)
