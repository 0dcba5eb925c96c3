-- The two words of marks as the code makes and reads them. What they are for is said in `blockcache`: the marks that belong to tables and outstanding
-- writes (`marks_of`), and the chooser.
use Rattle.std.specs.Prelude.{◌-◌, ◌^◌, ℕ, Bool, ◌&&◌, cond, not, leb, ltb}
use Rattle.std.proofs.Math.Option.{Option, none, some}
use Rattle.std.specs.Prelude as code
use Rattle.std.specs.Int.Bits.{bit_or}
use Rattle.base.specs.Scan.{some_below}
use Rattle.blockcache.specs.Chooser.{next_fit}
use Rattle.blockcache.specs.Marks.{mark_at, marks_of, marks_where, no_marks}
use Rattle.blockcache.specs.declared.Marks.{Marks}
use Rattle.blockcache.specs.declared.Tables.{Tables}
use Rattle.disklayout.specs.Blocks.{node_block_addr, node_block_of}
use Rattle.disklayout.specs.Device.{device_of, made}
use Rattle.queue.specs.Queue.{has_addr}
use Rattle.queue.specs.declared.Requests.{Requests}
use Rattle.sectortype.specs.Graph.{holds_addr}
use Rattle.sectortype.specs.declared.Table.{Table}

-- THE MARKS MADE

-- bit k set
unfoldable pub with_mark : Marks → ℕ → Marks
with_mark m k =
    cond (ltb k 64) (record { low = bit_or m.low (2 ^ k); high = m.high })
    (cond (ltb k 128) (record { low = m.low; high = bit_or m.high (2 ^ (k - 64)) }) m)

abbrev pub with_found : Marks → Option ℕ → Marks
with_found m none = m
with_found m (some k) = with_mark m k

-- the bit set of the block that has the address; on a device that is not made no block has it
unfoldable pub with_addr : ℕ → Marks → ℕ → Marks
with_addr d m a = cond (made d) (with_found m (node_block_of (device_of d) a)) m

abbrev pub union_marks : Marks → Marks → Marks
union_marks a b = record { low = bit_or a.low b.low; high = bit_or a.high b.high }

-- on a device that is not made nothing is marked
abbrev pub on_device : ℕ → Marks → Marks
on_device d m = cond (made d) m no_marks

abbrev pub table_marks : ℕ → Table → Marks
table_marks d t = on_device d (marks_where (λ b. holds_addr t (node_block_addr (device_of d) b)))

abbrev pub writes_marks : ℕ → Requests → Marks
writes_marks d q = on_device d (marks_where (λ b. has_addr q (node_block_addr (device_of d) b)))

abbrev pub marks_on : ℕ → Tables → Requests → Marks
marks_on d ts q = on_device d (marks_of d ts q)

-- THE MARKS READ

abbrev pub is_free_in : Marks → ℕ → Bool
is_free_in m b = not (mark_at m b)

-- a number below n, and else none
abbrev pub if_below : ℕ → ℕ → code.Option ℕ
if_below n k = cond (ltb k n) (code.Some k) code.None

-- the first free block after the one given last, going round; 128 where there is none, or no such block was given
unfoldable pub next_free : Marks → ℕ → ℕ
next_free m last = cond (leb last 127 && some_below (is_free_in m) 128) (next_fit (is_free_in m) last) 128
