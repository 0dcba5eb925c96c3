-- The marks of the 128 node blocks (document 02, Q-1).
use Rattle.std.specs.Prelude.{◌+◌, ◌-◌, ℕ, Bool, ◌&&◌, cond, eqb, ltb}
use Rattle.base.specs.Bits.{digit_at, word_of}
use Rattle.blockcache.specs.Scan.{held_in}
use Rattle.blockcache.specs.declared.Blocks.{Blocks}
use Rattle.blockcache.specs.declared.Marks.{Marks}
use Rattle.blockcache.specs.declared.Tables.{Tables}
use Rattle.disklayout.specs.Blocks.{node_block_addr}
use Rattle.disklayout.specs.Device.{device_of}
use Rattle.queue.specs.declared.Requests.{Requests}

-- block b is marked: a location in the persistent, ephemeral or frozen table, or an outstanding write, has its address
unfoldable pub is_marked : ℕ → Tables → Requests → ℕ → Bool
is_marked d ts writes b = held_in ts writes (node_block_addr (device_of d) b)

-- a test of the 128 blocks as two words: bit k of the low one is block k's, of the high one block 64 + k's
abbrev pub marks_where : (ℕ → Bool) → Marks
marks_where test = record { low = word_of test 64; high = word_of (λ k. test (64 + k)) 64 }

-- the mark of block b in them
abbrev pub mark_at : Marks → ℕ → Bool
mark_at m b = cond (ltb b 64) (digit_at m.low b) (digit_at m.high (b - 64))

-- the marks that belong to tables and outstanding writes
unfoldable pub marks_of : ℕ → Tables → Requests → Marks
marks_of d ts writes = marks_where (is_marked d ts writes)

abbrev pub same_marks : Marks → Marks → Bool
same_marks a b = eqb a.low b.low && eqb a.high b.high

abbrev pub no_marks : Marks
no_marks = record { low = 0; high = 0 }

-- no block marked, and none given
abbrev pub no_blocks : Blocks
no_blocks = record { marks = no_marks; last = 0 }

abbrev pub blocks_zero : Blocks → Bool
blocks_zero b = same_marks b.marks no_marks && eqb b.last 0
