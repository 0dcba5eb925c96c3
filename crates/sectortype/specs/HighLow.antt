-- A node's contents, two 64-bit numbers: zeros, equality, and the contents of an older node.
use Rattle.std.specs.Prelude.{ℕ, Bool, ◌&&◌, eqb}
use Rattle.sectortype.specs.declared.Contents.{Contents}

abbrev pub zero_contents : Contents
zero_contents = record { high = 0; low = 0 }

unfoldable pub contents_zero : Contents → Bool
contents_zero c = eqb c.high 0 && eqb c.low 0

unfoldable pub same_contents : Contents → Contents → Bool
same_contents a b = eqb a.high b.high && eqb a.low b.low

-- of an older node, whose contents were one number: high 0
abbrev pub carried_contents : ℕ → Contents
carried_contents n = record { high = 0; low = n }
