-- A place, by the two numbers that C hands over for it.
use Rattle.std.specs.Prelude.{ℕ}
use Rattle.disklayout.specs.declared.Location.{Location}

abbrev pub at : ℕ → ℕ → Location
at addr len = record { addr = addr; len = len }
