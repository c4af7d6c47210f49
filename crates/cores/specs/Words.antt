-- Sets of constraints as two numbers.
use Rattle.std.specs.Int.Bits.{bit_or}
use Rattle.calculus.specs.Cores.{Set, Rested, equates, separates, sets_of}
use Rattle.format.specs.Cores.{low, high}
use Rattle.cores.specs.declared.Words.{Words}
use Rattle.cores.specs.declared.Unions.{Unions}

abbrev pub words_of : Set → Words
words_of s = record { low = low s; high = high s }

abbrev pub union_of : Words → Words → Words
union_of a b = record { low = bit_or a.low b.low; high = bit_or a.high b.high }

-- over all ≈ facts of a branch, and over all its ≉ facts
abbrev pub unions_of : Rested → Unions
unions_of r = record { equates = words_of (sets_of equates r); separates = words_of (sets_of separates r) }
