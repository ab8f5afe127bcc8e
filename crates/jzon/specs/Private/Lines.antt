-- A test of bytes that is made of many at once, to count the newlines and the characters of a text.
use Rattle.std.specs.Prelude.{ℕ, Bool, nat_lt}
use Rattle.std.specs.Int.Bits.{bit_xor}

-- the byte, some of its bits turned, is below a bound
abbrev pub is_below : ℕ → ℕ → ℕ → Bool
is_below turn bound byte = nat_lt (bit_xor byte turn) bound
