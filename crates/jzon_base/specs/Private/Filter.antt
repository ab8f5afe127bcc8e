-- Bits of few keys: each key sets one of 256 bits, in the four words of a filter, or one of 64, in a word of its own.
use Rattle.std.specs.Prelude.{◌≡◌, ℕ, ◌+◌, ◌-◌, ◌*◌, ◌/◌, ◌%◌, List, length, slice_index}
use Rattle.std.specs.Int.{bit_at}
use Rattle.std.specs.List.{All}

-- the number of a key's bit
unfoldable pub bit_of : List ℕ → ℕ
bit_of k = (length k % 16 * 16 + slice_index k 0 + slice_index k (length k - 1) * 2
    + slice_index k (length k - 2) * 21) % 256

-- the bit of a key is set
abbrev pub HasBit : List ℕ → List ℕ → Type 0
HasBit ws k = bit_at (slice_index ws (bit_of k / 64)) (bit_of k % 64) ≡ 1

-- the bit of each key is set
abbrev pub HaveBits : List (List ℕ) → List ℕ → Type 0
HaveBits ks ws = All (HasBit ws) ks

-- the number of a key's bit in one word
unfoldable pub word_bit_of : List ℕ → ℕ
word_bit_of k = (length k % 4 * 16 + slice_index k 0 + slice_index k (length k - 1) * 2) % 64

-- the bit of a key is set in a word
abbrev pub HasWordBit : ℕ → List ℕ → Type 0
HasWordBit w k = bit_at w (word_bit_of k) ≡ 1
