-- The hash of a key: 64-bit FNV-1a, by Fowler, Noll and Vo.
use Rattle.std.specs.Prelude.{ℕ, ◌*◌, ◌%◌, ◌^◌, List, fold, bit_xor}

-- the hash after one more byte
abbrev pub hash_step : ℕ → ℕ → ℕ
hash_step h byte = bit_xor h byte * 0x100_0000_01b3 % 2 ^ 64

-- the hash of these bytes
unfoldable pub hash_of : List ℕ → ℕ
hash_of bytes = fold hash_step 0xcbf2_9ce4_8422_2325 bytes
