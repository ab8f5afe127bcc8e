-- How many digits a number in a text may have, and which one is too many (docs/RULES.md, "Numbers").
use Rattle.std.specs.Prelude.{◌≡◌, ◌⊎◌, ℕ, ◌+◌, ◌^◌, ◌≤◌, ◌<◌, List, ◌++◌, length, take}
use Rattle.jzon_base.specs.Digits.{digits_number, kept_len, dropped, kept_fraction}

-- at most 32767 digits before the point are dropped, and at most 32768 after it are kept
abbrev pub AreFewEnough : List ℕ → List ℕ → Type 0
AreFewEnough whole fraction = (dropped whole fraction ≤ 32767) × (kept_fraction whole fraction ≤ 32768)

-- The digit at this position, among those before and after the point, is the first that exceeds a limit: the 32768th
-- that is dropped before the point, or the 32769th that is kept after it.
abbrev pub IsFirstTooMany : List ℕ → List ℕ → ℕ → Type 0
IsFirstTooMany whole fraction i =
    ((32768 ≤ dropped whole fraction) × (i ≡ kept_len (whole ++ fraction) + 32767))
    ⊎ ((32769 ≤ kept_fraction whole fraction) × (i ≡ length whole + 32768))

-- k is the length of the longest prefix of ds that spells a number below 2 ^ 64
pub record IsLongestPrefix (ds : List ℕ) (k : ℕ) : Type 0 where
  pub within : k ≤ length ds
  pub fits : digits_number (take k ds) < 2 ^ 64
  pub longest : (n : ℕ) → k < n → n ≤ length ds → 2 ^ 64 ≤ digits_number (take n ds)

-- of any digits, the kept ones are the longest prefix that spells a number below 2 ^ 64
abbrev pub KeepsLongestPrefix : Type 0
KeepsLongestPrefix = (ds : List ℕ) → IsLongestPrefix ds (kept_len ds)
