-- The digits of a numeral, as fast_float and as jzon say it.
use Rattle.std.proofs.Common.{ℕ, List, subst}
use Rattle.std.specs.Str.Parse.{AllDigits}
use Rattle.std.specs.List.{All}
use Rattle.std.proofs.lemmas.List.{get_or_default}
use Rattle.std.proofs.lemmas.Str.Parse.{digit_at}
use Rattle.jzon_base.specs.Digits.{IsDigit}

pub all_digits : (ds : List ℕ) → AllDigits 10 ds → All IsDigit ds
all_digits ds h i d below = subst (λ c. IsDigit c) (get_or_default ds i 0 d below) (digit_at ds i h below)
