use Rattle.jzon_base.proofs.Numbers.DigitPrefixes.{kept_len_is_longest}
use Rattle.jzon_base.proofs.digits.keeps_longest_prefix.Goals as goal

pub returns : goal.returns
returns c = kept_len_is_longest
