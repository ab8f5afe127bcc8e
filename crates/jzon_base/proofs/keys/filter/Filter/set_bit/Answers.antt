use Rattle.jzon_base.proofs.Common.{◌≡◌, ◌/◌, ◌%◌, get_or, length, rules, arith, subst}
use Rattle.std.specs.Int.{bit_at}
use Rattle.jzon_base.specs.Private.Filter.{bit_of}
use Rattle.jzon_base.proofs.KeyIndex.Filters.{with_bit, bit_same, bit_kept}
use Rattle.jzon_base.proofs.keys.filter.Filter.set_bit.Goals as goal

pub returns-clause-own : goal.returns-clause-own
returns-clause-own c =
    let ws = c.args.self.now.words in
    let n = c.bit_of-bit.result in
    let four : length ws ≡ 4 = search rules in
    subst (λ m. bit_at (get_or (with_bit ws (n / 64) (n % 64)) (m / 64) 0) (m % 64) ≡ 1) c.bit_of-bit.ensures.bit
    (bit_same ws (n / 64) (n % 64) (omega (arith, four, c.bit_of-bit.ensures.within)) (omega arith))

pub returns-clause-kept : goal.returns-clause-kept
returns-clause-kept c = λ k has.
    let ws = c.args.self.now.words in
    let n = c.bit_of-bit.result in
    let four : length ws ≡ 4 = search rules in
    bit_kept ws (n / 64) (n % 64) (omega (arith, four, c.bit_of-bit.ensures.within)) (omega arith)
    (bit_of k / 64) (bit_of k % 64) has
