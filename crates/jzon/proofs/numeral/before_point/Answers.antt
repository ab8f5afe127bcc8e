use Rattle.jzon_base.proofs.Common.{◌≡◌, ℕ, ◌+◌, ◌-◌, ◌*◌, ◌<◌, ◌^◌, List, length, suc, drop, take, get_or, arith, sym}
use Rattle.jzon_base.proofs.Common.{rules, drop-cons, mod-eq_of_lt, add-one}
use Rattle.jzon_base.specs.Digits.{digits_number}
use Rattle.jzon.proofs.numeral.before_point.Goals as goal

two_digits : (bs : List ℕ) (i : ℕ) → i + 1 < length bs
    → digits_number (take 2 (drop i bs)) ≡ (get_or bs i 0 - 48) * 10 + (get_or bs (i + 1) 0 - 48)
two_digits bs i within = rw (drop-cons bs i 0 (omega (arith, within)), drop-cons bs (suc i) 0 (omega (arith, within)))
    (rw (add-one i) (omega arith))

pub returns-then-is_ascii_digit-clause-number : goal.returns-then-is_ascii_digit-clause-number
returns-then-is_ascii_digit-clause-number c =
    let bs = c.as_bytes-bytes.result.now in
    let i = c.args.start in
    let size : i + 2 - i ≡ 2 = omega arith in
    let within : i + 1 < length bs = search rules in
    let small : (get_or bs i 0 - 48) * 10 + (get_or bs (i + 1) 0 - 48) < 2 ^ 64 = search rules in
    rw (size, two_digits bs i within, c.from-tens.ensures, c.from-then-is_ascii_digit.ensures) (sym (mod-eq_of_lt small))
