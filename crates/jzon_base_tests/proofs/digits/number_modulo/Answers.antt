use Rattle.std.proofs.Common.{◌∙◌, ◌%◌, ◌^◌, ap, refl, sym}
use Rattle.std.proofs.lemmas.List.Sums.{fold-append}
use Rattle.jzon_base.specs.Digits.{add_digit, digits_number}
use Rattle.jzon_base.proofs.Numbers.DigitScans.{all_scanned}
use Rattle.jzon_base_tests.proofs.digits.number_modulo.Goals as goal

pub returns : goal.returns
returns c =
    let whole = c.args.whole.now in
    let fraction = c.args.fraction.now in
    let first =
    rw (c.scan-before.ensures.count, all_scanned whole c.requires.whole) at (c.scan-before.ensures.number 0 refl) in
    let second =
    rw (c.scan-number.ensures.count, all_scanned fraction c.requires.fraction)
    at (c.scan-number.ensures.number (digits_number whole) first) in
    second ∙ ap (λ n. n % 2 ^ 64) (sym (fold-append add_digit 0 whole fraction))
