use Rattle.jzon_base.proofs.Common.{◌≡◌, take, fold, arith, ℕ, ◌+◌, ◌*◌, ◌-◌, ◌∙◌, ap, sym, get_or, ◌∷◌, [], fold-append}
use Rattle.std.proofs.lemmas.List.{take_more}
use Rattle.std.proofs.lemmas.Grind.{common_steps}
use Rattle.jzon_base.specs.Digits.{add_digit}
use Rattle.jzon_base.proofs.Numbers.DigitPrefixes.{scan_of_digits}
use Rattle.jzon_base.proofs.digits.longest_prefix.Goals as goal

pub loop-i-init : goal.loop-i-init
loop-i-init c =
    let number : c.scan-number.result.1 ≡ fold add_digit c.args.before (take c.args.sure c.args.digits.now) =
    scan_of_digits c.args.digits.now c.args.sure c.args.before c.scan-number.result.0 c.scan-number.result.1
    c.requires.digits c.requires.within c.ranges.before.fits c.requires.sure c.scan-number.ensures.count
    c.scan-number.ensures.number in
    (number, rw number c.requires.sure)

pub returns-in-None-clause-longest : goal.returns-in-None-clause-longest
returns-in-None-clause-longest c within =
    let ds = c.args.digits.now in
    let i : ℕ = c.loop-i.i-counter in
    let e : fold add_digit c.args.before (take (i + 1) ds) ≡ c.loop-i.number * 10 + (get_or ds i 0 - 48) =
    ap (fold add_digit c.args.before) (take_more ds i 0 within)
    ∙ fold-append add_digit c.args.before (take i ds) (get_or ds i 0 ∷ [])
    ∙ ap (λ v. v * 10 + (get_or ds i 0 - 48)) (sym c.loop-i.invariant.0) in
    rw e (grind (arith, common_steps))
