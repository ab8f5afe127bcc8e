use Rattle.jzon_base.proofs.Common.{◌≡◌, ◌+◌, ◌∙◌, ◌++◌, take, length, arith, ap, sym}
use Rattle.jzon_base.proofs.Common.{take-append-le, take_all, All-take, length-take, cases_lt, inl, inr}
use Rattle.jzon_base.specs.Digits.{IsDigit, digits_number, kept_len}
use Rattle.jzon_base.proofs.Numbers.DigitPrefixes.{few_fit, few_after, kept_len-within_whole, kept_len-past_whole, digits_number-take-append}
use Rattle.jzon_base.proofs.digits.kept_prefix.Goals as goal

pub longest_prefix-number-requires-clause-sure : goal.longest_prefix-number-requires-clause-sure
longest_prefix-number-requires-clause-sure c =
    few_fit (take c.min-sure.result c.args.whole.now)
    (All-take IsDigit c.min-sure.result c.args.whole.now c.requires.whole)
    (omega (arith, length-take c.min-sure.result c.args.whole.now, c.min-sure.ensures))

pub longest_prefix-number-requires-2-clause-sure : goal.longest_prefix-number-requires-2-clause-sure
longest_prefix-number-requires-2-clause-sure c =
    let first = c.longest_prefix-number.ensures in
    let all : take c.longest_prefix-number.result.1 c.args.whole.now
    ≡ c.args.whole.now = take_all _ _ (c.if-count-whole.false) in
    let value : c.longest_prefix-number.result.0 ≡ digits_number c.args.whole.now = first.number
    ∙ ap digits_number all in
    elim (cases_lt (length c.args.whole.now) 20) [
      | inl few ↦
          rw value (few_after c.args.whole.now c.args.fraction.now c.min-sure-2.result c.requires.whole
          c.requires.fraction (omega (arith, c.min-sure-2.ensures)) (omega (arith, c.min-sure.ensures, c.min-sure-2.ensures)))
      | inr many ↦
          (let none : c.min-sure-2.result ≡ 0 = omega (arith, c.min-sure.ensures, c.min-sure-2.ensures) in
          rw none first.fits)
    ]

pub returns-then-count-whole : goal.returns-then-count-whole
returns-then-count-whole c =
    let prefix = c.longest_prefix-number.ensures in
    let few = c.if-count-whole.true in
    let e : kept_len (c.args.whole.now ++ c.args.fraction.now) ≡ c.longest_prefix-number.result.1 =
    kept_len-within_whole _ _ _ few (omega (arith, prefix.number, prefix.fits)) (prefix.longest few) in
    record {
      number = rw e (prefix.number ∙ ap digits_number (sym (take-append-le _ c.args.whole.now c.args.fraction.now
          (omega (arith, few)))));
      dropped = omega (arith, e);
      kept = omega (arith, e);
    }

pub returns : goal.returns
returns c =
    let first = c.longest_prefix-number.ensures in
    let second = c.longest_prefix-number-2.ensures in
    let all : take c.longest_prefix-number.result.1 c.args.whole.now
    ≡ c.args.whole.now = take_all _ _ (c.if-count-whole.false) in
    let value : c.longest_prefix-number.result.0 ≡ digits_number c.args.whole.now = first.number
    ∙ ap digits_number all in
    let e : kept_len (c.args.whole.now ++ c.args.fraction.now)
    ≡ length c.args.whole.now + c.longest_prefix-number-2.result.1 =
    kept_len-past_whole _ _ _ second.within (omega (arith, rw value at second.number, second.fits))
    (λ few. rw value at (second.longest few)) in
    record {
      number = rw (e, digits_number-take-append) (rw value at second.number);
      dropped = omega (arith, e);
      kept = omega (arith, e);
    }
