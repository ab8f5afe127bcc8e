use Rattle.jzon_base.proofs.Common.{◌≡◌, ◌∙◌, ◌+◌, ◌*◌, suc, ℕ, take, ap, arith, nat_lt, lt-ltb, le-ltb, false}
use borrow.Author.Count.{below_more}
use Rattle.jzon_base.specs.Digits.{digits_number}
use Rattle.jzon_base.proofs.Numbers.LostDigits.{one_more}
use Rattle.jzon_base.proofs.digits.first_above.Goals as goal

pub returns-then-number-limit-clause-some : goal.returns-then-number-limit-clause-some
returns-then-number-limit-clause-some c =
    let more = one_more c.args.digits.now c.loop-i.i c.loop-i-test.true in
    (c.loop-i-test.true, lt-ltb _ _ (omega (arith, more, c.loop-i.invariant.0)), c.loop-i.invariant.2)

pub loop-i-preserved : goal.loop-i-preserved
loop-i-preserved c =
    let more = one_more c.args.digits.now c.loop-i.i c.loop-i-test.true in
    let next : suc c.loop-i.i ≡ c.loop-i.i + 1 = omega arith in
    let value : c.loop-i.number * 10 + c.from.result ≡ digits_number (take (suc c.loop-i.i) c.args.digits.now) =
    omega (arith, more, c.loop-i.invariant.0) in (
      value ∙ ap (λ (n : ℕ). digits_number (take n c.args.digits.now)) next,
      c.if-number-limit.false,
      below_more (λ (j : ℕ). nat_lt c.args.limit (digits_number (take (suc j) c.args.digits.now)) ≡ false) c.loop-i.i
          c.loop-i.invariant.2 (le-ltb _ _ (omega (arith, value))),
    )
