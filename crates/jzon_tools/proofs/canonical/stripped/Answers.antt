use Rattle.std.proofs.Common.{◌≡◌, ◌-◌, ◌+◌, suc, ◌+ℤ◌, pos, sym, ap, ◌∙◌, arith, to_z, of_z, w16, FitsSigned, inl, inr}
use Rattle.std.proofs.lemmas.Int.{ints, of_z-to_z, to_z-of_z}
use Rattle.jzon_tools.specs.Canonical.{stripped}
use Rattle.jzon_tools.proofs.StrippedNumbers.{stripped-none, stripped-next, stripped-end, next-fits}
use Rattle.jzon_tools.proofs.canonical.stripped.Goals.{then-digits-ne0-via-then-digits-ne0}
use Rattle.jzon_tools.proofs.canonical.stripped.Goals.{then-digits-ne0-via-else-digits-ne0+then-power-eq32767}
use Rattle.jzon_tools.proofs.canonical.stripped.Goals as goal

pub loop-zero-preserved : goal.loop-zero-preserved
loop-zero-preserved c =
    let m = c.loop-zero.digits in
    let e = to_z w16 c.loop-zero.power-bits in
    let left = 20 - (c.loop-zero._zero + 1) in
    let more : 20 - c.loop-zero._zero ≡ suc left = omega (arith, c.loop-zero-test.true) in
    let fits : FitsSigned w16 e = omega (arith, ints) in
    let other : e ≡ pos 32767 → ⊥ = λ h. c.if-power-eq32767.false
    (sym (of_z-to_z w16 c.loop-zero.power-bits c.loop-zero.auto.power-fits.fits) ∙ ap (of_z w16) h) in
    rw (to_z-of_z w16 (e +ℤ pos 1) (next-fits e fits other))
    (sym (stripped-next left m e c.if-digits-ne0.false other)
    ∙ ap (λ n. stripped n m e) (sym more) ∙ c.loop-zero.invariant)

pub returns-after-loop-zero : goal.returns-after-loop-zero
returns-after-loop-zero c =
    let m = c.loop-zero.digits in
    let e = to_z w16 c.loop-zero.power-bits in
    let none : 20 - c.loop-zero._zero ≡ 0 = omega (arith, c.loop-zero-test.false) in
    sym (stripped-none m e) ∙ ap (λ n. stripped n m e) (sym none) ∙ c.loop-zero.invariant
    ∙ ap (λ x. stripped 20 c.args.mantissa x) (to_z-of_z w16 c.args.exponent c.ranges.exponent)

pub returns-then-digits-ne0 : goal.returns-then-digits-ne0
returns-then-digits-ne0 c =
    let m = c.loop-zero.digits in
    let e = to_z w16 c.loop-zero.power-bits in
    let left = 20 - c.loop-zero._zero in
    let whole = ap (λ x. stripped 20 c.args.mantissa x) (to_z-of_z w16 c.args.exponent c.ranges.exponent) in
    elim c.then-digits-ne0.branch [
      | then-digits-ne0-via-then-digits-ne0 w ↦ sym (stripped-end left m e (inl w.if-digits-ne0.true))
          ∙ c.loop-zero.invariant ∙ whole
      | then-digits-ne0-via-else-digits-ne0+then-power-eq32767 w ↦ sym
          (stripped-end left m e (inr (omega (arith, ints, w.if-power-eq32767.true)))) ∙ c.loop-zero.invariant ∙ whole
    ]
