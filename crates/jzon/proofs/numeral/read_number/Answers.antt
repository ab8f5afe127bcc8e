use Rattle.jzon_base.proofs.Common.{◌≡◌, ◌∙◌, ap, refl, sym, subst, ℕ, ℤ, ◌+◌, ◌-◌, Bool, true, not, List, length, err_from_is_err_and, arith, ints, clamps, to_z, of_z, w16}
use Rattle.jzon_base.specs.Decimal.{signed, parts}
use Rattle.jzon_base.specs.Digits.{digits_number, number_read, read_exponent}
use Rattle.jzon_base.specs.DigitLimits.{IsFirstTooMany}
use Rattle.jzon_base.specs.LostDigits.{IsFirst, leaves_range, IsFirstLost, number_digits, IsReadableNumber, IsFirstNumberFault}
use Rattle.jzon_base.specs.declared.digits.NumberFault.{NumberFault}
use Rattle.jzon_base.specs.declared.digits.NumberFault.TheVariants.{TooMany, Lost, OutOfRange}
use Rattle.jzon_tree.specs.Value.{number}
use Rattle.jzon.specs.Reading.{Reading}
use Rattle.jzon.specs.declared.stop.Stop.TheVariants.{Inexact}
use Rattle.jzon.specs.Private.Machine.{Frames, after_value, from, Reports}
use Rattle.jzon.specs.Private.Numerals.{after_first, AreKept, HasTooMany, LosesDigit, number_stop}
use Rattle.jzon.proofs.numeral.read_number.Goals.{in-Some, in-None+in_ok-mantissa-in-None}
use Rattle.jzon.proofs.numeral.read_number.Goals as goal

-- the first digit at fault is reported
reports_fault : (text w d ex : List ℕ) (start end : ℕ) (b : Bool) (r : Reading) (fs : Frames) (negative : Bool)
    (f : NumberFault)
    → ((i : ℕ) → IsFirstTooMany w d i → HasTooMany w d i text start)
    → ((i : ℕ) → IsFirstLost w d i → LosesDigit w d i text start)
    → ((i : ℕ) → IsFirst (leaves_range w d (signed b)) ex i → (r : Reading) (fs : Frames) (negative : Bool) → AreKept r w d
    → r.exact ≡ true → Reports text (Inexact (end - length ex + i)) (after_first r fs negative text start))
    → IsFirstNumberFault r.exact (number_digits w d b ex) f
    → Reports text (number_stop start (length w) (end - length ex) f) (after_first r fs negative text start)
reports_fault text w d ex start end b r fs negative (TooMany i) many loses leaves h = many i h.0 r fs negative h.1
reports_fault text w d ex start end b r fs negative (Lost i) many loses leaves h = loses i h.1 r fs negative h.0
reports_fault text w d ex start end b r fs negative (OutOfRange i) many loses leaves h =
    leaves i h.3 r fs negative (h.1, λ _. h.2) h.0

pub returns-in_err-mantissa-in-None-clause-outcome : goal.returns-in_err-mantissa-in-None-clause-outcome
returns-in_err-mantissa-in-None-clause-outcome c r fs same =
    let s = c.spelling_at-spelling.result in
    let text = c.args.source.now in
    let failed = err_from_is_err_and c.from_residual.result c.from_residual.ensures.1 in
    let stop = c.in_err-mantissa-in-None.ensures.stop in
    let first = subst (λ (exact : Bool). IsFirstNumberFault exact
    (number_digits s.whole.now s.fraction.now s.positive_exponent s.exponent.now) stop.0) (sym same) stop.1 in
    let k = c.spelling_at-spelling.ensures in
    let report = reports_fault text s.whole.now s.fraction.now s.exponent.now c.args.start s.end
    s.positive_exponent r fs c.args.negative stop.0 k.too_many k.loses k.leaves first in
    rw (failed.1, failed.2, stop.2) report

-- its exponent is one of 16 bits
in_range : (b : Bool) (m : ℕ) (e : ℤ) (w d : List ℕ) (z : ℤ) → parts b m e ≡ number_read b w d z
    → to_z w16 (of_z w16 e) ≡ e
in_range b m e w d z h = let k : e ≡ read_exponent w d z = cc in omega (arith, ints, clamps, k)

pub returns-clause-outcome : goal.returns-clause-outcome
returns-clause-outcome c r fs same =
    let s = c.spelling_at-spelling.result in
    let text = c.args.source.now in
    let written = signed s.positive_exponent (digits_number s.exponent.now) in
    let Q = λ (p : ℕ × ℤ). IsReadableNumber r.exact
    (number_digits s.whole.now s.fraction.now s.positive_exponent s.exponent.now) × (parts (not c.args.negative) p.0 p.1 ≡ number_read (not c.args.negative) s.whole.now s.fraction.now written) in
    let q : Q c.match-parts.mantissa =
    elim c.match-parts.branch [
      | in-Some w ↦
          subst Q (sym w.mantissa-is) (
            (w.in-Some.ensures.readable.0, λ _. w.in-Some.ensures.readable.1 refl),
            ap (λ (p : ℕ × ℤ). parts (not c.args.negative) p.0 p.1) w.in-Some.ensures.number,
          )
      | in-None+in_ok-mantissa-in-None w ↦
          subst Q (sym w.mantissa-is) (
            rw same (w.in_ok-mantissa-in-None.ensures.number.0),
            ap (λ (p : ℕ × ℤ). parts (not c.args.negative) p.0 p.1)
                w.in_ok-mantissa-in-None.ensures.number.1,
          )
    ] in
    c.spelling_at-spelling.ensures.number c.if-spelling.false r fs c.args.negative q.0
    ∙ ap (λ v. from r text (after_value fs (number v)) s.end) (sym (c.from_parts_unchecked-number.ensures
    ∙ ap (parts (not c.args.negative) c.match-parts.mantissa.0)
    (in_range (not c.args.negative) c.match-parts.mantissa.0 c.match-parts.mantissa.1 s.whole.now s.fraction.now written q.1)
    ∙ q.1))
