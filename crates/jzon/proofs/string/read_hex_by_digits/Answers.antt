use Rattle.jzon_base.proofs.Common.{◌-◌, IsCharBoundary, ◌≡◌, ◌<◌, ℕ, true, ◌+◌, ◌*◌, ◌∙◌, ap, refl, sym, subst, arith, nat_tests}
use Rattle.jzon_base.proofs.Common.{is_ascii_hexdigit, digit_value}
use Rattle.jzon.specs.Private.Machine.{Reports}
use Rattle.jzon.proofs.Containers.FrameViews.{byte_within}
use Rattle.jzon.proofs.Strings.HexDigits.{HexRead, hex_is_below_16, code_reads, second_code_reads, hex_begun, hex_more}
use Rattle.jzon.proofs.Strings.HexDigits.{hex_stops, hex_end, hex_small, hex_spelled}
use Rattle.jzon.proofs.string.read_hex_by_digits.Goals as goal

pub loop-index-init : goal.loop-index-init
loop-index-init c = hex_begun c.args.source.now c.args.start c.requires

pub overflow_mul-unit : goal.overflow_mul-unit
overflow_mul-unit c =
    let small = hex_small c.args.source.now c.args.start c.loop-index.index c.loop-index.unit c.loop-index.invariant
    (omega arith) in
    omega arith

pub overflow_add-unit : goal.overflow_add-unit
overflow_add-unit c =
    let small = hex_small c.args.source.now c.args.start c.loop-index.index c.loop-index.unit c.loop-index.invariant
    (omega arith) in
    let digit = c.in-Some.ensures in
    omega (arith, small, digit.1, hex_is_below_16 c.byte_at.result digit.0)

hex_is_some : (b : ℕ) → is_ascii_hexdigit b ≡ true → 0 < b
hex_is_some b h = grind (arith, nat_tests)

pub loop-index-preserved : goal.loop-index-preserved
loop-index-preserved c =
    let digit = c.in-Some.ensures in
    let here = subst (λ b. is_ascii_hexdigit b ≡ true) c.byte_at.ensures digit.0 in
    subst (HexRead c.args.source.now c.args.start (c.loop-index.index + 1))
    (ap (λ d. c.loop-index.unit * 16 + d) (sym (digit.1 ∙ ap digit_value c.byte_at.ensures)))
    (hex_more c.args.source.now c.args.start c.loop-index.index c.loop-index.unit c.loop-index.invariant c.utf8.source
    c.loop-index.auto.index c.loop-index-test.true
    (byte_within c.args.source.now c.loop-index.index _ refl (hex_is_some _ here)) here)

pub returns-in-None-clause-first : goal.returns-in-None-clause-first
returns-in-None-clause-first c r role bs =
    subst (Reports c.args.source.now c.fault_at.result)
    (sym (hex_stops r c.args.source.now c.args.start c.loop-index.index c.loop-index.unit _ _ c.loop-index.invariant
    (code_reads r role bs)
    c.utf8.source c.loop-index.auto.index c.loop-index-test.true
    (λ h. c.in-None.ensures (subst (λ b. is_ascii_hexdigit b ≡ true) (sym c.byte_at.ensures) h.1))))
    c.fault_at.ensures

pub returns-in-None-clause-second : goal.returns-in-None-clause-second
returns-in-None-clause-second c r role bs h =
    subst (Reports c.args.source.now c.fault_at.result)
    (sym (hex_stops r c.args.source.now c.args.start c.loop-index.index c.loop-index.unit _ _ c.loop-index.invariant
    (second_code_reads r role bs h)
    c.utf8.source c.loop-index.auto.index c.loop-index-test.true
    (λ h. c.in-None.ensures (subst (λ b. is_ascii_hexdigit b ≡ true) (sym c.byte_at.ensures) h.1))))
    c.fault_at.ensures

pub returns-clause-value : goal.returns-clause-value
returns-clause-value c = hex_spelled c.args.source.now c.args.start c.loop-index.index c.loop-index.unit
    c.loop-index.invariant (omega arith)

pub returns-clause-small : goal.returns-clause-small
returns-clause-small c = hex_small c.args.source.now c.args.start c.loop-index.index c.loop-index.unit
    c.loop-index.invariant (omega arith)

pub returns-clause-first : goal.returns-clause-first
returns-clause-first c r role bs =
    hex_end r c.args.source.now c.args.start c.loop-index.index c.loop-index.unit _ _ c.loop-index.invariant
    (code_reads r role bs) (omega arith)

pub returns-clause-second : goal.returns-clause-second
returns-clause-second c r role bs h =
    hex_end r c.args.source.now c.args.start c.loop-index.index c.loop-index.unit _ _ c.loop-index.invariant
    (second_code_reads r role bs h) (omega arith)

pub returns-clause-last : goal.returns-clause-last
returns-clause-last c =
    subst (IsCharBoundary c.args.source.now) (let n : c.loop-index.index - 1 ≡ c.args.start + 3 = omega arith in n)
    (c.loop-index.invariant.last (omega arith))
