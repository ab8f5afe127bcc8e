use Rattle.jzon_base.proofs.Common.{◌≡◌, ◌+◌, ◌++◌, ◌∙◌, ◌&&◌, false, ap, sym, subst, arith, drop, encode_utf8}
use Rattle.jzon_base.proofs.Common.{IsCharBoundary, chars, false_from_ne_true, iff_false, err_from_is_err_and}
use Rattle.jzon_base.proofs.Common.{IsCharBoundary-after_ascii}
use Rattle.jzon.specs.Spelling.{pair}
use Rattle.jzon.specs.Fault.{limit}
use Rattle.jzon.proofs.Texts.FaultOffsets.{reports_pair}
use Rattle.jzon.specs.Grammar.{is_high, is_low}
use Rattle.jzon.specs.Meaning.{pair_char}
use Rattle.jzon.specs.Private.Machine.{string, between, move_pair, outcome_on, refused, from, Reports}
use Rattle.jzon.proofs.Strings.Escapes.{second_begins, second_digits_boundary, second_stops, second_u_stops}
use Rattle.jzon.proofs.string.read_second.Goals as goal

pub returns-then-not-has_byte-clause-outcome : goal.returns-then-not-has_byte-clause-outcome
returns-then-not-has_byte-clause-outcome c r role bs =
    subst (Reports c.args.source.now c.fault_at.result)
    (sym (second_stops r role bs c.args.source.now c.args.first c.args.start c.utf8.source c.requires
    (iff_false c.has_byte.ensures c.if-not-has_byte.true)))
    c.fault_at.ensures

pub fault_at-requires-then-not-has_byte-2 : goal.fault_at-requires-then-not-has_byte-2
fault_at-requires-then-not-has_byte-2 c =
    let one = c.has_byte.ensures.0 c.if-not-has_byte.false in
    IsCharBoundary-after_ascii c.args.source.now c.args.start c.utf8.source one.0 (omega (arith, one.1))

pub returns-then-not-has_byte-2-clause-outcome : goal.returns-then-not-has_byte-2-clause-outcome
returns-then-not-has_byte-2-clause-outcome c r role bs =
    subst (Reports c.args.source.now c.fault_at-then-not-has_byte-2.result)
    (sym (second_u_stops r role bs c.args.source.now c.args.first c.args.start c.utf8.source c.requires
    (c.has_byte.ensures.0 c.if-not-has_byte.false)
    (iff_false c.has_byte-2.ensures c.if-not-has_byte-2.true)))
    c.fault_at-then-not-has_byte-2.ensures

pub read_hex-requires : goal.read_hex-requires
read_hex-requires c =
    second_digits_boundary c.args.source.now c.args.start c.utf8.source
    (c.has_byte-2.ensures.0 c.if-not-has_byte-2.false)

pub returns-in_err-unit-clause-outcome : goal.returns-in_err-unit-clause-outcome
returns-in_err-unit-clause-outcome c r role bs =
    let reported = err_from_is_err_and c.from_residual.result c.from_residual.ensures.1 in
    let digits = second_begins r role bs c.args.source.now c.args.first c.args.start c.utf8.source c.requires
    (c.has_byte.ensures.0 c.if-not-has_byte.false) (c.has_byte-2.ensures.0 c.if-not-has_byte-2.false) in
    rw (reported.1, reported.2) (subst (Reports c.args.source.now _) (sym digits)
    (c.in_err-unit.ensures.second r role bs c.args.first))

pub returns-in-Some-clause-outcome : goal.returns-in-Some-clause-outcome
returns-in-Some-clause-outcome c r role bs =
    let pair = c.in-Some.ensures in
    let text = c.args.source.now in
    let rest = chars (drop (c.args.start + 2 + 3) text) in
    let digits = second_begins r role bs text c.args.first c.args.start c.utf8.source c.requires
    (c.has_byte.ensures.0 c.if-not-has_byte.false)
    (c.has_byte-2.ensures.0 c.if-not-has_byte-2.false) in
    digits ∙ c.in_ok-unit.ensures.second r role bs c.args.first
    ∙ ap (λ t. outcome_on (move_pair t role bs c.args.first c.in_ok-unit.unit)
    (λ p. from r text p (c.args.start + 2 + 4))
    rest) pair.0
    ∙ ap (λ n. from r text (string role (bs ++ encode_utf8 (pair_char c.args.first c.in_ok-unit.unit)) between) n)
    (let e : c.args.start + 2 + 4 ≡ c.args.start + 6 = omega arith in e)
    ∙ ap (λ ch. from r text (string role (bs ++ encode_utf8 ch) between) (c.args.start + 6)) (sym pair.1)

pub returns-in-None-clause-outcome : goal.returns-in-None-clause-outcome
returns-in-None-clause-outcome c r role bs =
    let text = c.args.source.now in
    let rest = chars (drop (c.args.start + 2 + 3) text) in
    let no_pair : (is_high c.args.first && is_low c.in_ok-unit.unit) ≡ false = false_from_ne_true _ c.in-None.ensures in
    let digits = second_begins r role bs text c.args.first c.args.start c.utf8.source c.requires
    (c.has_byte.ensures.0 c.if-not-has_byte.false)
    (c.has_byte-2.ensures.0 c.if-not-has_byte-2.false) in
    let at : c.args.start + 2 + 3 ≡ c.args.start + 5 = omega arith in
    reports_pair text (c.args.start + 5) _ c.utf8.source
    (subst (IsCharBoundary text) at c.in_ok-unit.ensures.last)
    (digits ∙ c.in_ok-unit.ensures.second r role bs c.args.first
    ∙ ap (λ t. outcome_on (move_pair t role bs c.args.first c.in_ok-unit.unit)
    (λ p. from r text p (c.args.start + 2 + 4))
    rest) no_pair
    ∙ ap (λ n. refused (limit pair) (chars (drop n text))) at)
