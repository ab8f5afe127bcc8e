use Rattle.jzon_base.proofs.Common.{◌≡◌, ◌+◌, ◌++◌, ◌∙◌, ◌<◌, ℕ, true, ap, refl, sym, subst, arith, encode_utf8}
use Rattle.jzon_base.proofs.Common.{MatchResult, List, false, err_from_is_err_and, iff_false, nat_tests}
use Rattle.jzon_base.proofs.Common.{IsCharBoundary-after_ascii}
use Rattle.jzon.specs.Grammar.{is_simple, is_surrogate}
use Rattle.jzon.specs.Meaning.{unescaped}
use Rattle.jzon.specs.Private.Machine.{Role, string, between, after_backslash, code, after_unit, from, Reports}
use Rattle.jzon.specs.Reading.{Reading}
use Rattle.std.specs.Char.{IsScalar, OutOfScalarRange}
use Rattle.jzon.proofs.Containers.FrameViews.{byte_within}
use Rattle.jzon.proofs.Strings.Escapes.{simple_is_ascii, simple_read, digits_begin, escape_stops}
use Rattle.jzon.proofs.string.read_escape.Goals.{After-read_hex}
use Rattle.jzon.proofs.string.read_escape.Goals as goal

pub read_hex-requires : goal.read_hex-requires
read_hex-requires c =
    let here = c.has_byte.ensures.0 c.if-has_byte.true in
    IsCharBoundary-after_ascii c.args.source.now c.args.start c.utf8.source here.0 (omega (arith, here.1))

begins : (c : After-read_hex) (r : Reading) (role : Role) (bs : List ℕ)
    → from r c.args.source.now (string role bs after_backslash) c.args.start
    ≡ from r c.args.source.now (string role bs (code 3 0)) (c.args.start + 1)
begins c r role bs =
    let here = c.has_byte.ensures.0 c.if-has_byte.true in
    digits_begin r role bs c.args.source.now c.args.start c.utf8.source c.requires here.0 here.1

pub returns-in_err-unit-clause-outcome : goal.returns-in_err-unit-clause-outcome
returns-in_err-unit-clause-outcome c r role bs =
    let reported = err_from_is_err_and c.from_residual.result c.from_residual.ensures.1 in
    rw (reported.1, reported.2) (subst (Reports c.args.source.now _)
    (sym (begins (goal.at.returns-in_err-unit-clause-outcome c).After-read_hex r role bs))
    (c.in_err-unit.ensures.first r role bs))

scalar : (u : ℕ) → IsScalar u → is_surrogate u ≡ false
scalar u in_range = grind (arith, nat_tests)

pub returns-in-Some-clause-outcome : goal.returns-in-Some-clause-outcome
returns-in-Some-clause-outcome c r role bs =
    begins (goal.at.returns-in-Some-clause-outcome c).After-read_hex r role bs ∙ c.in_ok-unit.ensures.first r role bs
    ∙ rw (scalar c.in_ok-unit.unit c.in-Some.ensures.value.0, c.in-Some.ensures.value.1) refl

surrogate : (u : ℕ) → u < 65536 → OutOfScalarRange u → is_surrogate u ≡ true
surrogate u small out = grind (arith, nat_tests)

pub returns-in-None-clause-outcome : goal.returns-in-None-clause-outcome
returns-in-None-clause-outcome c r role bs =
    let text = c.args.source.now in
    let unit = c.in_ok-unit.unit in
    subst (λ o. MatchResult c.read_second.result (λ x. o ≡ from r text (string role (bs ++ encode_utf8 x.0) between)
    x.1) (λ e. Reports text e o))
    (sym (begins (goal.at.returns-in-None-clause-outcome c).After-read_hex r role bs
    ∙ c.in_ok-unit.ensures.first r role bs
    ∙ ap (λ t. from r text (after_unit t role bs unit) (c.args.start + 1 + 4))
    (surrogate unit c.in_ok-unit.ensures.small c.in-None.ensures.cases)))
    (c.read_second.ensures.outcome r role bs)

simple_is_some : (b : ℕ) → is_simple b ≡ true → 0 < b
simple_is_some b h = grind (arith, nat_tests)

pub returns-in-Some-meant_by-clause-end : goal.returns-in-Some-meant_by-clause-end
returns-in-Some-meant_by-clause-end c =
    let here = subst (λ b. is_simple b ≡ true) c.byte_at.ensures c.in-Some-meant_by.ensures.0 in (
      omega arith,
      IsCharBoundary-after_ascii c.args.source.now c.args.start c.utf8.source
          (byte_within c.args.source.now c.args.start _ refl (simple_is_some _ here)) (simple_is_ascii _ here).0,
    )

pub returns-in-Some-meant_by-clause-outcome : goal.returns-in-Some-meant_by-clause-outcome
returns-in-Some-meant_by-clause-outcome c r role bs =
    let text = c.args.source.now in
    let here = subst (λ b. is_simple b ≡ true) c.byte_at.ensures c.in-Some-meant_by.ensures.0 in
    simple_read r role bs text c.args.start c.utf8.source c.requires
    (byte_within text c.args.start _ refl (simple_is_some _ here)) here
    ∙ ap (λ ch. from r text (string role (bs ++ encode_utf8 ch) between) (c.args.start + 1))
    (sym (c.in-Some-meant_by.ensures.1 ∙ ap unescaped c.byte_at.ensures))

pub returns-in-None-meant_by-clause-outcome : goal.returns-in-None-meant_by-clause-outcome
returns-in-None-meant_by-clause-outcome c r role bs =
    subst (Reports c.args.source.now c.fault_at.result)
    (sym (escape_stops r role bs c.args.source.now c.args.start c.utf8.source c.requires
    (iff_false c.has_byte.ensures c.if-has_byte.false)
    (λ h. c.in-None-meant_by.ensures (subst (λ b. is_simple b ≡ true) (sym c.byte_at.ensures) h.1))))
    c.fault_at.ensures
