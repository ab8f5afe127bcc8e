use Rattle.jzon_base.proofs.Common.{◌≡◌, ℕ, ◌<◌, ◌+◌, List, length, None, drop, true, false, get_or, refl, sym, ap, ◌∙◌}
use Rattle.jzon_base.proofs.Common.{Err, arith, subst, lit<, chars, is_ascii_digit, false≢true, nat_tests}
use Rattle.jzon_base.proofs.Common.{IsCharBoundary-after_ascii}
use Rattle.jzon.specs.Private.Classes.{minus_char, quote, after_minus}
use Rattle.jzon_tree.specs.Value.{kind_of, text}
use Rattle.jzon.specs.Private.Machine.{before, numeral, numeral_after_first, as_value, after_value, from, value_mark}
use Rattle.jzon.specs.Private.Machine.{fault_here, ReportsUnlessMemory}
use Rattle.jzon.specs.Private.Targets.{MayBegin}
use Rattle.jzon.proofs.Containers.FirstBytes.{stops_before, begin_by, begin_digit}
use Rattle.jzon.proofs.Containers.FrameViews.{byte_within}
use Rattle.jzon.proofs.Containers.PutValues.{puts_from, puts_none, puts_fault}
use Rattle.jzon.proofs.Numbers.FirstDigits.{no_digit_stops, digit_goes}
use Rattle.jzon.proofs.Texts.ReportedErrors.{never_memory}
use Rattle.jzon.proofs.Texts.StepsByByte.{from_stop}
use Rattle.jzon.proofs.primitive.put_primitive.Goals as goal

-- there is a digit
digit_within : (bs : List ℕ) (i b : ℕ) → b ≡ get_or bs i 0 → is_ascii_digit b ≡ true
    → (i < length bs) × (is_ascii_digit (get_or bs i 0) ≡ true)
digit_within bs i b e is_digit =
    let some : 0 < b = grind (arith, nat_tests) in
    (byte_within bs i b (sym e) some, subst (λ c. is_ascii_digit c ≡ true) e is_digit)

pub put_magnitude-requires : goal.put_magnitude-requires
put_magnitude-requires g c =
    let here = digit_within c.args.source.now c.args.start c.args.first c.requires.first
    (sym c.is_ascii_digit.ensures.value ∙ c.if-is_ascii_digit.true) in
    record { within = here.0; digit = here.1; room = c.requires.room }

pub returns-then-is_ascii_digit-clause-outcome : goal.returns-then-is_ascii_digit-clause-outcome
returns-then-is_ascii_digit-clause-outcome g c =
    let here = digit_within c.args.source.now c.args.start c.args.first c.requires.first
    (sym c.is_ascii_digit.ensures.value ∙ c.if-is_ascii_digit.true) in
    puts_from (g.T.Target.takes c.args.target.now) c.args.target.now c.put_magnitude.new.target c.put_magnitude.result
    c.args.source.now c.args.start (c.args.start + 1) before
    (λ fs. numeral_after_first fs false (get_or c.args.source.now c.args.start 0))
    (λ r fs. MayBegin r fs c.args.source.now c.args.start c.args.exact) (λ r fs. r.exact ≡ c.args.exact)
    (λ r fs may. (
      may.exactness,
      begin_digit r c.args.source.now c.args.start fs c.utf8.source c.requires.boundary here.0 here.1 may.shallow,
    ))
    c.put_magnitude.ensures.outcome

pub put_magnitude-requires-in-45 : goal.put_magnitude-requires-in-45
put_magnitude-requires-in-45 g c =
    let here = digit_within c.args.source.now (c.args.start + 1) c.byte_at.result c.byte_at.ensures
    (sym c.is_ascii_digit-in-45.ensures.value ∙ c.if-not-is_ascii_digit.false) in
    record { within = here.0; digit = here.1; room = c.requires.room }

pub fault_at-requires : goal.fault_at-requires
fault_at-requires g c =
    let e : get_or c.args.source.now c.args.start 0 ≡ 45 = sym c.requires.first ∙ c.in-45.is in
    IsCharBoundary-after_ascii c.args.source.now c.args.start c.utf8.source
    (byte_within c.args.source.now c.args.start 45 e (lit< tt)) (omega (arith, e))

pub read_string-requires : goal.read_string-requires
read_string-requires g c =
    let e : get_or c.args.source.now c.args.start 0 ≡ 34 = sym c.requires.first ∙ c.in-34.is in
    IsCharBoundary-after_ascii c.args.source.now c.args.start c.utf8.source
    (byte_within c.args.source.now c.args.start 34 e (lit< tt)) (omega (arith, e))

pub text-requires-clause-begin : goal.text-requires-clause-begin
text-requires-clause-begin g c =
    let e : get_or c.args.source.now c.args.start 0 ≡ 34 = sym c.requires.first ∙ c.in-34.is in
    IsCharBoundary-after_ascii c.args.source.now c.args.start c.utf8.source
    (byte_within c.args.source.now c.args.start 34 e (lit< tt)) (omega (arith, e))

pub returns-then-not-is_ascii_digit-clause-memory : goal.returns-then-not-is_ascii_digit-clause-memory
returns-then-not-is_ascii_digit-clause-memory g c = λ e.
    absurd (never_memory (λ _. ⊥) c.args.source.now
    (fault_here (chars (drop (c.args.start + 1) c.args.source.now))) (Err c.fault_at.result) c.fault_at.ensures e)

pub returns-then-not-is_ascii_digit-clause-outcome : goal.returns-then-not-is_ascii_digit-clause-outcome
returns-then-not-is_ascii_digit-clause-outcome g c =
    let source = c.args.source.now in
    let start = c.args.start in
    let e : get_or source start 0 ≡ 45 = sym c.requires.first ∙ c.in-45.is in
    let within = byte_within source start 45 e (lit< tt) in
    puts_fault (g.T.Target.takes c.args.target.now) c.args.target.now (Err c.fault_at.result) source start before
    (λ r fs. MayBegin r fs source start c.args.exact) (fault_here (chars (drop (start + 1) source)))
    (λ r fs may. begin_by r source start fs minus_char _ refl c.utf8.source c.requires.boundary within e (lit< tt)
    may.shallow
    ∙ from_stop r source (start + 1) (numeral fs true after_minus) c.utf8.source
    (IsCharBoundary-after_ascii source start c.utf8.source within (omega (arith, e)))
    (no_digit_stops r source (start + 1) fs (λ h.
    let no : is_ascii_digit c.byte_at.result ≡ false =
    sym c.is_ascii_digit-in-45.ensures.value ∙ c.if-not-is_ascii_digit.true in
    absurd (false≢true (sym no ∙ ap is_ascii_digit c.byte_at.ensures ∙ h.1)))))
    c.fault_at.ensures

pub returns-else-not-is_ascii_digit-clause-outcome : goal.returns-else-not-is_ascii_digit-clause-outcome
returns-else-not-is_ascii_digit-clause-outcome g c =
    let source = c.args.source.now in
    let start = c.args.start in
    let e : get_or source start 0 ≡ 45 = sym c.requires.first ∙ c.in-45.is in
    let within = byte_within source start 45 e (lit< tt) in
    puts_from (g.T.Target.takes c.args.target.now) c.args.target.now c.put_magnitude-in-45.new.target
    c.put_magnitude-in-45.result source start (start + 1 + 1) before
    (λ fs. numeral_after_first fs true (get_or source (start + 1) 0)) (λ r fs. MayBegin r fs source start c.args.exact) (λ r fs. r.exact ≡ c.args.exact)
    (λ r fs may. (
      may.exactness,
      begin_by r source start fs minus_char _ refl c.utf8.source c.requires.boundary within e (lit< tt) may.shallow
          ∙ digit_goes r source (start + 1) fs c.utf8.source
          (IsCharBoundary-after_ascii source start c.utf8.source within (omega (arith, e)))
          (digit_within source (start + 1) c.byte_at.result c.byte_at.ensures
          (sym c.is_ascii_digit-in-45.ensures.value ∙ c.if-not-is_ascii_digit.false)),
    ))
    c.put_magnitude-in-45.ensures.outcome

pub returns-in_err-spelled-in-34-clause-outcome : goal.returns-in_err-spelled-in-34-clause-outcome
returns-in_err-spelled-in-34-clause-outcome g c =
    let source = c.args.source.now in
    let start = c.args.start in
    let e : get_or source start 0 ≡ 34 = sym c.requires.first ∙ c.in-34.is in
    puts_none (g.T.Target.takes c.args.target.now) c.args.target.now c.args.target.now c.from_residual.result
    source start before (λ r fs. MayBegin r fs source start c.args.exact) _ c.from_residual.ensures.1 refl
    (λ r fs may. subst (ReportsUnlessMemory source _)
    (sym (begin_by r source start fs quote _ refl c.utf8.source c.requires.boundary
    (byte_within source start 34 e (lit< tt)) e (lit< tt) may.shallow))
    (c.in_err-spelled-in-34.ensures.outcome r (as_value fs)))

pub returns-in_ok-put_string_value-in-34-clause-outcome : goal.returns-in_ok-put_string_value-in-34-clause-outcome
returns-in_ok-put_string_value-in-34-clause-outcome g c =
    let source = c.args.source.now in
    let start = c.args.start in
    let e : get_or source start 0 ≡ 34 = sym c.requires.first ∙ c.in-34.is in
    let put = c.in_ok-put_string_value-in-34.ensures.value in (
      put.0,
      put.1,
      λ r fs may. begin_by r source start fs quote _ refl c.utf8.source c.requires.boundary
          (byte_within source start 34 e (lit< tt)) e (lit< tt) may.shallow
          ∙ c.in_ok-spelled-in-34.ensures.outcome r (as_value fs)
          ∙ ap (λ v. from r source (after_value fs v) c.in_ok-spelled-in-34.spelled.end)
          (sym (put.2 ∙ ap (λ bs. text (kind_of bs) bs) c.text.ensures.text)),
    )

pub returns-in-110-clause-outcome : goal.returns-in-110-clause-outcome
returns-in-110-clause-outcome g c =
    puts_from (g.T.Target.takes c.args.target.now) c.args.target.now c.put_literal.new.target c.put_literal.result
    c.args.source.now c.args.start c.args.start before before
    (λ r fs. MayBegin r fs c.args.source.now c.args.start c.args.exact) (λ r fs. value_mark r fs ≡ None) (λ r fs may. (may.shallow, refl)) c.put_literal.ensures.outcome

pub returns-in_default-clause-outcome : goal.returns-in_default-clause-outcome
returns-in_default-clause-outcome g c =
    let first = c.requires.first in
    puts_fault (g.T.Target.takes c.args.target.now) c.args.target.now (Err c.fault_at-in_default.result) c.args.source.now c.args.start
    before (λ r fs. MayBegin r fs c.args.source.now c.args.start c.args.exact) (fault_here (chars (drop c.args.start c.args.source.now)))
    (λ r fs may. from_stop r c.args.source.now c.args.start (before fs) c.utf8.source c.requires.boundary
    (stops_before r c.args.source.now c.args.start fs may.shallow (λ lt. record {
      no_space = may.no_space lt;
      no_digit = subst (λ b. is_ascii_digit b ≡ false) first
          (sym c.is_ascii_digit.ensures.value ∙ c.if-is_ascii_digit.false);
      no_minus = λ e. absurd (omega (arith, e, first));
      no_quote = λ e. absurd (omega (arith, e, first));
      no_array = λ e. c.requires.no_array (first ∙ e);
      no_object = λ e. c.requires.no_object (first ∙ e);
      no_null = λ e. absurd (grind (arith, e, first, c.in_default));
      no_true = λ e. absurd (grind (arith, e, first, c.in_default));
      no_false = λ e. absurd (grind (arith, e, first, c.in_default));
      no_end = may.no_end;
    })))
    c.fault_at-in_default.ensures
