use Rattle.jzon_base.proofs.Common.{◌∙◌, sym, refl, ap, [], ◌+◌, ◌%◌, ◌^◌, length, false, true≢false, All-nil}
use Rattle.jzon_base.proofs.Common.{fold-append, arith}
use Rattle.std.proofs.lemmas.List.{append-nil}
use Rattle.jzon_base.specs.Digits.{IsDigit, add_digit, digits_number}
use Rattle.jzon.proofs.Numbers.Magnitudes.{WholeStands, whole_stands, ReadsMagnitude, reads_whole_alone}
use Rattle.jzon.proofs.Numbers.Magnitudes.{reads_whole_and_fraction}
use Rattle.jzon.proofs.numeral.magnitude_at.Goals.{After-before_point-before}
use Rattle.jzon.proofs.numeral.magnitude_at.Goals as goal

-- the digits before the point
whole_digits : (c : After-before_point-before) → WholeStands c.args.source.now c.args.start c.before_point-before.result.0.now
whole_digits c = whole_stands c.args.source.now c.args.start c.before_point-before.result.0.now c.utf8.source
    c.requires.within c.requires.digit c.before_point-before.ensures.digits

-- without a point
pub invariant_of-result : goal.invariant_of-result
invariant_of-result c =
    let whole = whole_digits (goal.at.invariant_of-result c).After-before_point-before in
    record {
      whole_digits = whole.all;
      fraction_digits = All-nil IsDigit;
      added_up = rw append-nil c.before_point-before.ensures.number;
      exponent_digits = All-nil IsDigit;
      written_up = refl;
    }

pub returns-then-not-has_byte : goal.returns-then-not-has_byte
returns-then-not-has_byte c =
    let end = c.args.start + length c.before_point-before.result.0.now in
    let whole = whole_digits (goal.at.returns-then-not-has_byte c).After-before_point-before in
    let k : ReadsMagnitude c.args.source.now c.args.start c.before_point-before.result.0.now [] end false =
    reads_whole_alone c.args.source.now c.args.start c.before_point-before.result.0.now c.utf8.source whole
    (λ h. true≢false (sym (c.has_byte.ensures.1 h) ∙ c.if-not-has_byte.true)) in
    record {
      end = (k.after, k.boundary.0, k.boundary);
      room = omega arith;
      exponent = (refl, refl);
      letter = k.to_letter;
      number = k.to_end;
      missing = k.stops;
      too_many = k.refuses;
      loses = k.loses;
    }

-- with a point
pub invariant_of-result-2 : goal.invariant_of-result-2
invariant_of-result-2 c =
    let whole = whole_digits (goal.at.invariant_of-result-2 c).After-before_point-before in
    let fraction = c.digits_at-number.result.0.now in
    let here = c.has_byte.ensures.0 c.if-not-has_byte.false in
    let k = reads_whole_and_fraction c.args.source.now c.args.start _ c.before_point-before.result.0.now fraction
    c.utf8.source whole refl here.0 here.1 c.digits_at-number.ensures.digits in
    record {
      whole_digits = k.all_whole;
      fraction_digits = k.all_fraction;
      added_up = c.digits_at-number.ensures.number (digits_number c.before_point-before.result.0.now)
          c.before_point-before.ensures.number ∙ ap (λ n. n % 2 ^ 64)
          (sym (fold-append add_digit 0 c.before_point-before.result.0.now fraction));
      exponent_digits = All-nil IsDigit;
      written_up = refl;
    }

pub returns : goal.returns
returns c =
    let end = c.args.start + length c.before_point-before.result.0.now in
    let whole = whole_digits (goal.at.returns c).After-before_point-before in
    let fraction = c.digits_at-number.result.0.now in
    let here = c.has_byte.ensures.0 c.if-not-has_byte.false in
    let k : ReadsMagnitude c.args.source.now c.args.start c.before_point-before.result.0.now fraction
    (end + 1 + length fraction) c.is_empty.result =
    rw c.is_empty.ensures
    (reads_whole_and_fraction c.args.source.now c.args.start end c.before_point-before.result.0.now fraction c.utf8.source
    whole refl here.0 here.1 c.digits_at-number.ensures.digits) in
    record {
      end = (k.after, k.boundary.0, k.boundary);
      room = omega arith;
      exponent = (refl, refl);
      letter = k.to_letter;
      number = k.to_end;
      missing = k.stops;
      too_many = k.refuses;
      loses = k.loses;
    }
