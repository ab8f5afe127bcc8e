use Rattle.jzon_base.proofs.Common.{◌≡◌, ◌∙◌, ◌+◌, Bool, ℕ, length, drop, get_or, take_while, is_ascii_digit, ap, sym, subst}
use Rattle.jzon_base.proofs.Common.{arith, lit<}
use Rattle.jzon.proofs.Containers.FrameViews.{byte_within}
use Rattle.jzon.proofs.Numbers.NumeralOffsets.{ReadsExponent, reads_minus, reads_plus, reads_unsigned}
use Rattle.jzon.proofs.numeral.exponent_after.Goals.{in-45, in-43, in_default}
use Rattle.jzon.proofs.numeral.exponent_after.Goals as goal

pub returns : goal.returns
returns c =
    let text = c.args.source.now in
    let start = c.args.start in
    let digits = c.exponent_digits-number.result.0.now in
    let sign = c.match-byte_at in
    let k : ReadsExponent text start sign.is_positive.0 digits (sign.is_positive.1 + length digits) =
    elim sign.branch [
      | in-45 w ↦
          let here : get_or text start 0 ≡ 45 = sym c.byte_at.ensures ∙ w.in-45.is in
          subst (λ (p : Bool × ℕ). ReadsExponent text start p.0 digits (p.1 + length digits)) (sym w.is_positive-is)
          (reads_minus text start digits c.utf8.source c.requires (byte_within text start 45 here (lit< tt)) here
          (c.exponent_digits-number.ensures.digits ∙ ap (λ (p : Bool × ℕ). take_while is_ascii_digit (drop p.1 text)) w.is_positive-is))
      | in-43 w ↦
          let here : get_or text start 0 ≡ 43 = sym c.byte_at.ensures ∙ w.in-43.is in
          subst (λ (p : Bool × ℕ). ReadsExponent text start p.0 digits (p.1 + length digits)) (sym w.is_positive-is)
          (reads_plus text start digits c.utf8.source c.requires (byte_within text start 43 here (lit< tt)) here
          (c.exponent_digits-number.ensures.digits ∙ ap (λ (p : Bool × ℕ). take_while is_ascii_digit (drop p.1 text)) w.is_positive-is))
      | in_default w ↦
          subst (λ (p : Bool × ℕ). ReadsExponent text start p.0 digits (p.1 + length digits)) (sym w.is_positive-is)
          (reads_unsigned text start digits c.utf8.source c.requires
          (λ h. absurd (grind (arith, h.1, c.byte_at.ensures, w.in_default)))
          (λ h. absurd (grind (arith, h.1, c.byte_at.ensures, w.in_default)))
          (c.exponent_digits-number.ensures.digits ∙ ap (λ (p : Bool × ℕ). take_while is_ascii_digit (drop p.1 text)) w.is_positive-is))
    ] in
    record {
      end = (k.after, k.boundary.0, k.boundary);
      digits = k.all;
      written = c.exponent_digits-number.ensures.number;
      number = k.number;
      missing = k.missing;
      leaves = k.leaves;
      room = k.room;
    }
