use Rattle.std.proofs.Common.{[], ◌∷◌, length, sym, ap, ◌∙◌, arith, encode_utf8, append-nil, length-append}
use Rattle.std.proofs.lemmas.Str.{encode_same, length-le-encodes}
use Rattle.jzon_typed.proofs.decode.impls.only_char.Goals as goal

pub returns-in_err-first-clause-one : goal.returns-in_err-first-clause-one
returns-in_err-first-clause-one c = λ d scalar is.
    let text = c.chars-chars.ensures.rest ∙ is ∙ sym (append-nil (encode_utf8 d)) in
    absurd (omega (arith, ap length text, length-le-encodes (d ∷ []), c.in_err-first.ensures.steps.0.0))

pub returns-in-Some-clause-one : goal.returns-in-Some-clause-one
returns-in-Some-clause-one c = λ d scalar is.
    let text = c.chars-chars.ensures.rest ∙ is ∙ sym (append-nil (encode_utf8 d)) in
    let first = sym c.in_ok-first.ensures.steps.0 ∙ text in
    let second = c.in-Some._second in
    let after = encode_same c.in_ok-first.first d c.next.new.self.rest.now [] first in
    absurd (omega (
      arith,
      ap length (sym after.1 ∙ c.in-Some.ensures.steps.0),
      length-append (encode_utf8 second) c.next-2.new.self.rest.now,
      length-append (encode_utf8 second) [],
      length-le-encodes (second ∷ []),
    ))
