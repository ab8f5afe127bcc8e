use Rattle.jzon_base.proofs.Common.{get_or, IsCharBoundary-after_ascii}
use Rattle.jzon.proofs.Numbers.Magnitudes.{letter_is_ascii}
use Rattle.jzon.proofs.numeral.spelling_at.Goals as goal

pub exponent_after-exponent-requires : goal.exponent_after-exponent-requires
exponent_after-exponent-requires c =
    let end = c.magnitude_at-magnitude.result.end in
    let letter = c.has_exponent_letter.ensures.0 c.if-not-has_exponent_letter.false in
    IsCharBoundary-after_ascii c.args.source.now end c.utf8.source letter.0
    (letter_is_ascii (get_or c.args.source.now end 0) letter.1)
