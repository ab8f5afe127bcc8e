use Rattle.std.proofs.Common.{◌≤◌, ◌∙◌, ℕ, List, sym, ap, length, arith}
use Rattle.std.specs.List.{slice_get}
use Rattle.jzonfmt.proofs.CountsOfSpaces.{spaces_read}
use Rattle.jzonfmt.proofs.engine.spaces_of.Goals as goal

pub returns : goal.returns
returns c =
    let short : length c.args.word.now ≤ 5 = omega (arith, c.if-word-gt5.false) in
    c.ok.ensures.value ∙ spaces_read c.args.word.now c.copied.result c.parse.result short
    (c.copied.ensures ∙ c.first.ensures.value ∙ ap (λ (n : List ℕ). slice_get n 0) c.as_bytes.ensures.value)
    (sym c.eq.ensures ∙ c.if-eq.false) c.parse.ensures.value.0
