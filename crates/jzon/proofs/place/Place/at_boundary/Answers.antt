use Rattle.jzon_base.proofs.Common.{◌≡◌, ◌∙◌, ℕ, sym, ap, ap₂, ◌+◌, ◌-◌, arith, chars, take}
use Rattle.jzon.proofs.Texts.Columns.{column_in_first_line}
use Rattle.jzon.specs.Fault.{line, column}
use Rattle.jzon.specs.declared.place.Place.{Place}
use Rattle.jzon.proofs.place.Place.at_boundary.Goals as goal

pub returns-then-line-eq1 : goal.returns-then-line-eq1
returns-then-line-eq1 c =
    let place : ℕ → ℕ → Place = λ l k. record { offset = c.args.offset; line = l; column = k } in
    let cs = chars c.range-prefix.result.now in
    let first : line cs ≡ 1 = sym c.line_after-line.ensures ∙ c.if-line-eq1.true in
    let whole : c.args.offset - 0 ≡ c.args.offset = omega arith in
    let prefix = c.range-prefix.ensures.value ∙ ap (λ n. take n c.args.text.now) whole in
    ap₂ place c.line_after-line.ensures
    (ap (λ n. n + 1) c.characters.ensures.count ∙ sym (column_in_first_line cs first))
    ∙ ap (λ s. place (line (chars s)) (column (chars s))) prefix
