use Rattle.jzon_base.proofs.Common.{◌≡◌, ℕ, ◌<◌, true, cond, map, refl, sym, ◌∙◌, arith, nat_tests, digit_value}
use Rattle.jzon_base.proofs.Common.{is_ascii_hexdigit, range_with_len}
use Rattle.jzon_base.proofs.Strings.ByteTables.{table_at, marked, unmarked}
use Rattle.jzon_base.specs.declared.util.escapes.TheConstants.{DIGIT_VALUES}
use Rattle.jzon_base.proofs.util.escapes.hex_value.Goals as goal

-- a digit's value, and 255 for any other byte
abbrev mark : ℕ → ℕ
mark b = cond (is_ascii_hexdigit b) (digit_value b) 255

table_is : DIGIT_VALUES ≡ map mark (range_with_len 0 256)
table_is = refl

below_sixteen : (b : ℕ) → is_ascii_hexdigit b ≡ true → digit_value b < 16
below_sixteen b h = grind (arith, nat_tests)

pub returns-then-value : goal.returns-then-value
returns-then-value c =
    let b = c.args.byte in
    let e = table_at mark 256 DIGIT_VALUES table_is b (omega arith) in
    marked (is_ascii_hexdigit b) (digit_value b) 255 (sym e ∙ c.if-value.true)
    (λ h same. let below : digit_value b < 16 = below_sixteen b h in omega (arith, below, same))

pub returns-else-value : goal.returns-else-value
returns-else-value c =
    let b = c.args.byte in
    let e = table_at mark 256 DIGIT_VALUES table_is b (omega arith) in
    let told = unmarked (is_ascii_hexdigit b) (digit_value b) 255 (λ same. c.if-value.false (e ∙ same)) in
    (told.0, c.from.ensures ∙ e ∙ told.1)
