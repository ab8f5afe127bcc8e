use Rattle.jzon_base.proofs.Common.{◌≡◌, map, refl, sym, ap, subst, ◌∙◌, IsTrue, arith, range_with_len}
use Rattle.jzon_base.proofs.Strings.ByteTables.{table_at}
use Rattle.jzon_base.proofs.Strings.Escapes.{letter_means}
use Rattle.jzon_base.specs.Escapes.{is_simple, unescaped, letter_of}
use Rattle.jzon_base.specs.declared.util.escapes.TheConstants.{ESCAPE_LETTERS}
use Rattle.jzon_base.proofs.util.escapes.letter_of.Goals as goal

table_is : ESCAPE_LETTERS ≡ map letter_of (range_with_len 0 96)
table_is = refl

pub returns-else-letter-eq0-clause-letter : goal.returns-else-letter-eq0-clause-letter
returns-else-letter-eq0-clause-letter c =
    let e = table_at letter_of 96 ESCAPE_LETTERS table_is c.args.byte (omega (arith, c.if-byte-ge96.false)) in
    (omega (arith, e, c.if-letter-eq0.false), e)

pub returns-else-letter-eq0-clause-read_back : goal.returns-else-letter-eq0-clause-read_back
returns-else-letter-eq0-clause-read_back c =
    let e = table_at letter_of 96 ESCAPE_LETTERS table_is c.args.byte (omega (arith, c.if-byte-ge96.false)) in
    let m = letter_means c.args.byte (omega (arith, e, c.if-letter-eq0.false)) in
    (subst (λ l. IsTrue (is_simple l)) (sym e) m.0, ap unescaped e ∙ m.1)
