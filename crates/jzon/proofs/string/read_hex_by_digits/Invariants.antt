use Rattle.jzon.proofs.Strings.HexDigits.{HexRead}
use Rattle.jzon.proofs.string.read_hex_by_digits.Given as goal

abbrev pub invariant-loop-index : goal.invariant-loop-index
invariant-loop-index l = HexRead l.source l.start l.index l.unit
