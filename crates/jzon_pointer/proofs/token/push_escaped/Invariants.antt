use Rattle.std.proofs.Common.{◌≡◌, ◌++◌, length, string_bytes, IsUtf8}
use Rattle.jzon_pointer.specs.Escaped.{escaped}
use Rattle.jzon_pointer.proofs.token.push_escaped.Given as goal

-- what is written, and then what is left of the key as a token
abbrev pub invariant-escapes : goal.invariant-escapes
invariant-escapes l =
    (string_bytes l.text ++ escaped l.rest ≡ string_bytes l.initial.text ++ escaped l.key) × IsUtf8 l.rest

abbrev pub decreases-escapes : goal.decreases-escapes
decreases-escapes l = length l.rest
