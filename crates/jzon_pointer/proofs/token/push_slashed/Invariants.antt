use Rattle.std.proofs.Common.{◌≡◌, ◌++◌, length, string_bytes, IsUtf8}
use Rattle.jzon_pointer.specs.Escaped.{slashed}
use Rattle.jzon_pointer.proofs.token.push_slashed.Given as goal

-- what is written, and then what is left of the key with escapes
abbrev pub invariant-escapes : goal.invariant-escapes
invariant-escapes l =
    (string_bytes l.text ++ slashed l.rest ≡ string_bytes l.initial.text ++ slashed l.key) × IsUtf8 l.rest

abbrev pub decreases-escapes : goal.decreases-escapes
decreases-escapes l = length l.rest
