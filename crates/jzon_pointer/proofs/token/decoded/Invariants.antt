use Rattle.std.proofs.Common.{◌≡◌, ◌++◌, length, option_map, IsUtf8}
use Rattle.jzon_pointer.specs.Pointer.{token_key}
use Rattle.jzon_pointer.proofs.token.decoded.Given as goal

abbrev pub invariant-escapes : goal.invariant-escapes
invariant-escapes l =
    (token_key l.fn.token ≡ option_map (λ k. l.key.bytes ++ k) (token_key l.rest)) × IsUtf8 l.rest

abbrev pub decreases-escapes : goal.decreases-escapes
decreases-escapes l = length l.rest
