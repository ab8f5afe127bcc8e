use Rattle.std.proofs.Common.{◌≡◌, ◌++◌, length, option_map, string_bytes, IsUtf8}
use Rattle.jzon_pointer.specs.Pointer.{token_key}
use Rattle.jzon_pointer.proofs.token.key_of.Given as goal

abbrev pub invariant-escapes : goal.invariant-escapes
invariant-escapes l =
    (token_key l.fn.token ≡ option_map (λ k. string_bytes l.key ++ k) (token_key l.rest)) × IsUtf8 l.rest

abbrev pub decreases-escapes : goal.decreases-escapes
decreases-escapes l = length l.rest
