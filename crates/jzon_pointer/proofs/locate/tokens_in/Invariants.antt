use Rattle.std.proofs.Common.{◌≡◌, ◌++◌, Some, length, map}
use Rattle.std.specs.Option.{option_copied}
use Rattle.jzon_pointer.specs.Pointer.{tokens_left, tokens_of}
use Rattle.jzon_pointer.proofs.locate.tokens_in.Given as goal

-- the tokens so far, and those that are left
abbrev pub invariant-tokens : goal.invariant-tokens
invariant-tokens l =
    Some (map (λ t. t.now) l.tokens.items ++ tokens_left (option_copied l.left)) ≡ tokens_of l.pointer

abbrev pub decreases-tokens : goal.decreases-tokens
decreases-tokens l = length (tokens_left (option_copied l.left))
