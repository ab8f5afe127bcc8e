use Rattle.std.proofs.Common.{◌≡◌, ◌<◌, ◌-◌, length, IfSome}
use Rattle.std.specs.Option.{option_copied}
use Rattle.jzon.specs.View.{view}
use Rattle.jzon_pointer.specs.Pointer.{value_at, found, tokens_left}
use Rattle.jzon_pointer.proofs.PlaceSteps.{bytes_left}
use Rattle.jzon_pointer.proofs.pointer.seek.Given as goal

-- what is found from here on is what the pointer names, and what is left is shorter than the pointer
abbrev pub invariant-tokens : goal.invariant-tokens
invariant-tokens l =
    let left = option_copied l.left in
    (value_at (view l.fn.value) l.fn.path
    ≡ found (length l.fn.path - bytes_left left) (view l.place) (tokens_left left))
    × IfSome l.left (λ t. length t.now < length l.fn.path)

abbrev pub decreases-tokens : goal.decreases-tokens
decreases-tokens l = length (tokens_left (option_copied l.left))
