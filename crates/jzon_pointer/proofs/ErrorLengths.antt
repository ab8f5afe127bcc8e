-- How long what an error prints is at most.
use Rattle.std.proofs.Common.{◌≡◌, ◌≤◌, ℕ, List, [], ◌∷◌, ◌++◌, length, max, arith}
use Rattle.jzon_pointer.specs.Shown.{shown_char, widest}

pub widest-more : (cs : List ℕ) (c : ℕ) → widest (cs ++ c ∷ []) ≡ max (widest cs) (length (shown_char c))
widest-more [] c = omega arith
widest-more (d ∷ cs) c =
    let more = widest-more cs c in
    omega (arith, more)

pub widest-some : (cs : List ℕ) → 1 ≤ widest cs
widest-some [] = omega arith
widest-some (c ∷ cs) =
    let some = widest-some cs in
    omega (arith, some)
