-- Names among others, byte by byte.
use Rattle.std.specs.Prelude.{ℕ, List, Bool}
use Rattle.std.specs.List.{list_any}
use Rattle.std.specs.Str.{bytes_eq}

-- whether a name is one of them
abbrev pub is_among : List (List ℕ) → List ℕ → Bool
is_among names k = list_any (λ n. bytes_eq n k) names
