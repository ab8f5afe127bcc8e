-- The token of a key in a pointer (RFC 6901, section 3).
use Rattle.std.specs.Prelude.{ℕ, List, [], ◌∷◌, ◌++◌, ◌==◌, if◌then◌else◌}

-- `~0` for `~`, and `~1` for `/`
abbrev pub escape_of : ℕ → List ℕ
escape_of c = if c == 126 then 126 ∷ 48 ∷ [] else (if c == 47 then 126 ∷ 49 ∷ [] else c ∷ [])

-- the token of a key
abbrev pub escaped : List ℕ → List ℕ
escaped [] = []
escaped (c ∷ cs) = escape_of c ++ escaped cs

-- `~1` for `/`, and each other byte as it is
abbrev pub slash_of : ℕ → List ℕ
slash_of c = if c == 47 then 126 ∷ 49 ∷ [] else c ∷ []

-- the same of each byte
abbrev pub slashed : List ℕ → List ℕ
slashed [] = []
slashed (c ∷ cs) = slash_of c ++ slashed cs
