-- What a writer that reports its bytes holds after an error.
use Rattle.std.specs.Prelude.{ℕ, ◌≤◌, List, length, take, Option}
use Rattle.std.specs.Io.KnownBytes.{Appends}

-- the writer's bytes, if they are known, are those before the call and then a prefix of bs
abbrev pub AppendsBeginning : Option (List ℕ) → Option (List ℕ) → List ℕ → Type 0
AppendsBeginning old new bs = (n : ℕ) × (n ≤ length bs) × Appends old new (take n bs)
