-- What a filter of lines prints.
use Rattle.std.specs.Prelude.{◌≡◌, ℕ, List, [], ◌∷◌, ◌++◌, chars}
use Rattle.jzon.specs.Fault.{Parses}
use Rattle.jzon.specs.Grammar.{Document}
use Rattle.jzon.specs.Meaning.{meaning}
use Rattle.jzon.specs.Reading.{usual}
use Rattle.jzon.specs.Text.{compact}

-- the compact text of the value on a line, and a newline
abbrev pub IsPrinted : List ℕ → List ℕ → Type 0
IsPrinted line bytes =
    (d : Document) × Parses usual (chars line) d × (bytes ≡ compact (meaning d.node) ++ 10 ∷ [])

-- that of each line, one after the other
abbrev pub ArePrinted : List (List ℕ) → List ℕ → Type 0
ArePrinted [] bytes = bytes ≡ []
ArePrinted (l ∷ ls) bytes =
    (first rest : List ℕ) × IsPrinted l first × ArePrinted ls rest × (bytes ≡ first ++ rest)
