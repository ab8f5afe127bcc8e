-- An error with its place in a text (docs/RULES.md, "Errors").
use Rattle.std.specs.Prelude.{◌≡◌, ◌⊎◌, ℕ, List, ◌++◌, Option, None, Some, length, take, chars, codes}
use Rattle.std.specs.Str.{IsCharBoundary}
use Rattle.jzon_base.specs.ErrorPlace.{line_in}
use Rattle.jzon_base.specs.ErrorText.{error_text, place_text}
use Rattle.jzon_base.specs.declared.error.Error.{Error}
use Rattle.jzon_base.specs.declared.error.Error.TheVariants.{OutOfMemory}
use Rattle.jzon.specs.Reading.{Reading}
use Rattle.jzon.specs.Fault.{Fault, IsFirstFault, error_at, line, column, reported_offset}
use Rattle.jzon.specs.declared.located.LocatedError.{LocatedError}
use Rattle.jzon.specs.declared.place.Place.{Place}

-- the place after this many bytes of a text
abbrev pub place_at : List ℕ → ℕ → Place
place_at bytes i = record { offset = i; line = line (chars (take i bytes)); column = column (chars (take i bytes)) }

-- i characters of the text are before the place
pub record IsPlaceOf (bytes : List ℕ) (i : ℕ) (p : Place) : Type 0 where
  pub boundary : IsCharBoundary bytes p.offset
  pub before : length (chars (take p.offset bytes)) ≡ i
  pub line : p.line ≡ line (take i (chars bytes))
  pub column : p.column ≡ column (take i (chars bytes))

-- the error is that of the text's first fault, and the place is where it is reported
abbrev pub IsErrorAt : Reading → List ℕ → Error → Place → Type 0
IsErrorAt r bytes e p =
    (i : ℕ) × (f : Fault) × IsFirstFault r (chars bytes) i f × (e ≡ error_at (chars bytes) i f)
    × IsPlaceOf bytes (reported_offset i f) p

-- an allocation failed, or so
abbrev pub IsLocated : Reading → List ℕ → LocatedError → Type 0
IsLocated r bytes l =
    ((l.error ≡ OutOfMemory) × (l.place ≡ None))
    ⊎ ((p : Place) × (l.place ≡ Some p) × IsErrorAt r bytes l.error p)

-- what `Display` shows: the place after the words of an error that don't have it
abbrev pub place_after : Option Place → Option ℕ → List ℕ
place_after (Some p) None = codes " at " ++ place_text p.line p.column
place_after _ _ = codes ""

-- what `Display` shows of a `LocatedError`
abbrev pub located_text : LocatedError → List ℕ
located_text l = error_text l.error ++ place_after l.place (line_in l.error)
