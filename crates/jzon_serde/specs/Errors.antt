-- What an error of reading a type says of the text, and of a value.
use Rattle.std.specs.Prelude.{◌≡◌, ◌⊎◌, ℕ, List, None, IfSome, chars}
use Rattle.jzon.specs.Fault.{Parses}
use Rattle.jzon.specs.Grammar.{Document}
use Rattle.jzon.specs.Located.{IsLocated}
use Rattle.jzon.specs.Reading.{Reading}
use Rattle.jzon.specs.declared.located.LocatedError.{LocatedError}
use Rattle.jzon_pointer.specs.Errors.{located_error, place_of, text_of}
use Rattle.jzon_pointer.specs.Locate.{IsPlaceIn}
use Rattle.jzon_pointer.specs.declared.error.Error.{Error}

-- the reading accepts the text
abbrev pub IsAccepted : Reading → List ℕ → Type 0
IsAccepted r t = (d : Document) × Parses r t d

-- the error is that of the first fault of the text with these bytes, or a failed allocation
abbrev pub IsOfText : Reading → List ℕ → Error → Type 0
IsOfText r bytes e = (l : LocatedError) × (e ≡ located_error l) × IsLocated r bytes l

-- the error of a value has no place
abbrev pub IsOfValue : Error → Type 0
IsOfValue e = (text_of e ≡ None) × (place_of e ≡ None)

-- of a value that a text means: its place, if it is known, is one in the text
abbrev pub IsOfValueIn : List ℕ → Error → Type 0
IsOfValueIn bytes e = (text_of e ≡ None) × IfSome (place_of e) (IsPlaceIn bytes)

-- the error of reading a type from the text with these bytes
abbrev pub IsOfReading : Reading → List ℕ → Error → Type 0
IsOfReading r bytes e = IsOfText r bytes e ⊎ (IsAccepted r (chars bytes) × IsOfValueIn bytes e)
