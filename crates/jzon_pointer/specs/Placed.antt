-- Where in a text an error stands that says what went wrong at a pointer.
use Rattle.std.specs.Prelude.{◌≡◌, ℕ, IfSome, List, [], ◌∷◌, ◌++◌, Option, Some, chars, true}
use Rattle.std.specs.Option.{is_some}
use Rattle.jzon.specs.Fault.{Parses}
use Rattle.jzon.specs.Grammar.{Document}
use Rattle.jzon.specs.Reading.{Reading}
use Rattle.jzon.specs.declared.place.Place.{Place}
use Rattle.jzon_pointer.specs.Errors.{place_of, pointer_of, what_of}
use Rattle.jzon_pointer.specs.Escaped.{escaped}
use Rattle.jzon_pointer.specs.Locate.{IsPlaceOf, pointed, value_text}
use Rattle.jzon_pointer.specs.declared.error.Error.{Error}
use Rattle.jzon_pointer.specs.declared.error.What.{What}
use Rattle.jzon_pointer.specs.declared.error.What.TheVariants.{Missing, Unknown}

-- what went wrong at the pointer stands here in a document: at the value that the pointer names, of a missing entry at
-- its object, and of an unknown one at its key
abbrev pub StandsAt : List ℕ → Document → What → List ℕ → Place → Type 0
StandsAt bytes d (Missing expected) p at =
    (q k : List ℕ) → p ≡ q ++ 47 ∷ escaped k → IsPlaceOf bytes value_text (Some at) (pointed d q)
StandsAt bytes d (Unknown known) p at = IsPlaceOf bytes (λ v. v.from) (Some at) (pointed d p)
StandsAt bytes d w p at = IsPlaceOf bytes value_text (Some at) (pointed d p)

-- the same, if anything went wrong and a place is known, of each document that the text parses to
abbrev pub IsPlaceBy : Reading → List ℕ → Option What → List ℕ → Option Place → Type 0
IsPlaceBy r bytes what p place =
    IfSome what (λ w. IfSome place (λ at. (d : Document) → Parses r (chars bytes) d → StandsAt bytes d w p at))

-- the whole value of a text that parses has a place
abbrev pub IsFoundWhole : Reading → List ℕ → List ℕ → Option Place → Type 0
IsFoundWhole r bytes p place = p ≡ [] → (d : Document) → Parses r (chars bytes) d → is_some place ≡ true

-- the error's place, if it has one, is that of what its own pointer names
abbrev pub IsPlacedBy : Reading → List ℕ → Error → Type 0
IsPlacedBy r bytes e = IsPlaceBy r bytes (what_of e) (pointer_of e) (place_of e)
