-- What an error of a reading says of the value that was read: by `value_at` of specs/Pointer.antt its pointer names the
-- value that isn't what was expected, or an object and a key.
use Rattle.std.specs.Prelude.{◌≡◌, ◌⊎◌, ⊤, ℕ, IfSome, MatchOption, Option, List, ◌∷◌, ◌++◌, false, true, map, None, Some, Ok, chars}
use Rattle.std.specs.Option.{is_some}
use Rattle.jzon.specs.PairList.{find}
use Rattle.jzon.specs.Readers.{entries, is_object}
use Rattle.jzon.specs.Value.{Value}
use Rattle.jzon.specs.Grammar.{Document}
use Rattle.jzon.specs.Fault.{Parses}
use Rattle.jzon.specs.Located.{IsErrorAt}
use Rattle.jzon.specs.Meaning.{meaning}
use Rattle.jzon.specs.Reading.{Reading}
use Rattle.jzon.specs.declared.place.Place.{Place}
use Rattle.jzon_pointer.specs.Found.{FoundIs, shows_value}
use Rattle.jzon_typed.specs.DecodeExpected.{Refuses}
use Rattle.jzon_typed.specs.Integers.{may_be_cut_in}
use Rattle.jzon_pointer.specs.Errors.{member_of, memory, operation_of, place_of, pointer_of, text_of, what_of}
use Rattle.jzon_pointer.specs.Escaped.{escaped}
use Rattle.jzon_pointer.specs.Locate.{IsPlaceIn}
use Rattle.jzon_pointer.specs.Placed.{IsPlacedBy}
use Rattle.jzon_pointer.specs.Pointer.{value_at}
use Rattle.jzon_pointer.specs.Names.{is_among}
use Rattle.jzon_pointer.specs.declared.error.Error.{Error}
use Rattle.jzon_pointer.specs.declared.error.What.{What}
use Rattle.jzon_pointer.specs.declared.error.What.TheVariants.{Wrong, Cut, Missing, Unknown}

-- the pointer leads to an object, and then to a key for which this holds
abbrev pub IsKeyIn : Value → List ℕ → (List ℕ → Value → Type 0) → Type 0
IsKeyIn v p P = (q : List ℕ) × (k : List ℕ) × (o : Value) × (p ≡ q ++ 47 ∷ escaped k) × (value_at v q ≡ Ok o)
    × (is_object o ≡ true) × P k o

-- what went wrong at a pointer into this value
abbrev pub IsWhatIn : Value → What → List ℕ → Type 0
IsWhatIn v (Wrong expected f) p = (w : Value) × (value_at v p ≡ Ok w) × FoundIs f w × Refuses expected w
IsWhatIn v (Cut expected f) p = (w : Value) × (value_at v p ≡ Ok w) × FoundIs f w × (may_be_cut_in w ≡ true)
IsWhatIn v (Missing expected) p = IsKeyIn v p (λ k o. find k (entries o) ≡ None)
IsWhatIn v (Unknown known) p = IsKeyIn v p (λ k o.
    (is_some (find k (entries o)) ≡ true) × (is_among (map (λ n. n.now) known.now) k ≡ false))
IsWhatIn v _ p = ⊥

-- it says what went wrong in this value, which was read from a text where this is its place
abbrev pub SaysOf : Value → Error → Option Place → Type 0
SaysOf v e at = (w : What) × (what_of e ≡ Some w) × IsWhatIn v w (pointer_of e) × (operation_of e ≡ None)
    × (member_of e ≡ None) × (place_of e ≡ at)

-- an error of a reading of this value
abbrev pub IsErrorIn : Value → Error → Type 0
IsErrorIn v e = (e ≡ memory) ⊎ SaysOf v e None

-- the text means, by the reading, a value for which this holds
abbrev pub MeansSome : Reading → List ℕ → (Value → Type 0) → Type 0
MeansSome r t P = (d : Document) × Parses r t d × P (meaning d.node)

-- an error of a reading of the text with these bytes: that of its first fault and where, or one in the value that it
-- means, and perhaps where: at what the error's pointer names in the text
abbrev pub IsErrorOfText : Reading → List ℕ → Error → Type 0
IsErrorOfText r bytes e = MatchOption (text_of e)
    ((e ≡ memory) ⊎ (MeansSome r (chars bytes) (λ v. SaysOf v e (place_of e)) × IfSome (place_of e) (IsPlaceIn bytes)
    × IsPlacedBy r bytes e))
    (λ t. (p : Place) × (place_of e ≡ Some p) × IsErrorAt r bytes t p)

-- the error shows no value
abbrev pub HidesWhat : What → Type 0
HidesWhat (Wrong expected f) = shows_value f ≡ false
HidesWhat (Cut expected f) = shows_value f ≡ false
HidesWhat _ = ⊤

-- the same of an error
abbrev pub HidesValue : Error → Type 0
HidesValue e = IfSome (what_of e) HidesWhat
