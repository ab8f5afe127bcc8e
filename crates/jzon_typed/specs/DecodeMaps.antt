-- Characters, and lists and maps that are read from the elements of an array and the entries of an object.
use Rattle.std.specs.Prelude.{◌≡◌, ℕ, List, Option, None, Some, MatchOption, slice_get, encode_utf8, true}
use Rattle.std.specs.Char.{IsScalar}
use Rattle.jzon.specs.PairList.{find}
use Rattle.jzon.specs.Readers.{count, entries, is_array, is_object, items, text_in}
use Rattle.jzon.specs.Value.{Value}

-- what is looked up by the bytes of each key was read from the value of that key, if the object has one
abbrev pub ReadsEntries : {X : Type 0} → (Value → X → Type 0) → Value → (List ℕ → Option X) → Type 0
ReadsEntries G v look = (k : List ℕ) → MatchOption (look k) (find k (entries v) ≡ None)
    (λ x. (w : Value) × (find k (entries v) ≡ Some w) × G w x)

-- the element at this index gives this result
abbrev pub ReadsItem : {X : Type 0} → Value → ℕ → (Value → X → Type 0) → X → Type 0
ReadsItem v i G x = (w : Value) × (slice_get (items v) i ≡ Some w) × G w x

-- there is an element at this index, and it is taken
abbrev pub TakesItem : Value → ℕ → (Value → Type 0) → Type 0
TakesItem v i takes = (w : Value) × (slice_get (items v) i ≡ Some w) × takes w

-- a string of one character
abbrev pub IsOneChar : Value → Type 0
IsOneChar v = (c : ℕ) × IsScalar c × (text_in v ≡ Some (encode_utf8 c))

-- an array of this many elements
abbrev pub IsArrayOf : ℕ → Value → Type 0
IsArrayOf n v = (is_array v ≡ true) × (count v ≡ n)

-- an array, of which each element is taken
abbrev pub TakesItems : (Value → Type 0) → Value → Type 0
TakesItems takes v = (is_array v ≡ true) × ((i : ℕ) (w : Value) → slice_get (items v) i ≡ Some w → takes w)

-- an object, of which each entry's value is taken
abbrev pub TakesEntries : (Value → Type 0) → Value → Type 0
TakesEntries takes v = (is_object v ≡ true) × ((k : List ℕ) (w : Value) → find k (entries v) ≡ Some w → takes w)
