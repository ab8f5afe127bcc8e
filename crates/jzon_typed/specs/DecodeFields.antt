-- The entries of an object that is read by its keys.
use Rattle.std.specs.Prelude.{◌≡◌, ◌⊎◌, ℕ, List, Option, None, Some, IsTrue}
use Rattle.std.specs.List.{list_all}
use Rattle.jzon.specs.PairList.{find, keys_of}
use Rattle.jzon.specs.Readers.{entries}
use Rattle.jzon.specs.Value.{Value, null}
use Rattle.jzon.specs.View.{view_object}
use Rattle.jzon_pointer.specs.Names.{is_among}
use Rattle.jzon_typed.specs.declared.decode.fields.Fields.{Fields}

-- the object that is read
abbrev pub read_from : Fields → Value
read_from f = view_object f.object.now

-- the object has an entry with this key, of whose value this holds
abbrev pub HasEntry : Value → List ℕ → (Value → Type 0) → Type 0
HasEntry v key P = (w : Value) × (find key (entries v) ≡ Some w) × P w

-- the value of the key's entry gives this result
abbrev pub ReadsEntry : {X : Type 0} → Fields → List ℕ → (Value → X → Type 0) → X → Type 0
ReadsEntry f key gives x = (w : Value) × (find key (entries (read_from f)) ≡ Some w) × gives w x

-- the key has an entry whose value is taken
abbrev pub TakesEntry : Fields → List ℕ → (Value → Type 0) → Type 0
TakesEntry f key takes = (w : Value) × (find key (entries (read_from f)) ≡ Some w) × takes w

-- there is no such entry, or its value is null
abbrev pub IsAbsent : Option Value → Type 0
IsAbsent o = (o ≡ None) ⊎ (o ≡ Some null)

-- each key of the object is among the names
abbrev pub AllAmong : List (List ℕ) → Value → Type 0
AllAmong names v = IsTrue (list_all (is_among names) (keys_of (entries v)))
