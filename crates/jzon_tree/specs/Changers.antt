-- What each changer leaves of a value (docs/RULES.md, "Changers").
use Rattle.std.specs.Prelude.{◌≡◌, ◌⊎◌, ℕ, List, [], ◌∷◌, ◌++◌, remove, Bool, true, false}
use Rattle.jzon_base.specs.ErrorText.{IsWrongType}
use Rattle.jzon_base.specs.PairList.{put, cut}
use Rattle.jzon_base.specs.declared.error.Error.{Error}
use Rattle.jzon_base.specs.declared.error.Error.TheVariants.{OutOfMemory}
use Rattle.jzon_tree.specs.Value.{Value, null, text, short, array, no_values, object, no_pairs, values_of, pairs_of}
use Rattle.jzon_tree.specs.Value.{list_of_values, list_of_pairs}

-- whether the value is a string that is stored inline
abbrev pub is_short : Value → Bool
is_short (text short s) = true
is_short _ = false

-- null for a string, and any other value as it is
abbrev pub without_text : Value → Value
without_text (text k s) = null
without_text v = v

-- an array without its element i; as it is if i is past its end, and so is any other value
abbrev pub without_item : ℕ → Value → Value
without_item i (array vs) = array (values_of (remove (list_of_values vs) i))
without_item i v = v

-- an array with v after its last element; any other value as it is
abbrev pub with_item : Value → Value → Value
with_item v (array vs) = array (values_of (list_of_values vs ++ v ∷ []))
with_item v w = w

-- an object without the entry of key k; any other value as it is
abbrev pub without_entry : List ℕ → Value → Value
without_entry k (object ps) = object (pairs_of (cut k (list_of_pairs ps)))
without_entry k v = v

-- an object with the entry (k, v): at the position of k if it is present, else last; any other value as it is
abbrev pub with_entry : List ℕ → Value → Value → Value
with_entry k v (object ps) = object (pairs_of (put k v (list_of_pairs ps)))
with_entry k v w = w

-- the empty string or container of the same kind, and null for every other value
abbrev pub cleared : Value → Value
cleared (text k s) = text k []
cleared (object ps) = object no_pairs
cleared (array vs) = array no_values
cleared v = null

-- The error of a call that needs a value of kind `kind`, by whether the value is of that kind: `OutOfMemory`, or of a
-- value of another kind also `WrongType` with the kind's name.
abbrev pub IsRefusal : Bool → List ℕ → Error → Type 0
IsRefusal true kind e = e ≡ OutOfMemory
IsRefusal false kind e = (e ≡ OutOfMemory) ⊎ IsWrongType kind e
