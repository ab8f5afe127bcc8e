-- A list of entries, each a key and a value, in the order in which they were put (docs/RULES.md, "Objects"). A key is
-- its bytes.
use Rattle.std.specs.Prelude.{ℕ, zero, suc, if◌then◌else◌, List, [], ◌∷◌, Option, None, Some}
use Rattle.std.specs.List.{fold}
use Rattle.std.specs.Str.{bytes_eq}
use Rattle.std.specs.declared.alloc.Global.{Global}
use Rattle.std.specs.declared.boxed.Box.{Box}
pub use Rattle.std.specs.Map.{keys_of, values_of}

-- the value of the entry with key k, or none
abbrev pub find : {V : Type 0} → List ℕ → List (List ℕ × V) → Option V
find k [] = None
find k (p ∷ ps) = if bytes_eq p.0 k then Some p.1 else find k ps

-- the entries with (k, v) put in: at the position of k, whose value is replaced, or last if k is missing
abbrev pub put : {V : Type 0} → List ℕ → V → List (List ℕ × V) → List (List ℕ × V)
put k v [] = (k, v) ∷ []
put k v (p ∷ ps) = if bytes_eq p.0 k then (p.0, v) ∷ ps else p ∷ put k v ps

-- The entries put one after the other into an empty list: a repeated key keeps its first position and takes the last
-- value.
abbrev pub put_each : {V : Type 0} → List (List ℕ × V) → List (List ℕ × V)
put_each ps = fold (λ qs p. put p.0 p.1 qs) [] ps

-- the entries without that of k; the others keep their order
abbrev pub cut : {V : Type 0} → List ℕ → List (List ℕ × V) → List (List ℕ × V)
cut k [] = []
cut k (p ∷ ps) = if bytes_eq p.0 k then ps else p ∷ cut k ps

-- the entries with v as the value at position i
abbrev pub set_value : {V : Type 0} → List (List ℕ × V) → ℕ → V → List (List ℕ × V)
set_value [] i v = []
set_value (p ∷ ps) zero v = (p.0, v) ∷ ps
set_value (p ∷ ps) (suc i) v = p ∷ set_value ps i v

-- the entries with (k, v) last, if k is missing; else as they are
abbrev pub with_default : {V : Type 0} → List ℕ → V → List (List ℕ × V) → List (List ℕ × V)
with_default k v [] = (k, v) ∷ []
with_default k v (p ∷ ps) = if bytes_eq p.0 k then p ∷ ps else p ∷ with_default k v ps

-- the entries in a box, and none if there is no box
abbrev pub entries_in_box : {V : Type 0} → Option (Box (List (List ℕ × V)) Global) → List (List ℕ × V)
entries_in_box None = []
entries_in_box (Some b) = b.value
