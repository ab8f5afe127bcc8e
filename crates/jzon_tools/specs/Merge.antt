-- What a merge makes of a value. A member that is there keeps its position, and a new one is last.
use Rattle.std.specs.Prelude.{ℕ, List, Bool, ◌&&◌, if◌then◌else◌}
use Rattle.jzon.specs.PairList.{find, put, cut}
use Rattle.jzon.specs.Readers.{entries, or_null, is_null}
use Rattle.jzon.specs.Value.{Value, null, boolean, text, number, array, object, ValuePairs, no_pairs, pair, pairs_of}

-- The target t after a patch. If the Bool is true, it is the merge patch of RFC 7396, section 2: a member that is null
-- removes the target's. If it is false, a null is a value as any other.
abbrev mutual
  pub merged : Bool → Value → Value → Value
  merged b t null = null
  merged b t (boolean c) = boolean c
  merged b t (text k s) = text k s
  merged b t (number n) = number n
  merged b t (array vs) = array vs
  merged b t (object ps) = object (pairs_of (merged_pairs b (entries t) ps))

  -- the target's members after all those of a patch
  pub merged_pairs : Bool → List (List ℕ × Value) → ValuePairs → List (List ℕ × Value)
  merged_pairs b ts no_pairs = ts
  merged_pairs b ts (pair k v ps) =
      merged_pairs b (if b && is_null v then cut k ts else put k (merged b (or_null (find k ts)) v) ts) ps

-- the target's members after one member of a patch
abbrev pub merged_pair : Bool → List (List ℕ × Value) → List ℕ → Value → List (List ℕ × Value)
merged_pair b ts k v = if b && is_null v then cut k ts else put k (merged b (or_null (find k ts)) v) ts
