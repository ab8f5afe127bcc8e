-- Equality of values (docs/RULES.md, "Equality"): the order of an object's entries doesn't matter (RFC 8259, section
-- 4), nor does how a string is stored or how a decimal is written.
use Rattle.std.specs.Prelude.{ℕ, Bool, true, false, ◌&&◌, ◌||◌, List, [], ◌∷◌, Option, None, Some, is_some}
use Rattle.std.specs.Bool.{beq}
use Rattle.std.specs.Str.{bytes_eq}
use Rattle.jzon_base.specs.Decimal.{same_decimal}
use Rattle.jzon_base.specs.PairList.{find}
use Rattle.jzon_tree.specs.Value.{Value, null, boolean, text, number, array, object, Values, no_values, value, ValuePairs}
use Rattle.jzon_tree.specs.Value.{no_pairs, pair, list_of_pairs}

-- the key is one of these
abbrev pub is_known : List (List ℕ) → List ℕ → Bool
is_known [] k = false
is_known (j ∷ js) k = bytes_eq j k || is_known js k

-- each key of the first is a key of the second
abbrev pub has_keys_within : ValuePairs → ValuePairs → Bool
has_keys_within no_pairs qs = true
has_keys_within (pair k v ps) qs = is_some (find k (list_of_pairs qs)) && has_keys_within ps qs

-- there is a value, and it passes the test
abbrev pub passes : (Value → Bool) → Option Value → Bool
passes test None = false
passes test (Some w) = test w

abbrev mutual
  -- whether two values are equal: how a string is stored, a decimal is written and entries are ordered doesn't count
  pub same : Value → Value → Bool
  same null null = true
  same (boolean b) (boolean c) = beq b c
  same (text j s) (text k t) = bytes_eq s t
  same (number m) (number n) = same_decimal m n
  same (array vs) (array ws) = same_items vs ws
  same (object ps) (object qs) = same_under [] ps qs && has_keys_within qs ps
  same _ _ = false

  -- element by element
  pub same_items : Values → Values → Bool
  same_items no_values no_values = true
  same_items (value v vs) (value w ws) = same v w && same_items vs ws
  same_items _ _ = false

  -- Each key of ps has the same value in qs; of a repeated key the first value counts. `seen` are the keys before.
  pub same_under : List (List ℕ) → ValuePairs → ValuePairs → Bool
  same_under seen no_pairs qs = true
  same_under seen (pair k v ps) qs = (is_known seen k || passes (same v) (find k (list_of_pairs qs))) && same_under
      (k ∷ seen) ps qs
