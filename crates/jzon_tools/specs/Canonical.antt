-- A value with sorted keys, its canonical text, and the law of canonical texts.
use Rattle.std.specs.Prelude.{◌≡◌, ℕ, zero, suc, not, ◌/◌, ◌%◌, ◌==◌, ◌&&◌, ◌||◌, ℤ, pos, ◌+ℤ◌, List, Bool, true, false}
use Rattle.std.specs.Borrow.{Bor}
use Rattle.std.specs.Prelude.{◌↔◌, IsTrue, if◌then◌else◌}
use Rattle.std.specs.Ordering.{int_eq}
use Rattle.jzon.specs.Answer.{IsReadable}
use Rattle.jzon.specs.Decimal.{Decimal, nan, parts, is_nan}
use Rattle.jzon.specs.Fault.{Parses}
use Rattle.jzon.specs.Grammar.{Document}
use Rattle.jzon.specs.Meaning.{meaning}
use Rattle.jzon.specs.Reading.{strict_exact}
use Rattle.jzon.specs.Lawful.{IsValue, HasNoNan}
use Rattle.jzon.specs.Same.{same}
use Rattle.jzon.specs.SortedStyle.{is_before}
use Rattle.jzon.specs.Text.{compact}
use Rattle.jzon.specs.Value.{Value, null, boolean, text, number, array, object, Values, no_values, value, ValuePairs}
use Rattle.jzon.specs.Value.{no_pairs, pair, kind_of}

-- the entry (k, v) among sorted entries: before the first whose key is after k
abbrev pub put_sorted : List ℕ → Value → ValuePairs → ValuePairs
put_sorted k v no_pairs = pair k v no_pairs
put_sorted k v (pair j w ps) = if is_before k j then pair k v (pair j w ps) else pair j w (put_sorted k v ps)

-- a value with the entries of each object sorted, at every depth, and with `leaf v` for each value v that is neither an
-- array nor an object
module _ (leaf : Value → Value) where
  abbrev mutual
    pub arranged : Value → Value
    arranged null = leaf null
    arranged (boolean b) = leaf (boolean b)
    arranged (text k s) = leaf (text k s)
    arranged (number n) = leaf (number n)
    arranged (array vs) = array (arranged_values vs)
    arranged (object ps) = object (arranged_pairs ps)

    pub arranged_values : Values → Values
    arranged_values no_values = no_values
    arranged_values (value v vs) = value (arranged v) (arranged_values vs)

    pub arranged_pairs : ValuePairs → ValuePairs
    arranged_pairs no_pairs = no_pairs
    arranged_pairs (pair k v ps) = put_sorted k (arranged v) (arranged_pairs ps)

-- the value with its keys sorted, and otherwise as it is
abbrev pub sorted_keys : Value → Value
sorted_keys = arranged (λ v. v)

-- m * 10 ^ e without its last n zeros, as far as the exponent has room
unfoldable pub stripped : ℕ → ℕ → ℤ → ℕ × ℤ
stripped zero m e = (m, e)
stripped (suc n) m e =
    if m % 10 == 0 && not (int_eq e (pos 32767)) then stripped n (m / 10) (e +ℤ pos 1) else (m, e)

-- the number with +0 for each zero, and any other without the last zeros of its mantissa, which has at most 20 digits
abbrev pub normal_number : Decimal → Decimal
normal_number nan = nan
normal_number (parts p m e) =
    if m == 0 then parts true 0 (pos 0) else parts p (stripped 20 m e).0 (stripped 20 m e).1

-- a normal number, and a string as `parse` stores it
abbrev pub normal_leaf : Value → Value
normal_leaf null = null
normal_leaf (boolean b) = boolean b
normal_leaf (text k s) = text (kind_of s) s
normal_leaf (number n) = number (normal_number n)
normal_leaf (array vs) = array vs
normal_leaf (object ps) = object ps

-- the canonical text of a value
abbrev pub canonical : Value → List ℕ
canonical v = compact (arranged normal_leaf v)

-- the entry to which references point
abbrev pub pointed : {V : Type 0} → Bor (List ℕ) × Bor V → List ℕ × V
pointed e = (e.0.now, e.1.now)

-- whether a NaN is inside
abbrev mutual
  pub has_nan : Value → Bool
  has_nan null = false
  has_nan (boolean b) = false
  has_nan (text k s) = false
  has_nan (number n) = is_nan n
  has_nan (array vs) = have_nan vs
  has_nan (object ps) = pairs_have_nan ps

  -- the same of elements
  pub have_nan : Values → Bool
  have_nan no_values = false
  have_nan (value v vs) = has_nan v || have_nan vs

  -- the same of entries
  pub pairs_have_nan : ValuePairs → Bool
  pairs_have_nan no_pairs = false
  pairs_have_nan (pair k v ps) = has_nan v || pairs_have_nan ps

-- two values without NaN are equal if and only if their canonical texts are the same
abbrev pub CanonicalLaw : Type 0
CanonicalLaw = (v w : Value) → IsValue v → IsValue w → HasNoNan v → HasNoNan w
    → (IsTrue (same v w) → canonical v ≡ canonical w) × (canonical v ≡ canonical w → IsTrue (same v w))

-- the bytes are the canonical text of what the text means
abbrev pub IsCanonicalOf : List ℕ → List ℕ → Type 0
IsCanonicalOf t bytes = (d : Document) × Parses strict_exact t d × IsReadable strict_exact (meaning d.node)
    × (bytes ≡ canonical (meaning d.node))

-- two texts have the same result if and only if they mean equal values
abbrev pub OneTextLaw : Type 0
OneTextLaw = (t u a b : List ℕ) (h : IsCanonicalOf t a) (k : IsCanonicalOf u b)
    → (a ≡ b) ↔ IsTrue (same (meaning h.0.node) (meaning k.0.node))
