-- Which values a program can hold: numbers within range, strings that are UTF-8, distinct keys.
use Rattle.std.specs.Prelude.{◌≢◌, ℕ, ◌≤◌, ◌<◌, ◌^◌, List, length, IsUtf8, ⊤, AllPairs, FitsSigned}
use Rattle.std.specs.Int.{w16}
use Rattle.jzon_base.specs.Decimal.{Decimal, nan, parts}
use Rattle.jzon_base.specs.PairList.{keys_of}
use Rattle.jzon_tree.specs.Value.{Value, null, boolean, text, number, array, object, Values, no_values, value, ValuePairs}
use Rattle.jzon_tree.specs.Value.{no_pairs, pair, list_of_pairs, Kind, short, long}

-- a mantissa of 64 bits and an exponent of 16 bits
abbrev pub InRange : Decimal → Type 0
InRange nan = ⊤
InRange (parts positive m e) = (m < 2 ^ 64) × FitsSigned w16 e

-- a short string has at most 30 bytes
abbrev pub IsText : Kind → List ℕ → Type 0
IsText short s = IsUtf8 s × (length s ≤ 30)
IsText long s = IsUtf8 s

abbrev mutual
  -- what the types of a value's parts promise of all of them: numbers within range, strings and keys of UTF-8, short
  -- strings of at most 30 bytes, and distinct keys
  pub IsValue : Value → Type 0
  IsValue null = ⊤
  IsValue (boolean b) = ⊤
  IsValue (text k s) = IsText k s
  IsValue (number n) = InRange n
  IsValue (array vs) = AreValues vs
  IsValue (object ps) = ArePairs ps × AllPairs (λ j k. j ≢ k) (keys_of (list_of_pairs ps))

  -- each of these is such a value
  pub AreValues : Values → Type 0
  AreValues no_values = ⊤
  AreValues (value v vs) = IsValue v × AreValues vs

  -- each key is of UTF-8, and each value is such a value
  pub ArePairs : ValuePairs → Type 0
  ArePairs no_pairs = ⊤
  ArePairs (pair k v ps) = IsUtf8 k × IsValue v × ArePairs ps

-- an entry of such a key and such a value
abbrev pub IsPair : List ℕ × Value → Type 0
IsPair e = IsUtf8 e.0 × IsValue e.1

-- a number other than NaN
abbrev pub IsNumber : Decimal → Type 0
IsNumber nan = ⊥
IsNumber (parts positive m e) = ⊤

abbrev mutual
  -- no number in the value is NaN
  pub HasNoNan : Value → Type 0
  HasNoNan null = ⊤
  HasNoNan (boolean b) = ⊤
  HasNoNan (text k s) = ⊤
  HasNoNan (number n) = IsNumber n
  HasNoNan (array vs) = HaveNoNan vs
  HasNoNan (object ps) = PairsHaveNoNan ps

  -- nor in these values
  pub HaveNoNan : Values → Type 0
  HaveNoNan no_values = ⊤
  HaveNoNan (value v vs) = HasNoNan v × HaveNoNan vs

  -- nor in the values of these entries
  pub PairsHaveNoNan : ValuePairs → Type 0
  PairsHaveNoNan no_pairs = ⊤
  PairsHaveNoNan (pair k v ps) = HasNoNan v × PairsHaveNoNan ps
