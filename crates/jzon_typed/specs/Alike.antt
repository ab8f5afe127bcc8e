-- Equal values, from which the types of the crate are read alike.
use Rattle.std.specs.Prelude.{◌≡◌, ⊤, Bool, false, true}
use Rattle.jzon.specs.Lawful.{IsValue}
use Rattle.jzon.specs.Same.{same}
use Rattle.jzon.specs.Value.{Value, null, boolean, text, number, array, object, Values, no_values, value, ValuePairs}
use Rattle.jzon.specs.Value.{no_pairs, pair}
use Rattle.jzon_pointer.specs.Found.{may_be_cut}

-- two equal values, as a program can hold them
abbrev pub AreAlike : Value → Value → Type 0
AreAlike v w = (same v w ≡ true) × IsValue v × IsValue w

abbrev mutual
  -- of no number in the value digits may have been cut
  pub IsUncut : Value → Type 0
  IsUncut null = ⊤
  IsUncut (boolean b) = ⊤
  IsUncut (text k s) = ⊤
  IsUncut (number n) = may_be_cut n ≡ false
  IsUncut (array vs) = AreUncut vs
  IsUncut (object ps) = PairsUncut ps

  -- nor in these values
  pub AreUncut : Values → Type 0
  AreUncut no_values = ⊤
  AreUncut (value v vs) = IsUncut v × AreUncut vs

  -- nor in the values of these entries
  pub PairsUncut : ValuePairs → Type 0
  PairsUncut no_pairs = ⊤
  PairsUncut (pair k v ps) = IsUncut v × PairsUncut ps

-- what is read of equal values is equal
abbrev pub AlikeBy : {X : Type 0} → (Value → X → Type 0) → (X → X → Bool) → Type 0
AlikeBy {X} G E = (x y : X) (v w : Value) → AreAlike v w → G v x → G w y → E x y ≡ true

-- if one of equal values is taken, so is the other, of which no number may have been cut
abbrev pub TakenAlike : (Value → Type 0) → Type 0
TakenAlike P = (v w : Value) → AreAlike v w → IsUncut w → P v → P w
