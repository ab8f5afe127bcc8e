-- The value that the digits of a number in a text spell, and what an exact reading promises of it.
use Rattle.std.specs.Prelude.{◌≡◌, ◌≢◌, ◌⊎◌, ℕ, ◌*◌, ◌^◌, ◌<◌, ℤ, pos, ◌+ℤ◌, ◌-ℤ◌, List, ◌++◌, length, Bool, IsTrue, ⊤}
use Rattle.std.specs.Prelude.{FitsSigned}
use Rattle.std.specs.Int.{w16}
use Rattle.jzon_base.specs.Decimal.{Decimal, nan, parts}
use Rattle.jzon_base.specs.Digits.{digits_number, kept}
use Rattle.jzon.specs.Reading.{Reading}
use Rattle.jzon.specs.Grammar.{Numeral, Node, Elements, no_elements, element, Members, no_members, member, Document}
use Rattle.jzon.specs.Grammar.{IsNumeral}
use Rattle.jzon.specs.Spelling.{Breach, inexact, BreachAt}
use Rattle.jzon.specs.Meaning.{number_of, written_exponent}
use Rattle.jzon.specs.Fault.{Parses}
use Rattle.jzon.specs.Laws.{alone}

-- m * 10 ^ e and n * 10 ^ f are equal, whatever the signs of the exponents are
abbrev pub AreEqualDecimals : ℕ → ℤ → ℕ → ℤ → Type 0
AreEqualDecimals m e n f = (j k : ℕ) → e +ℤ pos k ≡ f +ℤ pos j → m * 10 ^ j ≡ n * 10 ^ k

-- the number has the value that all digits before and after the point and the exponent spell
abbrev pub IsExact : Numeral → Decimal → Type 0
IsExact n nan = ⊥
IsExact n (parts positive m e) = AreEqualDecimals m e
    (digits_number (n.whole ++ n.fraction)) (written_exponent n.exponent -ℤ pos (length n.fraction))

abbrev mutual
  -- each number in a tree has this property
  pub AllNumerals : (Numeral → Type 0) → Node → Type 0
  AllNumerals P (Node.number n) = P n
  AllNumerals P (Node.array b n c es) = AllNumerals P n × AllInElements P es
  AllNumerals P (Node.object k b n c ms) = AllNumerals P n × AllInMembers P ms
  AllNumerals P _ = ⊤

  -- each number in these elements has it
  pub AllInElements : (Numeral → Type 0) → Elements → Type 0
  AllInElements P no_elements = ⊤
  AllInElements P (element b n c es) = AllNumerals P n × AllInElements P es

  -- each number in these members has it
  pub AllInMembers : (Numeral → Type 0) → Members → Type 0
  AllInMembers P no_members = ⊤
  AllInMembers P (member k b n c ms) = AllNumerals P n × AllInMembers P ms

-- Each number of a text that an exact reading accepts has the value that its digits spell.
abbrev pub ExactNumbers : Type 0
ExactNumbers = (r : Reading) (t : List ℕ) (d : Document) → IsTrue r.exact → Parses r t d
    → AllNumerals (λ n. IsExact n (number_of n)) d.node

-- these mantissas differ, but only by zeros at the end
abbrev pub DifferByZeros : ℕ → ℕ → Type 0
DifferByZeros m n = (m ≢ n) × (k : ℕ) × ((m ≡ n * 10 ^ k) ⊎ (n ≡ m * 10 ^ k))

-- No mantissa of 64 bits with an exponent of 16 bits has the value that the digits and the exponent spell, except one
-- that differs by zeros from that of the kept digits: `10e-32769` is 1e-32768, and `1e32768` is 10e32767.
abbrev pub IsInexact : Numeral → Type 0
IsInexact n = (positive : Bool) (m : ℕ) (e : ℤ) → m < 2 ^ 64 → FitsSigned w16 e → IsExact n (parts positive m e)
    → DifferByZeros m (digits_number (kept (n.whole ++ n.fraction)))

-- The other way round: a number with the breach `inexact` at a character, and none before it, isn't exact as it is read.
abbrev pub InexactNumbers : Type 0
InexactNumbers = (r : Reading) (n : Numeral) (i : ℕ) → IsNumeral n → BreachAt r inexact (alone (Node.number n)) i
    → ((j : ℕ) (b : Breach) → j < i → BreachAt r b (alone (Node.number n)) j → ⊥) → IsInexact n
