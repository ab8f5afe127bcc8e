-- What a tree means: a value (docs/RULES.md, "Texts").
use Rattle.std.specs.Prelude.{ℕ, ◌+◌, ◌-◌, ◌*◌, List, [], ◌∷◌, ◌++◌, Bool, not, ◌&&◌, if◌then◌else◌, Option, Some}
use Rattle.std.specs.Prelude.{None, ℤ, pos, neg_ℤ, encode_utf8_all}
use Rattle.jzon_base.specs.Decimal.{Decimal}
use Rattle.jzon_base.specs.Digits.{digits_number, number_read}
pub use Rattle.jzon_base.specs.Escapes.{unescaped}
use Rattle.jzon_base.specs.PairList.{put_each}
use Rattle.jzon_tree.specs.Value.{Value, null, boolean, text, number, array, object, no_values, Values, value, no_pairs}
use Rattle.jzon_tree.specs.Value.{pairs_of, kind_of}
use Rattle.jzon.specs.Grammar.{Sign, unsigned, plus, minus, Exponent, Numeral, Item, plain, simple, single, double}
use Rattle.jzon.specs.Grammar.{code_unit, is_high, is_low, Node, Elements, no_elements, element, Members, no_members}
use Rattle.jzon.specs.Grammar.{member}

-- ---- numbers

-- the exponent of a sign and a magnitude
abbrev pub signed_exponent : Sign → ℕ → ℤ
signed_exponent unsigned n = pos n
signed_exponent plus n = pos n
signed_exponent minus n = neg_ℤ (pos n)

-- the exponent as it is written; 0 if there is none
abbrev pub written_exponent : Option Exponent → ℤ
written_exponent None = pos 0
written_exponent (Some e) = signed_exponent e.sign (digits_number e.digits)

-- the number that a numeral means
abbrev pub number_of : Numeral → Decimal
number_of n = number_read (not n.negative) n.whole n.fraction (written_exponent n.exponent)

-- ---- strings

-- the character of a surrogate pair
abbrev pub pair_char : ℕ → ℕ → ℕ
pair_char high low = 0x10000 + (high - 0xD800) * 0x400 + (low - 0xDC00)

-- two `\u` escapes that form a surrogate pair
abbrev pub is_pair : List ℕ → List ℕ → Bool
is_pair u v = is_high (code_unit u) && is_low (code_unit v)

-- the characters that a part of a string means; none for two surrogates that aren't a pair
abbrev pub item_text : Item → List ℕ
item_text (plain c) = c ∷ []
item_text (simple l) = unescaped l ∷ []
item_text (single u) = code_unit u ∷ []
item_text (double u v) = if is_pair u v then pair_char (code_unit u) (code_unit v) ∷ [] else []

-- the characters that a string means
abbrev pub characters_of : List Item → List ℕ
characters_of [] = []
characters_of (i ∷ is) = item_text i ++ characters_of is

-- these characters as bytes of UTF-8
unfoldable pub bytes_of : List Item → List ℕ
bytes_of is = encode_utf8_all (characters_of is)

-- ---- values

abbrev mutual
  -- the value that a tree means
  pub meaning : Node → Value
  meaning Node.null = null
  meaning (Node.boolean b) = boolean b
  meaning (Node.number n) = number (number_of n)
  meaning (Node.string is) = text (kind_of (bytes_of is)) (bytes_of is)
  meaning (Node.empty_array b) = array no_values
  meaning (Node.empty_object b) = object no_pairs
  meaning (Node.array b n c es) = array (value (meaning n) (elements_meaning es))
  meaning (Node.object key b n c ms) = object (pairs_of (put_each
      ((bytes_of key.items, meaning n) ∷ members_meaning ms)))

  -- the values that the remaining elements mean
  pub elements_meaning : Elements → Values
  elements_meaning no_elements = no_values
  elements_meaning (element b n c es) = value (meaning n) (elements_meaning es)

  -- the entries in the order of the text, with repeated keys
  pub members_meaning : Members → List (List ℕ × Value)
  members_meaning no_members = []
  members_meaning (member key b n c ms) = (bytes_of key.items, meaning n) ∷ members_meaning ms
