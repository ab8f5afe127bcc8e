-- The grammar of RFC 8259 as trees: a tree has each part of a text, including whitespace. A text is a list of
-- characters.
use Rattle.std.specs.Prelude.{◌≡◌, ℕ, zero, suc, ◌+◌, ◌*◌, List, [], ◌∷◌, Bool, false, not, ◌&&◌, ◌||◌, ◌==◌, nat_le}
use Rattle.std.specs.Prelude.{nat_lt, Option, Some, None, IsTrue, ⊤}
use Rattle.std.specs.Char.{is_ascii_digit, is_ascii_hexdigit, digit_value}
use Rattle.std.specs.List.{fold}
pub use Rattle.jzon_base.specs.Escapes.{is_simple}
use Rattle.jzon_base.specs.Tokens.{escape, quotation_mark, zero_digit}
use lib.Utf8.{scalar}
use Rattle.jzon_tree.specs.Writing.{is_whitespace}
use Rattle.jzon.specs.Reading.{Reading}

-- ---- trees

-- the sign of an exponent, which may be left out
pub data Sign : Type 0 where
  unsigned : Sign
  plus : Sign
  minus : Sign

-- `e` or `E`, a sign and digits (section 6)
pub record Exponent : Type 0 where
  pub letter : ℕ
  pub sign : Sign
  pub digits : List ℕ

-- A number (section 6). Digits are characters; there is a point if `fraction` isn't empty.
pub record Numeral : Type 0 where
  pub negative : Bool
  pub whole : List ℕ
  pub fraction : List ℕ
  pub exponent : Option Exponent

-- A part of a string (section 7): an unescaped character; a backslash and a letter; a `\u` escape with its four digits;
-- two `\u` escapes, of which the first names a surrogate.
pub data Item : Type 0 where
  plain : ℕ → Item
  simple : ℕ → Item
  single : List ℕ → Item
  double : List ℕ → List ℕ → Item

-- a key with the whitespace around it (section 4)
pub record Key : Type 0 where
  pub before : List ℕ
  pub items : List Item
  pub after : List ℕ

-- Values (section 3), arrays (section 5) and objects (section 4). Each `List ℕ` is whitespace: inside an empty
-- container, before and after a value.
mutual
  -- a value
  pub data Node : Type 0 where
    null : Node
    boolean : Bool → Node
    number : Numeral → Node
    string : List Item → Node
    empty_array : List ℕ → Node
    empty_object : List ℕ → Node
    -- a first value and the elements after it
    array : List ℕ → Node → List ℕ → Elements → Node
    -- a first key and its value, and the members after it
    object : Key → List ℕ → Node → List ℕ → Members → Node

  -- what follows a value of an array: its closing bracket, or a comma and one more element
  pub data Elements : Type 0 where
    no_elements : Elements
    element : List ℕ → Node → List ℕ → Elements → Elements

  -- what follows an entry of an object: its closing bracket, or a comma and one more entry
  pub data Members : Type 0 where
    no_members : Members
    member : Key → List ℕ → Node → List ℕ → Members → Members

-- a text (section 2)
pub record Document : Type 0 where
  pub before : List ℕ
  pub node : Node
  pub after : List ℕ

-- ---- which trees are in the grammar

-- the test passes at each character
abbrev pub Each : (ℕ → Bool) → List ℕ → Type 0
Each test [] = ⊤
Each test (c ∷ cs) = IsTrue (test c) × Each test cs

-- each character is whitespace in this reading
abbrev pub IsWhitespace : Reading → List ℕ → Type 0
IsWhitespace r = Each (is_whitespace r.strict)

-- each character is a digit
abbrev pub AreDigits : List ℕ → Type 0
AreDigits = Each is_ascii_digit

-- one digit or more
abbrev pub IsDigits : List ℕ → Type 0
IsDigits [] = ⊥
IsDigits (d ∷ ds) = IsTrue (is_ascii_digit d) × AreDigits ds

-- `0`, or digits that begin with 1 to 9
abbrev pub IsWhole : List ℕ → Type 0
IsWhole [] = ⊥
IsWhole (d ∷ []) = IsTrue (is_ascii_digit d)
IsWhole (d ∷ e ∷ ds) = IsTrue (is_ascii_digit d && not (d == zero_digit)) × AreDigits (e ∷ ds)

-- `e` or `E`
abbrev pub is_exponent_letter : ℕ → Bool
is_exponent_letter c = c == 101 || c == 69

-- there is none, or it has its letter and a digit or more
abbrev pub IsExponent : Option Exponent → Type 0
IsExponent None = ⊤
IsExponent (Some e) = IsTrue (is_exponent_letter e.letter) × IsDigits e.digits

-- a number as the grammar has it
abbrev pub IsNumeral : Numeral → Type 0
IsNumeral n = IsWhole n.whole × AreDigits n.fraction × IsExponent n.exponent

-- exactly n hexadecimal digits, of either case
abbrev pub AreHex : ℕ → List ℕ → Type 0
AreHex zero [] = ⊤
AreHex zero (c ∷ cs) = ⊥
AreHex (suc n) [] = ⊥
AreHex (suc n) (c ∷ cs) = IsTrue (is_ascii_hexdigit c) × AreHex n cs

-- the number that hexadecimal digits spell
unfoldable pub code_unit : List ℕ → ℕ
code_unit cs = fold (λ n c. n * 16 + digit_value c) 0 cs

-- the code units of UTF-16 that begin a surrogate pair
abbrev pub is_high : ℕ → Bool
is_high u = nat_le 0xD800 u && nat_lt u 0xDC00

-- those that end one
abbrev pub is_low : ℕ → Bool
is_low u = nat_le 0xDC00 u && nat_lt u 0xE000

-- both
abbrev pub is_surrogate : ℕ → Bool
is_surrogate u = nat_le 0xD800 u && nat_lt u 0xE000

-- the characters that need no escape: from U+0020 on, except the quote and the backslash
abbrev pub is_unescaped : ℕ → Bool
is_unescaped c = (scalar c && nat_le 32 c) && not (c == quotation_mark || c == escape)

-- a part of a string as the grammar has it; two surrogates needn't be a pair
abbrev pub IsItem : Item → Type 0
IsItem (plain c) = IsTrue (is_unescaped c)
IsItem (simple c) = IsTrue (is_simple c)
IsItem (single u) = AreHex 4 u × (is_surrogate (code_unit u) ≡ false)
IsItem (double u v) = AreHex 4 u × IsTrue (is_surrogate (code_unit u)) × AreHex 4 v

-- each part of a string is as the grammar has it
abbrev pub AreItems : List Item → Type 0
AreItems [] = ⊤
AreItems (i ∷ is) = IsItem i × AreItems is

-- a key, with the whitespace around it, as the grammar has it
abbrev pub IsKey : Reading → Key → Type 0
IsKey r k = IsWhitespace r k.before × AreItems k.items × IsWhitespace r k.after

abbrev mutual
  -- a value as the grammar has it
  pub IsNode : Reading → Node → Type 0
  IsNode r Node.null = ⊤
  IsNode r (Node.boolean b) = ⊤
  IsNode r (Node.number n) = IsNumeral n
  IsNode r (Node.string is) = AreItems is
  IsNode r (Node.empty_array b) = IsWhitespace r b
  IsNode r (Node.empty_object b) = IsWhitespace r b
  IsNode r (Node.array b n c es) = IsWhitespace r b × IsNode r n × IsWhitespace r c × AreElements r es
  IsNode r (Node.object k b n c ms) = IsKey r k × IsWhitespace r b × IsNode r n × IsWhitespace r c × AreMembers r ms

  -- the remaining elements of an array
  pub AreElements : Reading → Elements → Type 0
  AreElements r no_elements = ⊤
  AreElements r (element b n c es) = IsWhitespace r b × IsNode r n × IsWhitespace r c × AreElements r es

  -- the remaining entries of an object
  pub AreMembers : Reading → Members → Type 0
  AreMembers r no_members = ⊤
  AreMembers r (member k b n c ms) = IsKey r k × IsWhitespace r b × IsNode r n × IsWhitespace r c × AreMembers r ms

-- a text as the grammar has it; it may exceed limits
abbrev pub IsDocument : Reading → Document → Type 0
IsDocument r d = IsWhitespace r d.before × IsNode r d.node × IsWhitespace r d.after
