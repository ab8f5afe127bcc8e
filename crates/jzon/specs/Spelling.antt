-- The text of a tree, and where it exceeds a limit.
use Rattle.std.specs.Prelude.{◌≡◌, ℕ, suc, ◌+◌, List, [], ◌∷◌, ◌++◌, length, map, Bool, true, false, not, ◌&&◌, ◌==◌}
use Rattle.std.specs.Prelude.{nat_le, if◌then◌else◌, Option, Some, None, codes, slice_get}
use Rattle.jzon_base.specs.Digits.{dropped, kept_fraction}
use Rattle.jzon_base.specs.LostDigits.{loses_last, leaves_range}
use Rattle.jzon_base.specs.Tokens.{begin_array, begin_object, decimal_point, end_array, end_object, escape, minus_sign}
use Rattle.jzon_base.specs.Tokens.{name_separator, plus_sign, quotation_mark, value_separator}
use Rattle.jzon_tree.specs.Same.{is_known}
use Rattle.jzon.specs.Reading.{Reading}
use Rattle.jzon.specs.Grammar.{Sign, unsigned, plus, minus, Exponent, Numeral, Item, simple, single, double, Key, Node}
use Rattle.jzon.specs.Grammar.{Elements, no_elements, element, Members, no_members, member, Document}
use Rattle.jzon.specs.Grammar as grammar
use Rattle.jzon.specs.Meaning.{is_pair, bytes_of, signed_exponent}

-- the limits that a tree can break
pub data Breach : Type 0 where
  -- one open container too many
  deep : Breach
  -- two surrogates that aren't a surrogate pair
  pair : Breach
  -- one digit too many
  digit : Breach
  -- a repeated key, with the number of characters from its opening quote to its closing quote
  duplicate : ℕ → Breach
  -- a digit with which the number has another value, as it is read, than its digits and exponent spell
  inexact : Breach

-- A character of a text with its breach, if any. There is at most one: a depth breach is at the first character of a
-- value or of a key, a `digit` or `inexact` breach never at the first digit of a number (a digit that has both has
-- `digit`), a `pair` breach at the last digit of an escape, a duplicate breach at a closing quote.
pub record Cell : Type 0 where
  pub char : ℕ
  pub mark : Option Breach

-- a character with its breach, if any
abbrev pub cell : ℕ → Option Breach → Cell
cell c m = record { char = c; mark = m }

-- this breach, if the condition holds
abbrev pub breach_if : Bool → Breach → Option Breach
breach_if t b = if t then Some b else None

-- The text of each part is put before `k`, the cells that follow it.

-- characters without a breach
abbrev pub plain : List ℕ → List Cell → List Cell
plain [] k = k
plain (c ∷ cs) k = cell c None ∷ plain cs k

-- characters with this breach at the last one alone
abbrev pub marked_last : List ℕ → Option Breach → List Cell → List Cell
marked_last [] m k = k
marked_last (c ∷ []) m k = cell c m ∷ k
marked_last (c ∷ d ∷ cs) m k = cell c None ∷ marked_last (d ∷ cs) m k

-- the first list reversed, followed by the second
abbrev pub onto : List ℕ → List ℕ → List ℕ
onto [] cs = cs
onto (b ∷ bs) cs = onto bs (b ∷ cs)

-- ---- numbers

-- the last of these whole digits is the 32768th that is dropped
unfoldable pub drops_too_many : List ℕ → Bool
drops_too_many whole = dropped whole [] == 32768

-- the last of these fraction digits is the 32769th that is kept
unfoldable pub keeps_too_many : List ℕ → List ℕ → Bool
keeps_too_many whole fraction = length fraction == 32769 && kept_fraction whole fraction == 32769

-- the breach at the last of these digits
abbrev pub whole_breach : Reading → List ℕ → Option Breach
whole_breach r whole = if drops_too_many whole then Some digit else breach_if (r.exact && loses_last whole) inexact

-- the breach at the last of the digits `fraction`, which follow `whole`
abbrev pub fraction_breach : Reading → List ℕ → List ℕ → Option Breach
fraction_breach r whole fraction =
    if keeps_too_many whole fraction then Some digit else breach_if (r.exact && loses_last (whole ++ fraction)) inexact

-- the breach at the last of these digits of an exponent
abbrev pub exponent_breach : Reading → List ℕ → List ℕ → Sign → List ℕ → Option Breach
exponent_breach r whole fraction s ds = breach_if (r.exact && leaves_range whole fraction (signed_exponent s) ds) inexact

-- digits after others (`prefix`, in reverse order), each with the breach of the digits up to it
abbrev pub digits_cells : (List ℕ → Option Breach) → List ℕ → List ℕ → List Cell → List Cell
digits_cells breach prefix [] k = k
digits_cells breach prefix (d ∷ ds) k = cell d (breach (onto (d ∷ prefix) [])) ∷ digits_cells breach (d ∷ prefix) ds k

-- the digits before the point, with the breach m at the first
abbrev pub whole_cells : Reading → List ℕ → Option Breach → List Cell → List Cell
whole_cells r [] m k = k
whole_cells r (d ∷ ds) m k = cell d m ∷ digits_cells (whole_breach r) (d ∷ []) ds k

-- the point and the digits after it, if there are any; `whole` are the digits before it
abbrev pub fraction_cells : Reading → List ℕ → List ℕ → List Cell → List Cell
fraction_cells r whole [] k = k
fraction_cells r whole (d ∷ ds) k = cell decimal_point None ∷ digits_cells (fraction_breach r whole) [] (d ∷ ds) k

-- the sign of an exponent
abbrev pub sign_cells : Sign → List Cell → List Cell
sign_cells unsigned k = k
sign_cells plus k = cell plus_sign None ∷ k
sign_cells minus k = cell minus_sign None ∷ k

-- the letter of an exponent, its sign and its digits, after the digits `whole` and `fraction`
abbrev pub exponent_cells : Reading → List ℕ → List ℕ → Option Exponent → List Cell → List Cell
exponent_cells r whole fraction None k = k
exponent_cells r whole fraction (Some e) k =
    cell e.letter None ∷ sign_cells e.sign (digits_cells (exponent_breach r whole fraction e.sign) [] e.digits k)

-- a number without its minus, with the breach m at the first digit
abbrev pub magnitude_cells : Reading → Numeral → Option Breach → List Cell → List Cell
magnitude_cells r n m k =
    whole_cells r n.whole m (fraction_cells r n.whole n.fraction (exponent_cells r n.whole n.fraction n.exponent k))

-- a number, with the breach m at its first character
abbrev pub numeral_cells : Reading → Numeral → Option Breach → List Cell → List Cell
numeral_cells r n m k = if n.negative then cell minus_sign m ∷ magnitude_cells r n None k else magnitude_cells r n m k

-- ---- strings

-- a backslash and the `u`
abbrev pub escape_cells : List Cell → List Cell
escape_cells k = cell escape None ∷ cell 117 None ∷ k

-- a part of a string
abbrev pub item_cells : Item → List Cell → List Cell
item_cells (grammar.plain c) k = cell c None ∷ k
item_cells (simple c) k = cell escape None ∷ cell c None ∷ k
item_cells (single u) k = escape_cells (plain u k)
item_cells (double u v) k = escape_cells (plain u (escape_cells (marked_last v (breach_if (not (is_pair u v)) pair) k)))

-- the parts of a string
abbrev pub items_cells : List Item → List Cell → List Cell
items_cells [] k = k
items_cells (i ∷ is) k = item_cells i (items_cells is k)

-- how many characters the parts of a string have
abbrev pub items_length : List Item → ℕ
items_length is = length (items_cells is [])

-- the breach at a key's closing quote: a strict reading, and the key is one of `seen`, the earlier keys of its object
abbrev pub duplicate_if : Reading → List (List ℕ) → List Item → Option Breach
duplicate_if r seen is = breach_if (r.strict && is_known seen (bytes_of is)) (duplicate (items_length is + 1))

-- a key with its colon, with the breach m at its opening quote
abbrev pub key_cells : Reading → List (List ℕ) → Key → Option Breach → List Cell → List Cell
key_cells r seen key m k =
    plain key.before (cell quotation_mark m ∷ items_cells key.items
    (cell quotation_mark (duplicate_if r seen key.items) ∷ plain key.after
    (cell name_separator None ∷ k)))

-- ---- values

-- The breach at the first character after a bracket and its whitespace: as many non-empty containers as the reading
-- allows are open already.
abbrev pub deep_if : Reading → ℕ → Option Breach
deep_if r depth = breach_if (nat_le r.depth depth) deep

abbrev mutual
  -- a value inside `depth` non-empty containers, with the breach at its first character
  pub node_cells : Reading → Node → ℕ → Option Breach → List Cell → List Cell
  node_cells r Node.null depth m k = cell 110 m ∷ plain (codes "ull") k
  node_cells r (Node.boolean true) depth m k = cell 116 m ∷ plain (codes "rue") k
  node_cells r (Node.boolean false) depth m k = cell 102 m ∷ plain (codes "alse") k
  node_cells r (Node.number n) depth m k = numeral_cells r n m k
  node_cells r (Node.string is) depth m k = cell quotation_mark m ∷ items_cells is (cell quotation_mark None ∷ k)
  node_cells r (Node.empty_array b) depth m k = cell begin_array m ∷ plain b (cell end_array None ∷ k)
  node_cells r (Node.empty_object b) depth m k = cell begin_object m ∷ plain b (cell end_object None ∷ k)
  node_cells r (Node.array b n c es) depth m k =
      cell begin_array m ∷ plain b (node_cells r n (suc depth) (deep_if r depth)
      (plain c (elements_cells r es (suc depth) k)))
  node_cells r (Node.object key b n c ms) depth m k =
      cell begin_object m ∷ key_cells r [] key (deep_if r depth)
      (plain b (node_cells r n (suc depth) None (plain c (members_cells r ms (bytes_of key.items ∷ []) (suc depth) k))))

  -- the remaining elements of an array, and its closing bracket
  pub elements_cells : Reading → Elements → ℕ → List Cell → List Cell
  elements_cells r no_elements depth k = cell end_array None ∷ k
  elements_cells r (element b n c es) depth k =
      cell value_separator None ∷ plain b (node_cells r n depth None (plain c (elements_cells r es depth k)))

  -- the remaining entries of an object, and its closing bracket; `seen` are the keys before
  pub members_cells : Reading → Members → List (List ℕ) → ℕ → List Cell → List Cell
  members_cells r no_members seen depth k = cell end_object None ∷ k
  members_cells r (member key b n c ms) seen depth k =
      cell value_separator None ∷ key_cells r seen key None
      (plain b (node_cells r n depth None (plain c (members_cells r ms (bytes_of key.items ∷ seen) depth k))))

-- the cells of a tree: its text, with the breach at each character
abbrev pub cells : Reading → Document → List Cell
cells r d = plain d.before (node_cells r d.node 0 None (plain d.after []))

-- the text of a tree
abbrev pub spell : Reading → Document → List ℕ
spell r d = map (λ x. x.char) (cells r d)

-- this breach is at offset i of the tree's text
abbrev pub BreachAt : Reading → Breach → Document → ℕ → Type 0
BreachAt r b d i = slice_get (map (λ x. x.mark) (cells r d)) i ≡ Some (Some b)

-- the tree's text breaks no limit
abbrev pub HasNoBreach : Reading → Document → Type 0
HasNoBreach r d = (i : ℕ) (b : Breach) → BreachAt r b d i → ⊥
