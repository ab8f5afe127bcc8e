-- The bytes that values are written as (RFC 8259, sections 2 and 7; docs/RULES.md, "Printed values").
use Rattle.std.specs.Prelude.{ℕ, suc, ◌*◌, ◌/◌, ◌%◌, List, [], ◌∷◌, ◌++◌, replicate, Bool, nat_lt}
use Rattle.std.specs.Prelude.{if◌then◌else◌, flat_map, codes}
use Rattle.std.specs.Char.{digit_char}
use Rattle.jzon_base.specs.Escapes.{letter_of}
use Rattle.jzon_base.specs.NumberText.{written_text}
use Rattle.jzon_base.specs.Tokens.{begin_array, begin_object, end_array, end_object, escape, quotation_mark}
use Rattle.jzon_base.specs.Tokens.{value_separator}
use Rattle.jzon_tree.specs.Value.{Value, null, boolean, text, number, array, object, Values, no_values, value, ValuePairs}
use Rattle.jzon_tree.specs.Value.{no_pairs, pair}

-- The escaped form of byte c in a string: a simple escape if there is one, `\u00` and two lower-case digits for the
-- other bytes below 32, else the byte itself.
abbrev pub escaped_byte : ℕ → List ℕ
escaped_byte c =
    if nat_lt 0 (letter_of c) then escape ∷ letter_of c ∷ []
    else (if nat_lt c 32 then codes "\\u00" ++ digit_char (c / 16) ∷ digit_char (c % 16) ∷ [] else c ∷ [])

-- a string's bytes, escaped, without quotes
abbrev pub escaped : List ℕ → List ℕ
escaped = flat_map escaped_byte

-- a string with its quotes
abbrev pub quoted : List ℕ → List ℕ
quoted s = quotation_mark ∷ (escaped s ++ quotation_mark ∷ [])

-- `true` or `false`
abbrev pub boolean_text : Bool → List ℕ
boolean_text b = if b then codes "true" else codes "false"

-- What precedes each element, each key and each closing bracket of a non-empty container, by the number of open
-- containers, and what separates a key from its value.
pub record Spacing : Type 0 where
  pub line : ℕ → List ℕ
  pub colon : List ℕ

abbrev mutual
  -- the text of a value inside `depth` open containers
  pub layout_text : Spacing → ℕ → Value → List ℕ
  layout_text l depth null = codes "null"
  layout_text l depth (boolean b) = boolean_text b
  layout_text l depth (text k s) = quoted s
  layout_text l depth (number n) = written_text n
  layout_text l depth (array no_values) = codes "[]"
  layout_text l depth (array (value v vs)) = begin_array
      ∷ (l.line (suc depth) ++ layout_text l (suc depth) v ++ more_values_text
      l depth vs)
  layout_text l depth (object no_pairs) = codes "{}"
  layout_text l depth (object (pair k v ps)) =
      begin_object ∷ (l.line (suc depth) ++ quoted k ++ l.colon ++ layout_text l (suc depth) v
      ++ more_pairs_text l depth ps)

  -- the remaining elements and the closing bracket
  pub more_values_text : Spacing → ℕ → Values → List ℕ
  more_values_text l depth no_values = l.line depth ++ end_array ∷ []
  more_values_text l depth (value v vs) = value_separator
      ∷ (l.line (suc depth) ++ layout_text l (suc depth) v ++ more_values_text l
      depth vs)

  -- the remaining entries and the closing bracket
  pub more_pairs_text : Spacing → ℕ → ValuePairs → List ℕ
  more_pairs_text l depth no_pairs = l.line depth ++ end_object ∷ []
  more_pairs_text l depth (pair k v ps) =
      value_separator ∷ (l.line (suc depth) ++ quoted k ++ l.colon ++ layout_text l (suc depth) v
      ++ more_pairs_text l depth ps)

-- no whitespace
abbrev pub compact_layout : Spacing
compact_layout = record { line = λ depth. []; colon = codes ":" }

-- a newline and `spaces` spaces for each open container, and a space after each colon
abbrev pub pretty_layout : ℕ → Spacing
pretty_layout spaces = record { line = λ depth. 10 ∷ replicate (depth * spaces) 32; colon = codes ": " }

-- the compact text of a value: no whitespace
abbrev pub compact : Value → List ℕ
compact = layout_text compact_layout 0

-- the text of a value inside `depth` containers with a line for each element and entry, and `spaces` spaces for each
-- container around it
abbrev pub pretty : Value → ℕ → ℕ → List ℕ
pretty v spaces depth = layout_text (pretty_layout spaces) depth v
