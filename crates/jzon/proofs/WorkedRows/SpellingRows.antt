-- Worked rows of docs/RULES.md, "Texts" and "Numbers": a text, its tree, what that means and how it is printed, by the
-- definitions; then printed, equal and changed values.
use Prim.Native.String.{String}
use Rattle.jzon_base.proofs.Common.{◌≡◌, pos, negsuc, ℕ, List, [], ◌∷◌, ◌++◌, map, replicate, Bool, true, false, All}
use Rattle.jzon_base.proofs.Common.{codes, encode_utf8_all, refl, ap, digits, encode_utf8}
use Rattle.jzon_base.specs.Decimal.{Decimal, nan, parts, scaled}
use Rattle.jzon_base.specs.PairList.{put, cut}
use Rattle.jzon_base.specs.Digits.{kept_len}
use Rattle.jzon_tree.specs.Value.{Value, Kind, short, long, values_of, pairs_of}
use Rattle.jzon_tree.specs.Value as value
use Rattle.jzon_tree.specs.Text.{compact, pretty}
use Rattle.jzon_tree.specs.Same.{same}
use Rattle.jzon.specs.Reading.{usual}
use Rattle.jzon.specs.Grammar.{unsigned, plus, minus, Numeral, plain, simple, Node, code_unit}
use Rattle.jzon.specs.Meaning.{meaning, bytes_of}
use Rattle.jzon.specs.Spelling.{drops_too_many, keeps_too_many}
use Rattle.jzon.specs.Fault.{Parses}
use Rattle.jzon.specs.Private.Classes.{class_of}
use Rattle.jzon.proofs.Texts.ReadTree.{is_read, read_tree}
use Rattle.jzon.proofs.WorkedRows.Samples.{each_row, alone, plains, string, key, key_of, escape, surrogates, integer}
use Rattle.jzon.proofs.WorkedRows.Samples.{decimal, power, negated, one, two, array, object, is_numeral, spaced, mixed}
use Rattle.jzon.proofs.WorkedRows.Samples.{mixed_text}

-- ---- rows

-- a text, its tree, what that means and how it is printed without whitespace
abbrev Row : Type 0
Row = List ℕ × Node × Value × List ℕ

abbrev Means : Row → Type 0
Means (t, n, v, printed) = Parses usual t (alone n) × (meaning n ≡ v) × (compact v ≡ printed)

abbrev computed : Row → Bool × Value × List ℕ
computed (t, n, v, printed) = (is_read usual t (alone n), meaning n, compact v)

abbrev stated : Row → Bool × Value × List ℕ
stated (t, n, v, printed) = (true, v, printed)

means : (x : Row) → computed x ≡ stated x → Means x
means (t, n, v, printed) h = (read_tree usual t (alone n) (ap (λ z. z.0) h), ap (λ z. z.1) h, ap (λ z. z.2) h)

abbrev row : String → Node → Value → String → Row
row t n v printed = (codes t, n, v, encode_utf8_all (codes printed))

-- ---- numbers

abbrev number : String → Numeral → Decimal → String → Row
number t n v printed = row t (Node.number n) (value.number v) printed

abbrev number_rows : List Row
number_rows =
    number "-12.50e3" (negated (power "12" "50" unsigned "3")) (parts false 1250 (pos 1)) "-12500"
    ∷ number "18446744073709551615.5" (decimal "18446744073709551615" "5") (parts true 18446744073709551615 (pos 0))
    "18446744073709551615"
    -- digits of the fraction that are dropped, and a small digit
    ∷ number "2.22507385850720113605740979670913197593481954635164564e-308"
    (power "2" "22507385850720113605740979670913197593481954635164564" minus "308")
    (parts true 2225073858507201136 (negsuc 325)) "2.225073858507201136e-308"
    ∷ number "184467440737095516165" (integer "184467440737095516165") (parts true 1844674407370955161 (pos 2))
    "1.844674407370955161e20"
    -- the exponent is clamped once
    ∷ number "1.2e32768" (power "1" "2" unsigned "32768") (parts true 12 (pos 32767)) "1.2e32768"
    ∷ number "1e999999999999999999999999999999999999999999999999999999999999"
    (power "1" "" unsigned "999999999999999999999999999999999999999999999999999999999999") (parts true 1 (pos 32767))
    "1e32767"
    ∷ number "1e-32768" (power "1" "" minus "32768") (parts true 1 (negsuc 32767)) "1e-32768"
    ∷ number "1e-32769" (power "1" "" minus "32769") (parts true 1 (negsuc 32767)) "1e-32768"
    -- zeros are kept
    ∷ number "1.50" (decimal "1" "50") (parts true 150 (negsuc 1)) "1.50"
    ∷ number "100e-2" (power "100" "" minus "2") (parts true 100 (negsuc 1)) "1.00"
    ∷ number "0e5" (power "0" "" unsigned "5") (parts true 0 (pos 5)) "0"
    ∷ number "-0" (negated (integer "0")) (parts false 0 (pos 0)) "-0"
    ∷ number "5e2" (power "5" "" unsigned "2") (parts true 5 (pos 2)) "500"
    ∷ number "50000000000000000000" (integer "50000000000000000000") (parts true 5000000000000000000 (pos 1))
    "50000000000000000000"
    ∷ number "0.05e+1" (power "0" "05" plus "1") (parts true 5 (negsuc 0)) "0.5"
    ∷ []

numbers : All Means number_rows
unfolding digits class_of encode_utf8 kept_len drops_too_many keeps_too_many
numbers = each_row Means computed stated means number_rows refl

-- not a number of the grammar
leading_zero : is_numeral (integer "01") ≡ false
leading_zero = refl

-- ---- strings

-- unescaped characters, in the text, in the string and in what is printed
abbrev raw : Kind → List ℕ → Row
raw kind cs =
    let bytes = encode_utf8_all cs in
    (34 ∷ cs ++ 34 ∷ [], Node.string (plains cs), value.text kind bytes, 34 ∷ bytes ++ 34 ∷ [])

abbrev string_rows : List Row
string_rows =
    row "\"\\r\\n\\t\\b\\f\\\\\\/\\\"\"" (Node.string (map simple (codes "rntbf\\/\"")))
    (value.text short (13 ∷ 10 ∷ 9 ∷ 8 ∷ 12 ∷ 92 ∷ 47 ∷ 34 ∷ [])) "\"\\r\\n\\t\\b\\f\\\\/\\\"\""
    ∷ row "\"\\u2764\\ufe0f\"" (Node.string (escape "2764" ∷ escape "fe0f" ∷ []))
    (value.text short (0xE2 ∷ 0x9D ∷ 0xA4 ∷ 0xEF ∷ 0xB8 ∷ 0x8F ∷ [])) "\"❤\u{fe0f}\""
    ∷ row "\"\\u0000\"" (Node.string (escape "0000" ∷ [])) (value.text short (0 ∷ [])) "\"\\u0000\""
    ∷ row "\"\\uD834\\uDD1E\"" (Node.string (surrogates "D834" "DD1E" ∷ []))
    (value.text short (0xF0 ∷ 0x9D ∷ 0x84 ∷ 0x9E ∷ [])) "\"𝄞\""
    -- one character, written in three ways
    ∷ row "\"é\\u00e9\\u00E9\"" (Node.string (plain 233 ∷ escape "00e9" ∷ escape "00E9" ∷ []))
    (value.text short (0xC3 ∷ 0xA9 ∷ 0xC3 ∷ 0xA9 ∷ 0xC3 ∷ 0xA9 ∷ [])) "\"ééé\""
    ∷ row "\"foo\\u001fbar\\u0000baz\"" (Node.string (plains (codes "foo") ++ escape "001f" ∷ plains (codes "bar")
    ++ escape "0000" ∷ plains (codes "baz"))) (value.text short (codes "foo\u{1f}bar\0baz"))
    "\"foo\\u001fbar\\u0000baz\""
    -- a solidus and the character 127 are printed as they are; a string is short by its bytes, not by its characters
    ∷ raw short (47 ∷ 127 ∷ [])
    ∷ raw short (codes "abcdefghijklmnopqrstuvwxyz0123")
    ∷ raw long (codes "abcdefghijklmnopqrstuvwxyz01234")
    ∷ raw short (replicate 15 233)
    ∷ raw long (replicate 16 233)
    ∷ []

strings : All Means string_rows
unfolding class_of code_unit bytes_of encode_utf8 kept_len drops_too_many keeps_too_many
strings = each_row Means computed stated means string_rows refl

-- ---- arrays and objects

abbrev whole : ℕ → Value
whole m = value.number (parts true m (pos 0))

abbrev object_of : List (List ℕ × Value) → Value
object_of es = value.object (pairs_of es)

abbrev mixed_items : List Value
mixed_items = whole 1 ∷ value.number (parts false 5 (pos 1)) ∷ value.text short (encode_utf8_all (codes "xé𝄞")) ∷ []

abbrev mixed_value : Value
mixed_value = object_of ((codes "a", value.array (values_of mixed_items)) ∷ (codes "b", value.null) ∷ [])

abbrev container_rows : List Row
container_rows =
    -- a repeated key: the first one's position and the last one's value
    row "{ \"foo\": 0, \"bar\": 1, \"foo\": 2 }" spaced
    (object_of ((codes "foo", whole 2) ∷ (codes "bar", whole 1) ∷ [])) "{\"foo\":2,\"bar\":1}"
    ∷ row "{\"a\":1,\"\\u0061\":2}" (object (key "a") one ((key_of (escape "0061" ∷ []), two) ∷ []))
    (object_of ((codes "a", whole 2) ∷ [])) "{\"a\":2}"
    ∷ row "{\"a\":{\"a\":1},\"a\":[]}"
    (object (key "a") (object (key "a") one []) ((key "a", Node.empty_array []) ∷ []))
    (object_of ((codes "a", value.array value.no_values) ∷ [])) "{\"a\":[]}"
    ∷ row "{\"a\":1,\"b\":2,\"a\":2}" (object (key "a") one ((key "b", two) ∷ (key "a", two) ∷ []))
    (object_of ((codes "a", whole 2) ∷ (codes "b", whole 2) ∷ [])) "{\"a\":2,\"b\":2}"
    ∷ row "[ ]" (Node.empty_array (codes " ")) (value.array value.no_values) "[]"
    ∷ row "{\n}" (Node.empty_object (codes "\n")) (value.object value.no_pairs) "{}"
    ∷ row "{\"list\":[null,\"world\"]}" (object (key "list") (array Node.null (string "world" ∷ [])) [])
    (object_of ((codes "list", value.array (values_of (value.null ∷ value.text short (codes "world") ∷ []))) ∷ []))
    "{\"list\":[null,\"world\"]}"
    ∷ (mixed_text, mixed, mixed_value, encode_utf8_all (codes "{\"a\":[1,-50,\"xé𝄞\"],\"b\":null}"))
    ∷ []

containers : All Means container_rows
unfolding digits class_of code_unit bytes_of encode_utf8 kept_len drops_too_many keeps_too_many
containers = each_row Means computed stated means container_rows refl

-- ---- printed values

abbrev three : List (List ℕ × Value)
three = (codes "a", whole 1) ∷ (codes "b", whole 2) ∷ (codes "c", value.null) ∷ []

-- what is printed, and the text
abbrev text : List ℕ → String → List ℕ × List ℕ
text printed t = (printed, codes t)

abbrev printed_rows : List (List ℕ × List ℕ)
printed_rows =
    text (compact (value.array (values_of (value.number nan ∷ [])))) "[null]"
    ∷ text (pretty (meaning (array one (Node.boolean true ∷ string "three" ∷ []))) 4 0)
    "[\n    1,\n    true,\n    \"three\"\n]"
    ∷ text (pretty (meaning (object (key "a") (Node.empty_array []) ((key "b", Node.empty_object []) ∷ []))) 2 0)
    "{\n  \"a\": [],\n  \"b\": {}\n}"
    ∷ text (pretty (meaning (object (key "a") (array one (Node.empty_object [] ∷ [])) [])) 2 0)
    "{\n  \"a\": [\n    1,\n    {}\n  ]\n}"
    ∷ text (pretty (meaning (array one [])) 0 0) "[\n1\n]"
    -- changed objects
    ∷ text (compact (object_of (cut (codes "b") three))) "{\"a\":1,\"c\":null}"
    ∷ text (compact (object_of (put (codes "b") (whole 1) (cut (codes "b") three)))) "{\"a\":1,\"c\":null,\"b\":1}"
    ∷ text (compact (object_of (put (codes "b") (whole 1) three))) "{\"a\":1,\"b\":1,\"c\":null}"
    ∷ []

printed : All (λ x. x.0 ≡ x.1) printed_rows
unfolding digits encode_utf8 bytes_of kept_len
printed = each_row (λ x. x.0 ≡ x.1) (λ x. x.0) (λ x. x.1) (λ x e. e) printed_rows refl

-- ---- equal values

-- two values, and whether they are equal
abbrev pair_of : Value → Value → Bool → Value × Value × Bool
pair_of v w b = (v, w, b)

abbrev same_rows : List (Value × Value × Bool)
same_rows =
    -- neither the order of the members matters nor how a number is written
    pair_of (meaning (object (key "a") one ((key "b", two) ∷ [])))
    (meaning (object (key "b") two ((key "a", Node.number (decimal "1" "0")) ∷ []))) true
    ∷ (meaning (object (key "a") one []), meaning (object (key "a") two []), false)
    ∷ (meaning (array one (two ∷ [])), meaning (array two (one ∷ [])), false)
    -- nor how a string is stored
    ∷ (value.text short (codes "a"), value.text long (codes "a"), true)
    ∷ []

same_values : All (λ x. same x.0 x.1 ≡ x.2) same_rows
unfolding encode_utf8 bytes_of kept_len scaled
same_values = each_row (λ x. same x.0 x.1 ≡ x.2) (λ x. same x.0 x.1) (λ x. x.2) (λ x e. e) same_rows refl
