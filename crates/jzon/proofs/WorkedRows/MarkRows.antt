-- Worked rows of docs/RULES.md, "Depth", "Strings" and "Readings": where trees break a limit, computed from the
-- definitions: a reading, a text, its tree, and each offset at which the tree breaks a limit.
use Prim.Native.String.{String}
use Rattle.jzon_base.proofs.Common.{◌≡◌, ℕ, ◌+◌, List, [], ◌∷◌, ◌++◌, replicate, All, Option, Some, None, codes, refl}
use Rattle.jzon_base.proofs.Common.{ap, encode_utf8, repeat}
use Rattle.jzon.specs.Reading.{Reading, usual}
use Rattle.jzon.specs.Grammar.{Node, no_elements, code_unit}
use Rattle.jzon.specs.Meaning.{bytes_of}
use Rattle.jzon.specs.Spelling.{Breach, deep, pair, duplicate, Cell, spell, cells}
use Rattle.jzon.proofs.WorkedRows.Samples.{each_row, shallow, strict_to, alone, one, two, plains, string, key, key_of}
use Rattle.jzon.proofs.WorkedRows.Samples.{escape, surrogates, array, object, nested, in_turn, spaced}

-- offsets and the breaches there
abbrev Marks : Type 0
Marks = List (ℕ × Breach)

abbrev put_mark : ℕ → Option Breach → Marks → Marks
put_mark i None ms = ms
put_mark i (Some b) ms = (i, b) ∷ ms

-- each mark of these cells, the first of which is at offset i
abbrev marks_from : ℕ → List Cell → Marks
marks_from i [] = []
marks_from i (x ∷ q) = put_mark i x.mark (marks_from (i + 1) q)

abbrev Row : Type 0
Row = Reading × List ℕ × Node × Marks

abbrev spelled : Row → List ℕ × Marks
spelled (r, t, n, ms) = (spell r (alone n), marks_from 0 (cells r (alone n)))

-- the tree has this text and these breaches in this reading
abbrev Breaks : Row → Type 0
Breaks (r, t, n, ms) = (spell r (alone n) ≡ t) × (marks_from 0 (cells r (alone n)) ≡ ms)

breaks : (x : Row) → spelled x ≡ (x.1, x.3) → Breaks x
breaks (r, t, n, ms) h = (ap (λ z. z.0) h, ap (λ z. z.1) h)

abbrev object_of_one : Node
object_of_one = object (key "a") one []

abbrev in_turn_text : ℕ → List ℕ
in_turn_text n = repeat n (codes "[{\"a\":") ++ codes "null" ++ repeat n (codes "}]")

abbrev row : Reading → String → Node → Marks → Row
row r t n ms = (r, codes t, n, ms)

abbrev rows : List Row
rows =
    -- depth
    row (shallow 0) "[1]" (array one []) ((1, deep) ∷ [])
    ∷ row (shallow 0) "{\"a\":1}" (object (key "a") one []) ((1, deep) ∷ [])
    ∷ row (shallow 1) "[[1]]" (array (array one []) []) ((2, deep) ∷ [])
    ∷ row (shallow 1) "[1,{\"a\":2}]" (array one (object (key "a") two [] ∷ [])) ((4, deep) ∷ [])
    -- after the whitespace, at the first character
    ∷ row (shallow 0) "[ \n1]" (Node.array (codes " \n") one [] no_elements) ((3, deep) ∷ [])
    -- each first value too deep, and no other
    ∷ row (shallow 1) "[[1,2],[2]]" (array (array one (two ∷ [])) (array two [] ∷ [])) ((2, deep) ∷ (8, deep) ∷ [])
    ∷ (usual, replicate 513 91 ++ codes "null" ++ replicate 513 93, nested 513 Node.null, (513, deep) ∷ [])
    ∷ (usual, replicate 512 91 ++ codes "{\"a\":1}" ++ replicate 512 93, nested 512 object_of_one, (513, deep) ∷ [])
    ∷ (usual, in_turn_text 257, in_turn 257 Node.null, (1537, deep) ∷ (1538, deep) ∷ [])
    -- surrogates
    ∷ row usual "\"\\uDC00\\uDC00\"" (Node.string (surrogates "DC00" "DC00" ∷ [])) ((12, pair) ∷ [])
    ∷ row usual "\"\\uD834\\ud834\"" (Node.string (surrogates "D834" "d834" ∷ [])) ((12, pair) ∷ [])
    ∷ row usual "\"\\uDD1E\\uD834\"" (Node.string (surrogates "DD1E" "D834" ∷ [])) ((12, pair) ∷ [])
    ∷ row usual "\"\\uD834\\u0061\"" (Node.string (surrogates "D834" "0061" ∷ [])) ((12, pair) ∷ [])
    ∷ row usual "[\"\\uDC00\\uDC00\"]" (array (Node.string (surrogates "DC00" "DC00" ∷ [])) []) ((13, pair) ∷ [])
    -- repeated keys, which are compared after their escapes are read
    ∷ row (strict_to 512) "{\"a\":1,\"a\":2}" (object (key "a") one ((key "a", two) ∷ [])) ((9, duplicate 2) ∷ [])
    ∷ row (strict_to 512) "{\"a\":1,\"\\u0061\":2}"
    (object (key "a") one ((key_of (escape "0061" ∷ []), two) ∷ [])) ((14, duplicate 7) ∷ [])
    ∷ row (strict_to 512) "{\"a\":1,\n\"a\":2}"
    (object (key "a") one ((record { before = codes "\n"; items = plains (codes "a"); after = [] }, two) ∷ []))
    ((10, duplicate 2) ∷ [])
    ∷ row (strict_to 512) "[\"é\",{\"é\":1,\"é\":2}]"
    (array (string "é") (object (key "é") one ((key "é", two) ∷ []) ∷ [])) ((14, duplicate 2) ∷ [])
    ∷ row (strict_to 512) "{\"\":1,\"\":2}" (object (key "") one ((key "", two) ∷ [])) ((7, duplicate 1) ∷ [])
    -- each repetition, not only the first; a later key may repeat any earlier one
    ∷ row (strict_to 512) "{\"a\":1,\"b\":1,\"a\":1,\"b\":1,\"a\":1}"
    (object (key "a") one ((key "b", one) ∷ (key "a", one) ∷ (key "b", one) ∷ (key "a", one) ∷ []))
    ((15, duplicate 2) ∷ (21, duplicate 2) ∷ (27, duplicate 2) ∷ [])
    -- the depth comes first here
    ∷ row (strict_to 1) "{\"a\":1,\"b\":[1],\"a\":2}"
    (object (key "a") one ((key "b", array one []) ∷ (key "a", two) ∷ [])) ((12, deep) ∷ (17, duplicate 2) ∷ [])
    ∷ row (strict_to 512) "{ \"foo\": 0, \"bar\": 1, \"foo\": 2 }" spaced ((26, duplicate 4) ∷ [])
    ∷ []

breaches : All Breaks rows
unfolding code_unit encode_utf8 bytes_of
breaches = each_row Breaks spelled (λ x. (x.1, x.3)) breaks rows refl
