-- The definitions applied to some values: their texts, their equality, their nesting depth.
use Rattle.jzon_base.proofs.Common.{◌≡◌, ℕ, zero, suc, pos, negsuc, List, [], ◌∷◌, ◌++◌, true, false, codes, refl}
use Rattle.jzon_base.proofs.Common.{digits}
use Rattle.jzon_base.specs.Decimal.{nan, parts, scaled}
use Rattle.jzon_base.specs.PairList.{put, cut}
use Rattle.jzon_tree.specs.Value.{Value, null, boolean, text, number, array, object, values_of, pairs_of, kind_of}
use Rattle.jzon_tree.specs.Value.{short, long, nest}
use Rattle.jzon_tree.specs.Same.{same}
use Rattle.jzon_tree.specs.Text.{compact, pretty, quoted}

-- a natural number, a short string, and containers from lists
abbrev int : ℕ → Value
int n = number (parts true n (pos 0))

abbrev word : List ℕ → Value
word s = text short s

abbrev list : List Value → Value
list vs = array (values_of vs)

abbrev members : List (List ℕ × Value) → Value
members ps = object (pairs_of ps)

-- ---- compact texts

compact-put_again : compact (members (put (codes "foo") (int 2)
    (put (codes "bar") (int 1) (put (codes "foo") (int 0) [])))) ≡ codes "{\"foo\":2,\"bar\":1}"
unfolding digits
compact-put_again = refl

-- the letters a, b and c as keys of 1, 2 and 3
abbrev letters : List (List ℕ × Value)
letters = put (codes "c") (int 3) (put (codes "b") (int 2) (put (codes "a") (int 1) []))

compact-letters : compact (members letters) ≡ codes "{\"a\":1,\"b\":2,\"c\":3}"
unfolding digits
compact-letters = refl

compact-cut : compact (members (cut (codes "b") letters)) ≡ codes "{\"a\":1,\"c\":3}"
unfolding digits
compact-cut = refl

compact-put_last : compact (members (put (codes "b") (int 4) (cut (codes "b") letters)))
    ≡ codes "{\"a\":1,\"c\":3,\"b\":4}"
unfolding digits
compact-put_last = refl

compact-controls : compact (word (codes "foo" ++ 31 ∷ codes "bar" ++ 0 ∷ codes "baz"))
    ≡ codes "\"foo\\u001fbar\\u0000baz\""
compact-controls = refl

compact-array_of_nan : compact (list (number nan ∷ [])) ≡ codes "[null]"
compact-array_of_nan = refl

compact-empty : compact (list (list [] ∷ members [] ∷ null ∷ boolean true ∷ boolean false ∷ []))
    ≡ codes "[[],{},null,true,false]"
compact-empty = refl

compact-parts_as_given : compact (list (number (parts true 150 (negsuc 1)) ∷ number (parts true 100 (negsuc 1)) ∷ number
    (parts false 0 (pos 0)) ∷ number (parts true 0 (pos 5)) ∷ [])) ≡ codes "[1.50,1.00,-0,0]"
unfolding digits
compact-parts_as_given = refl

compact-nested : compact (members ((codes "foo", members ((codes "bar", int 100) ∷ [])) ∷ []))
    ≡ codes "{\"foo\":{\"bar\":100}}"
unfolding digits
compact-nested = refl

-- ---- pretty texts

pretty-array : pretty (list (int 1 ∷ boolean true ∷ word (codes "three") ∷ [])) 4 0
    ≡ codes "[\n    1,\n    true,\n    \"three\"\n]"
unfolding digits
pretty-array = refl

pretty-empty_inside : pretty (members ((codes "a", list []) ∷ (codes "b", members []) ∷ [])) 2 0
    ≡ codes "{\n  \"a\": [],\n  \"b\": {}\n}"
pretty-empty_inside = refl

pretty-nested : pretty (members ((codes "a", list (int 1 ∷ members [] ∷ [])) ∷ [])) 2 0
    ≡ codes "{\n  \"a\": [\n    1,\n    {}\n  ]\n}"
unfolding digits
pretty-nested = refl

pretty-no_spaces : pretty (list (int 1 ∷ [])) 0 0 ≡ codes "[\n1\n]"
unfolding digits
pretty-no_spaces = refl

-- inside one open container
pretty-deeper : pretty (list (int 1 ∷ [])) 3 1 ≡ codes "[\n      1\n   ]"
unfolding digits
pretty-deeper = refl

-- ---- quoted strings

quoted-short_escapes : quoted (13 ∷ 10 ∷ 9 ∷ 8 ∷ 12 ∷ 92 ∷ 47 ∷ 34 ∷ []) ≡ codes "\"\\r\\n\\t\\b\\f\\\\/\\\"\""
quoted-short_escapes = refl

-- byte 127 and `/` are raw, and so are the bytes of `é`
quoted-raw : quoted (127 ∷ 47 ∷ 195 ∷ 169 ∷ []) ≡ 34 ∷ 127 ∷ 47 ∷ 195 ∷ 169 ∷ 34 ∷ []
quoted-raw = refl

quoted-other_controls : quoted (0 ∷ 7 ∷ 11 ∷ 14 ∷ 26 ∷ 31 ∷ 32 ∷ [])
    ≡ codes "\"\\u0000\\u0007\\u000b\\u000e\\u001a\\u001f \""
quoted-other_controls = refl

-- ---- equal values

same-reordered : same (members ((codes "a", int 1) ∷ (codes "b", int 2) ∷ []))
    (members ((codes "b", int 2) ∷ (codes "a", number (parts true 10 (negsuc 0))) ∷ [])) ≡ true
unfolding scaled
same-reordered = refl

same-key_missing : same (members ((codes "a", int 1) ∷ [])) (members ((codes "a", int 1) ∷ (codes "b", null) ∷ []))
    ≡ false
unfolding scaled
same-key_missing = refl

same-key_added : same (members ((codes "a", int 1) ∷ (codes "b", null) ∷ [])) (members ((codes "a", int 1) ∷ []))
    ≡ false
unfolding scaled
same-key_added = refl

same-scaled : same (number (parts true 5 (pos 2))) (int 500) ≡ true
unfolding scaled
same-scaled = refl

same-power_of_ten : same (number (parts true 1 (pos 20))) (int 1) ≡ false
unfolding scaled
same-power_of_ten = refl

same-nan : same (number nan) (number nan) ≡ true
same-nan = refl

same-nan_zero : same (number nan) (int 0) ≡ false
same-nan_zero = refl

same-nan_null : same (number nan) null ≡ false
same-nan_null = refl

same-minus_zero : same (number (parts false 0 (pos 7))) (int 0) ≡ true
same-minus_zero = refl

same-kinds : same (text short (codes "a")) (text long (codes "a")) ≡ true
same-kinds = refl

same-items_in_order : same (list (null ∷ boolean true ∷ [])) (list (boolean true ∷ null ∷ [])) ≡ false
same-items_in_order = refl

same-empty_containers : same (list []) (members []) ≡ false
same-empty_containers = refl

-- ---- kinds and depths

kind_of-thirty : kind_of (codes "abcdefghijklmnopqrstuvwxyz0123") ≡ short
kind_of-thirty = refl

kind_of-one_more : kind_of (codes "abcdefghijklmnopqrstuvwxyz01234") ≡ long
kind_of-one_more = refl

nest-empty : nest (list []) ≡ 0
nest-empty = refl

nest-of_empty : nest (list (list [] ∷ members [] ∷ [])) ≡ 1
nest-of_empty = refl

nest-deepest : nest (list (null ∷ members ((codes "a", list (null ∷ [])) ∷ (codes "b", null) ∷ []) ∷ list (null ∷ []) ∷
    [])) ≡ 3
nest-deepest = refl

-- n brackets around an empty array
abbrev nested : ℕ → Value
nested zero = list []
nested (suc n) = list (nested n ∷ [])

nest-nested : nest (nested 512) ≡ 512
nest-nested = refl
