-- A written string is a string of the grammar, and means the string that was written.
use Rattle.jzon_base.proofs.Common.{◌≡◌, ◌∙◌, ℕ, ◌/◌, ◌%◌, ◌≤◌, List, [], ◌∷◌, ◌++◌, map, Bool, true, false, not, ◌&&◌}
use Rattle.jzon_base.proofs.Common.{◌||◌, ◌==◌, nat_lt, if◌then◌else◌, refl, sym, ap, subst, arith, inl, inr}
use Rattle.jzon_base.proofs.Common.{append-nil, chars, None, IsUtf8, encode_utf8, encode_utf8_all, IsAscii, bytes_eq}
use Rattle.jzon_base.proofs.Common.{scalar, scalars, cases_lt, and_parts, not-true, nat_tests, flat_map-append}
use Rattle.jzon_base.proofs.Common.{bytes_eq-Decides, chars_from_encodes, chars-append, encodes-append, encodes-chars}
use Rattle.jzon_base.proofs.Common.{scalars-chars, encode_ascii, IsUtf8-from_ascii, chars-IsAscii}
use Rattle.std.specs.Char.{digit_char}
use Rattle.std.proofs.lemmas.Str.{encodes-IsAscii}
use Rattle.jzon_tree.specs.Text.{escaped_byte, escaped, quoted}
use Rattle.jzon_tree.proofs.Printing.PrintedUtf8.{all_below, at_below, large_escaped, escaped_large, encode_large, IsAscii-one}
use Rattle.jzon_tree.proofs.Printing.PrintedUtf8.{IsAscii-escaped_byte, IsUtf8-escaped}
use Rattle.jzon.specs.Grammar.{Item, simple, single, double, IsItem, AreItems, is_unescaped, is_simple, is_surrogate}
use Rattle.jzon.specs.Grammar.{code_unit}
use Rattle.jzon.specs.Grammar as grammar
use Rattle.jzon.specs.Spelling.{Cell, cell, plain, item_cells, items_cells}
use Rattle.jzon.specs.Meaning.{item_text, characters_of, bytes_of}
use Rattle.jzon.proofs.Texts.Cells.{plain-append}
use Rattle.jzon.proofs.Strings.PlainRuns.{plain_wide}
use Rattle.jzon.proofs.Strings.StringCharacters.{are_hex, hex-true}

-- ---- what is written for a character

-- as an item: a simple escape if there is one, `\u` and four digits for the other characters below 32, else the
-- character itself
abbrev pub item_of : ℕ → Item
item_of c =
    if c == 34 || c == 92 then simple c
    else (if c == 8 then simple 98
    else (if c == 9 then simple 116
    else (if c == 10 then simple 110
    else (if c == 12 then simple 102
    else (if c == 13 then simple 114
    else (if nat_lt c 32 then single (48 ∷ 48 ∷ digit_char (c / 16) ∷ digit_char (c % 16) ∷ []) else grammar.plain
    c))))))

abbrev pub items_of : List ℕ → List Item
items_of cs = map item_of cs

-- the text of an item that isn't a surrogate pair
abbrev item_spelled : Item → List ℕ
item_spelled (grammar.plain c) = c ∷ []
item_spelled (simple c) = 92 ∷ c ∷ []
item_spelled (single u) = 92 ∷ 117 ∷ u
item_spelled (double u v) = []

-- what holds of the item of a character
record IsWritten (c : ℕ) (i : Item) : Type 0 where
  in_grammar : IsItem i
  spelled : (k : List Cell) → item_cells i k ≡ plain (escaped_byte c) k
  means : item_text i ≡ c ∷ []

-- ---- characters below 128, one by one

abbrev is_item : Item → Bool
is_item (grammar.plain c) = is_unescaped c
is_item (simple c) = is_simple c
is_item (single u) = are_hex 4 u && not (is_surrogate (code_unit u))
is_item (double u v) = false

is_item-true : (i : Item) → is_item i ≡ true → IsItem i
is_item-true (grammar.plain c) h = h
is_item-true (simple c) h = h
is_item-true (single u) h = let t = and_parts _ _ h in (hex-true 4 u t.0, not-true _ t.1)
is_item-true (double u v) h = absurd (cc)

item-plain : (i : Item) → is_item i ≡ true → (k : List Cell) → item_cells i k ≡ plain (item_spelled i) k
item-plain (double u v) h k = absurd (cc)
item-plain _ h k = refl

-- the item is in the grammar, is spelled as the character is written, and means it
abbrev is_written : ℕ → Bool
is_written c =
    (is_item (item_of c) && bytes_eq (item_spelled (item_of c)) (escaped_byte c)) &&
    bytes_eq (item_text (item_of c)) (c ∷ [])

small_written : all_below is_written 128 ≡ true
unfolding code_unit
small_written = refl

-- ---- any character

large_item : (c : ℕ) → 128 ≤ c → item_of c ≡ grammar.plain c
large_item c h = grind (arith, nat_tests)

written : (c : ℕ) → scalar c ≡ true → IsWritten c (item_of c)
written c ok =
    elim (cases_lt c 128) [
      | inl small ↦
          (let all = at_below is_written 128 c small_written small in
          let a = and_parts (is_item (item_of c) && bytes_eq (item_spelled (item_of c)) (escaped_byte c)) _ all in
          let b = and_parts (is_item (item_of c)) _ a.0 in
          record {
            in_grammar = is_item-true (item_of c) b.0;
            spelled = λ k. item-plain (item_of c) b.0 k ∙ ap (λ t. plain t k) ((bytes_eq-Decides _ _).0 b.1);
            means = (bytes_eq-Decides _ _).0 a.1;
          })
      | inr large ↦ subst (λ (i : Item). IsWritten c i) (sym (large_item c large)) (record {
        in_grammar = plain_wide c ok large;
        spelled = λ k. ap (λ t. plain t k) (sym (large_escaped c large));
        means = refl;
      })
    ]

-- what is written for the bytes of a character is what is written for the character
escaped_encoded : (c : ℕ) → encode_utf8_all (escaped_byte c) ≡ escaped (encode_utf8 c)
escaped_encoded c =
    elim (cases_lt c 128) [
      | inl small ↦
          encodes-IsAscii (escaped_byte c) (IsAscii-escaped_byte c small)
          ∙ sym (append-nil (escaped_byte c)) ∙ ap escaped (sym (encode_ascii c small))
      | inr large ↦ ap encode_utf8_all (large_escaped c large) ∙ append-nil (encode_utf8 c)
          ∙ sym (escaped_large (encode_utf8 c) (encode_large c large))
    ]

-- ---- whole texts

escaped-encodes : (cs : List ℕ) → encode_utf8_all (escaped cs) ≡ escaped (encode_utf8_all cs)
escaped-encodes [] = refl
escaped-encodes (c ∷ cs) =
    rw (encodes-append (escaped_byte c) (escaped cs), escaped_encoded c, escaped-encodes cs)
    (rw (flat_map-append escaped_byte (encode_utf8 c) (encode_utf8_all cs)))

items_in_grammar : (cs : List ℕ) → scalars cs ≡ true → AreItems (items_of cs)
items_in_grammar [] h = tt
items_in_grammar (c ∷ cs) h = let t = and_parts (scalar c) (scalars cs) h in
    ((written c t.0).in_grammar, items_in_grammar cs t.1)

items-plain : (cs : List ℕ) (k : List Cell) → scalars cs ≡ true → items_cells (items_of cs) k ≡ plain (escaped cs) k
items-plain [] k h = refl
items-plain (c ∷ cs) k h =
    let t = and_parts (scalar c) (scalars cs) h in
    (written c t.0).spelled _ ∙ rw (items-plain cs k t.1, plain-append)

items_mean : (cs : List ℕ) → scalars cs ≡ true → characters_of (items_of cs) ≡ cs
items_mean [] h = refl
items_mean (c ∷ cs) h =
    let t = and_parts (scalar c) (scalars cs) h in
    rw ((written c t.0).means, items_mean cs t.1) refl

-- ---- a string of bytes

abbrev pub items_for : List ℕ → List Item
items_for s = items_of (chars s)

pub items_for_in_grammar : (s : List ℕ) → IsUtf8 s → AreItems (items_for s)
items_for_in_grammar s u = items_in_grammar (chars s) (scalars-chars s u)

pub bytes_of-items_for : (s : List ℕ) → IsUtf8 s → bytes_of (items_for s) ≡ s
unfolding bytes_of
bytes_of-items_for s u = ap encode_utf8_all (items_mean (chars s) (scalars-chars s u)) ∙ encodes-chars s u

escaped_text : (s : List ℕ) → IsUtf8 s → encode_utf8_all (escaped (chars s)) ≡ escaped s
escaped_text s u = escaped-encodes (chars s) ∙ ap escaped (encodes-chars s u)

pub chars-IsAscii_append : (xs ys : List ℕ) → IsAscii xs → chars (xs ++ ys) ≡ xs ++ chars ys
chars-IsAscii_append xs ys h =
    chars-append xs ys (IsUtf8-from_ascii xs h) ∙ ap (λ t. t ++ chars ys) (chars-IsAscii xs h)

quote : IsAscii (34 ∷ [])
quote = IsAscii-one 34 (omega arith)

chars-quoted : (s : List ℕ) → IsUtf8 s → chars (quoted s) ≡ quoted (chars s)
chars-quoted s u =
    chars-IsAscii_append (34 ∷ []) (escaped s ++ 34 ∷ []) quote
    ∙ rw (chars-append (escaped s) (34 ∷ []) (IsUtf8-escaped s u), chars-IsAscii (34 ∷ []) quote)
    (rw (← (chars_from_encodes (escaped (chars s)) (escaped s) (IsUtf8-escaped s u) (escaped_text s u))))

-- the cells of a string and its quotes
pub quoted-plain : (s : List ℕ) (k : List Cell) → IsUtf8 s → cell 34 None ∷ items_cells (items_for s) (cell 34 None ∷ k)
    ≡ plain (chars (quoted s)) k
quoted-plain s k u =
    rw (chars-quoted s u, items-plain (chars s) (cell 34 None ∷ k) (scalars-chars s u)) (rw plain-append)
