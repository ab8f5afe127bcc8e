-- What is skipped of a text: over the characters of a tree's value, inside any number of brackets, the walk of
-- specs/Locate goes as if they weren't there; at an item it ends where the item's text ends.
use Rattle.jzon_base.proofs.Common.{◌≡◌, ◌∙◌, ℕ, zero, suc, List, [], ◌∷◌, ◌++◌, Bool, true, false, not, ◌||◌, ◌==◌, Option}
use Rattle.jzon_base.proofs.Common.{Some, None, refl, arith, nat_tests, is_ascii_digit, if◌then◌else◌}
use Rattle.jzon_base.proofs.Common.{and_parts}
use Rattle.std.proofs.lemmas.Bool.{false≢true}
use Rattle.std.specs.Char.{is_ascii_hexdigit}
use Rattle.jzon.specs.Writing.{is_whitespace}
use Rattle.jzon.specs.Reading.{Reading}
use Rattle.jzon.specs.Grammar.{Sign, unsigned, plus, minus, Exponent, Numeral, Item, simple, single, double, Key, Node}
use Rattle.jzon.specs.Grammar.{Elements, no_elements, element, Members, no_members, member, Each}
use Rattle.jzon.specs.Grammar.{IsWhitespace, AreDigits, IsDigits, IsWhole, IsExponent, IsNumeral, AreHex, IsItem, AreItems}
use Rattle.jzon.specs.Grammar.{IsKey, IsNode, AreElements, AreMembers, is_unescaped, is_exponent_letter}
use Rattle.jzon.specs.Grammar as grammar
use Rattle.jzon.specs.TreeCharacters.{fraction_chars, sign_chars, exponent_chars, magnitude_chars, numeral_chars}
use Rattle.jzon.specs.TreeCharacters.{item_chars, items_chars, key_chars, node_chars, elements_chars, members_chars}
use Rattle.jzon_pointer.specs.Private.Walk.{after_string, closed, parted, skim, string_rest}
use Rattle.jzon_pointer.specs.Private.Walk.{Outside, Quoted, Escaped}

-- ---- outside of strings

-- the character is no quote, no bracket and no comma
abbrev pub passes : ℕ → Bool
passes c = not (c == 34 || ((c == 91 || c == 123) || ((c == 93 || c == 125) || c == 44)))

pass_by : (d : ℕ) (q o e p : Bool) → not (q || (o || (e || p))) ≡ true
    → (if q then Some (Quoted d) else (if o then Some (Outside (suc d)) else (if e then closed d else
    (if p then parted d else Some (Outside d))))) ≡ Some (Outside d)
pass_by d false false false false h = refl
pass_by d true o e p h = absurd (false≢true h)
pass_by d false true e p h = absurd (false≢true h)
pass_by d false false true p h = absurd (false≢true h)
pass_by d false false false true h = absurd (false≢true h)

pub pass_one : (d c : ℕ) (t : List ℕ) → passes c ≡ true → skim (Outside d) (c ∷ t) ≡ skim (Outside d) t
pass_one d c t h = rw (pass_by d (c == 34) (c == 91 || c == 123) (c == 93 || c == 125) (c == 44) h) refl

-- characters that pass a test
pass_run : (test : ℕ → Bool) → ((c : ℕ) → test c ≡ true → passes c ≡ true) → (d : ℕ) (w t : List ℕ) → Each test w
    → skim (Outside d) (w ++ t) ≡ skim (Outside d) t
pass_run test h d [] t e = refl
pass_run test h d (c ∷ w) t e = pass_one d c (w ++ t) (h c e.0) ∙ pass_run test h d w t e.1

blank_passes : (s : Bool) (c : ℕ) → is_whitespace s c ≡ true → passes c ≡ true
blank_passes s c h = grind (arith, nat_tests)

digit_passes : (c : ℕ) → is_ascii_digit c ≡ true → passes c ≡ true
digit_passes c h = grind (arith, nat_tests)

letter_passes : (c : ℕ) → is_exponent_letter c ≡ true → passes c ≡ true
letter_passes c h = grind (arith, nat_tests)

pass_blanks : (r : Reading) (d : ℕ) (w t : List ℕ) → IsWhitespace r w → skim (Outside d) (w ++ t) ≡ skim (Outside d) t
pass_blanks r d w t e = pass_run (is_whitespace r.strict) (blank_passes r.strict) d w t e

pass_digits : (d : ℕ) (w t : List ℕ) → AreDigits w → skim (Outside d) (w ++ t) ≡ skim (Outside d) t
pass_digits d w t e = pass_run is_ascii_digit digit_passes d w t e

-- ---- numbers

whole_digits : (w : List ℕ) → IsWhole w → AreDigits w
whole_digits [] h = absurd h
whole_digits (c ∷ []) h = (h, tt)
whole_digits (c ∷ e ∷ w) h = ((and_parts _ _ h.0).0, h.1)

some_digits : (w : List ℕ) → IsDigits w → AreDigits w
some_digits [] h = absurd h
some_digits (c ∷ w) h = h

pass_fraction : (d : ℕ) (w t : List ℕ) → AreDigits w → skim (Outside d) (fraction_chars w t) ≡ skim (Outside d) t
pass_fraction d [] t h = refl
pass_fraction d (c ∷ w) t h = pass_digits d (c ∷ w) t h

pass_sign : (d : ℕ) (s : Sign) (t : List ℕ) → skim (Outside d) (sign_chars s t) ≡ skim (Outside d) t
pass_sign d unsigned t = refl
pass_sign d plus t = refl
pass_sign d minus t = refl

pass_exponent : (d : ℕ) (x : Option Exponent) (t : List ℕ) → IsExponent x
    → skim (Outside d) (exponent_chars x t) ≡ skim (Outside d) t
pass_exponent d None t h = refl
pass_exponent d (Some e) t h =
    pass_one d e.letter (sign_chars e.sign (e.digits ++ t)) (letter_passes e.letter h.0)
    ∙ pass_sign d e.sign (e.digits ++ t) ∙ pass_digits d e.digits t (some_digits e.digits h.1)

pass_magnitude : (d : ℕ) (n : Numeral) (t : List ℕ) → IsNumeral n
    → skim (Outside d) (magnitude_chars n t) ≡ skim (Outside d) t
pass_magnitude d n t h =
    pass_digits d n.whole (fraction_chars n.fraction (exponent_chars n.exponent t)) (whole_digits n.whole h.0)
    ∙ pass_fraction d n.fraction (exponent_chars n.exponent t) h.1 ∙ pass_exponent d n.exponent t h.2

pass_numeral : (d : ℕ) (s : Bool) (n : Numeral) (t : List ℕ) → IsNumeral n
    → skim (Outside d) (numeral_chars s n t) ≡ skim (Outside d) t
pass_numeral d true n t h = pass_magnitude d n t h
pass_numeral d false n t h = pass_magnitude d n t h

-- ---- strings

-- the character is no quote and no backslash
abbrev pub is_inner : ℕ → Bool
is_inner c = not (c == 34 || c == 92)

inner_by : (d : ℕ) (q e : Bool) → not (q || e) ≡ true
    → (if q then Some (Outside d) else (if e then Some (Escaped d) else Some (Quoted d))) ≡ Some (Quoted d)
inner_by d false false h = refl
inner_by d true e h = absurd (false≢true h)
inner_by d false true h = absurd (false≢true h)

pub inner_one : (d c : ℕ) (t : List ℕ) → is_inner c ≡ true → skim (Quoted d) (c ∷ t) ≡ skim (Quoted d) t
inner_one d c t h = rw (inner_by d (c == 34) (c == 92) h) refl

unescaped_inner : (c : ℕ) → is_unescaped c ≡ true → is_inner c ≡ true
unescaped_inner c h = (and_parts _ _ h).1

hex_inner : (c : ℕ) → is_ascii_hexdigit c ≡ true → is_inner c ≡ true
hex_inner c h = grind (arith, nat_tests)

inner_hex : (d n : ℕ) (u t : List ℕ) → AreHex n u → skim (Quoted d) (u ++ t) ≡ skim (Quoted d) t
inner_hex d zero [] t h = refl
inner_hex d zero (c ∷ u) t h = absurd h
inner_hex d (suc n) [] t h = absurd h
inner_hex d (suc n) (c ∷ u) t h = inner_one d c (u ++ t) (hex_inner c h.0) ∙ inner_hex d n u t h.1

inner_item : (d : ℕ) (i : Item) (t : List ℕ) → IsItem i → skim (Quoted d) (item_chars i t) ≡ skim (Quoted d) t
inner_item d (grammar.plain c) t h = inner_one d c t (unescaped_inner c h)
inner_item d (simple c) t h = refl
inner_item d (single u) t h = inner_hex d 4 u t h.0
inner_item d (double u v) t h = inner_hex d 4 u (92 ∷ 117 ∷ (v ++ t)) h.0 ∙ inner_hex d 4 v t h.2

inner_items : (d : ℕ) (is : List Item) (t : List ℕ) → AreItems is
    → skim (Quoted d) (items_chars is t) ≡ skim (Quoted d) t
inner_items d [] t h = refl
inner_items d (i ∷ is) t h = inner_item d i (items_chars is t) h.0 ∙ inner_items d is t h.1

-- a key and its colon
pass_key : (r : Reading) (d : ℕ) (key : Key) (t : List ℕ) → IsKey r key
    → skim (Outside d) (key_chars key t) ≡ skim (Outside d) t
pass_key r d key t h =
    pass_blanks r d key.before (34 ∷ items_chars key.items (34 ∷ (key.after ++ (58 ∷ t)))) h.0
    ∙ inner_items d key.items (34 ∷ (key.after ++ (58 ∷ t))) h.1
    ∙ pass_blanks r d key.after (58 ∷ t) h.2

-- ---- values

mutual
  pub pass_node : (r : Reading) (n : Node) (d : ℕ) (t : List ℕ) → IsNode r n
      → skim (Outside d) (node_chars n t) ≡ skim (Outside d) t
  pass_node r Node.null d t h = refl
  pass_node r (Node.boolean true) d t h = refl
  pass_node r (Node.boolean false) d t h = refl
  pass_node r (Node.number n) d t h = pass_numeral d n.negative n t h
  pass_node r (Node.string is) d t h = inner_items d is (34 ∷ t) h
  pass_node r (Node.empty_array b) d t h = pass_blanks r (suc d) b (93 ∷ t) h
  pass_node r (Node.empty_object b) d t h = pass_blanks r (suc d) b (125 ∷ t) h
  pass_node r (Node.array b n c es) d t h =
      pass_blanks r (suc d) b (node_chars n (c ++ elements_chars es t)) h.0
      ∙ pass_node r n (suc d) (c ++ elements_chars es t) h.1
      ∙ pass_blanks r (suc d) c (elements_chars es t) h.2
      ∙ pass_elements r es d t h.3
  pass_node r (Node.object key b n c ms) d t h =
      pass_key r (suc d) key (b ++ node_chars n (c ++ members_chars ms t)) h.0
      ∙ pass_blanks r (suc d) b (node_chars n (c ++ members_chars ms t)) h.1
      ∙ pass_node r n (suc d) (c ++ members_chars ms t) h.2
      ∙ pass_blanks r (suc d) c (members_chars ms t) h.3
      ∙ pass_members r ms d t h.4

  pub pass_elements : (r : Reading) (es : Elements) (d : ℕ) (t : List ℕ) → AreElements r es
      → skim (Outside (suc d)) (elements_chars es t) ≡ skim (Outside d) t
  pass_elements r no_elements d t h = refl
  pass_elements r (element b n c es) d t h =
      pass_blanks r (suc d) b (node_chars n (c ++ elements_chars es t)) h.0
      ∙ pass_node r n (suc d) (c ++ elements_chars es t) h.1
      ∙ pass_blanks r (suc d) c (elements_chars es t) h.2
      ∙ pass_elements r es d t h.3

  pub pass_members : (r : Reading) (ms : Members) (d : ℕ) (t : List ℕ) → AreMembers r ms
      → skim (Outside (suc d)) (members_chars ms t) ≡ skim (Outside d) t
  pass_members r no_members d t h = refl
  pass_members r (member key b n c ms) d t h =
      pass_key r (suc d) key (b ++ node_chars n (c ++ members_chars ms t)) h.0
      ∙ pass_blanks r (suc d) b (node_chars n (c ++ members_chars ms t)) h.1
      ∙ pass_node r n (suc d) (c ++ members_chars ms t) h.2
      ∙ pass_blanks r (suc d) c (members_chars ms t) h.3
      ∙ pass_members r ms d t h.4

-- ---- items

stop_elements : (es : Elements) (t : List ℕ) → skim (Outside zero) (elements_chars es t) ≡ elements_chars es t
stop_elements no_elements t = refl
stop_elements (element b n c es) t = refl

stop_members : (ms : Members) (t : List ℕ) → skim (Outside zero) (members_chars ms t) ≡ members_chars ms t
stop_members no_members t = refl
stop_members (member key b n c ms) t = refl

-- an element of an array is skipped, as far as the comma or the bracket after it
pub skim_element : (r : Reading) (n : Node) (c : List ℕ) (es : Elements) (t : List ℕ) → IsNode r n → IsWhitespace r c
    → skim (Outside zero) (node_chars n (c ++ elements_chars es t)) ≡ elements_chars es t
skim_element r n c es t h w =
    pass_node r n zero (c ++ elements_chars es t) h ∙ pass_blanks r zero c (elements_chars es t) w ∙ stop_elements es t

-- the same of an entry's value
pub skim_member : (r : Reading) (n : Node) (c : List ℕ) (ms : Members) (t : List ℕ) → IsNode r n → IsWhitespace r c
    → skim (Outside zero) (node_chars n (c ++ members_chars ms t)) ≡ members_chars ms t
skim_member r n c ms t h w =
    pass_node r n zero (c ++ members_chars ms t) h ∙ pass_blanks r zero c (members_chars ms t) w ∙ stop_members ms t

-- ---- the string of a key

pub string_one : (c : ℕ) (t : List ℕ) (q e : Bool) → not (q || e) ≡ true
    → (if q then t else string_rest e t) ≡ string_rest false t
string_one c t false false h = refl
string_one c t true e h = absurd (false≢true h)
string_one c t false true h = absurd (false≢true h)

string_hex : (n : ℕ) (u t : List ℕ) → AreHex n u → string_rest false (u ++ t) ≡ string_rest false t
string_hex zero [] t h = refl
string_hex zero (c ∷ u) t h = absurd h
string_hex (suc n) [] t h = absurd h
string_hex (suc n) (c ∷ u) t h =
    string_one c (u ++ t) (c == 34) (c == 92) (hex_inner c h.0) ∙ string_hex n u t h.1

string_item : (i : Item) (t : List ℕ) → IsItem i → string_rest false (item_chars i t) ≡ string_rest false t
string_item (grammar.plain c) t h = string_one c t (c == 34) (c == 92) (unescaped_inner c h)
string_item (simple c) t h = refl
string_item (single u) t h = string_hex 4 u t h.0
string_item (double u v) t h = string_hex 4 u (92 ∷ 117 ∷ (v ++ t)) h.0 ∙ string_hex 4 v t h.2

string_items : (is : List Item) (t : List ℕ) → AreItems is → string_rest false (items_chars is t) ≡ string_rest false t
string_items [] t h = refl
string_items (i ∷ is) t h = string_item i (items_chars is t) h.0 ∙ string_items is t h.1

-- the text after a string's opening quote goes on after its closing one
pub string_ends : (is : List Item) (t : List ℕ) → AreItems is → after_string (items_chars is (34 ∷ t)) ≡ t
string_ends is t h = string_items is (34 ∷ t) h
