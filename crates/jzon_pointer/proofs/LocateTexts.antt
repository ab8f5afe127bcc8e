-- The texts of specs/Locate, part by part; what a value's text begins with; and one byte at an offset.
use Rattle.jzon_base.proofs.Common.{◌≡◌, ◌≢◌, ◌∙◌, ◌<◌, ◌+◌, ℕ, zero, suc, List, [], ◌∷◌, ◌++◌, Bool, true, false, not, ◌&&◌, ◌||◌, ◌==◌}
use Rattle.jzon_base.proofs.Common.{refl, sym, ap, subst, arith, nat_tests, append-nil, length, drop, get_or, and_parts, is_ascii_digit}
use Rattle.jzon_base.proofs.Common.{encode_utf8_all, encode_ascii, None}
use Rattle.std.specs.Prelude.{nat_lt}
use Rattle.std.proofs.Common.{add-one}
use Rattle.jzon.specs.Reading.{Reading, usual}
use Rattle.jzon.specs.Grammar.{Numeral, Key, Node, Elements, no_elements, element, Members, no_members, member, IsNode, IsNumeral}
use Rattle.jzon.specs.Grammar.{IsWhole}
use Rattle.jzon.specs.Spelling.{plain}
use Rattle.jzon.proofs.Texts.Cells.{chars_of, chars-plain}
use Rattle.jzon.specs.TreeCharacters.{node_chars, elements_chars, members_chars, items_chars, numeral_chars, magnitude_chars}
use Rattle.jzon.specs.TreeCharacters.{fraction_chars, exponent_chars}
use Rattle.jzon.proofs.Texts.TreeCharacters.{chars-node, chars-elements, chars-members}
use Rattle.jzon_pointer.specs.Locate.{node_text, elements_text, members_text, key_text}
use Rattle.jzon_pointer.specs.Private.Walk.{From}

-- ---- the texts as lists of characters

plain_chars : (k : List ℕ) → chars_of (plain k []) ≡ k
plain_chars k = chars-plain k [] ∙ append-nil k

pub node_text_is : (n : Node) (k : List ℕ) → node_text n k ≡ node_chars n k
unfolding node_text
node_text_is n k = chars-node usual n 0 None (plain k []) ∙ ap (node_chars n) (plain_chars k)

pub elements_text_is : (es : Elements) (k : List ℕ) → elements_text es k ≡ elements_chars es k
unfolding elements_text
elements_text_is es k = chars-elements usual es 0 (plain k []) ∙ ap (elements_chars es) (plain_chars k)

pub members_text_is : (ms : Members) (k : List ℕ) → members_text ms k ≡ members_chars ms k
unfolding members_text
members_text_is ms k = chars-members usual ms [] 0 (plain k []) ∙ ap (members_chars ms) (plain_chars k)

pub element_text_is : (n : Node) (c : List ℕ) (es : Elements) (k : List ℕ)
    → node_text n (c ++ elements_text es k) ≡ node_chars n (c ++ elements_chars es k)
element_text_is n c es k = node_text_is n (c ++ elements_text es k) ∙ ap (λ z. node_chars n (c ++ z)) (elements_text_is es k)

pub member_text_is : (n : Node) (c : List ℕ) (ms : Members) (k : List ℕ)
    → node_text n (c ++ members_text ms k) ≡ node_chars n (c ++ members_chars ms k)
member_text_is n c ms k = node_text_is n (c ++ members_text ms k) ∙ ap (λ z. node_chars n (c ++ z)) (members_text_is ms k)

pub key_text_is : (key : Key) (k : List ℕ) → key_text key k ≡ 34 ∷ items_chars key.items (34 ∷ (key.after ++ 58 ∷ k))
key_text_is key k = node_text_is (Node.string key.items) (key.after ++ 58 ∷ k)

-- ---- part by part

pub text_empty_array : (b k : List ℕ) → node_text (Node.empty_array b) k ≡ 91 ∷ (b ++ 93 ∷ k)
text_empty_array b k = node_text_is (Node.empty_array b) k

pub text_empty_object : (b k : List ℕ) → node_text (Node.empty_object b) k ≡ 123 ∷ (b ++ 125 ∷ k)
text_empty_object b k = node_text_is (Node.empty_object b) k

pub text_array : (b : List ℕ) (n : Node) (c : List ℕ) (es : Elements) (k : List ℕ)
    → node_text (Node.array b n c es) k ≡ 91 ∷ (b ++ node_text n (c ++ elements_text es k))
text_array b n c es k =
    node_text_is (Node.array b n c es) k ∙ ap (λ z. 91 ∷ (b ++ z)) (sym (element_text_is n c es k))

pub text_element : (b : List ℕ) (n : Node) (c : List ℕ) (es : Elements) (k : List ℕ)
    → elements_text (element b n c es) k ≡ 44 ∷ (b ++ node_text n (c ++ elements_text es k))
text_element b n c es k =
    elements_text_is (element b n c es) k ∙ ap (λ z. 44 ∷ (b ++ z)) (sym (element_text_is n c es k))

pub text_no_elements : (k : List ℕ) → elements_text no_elements k ≡ 93 ∷ k
text_no_elements k = elements_text_is no_elements k

-- an entry without the whitespace before its key
pub text_entry : (key : Key) (b : List ℕ) (n : Node) (c : List ℕ) (ms : Members) (k : List ℕ)
    → key_text key (b ++ node_text n (c ++ members_text ms k))
    ≡ 34 ∷ items_chars key.items (34 ∷ (key.after ++ 58 ∷ (b ++ node_chars n (c ++ members_chars ms k))))
text_entry key b n c ms k =
    key_text_is key (b ++ node_text n (c ++ members_text ms k))
    ∙ ap (λ z. 34 ∷ items_chars key.items (34 ∷ (key.after ++ 58 ∷ (b ++ z)))) (member_text_is n c ms k)

pub text_object : (key : Key) (b : List ℕ) (n : Node) (c : List ℕ) (ms : Members) (k : List ℕ)
    → node_text (Node.object key b n c ms) k
    ≡ 123 ∷ (key.before ++ key_text key (b ++ node_text n (c ++ members_text ms k)))
text_object key b n c ms k =
    node_text_is (Node.object key b n c ms) k ∙ ap (λ z. 123 ∷ (key.before ++ z)) (sym (text_entry key b n c ms k))

pub text_member : (key : Key) (b : List ℕ) (n : Node) (c : List ℕ) (ms : Members) (k : List ℕ)
    → members_text (member key b n c ms) k
    ≡ 44 ∷ (key.before ++ key_text key (b ++ node_text n (c ++ members_text ms k)))
text_member key b n c ms k =
    members_text_is (member key b n c ms) k ∙ ap (λ z. 44 ∷ (key.before ++ z)) (sym (text_entry key b n c ms k))

pub text_no_members : (k : List ℕ) → members_text no_members k ≡ 125 ∷ k
text_no_members k = members_text_is no_members k

-- ---- what a value's text begins with

-- no bracket that closes, no comma, no whitespace, and one byte
abbrev pub starts : ℕ → Bool
starts c = nat_lt 32 c && (nat_lt c 128 && not (c == 93 || (c == 125 || c == 44)))

-- the text begins with such a character
pub record Begins (cs : List ℕ) : Type 0 where
  pub first : ℕ
  pub rest : List ℕ
  pub is : cs ≡ first ∷ rest
  pub ok : starts first ≡ true

digit_starts : (c : ℕ) → is_ascii_digit c ≡ true → starts c ≡ true
digit_starts c h = grind (arith, nat_tests)

begins_whole : (w t : List ℕ) → IsWhole w → Begins (w ++ t)
begins_whole [] t h = absurd h
begins_whole (c ∷ []) t h = record { first = c; rest = t; is = refl; ok = digit_starts c h }
begins_whole (c ∷ e ∷ w) t h =
    record { first = c; rest = e ∷ w ++ t; is = refl; ok = digit_starts c (and_parts _ _ h.0).0 }

begins_numeral : (negative : Bool) (n : Numeral) (k : List ℕ) → IsNumeral n → Begins (numeral_chars negative n k)
begins_numeral true n k h = record { first = 45; rest = magnitude_chars n k; is = refl; ok = refl }
begins_numeral false n k h = begins_whole n.whole (fraction_chars n.fraction (exponent_chars n.exponent k)) h.0

begins_chars : (r : Reading) (n : Node) (k : List ℕ) → IsNode r n → Begins (node_chars n k)
begins_chars r Node.null k h = record { first = 110; rest = _; is = refl; ok = refl }
begins_chars r (Node.boolean true) k h = record { first = 116; rest = _; is = refl; ok = refl }
begins_chars r (Node.boolean false) k h = record { first = 102; rest = _; is = refl; ok = refl }
begins_chars r (Node.number n) k h = begins_numeral n.negative n k h
begins_chars r (Node.string is) k h = record { first = 34; rest = _; is = refl; ok = refl }
begins_chars r (Node.empty_array b) k h = record { first = 91; rest = _; is = refl; ok = refl }
begins_chars r (Node.empty_object b) k h = record { first = 123; rest = _; is = refl; ok = refl }
begins_chars r (Node.array b n c es) k h = record { first = 91; rest = _; is = refl; ok = refl }
begins_chars r (Node.object key b n c ms) k h = record { first = 123; rest = _; is = refl; ok = refl }

pub begins : (r : Reading) (n : Node) (k : List ℕ) → IsNode r n → Begins (node_text n k)
begins r n k h = subst (λ (cs : List ℕ). Begins cs) (sym (node_text_is n k)) (begins_chars r n k h)

-- which values begin with a bracket that opens
abbrev pub is_array : Node → Bool
is_array (Node.array b n c es) = true
is_array (Node.empty_array b) = true
is_array _ = false

abbrev pub is_object : Node → Bool
is_object (Node.object key b n c ms) = true
is_object (Node.empty_object b) = true
is_object _ = false

-- a value that begins with this character is an array or an object by it
abbrev pub Opens : Node → ℕ → Type 0
Opens n c = (c ≡ 91 → is_array n ≡ true) × (c ≡ 123 → is_object n ≡ true)

opens_none : (n : Node) (c d : ℕ) (xs ys : List ℕ) → c ≢ 91 → c ≢ 123 → c ∷ xs ≡ d ∷ ys → Opens n d
opens_none n c d xs ys a b e =
    let f : c ≡ d = cc in (λ g. absurd (a (f ∙ g)), λ g. absurd (b (f ∙ g)))

digit_no_bracket : (c : ℕ) → is_ascii_digit c ≡ true → (c ≢ 91) × (c ≢ 123)
digit_no_bracket c h = (λ e. grind (arith, nat_tests), λ e. grind (arith, nat_tests))

opens_whole : (n : Node) (w t : List ℕ) (d : ℕ) (ys : List ℕ) → IsWhole w → w ++ t ≡ d ∷ ys → Opens n d
opens_whole n [] t d ys h e = absurd h
opens_whole n (c ∷ []) t d ys h e =
    let x = digit_no_bracket c h in opens_none n c d t ys x.0 x.1 e
opens_whole n (c ∷ x ∷ w) t d ys h e =
    let g = digit_no_bracket c (and_parts _ _ h.0).0 in opens_none n c d (x ∷ w ++ t) ys g.0 g.1 e

opens_numeral : (m : Node) (negative : Bool) (n : Numeral) (k : List ℕ) (d : ℕ) (ys : List ℕ) → IsNumeral n
    → numeral_chars negative n k ≡ d ∷ ys → Opens m d
opens_numeral m true n k d ys h e = opens_none m 45 d (magnitude_chars n k) ys (λ f. (omega arith)) (λ f. (omega arith)) e
opens_numeral m false n k d ys h e = opens_whole m n.whole (fraction_chars n.fraction (exponent_chars n.exponent k)) d ys h.0 e

opens_chars : (r : Reading) (n : Node) (k : List ℕ) (d : ℕ) (ys : List ℕ) → IsNode r n → node_chars n k ≡ d ∷ ys
    → Opens n d
opens_chars r Node.null k d ys h e = opens_none Node.null 110 d (117 ∷ 108 ∷ 108 ∷ k) ys (λ f. (omega arith)) (λ f. (omega arith)) e
opens_chars r (Node.boolean true) k d ys h e =
    opens_none (Node.boolean true) 116 d (114 ∷ 117 ∷ 101 ∷ k) ys (λ f. (omega arith)) (λ f. (omega arith)) e
opens_chars r (Node.boolean false) k d ys h e =
    opens_none (Node.boolean false) 102 d (97 ∷ 108 ∷ 115 ∷ 101 ∷ k) ys (λ f. (omega arith)) (λ f. (omega arith)) e
opens_chars r (Node.number n) k d ys h e = opens_numeral (Node.number n) n.negative n k d ys h e
opens_chars r (Node.string is) k d ys h e =
    opens_none (Node.string is) 34 d (items_chars is (34 ∷ k)) ys (λ f. (omega arith)) (λ f. (omega arith)) e
opens_chars r (Node.empty_array b) k d ys h e =
    let f : 91 ≡ d = cc in (λ g. refl, λ g. absurd (omega arith))
opens_chars r (Node.array b n c es) k d ys h e =
    let f : 91 ≡ d = cc in (λ g. refl, λ g. absurd (omega arith))
opens_chars r (Node.empty_object b) k d ys h e =
    let f : 123 ≡ d = cc in (λ g. absurd (omega arith), λ g. refl)
opens_chars r (Node.object key b n c ms) k d ys h e =
    let f : 123 ≡ d = cc in (
      λ g. absurd (omega arith),
      λ g. refl,
    )

-- ---- a byte at an offset

-- the byte at an offset, and those after it
pub record Starts (bytes : List ℕ) (at c : ℕ) (xs : List ℕ) : Type 0 where
  pub within : at < length bytes
  pub byte : get_or bytes at 0 ≡ c
  pub next : drop (at + 1) bytes ≡ xs

starts_here : (at : ℕ) (bytes : List ℕ) (c : ℕ) (xs : List ℕ) → drop at bytes ≡ c ∷ xs
    → (at < length bytes) × (get_or bytes at 0 ≡ c) × (drop (suc at) bytes ≡ xs)
starts_here zero [] c xs e = absurd (cc)
starts_here zero (b ∷ bs) c xs e = (omega arith, let h : b ≡ c = cc in h, let h : bs ≡ xs = cc in h)
starts_here (suc i) [] c xs e = absurd (cc)
starts_here (suc i) (b ∷ bs) c xs e = let h = starts_here i bs c xs e in (omega (arith, h.0), h.1, h.2)

pub one_byte : (bytes : List ℕ) (at c : ℕ) (xs : List ℕ) → drop at bytes ≡ c ∷ xs → Starts bytes at c xs
one_byte bytes at c xs e = let h = starts_here at bytes c xs e in record {
  within = h.0;
  byte = h.1;
  next = rw add-one h.2;
}

-- the same of a character that is one byte
pub one_char : (bytes : List ℕ) (at c : ℕ) (cs : List ℕ) → c < 128 → From bytes at (c ∷ cs)
    → Starts bytes at c (encode_utf8_all cs)
one_char bytes at c cs small e =
    one_byte bytes at c (encode_utf8_all cs) (e ∙ ap (λ z. z ++ encode_utf8_all cs) (encode_ascii c small))

pub small_start : (c : ℕ) → starts c ≡ true → c < 128
small_start c h = grind (arith, nat_tests)

pub first_byte : (bytes : List ℕ) (at : ℕ) (cs : List ℕ) → From bytes at cs → (b : Begins cs)
    → Starts bytes at b.first (encode_utf8_all b.rest)
first_byte bytes at cs e b =
    one_char bytes at b.first b.rest (small_start b.first b.ok) (e ∙ ap encode_utf8_all b.is)

-- a value at an offset that begins with this byte
pub record Opened (bytes : List ℕ) (at : ℕ) (n : Node) (k : List ℕ) (c : ℕ) : Type 0 where
  pub rest : List ℕ
  pub is : node_text n k ≡ c ∷ rest
  pub next : From bytes (at + 1) rest
  pub opens : Opens n c

pub opened : (r : Reading) (bytes : List ℕ) (at : ℕ) (n : Node) (k : List ℕ) (c : ℕ) → IsNode r n
    → From bytes at (node_text n k) → get_or bytes at 0 ≡ c → Opened bytes at n k c
opened r bytes at n k c g h byte =
    let b = begins r n k g in
    let s = first_byte bytes at (node_text n k) h b in
    let e : b.first ≡ c = sym s.byte ∙ byte in
    let f : node_text n k ≡ c ∷ b.rest = b.is ∙ ap (λ z. z ∷ b.rest) e in record {
      rest = b.rest;
      is = f;
      next = s.next;
      opens = opens_chars r n k c b.rest g (sym (node_text_is n k) ∙ f);
    }
