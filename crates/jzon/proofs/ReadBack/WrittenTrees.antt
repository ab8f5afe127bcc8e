-- Trees of written texts: a tree that breaks no limit, with the bytes that it spells.
use Rattle.jzon_base.proofs.Common.{◌≡◌, ◌∙◌, ℕ, suc, ◌+◌, ◌<◌, ◌≤◌, ◌^◌, ℤ, List, [], ◌∷◌, ◌++◌, Bool, true}
use Rattle.jzon_base.proofs.Common.{false, ◌&&◌, codes, None, refl, sym, ap, arith, chars, FitsSigned, IsUtf8, w16}
use Rattle.jzon_base.proofs.Common.{IsAscii, chars-append, chars-IsAscii, IsUtf8-append, IsUtf8-from_ascii, IsAscii-nil}
use Rattle.jzon_base.proofs.Common.{IsAscii-cons, lt-leb}
use Rattle.std.proofs.Math.Bool.{and-false}
use Rattle.jzon_base.specs.NumberText.{number_text}
use Rattle.jzon_tree.specs.Same.{is_known}
use Rattle.jzon_tree.specs.Text.{quoted}
use Rattle.jzon_tree.proofs.Printing.PrintedUtf8.{IsAscii-one, IsAscii-true, IsUtf8-quoted}
use Rattle.jzon.specs.Reading.{Reading}
use Rattle.jzon.specs.Grammar.{Numeral, Key, Node, Elements, no_elements, element, Members, no_members, member}
use Rattle.jzon.specs.Grammar.{IsWhitespace, IsNode, AreElements, AreMembers}
use Rattle.jzon.specs.Fault.{Parses}
use Rattle.jzon.specs.Laws.{alone}
use Rattle.jzon.specs.Meaning.{bytes_of}
use Rattle.jzon.specs.Spelling.{Cell, cell, plain, breach_if, deep, duplicate, items_length, items_cells, key_cells}
use Rattle.jzon.specs.Spelling.{node_cells, elements_cells, members_cells}
use Rattle.jzon.proofs.Texts.Cells.{plain-append}
use Rattle.jzon.proofs.Texts.AsciiRuns.{space_is_ascii}
use Rattle.jzon.proofs.ReadBack.Unbroken.{parses_plain}
use Rattle.jzon.proofs.ReadBack.PrintedParts.{IsPrintedAs}
use Rattle.jzon.proofs.ReadBack.NumbersReadBack.{printed-plain, IsAscii-number}
use Rattle.jzon.proofs.ReadBack.DistinctKeys.{AreNew}
use Rattle.jzon.proofs.ReadBack.WrittenStrings.{items_for, items_for_in_grammar, bytes_of-items_for}
use Rattle.jzon.proofs.ReadBack.WrittenStrings.{chars-IsAscii_append, quoted-plain}

-- The node spells the bytes, and it breaks no limit if `high` more containers may be opened.
pub record NodeSpells (r : Reading) (high : ℕ) (b : List ℕ) (n : Node) : Type 0 where
  pub utf8 : IsUtf8 b
  pub in_grammar : IsNode r n
  pub unbroken : (depth : ℕ) (k : List Cell) → depth + high ≤ r.depth → node_cells r n depth None k ≡ plain (chars b) k

-- and so the elements, with the closing bracket
pub record ElementsSpell (r : Reading) (high : ℕ) (b : List ℕ) (es : Elements) : Type 0 where
  pub utf8 : IsUtf8 b
  pub in_grammar : AreElements r es
  pub unbroken : (depth : ℕ) (k : List Cell) → depth + high ≤ r.depth → elements_cells r es depth k ≡ plain (chars b) k

-- and so the members, of these keys
pub record MembersSpell (r : Reading) (high : ℕ) (keys : List (List ℕ)) (b : List ℕ) (ms : Members) : Type 0 where
  pub utf8 : IsUtf8 b
  pub in_grammar : AreMembers r ms
  pub unbroken : (seen : List (List ℕ)) (depth : ℕ) (k : List Cell) → AreNew seen keys → depth + high ≤ r.depth
      → members_cells r ms seen depth k ≡ plain (chars b) k

-- ---- texts

text-append : (xs ys : List ℕ) (k : List Cell) → IsUtf8 xs → plain (chars (xs ++ ys)) k
    ≡ plain (chars xs) (plain (chars ys) k)
text-append xs ys k u = ap (λ t. plain t k) (chars-append xs ys u) ∙ plain-append (chars xs) (chars ys) k

text-ascii : (xs ys : List ℕ) (k : List Cell) → IsAscii xs → plain (chars (xs ++ ys)) k ≡ plain xs (plain (chars ys) k)
text-ascii xs ys k h = ap (λ t. plain t k) (chars-IsAscii_append xs ys h) ∙ plain-append xs (chars ys) k

IsUtf8-ascii_append : (xs ys : List ℕ) → IsAscii xs → IsUtf8 ys → IsUtf8 (xs ++ ys)
IsUtf8-ascii_append xs ys h u = IsUtf8-append xs ys (IsUtf8-from_ascii xs h) u

IsAscii-whitespace : (r : Reading) (w : List ℕ) → IsWhitespace r w → IsAscii w
IsAscii-whitespace r [] h = IsAscii-nil
IsAscii-whitespace r (c ∷ w) h = IsAscii-cons c w (space_is_ascii r.strict c h.0) (IsAscii-whitespace r w h.1)

-- A text below 128 whose cells have no mark.
ascii_spells : (r : Reading) (b : List ℕ) (n : Node) → IsAscii b → IsNode r n
    → ((depth : ℕ) (k : List Cell) → node_cells r n depth None k ≡ plain b k) → NodeSpells r 0 b n
ascii_spells r b n ascii ok e = record {
  utf8 = IsUtf8-from_ascii b ascii;
  in_grammar = ok;
  unbroken = λ depth k h. e depth k ∙ ap (λ t. plain t k) (sym (chars-IsAscii b ascii));
}

-- ---- primitives and empty containers

pub null_spells : (r : Reading) → NodeSpells r 0 (codes "null") Node.null
null_spells r = ascii_spells r (codes "null") Node.null (IsAscii-true (codes "null") refl) tt (λ depth k. refl)

pub true_spells : (r : Reading) → NodeSpells r 0 (codes "true") (Node.boolean true)
true_spells r = ascii_spells r _ (Node.boolean true) (IsAscii-true (codes "true") refl) tt (λ depth k. refl)

pub false_spells : (r : Reading) → NodeSpells r 0 (codes "false") (Node.boolean false)
false_spells r = ascii_spells r _ (Node.boolean false) (IsAscii-true (codes "false") refl) tt (λ depth k. refl)

pub number_spells : (r : Reading) (s : Bool) (m : ℕ) (e : ℤ) (n : Numeral) → m < 2 ^ 64 → FitsSigned w16 e
    → IsPrintedAs s m e n → NodeSpells r 0 (number_text s m e) (Node.number n)
number_spells r s m e n fits small h =
    ascii_spells r (number_text s m e) (Node.number n) (IsAscii-number s m e fits small) h.in_grammar
    (λ depth k. printed-plain r s m e n k fits small h)

pub empty_array_spells : (r : Reading) → NodeSpells r 0 (codes "[]") (Node.empty_array [])
empty_array_spells r = ascii_spells r _ (Node.empty_array []) (IsAscii-true (codes "[]") refl) tt (λ depth k. refl)

pub empty_object_spells : (r : Reading) → NodeSpells r 0 (codes "{}") (Node.empty_object [])
empty_object_spells r = ascii_spells r _ (Node.empty_object []) (IsAscii-true (codes "{}") refl) tt (λ depth k. refl)

pub string_spells : (r : Reading) (s : List ℕ) → IsUtf8 s → NodeSpells r 0 (quoted s) (Node.string (items_for s))
string_spells r s u = record {
  utf8 = IsUtf8-quoted s u;
  in_grammar = items_for_in_grammar s u;
  unbroken = λ depth k h. quoted-plain s k u;
}

-- ---- arrays and objects

pub no_elements_spell : (r : Reading) (high : ℕ) → ElementsSpell r high (93 ∷ []) no_elements
no_elements_spell r high = record {
  utf8 = IsUtf8-from_ascii (93 ∷ []) (IsAscii-one 93 (omega arith));
  in_grammar = tt;
  unbroken = λ depth k h. ap (λ t. plain t k) (sym (chars-IsAscii (93 ∷ []) (IsAscii-one 93 (omega arith))));
}

pub no_members_spell : (r : Reading) (high : ℕ) → MembersSpell r high [] (125 ∷ []) no_members
no_members_spell r high = record {
  utf8 = IsUtf8-from_ascii (125 ∷ []) (IsAscii-one 125 (omega arith));
  in_grammar = tt;
  unbroken = λ seen depth k new h. ap (λ t. plain t k) (sym (chars-IsAscii (125 ∷ []) (IsAscii-one 125 (omega arith))));
}

-- whitespace, a value, whitespace and the elements or members after it
abbrev pub run_text : List ℕ → List ℕ → List ℕ → List ℕ → List ℕ
run_text w x c b = w ++ (x ++ (c ++ b))

-- a key as it is written, after whitespace
abbrev pub key_for : List ℕ → List ℕ → Key
key_for w key = record { before = w; items = items_for key; after = [] }

-- whitespace, a key, a colon, whitespace, a value, whitespace and the members after it
abbrev pub pair_text : List ℕ → List ℕ → List ℕ → List ℕ → List ℕ → List ℕ → List ℕ
pair_text w key g x c b = w ++ (quoted key ++ (58 ∷ run_text g x c b))

key-plain : (r : Reading) (seen : List (List ℕ)) (w key : List ℕ) (k : List Cell) → IsUtf8 key
    → is_known seen key ≡ false
    → key_cells r seen (key_for w key) None k ≡ plain w (plain (chars (quoted key)) (cell 58 None ∷ k))
key-plain r seen w key k u new =
    let none : (r.strict && is_known seen (bytes_of (items_for key))) ≡ false =
    ap (λ t. r.strict && is_known seen t) (bytes_of-items_for key u) ∙ ap (λ t. r.strict && t) new
    ∙ and-false r.strict in
    ap (λ t. plain w (cell 34 None ∷ items_cells (items_for key)
    (cell 34 (breach_if t (duplicate (items_length (items_for key) + 1))) ∷ cell 58 None ∷ k))) none
    ∙ ap (λ q. plain w q) (quoted-plain key (cell 58 None ∷ k) u)

-- g and c: the whitespace around the value, whose text is x; b: the text after it; most: a bound of both bounds
module _ (r : Reading) (h : ℕ) (g x c b : List ℕ) (n : Node) (gap : IsWhitespace r g) (space : IsWhitespace r c)
    (node : NodeSpells r h x n) where
  run-plain : (depth : ℕ) (rest k : List Cell) → depth + h ≤ r.depth → rest ≡ plain (chars b) k
      → plain g (node_cells r n depth None (plain c rest)) ≡ plain (chars (run_text g x c b)) k
  run-plain depth rest k few more =
      rw (more, node.unbroken depth (plain c (plain (chars b) k)) few)
      (rw (text-ascii g _ k (IsAscii-whitespace r g gap), text-append x _ k node.utf8)
      (rw (text-ascii c b k (IsAscii-whitespace r c space))))

  IsUtf8-run : IsUtf8 b → IsUtf8 (run_text g x c b)
  IsUtf8-run v = IsUtf8-ascii_append g _ (IsAscii-whitespace r g gap)
      (IsUtf8-append x _ node.utf8 (IsUtf8-ascii_append c b (IsAscii-whitespace r c space) v))

  module _ (high : ℕ) (es : Elements) (more : ElementsSpell r high b es) (most : ℕ) (le : h ≤ most) (le' : high ≤ most)
    where
      pub element_spells : ElementsSpell r most (44 ∷ run_text g x c b) (element g n c es)
      element_spells = record {
        utf8 = IsUtf8-ascii_append (44 ∷ []) _ (IsAscii-one 44 (omega arith)) (IsUtf8-run more.utf8);
        in_grammar = (gap, node.in_grammar, space, more.in_grammar);
        unbroken = λ depth k few.
            ap (λ q. cell 44 None ∷ q) (run-plain depth _ k (omega arith) (more.unbroken depth k (omega arith)))
            ∙ sym (text-ascii (44 ∷ []) (run_text g x c b) k (IsAscii-one 44 (omega arith)));
      }

      pub array_spells : NodeSpells r (suc most) (91 ∷ run_text g x c b) (Node.array g n c es)
      array_spells = record {
        utf8 = IsUtf8-ascii_append (91 ∷ []) _ (IsAscii-one 91 (omega arith)) (IsUtf8-run more.utf8);
        in_grammar = (gap, node.in_grammar, space, more.in_grammar);
        unbroken = λ depth k few.
            ap (λ t. cell 91 None ∷ plain g (node_cells r n (suc depth) (breach_if t deep)
            (plain c (elements_cells r es (suc depth) k)))) (lt-leb r.depth depth (omega arith))
            ∙ ap (λ q. cell 91 None ∷ q) (run-plain (suc depth) _ k (omega arith)
            (more.unbroken (suc depth) k (omega arith)))
            ∙ sym (text-ascii (91 ∷ []) (run_text g x c b) k (IsAscii-one 91 (omega arith)));
      }

  module _ (high : ℕ) (keys : List (List ℕ)) (ms : Members) (more : MembersSpell r high keys b ms) (w key : List ℕ)
      (whitespace : IsWhitespace r w) (u : IsUtf8 key) (most : ℕ) (le : h ≤ most) (le' : high ≤ most) where
    pair-plain : (depth : ℕ) (seen : List (List ℕ)) (k : List Cell) → AreNew seen (key ∷ keys)
        → depth + most ≤ r.depth → key_cells r seen (key_for w key) None
        (plain g (node_cells r n depth None (plain c (members_cells r ms (bytes_of (items_for key) ∷ seen) depth k))))
        ≡ plain (chars (pair_text w key g x c b)) k
    pair-plain depth seen k new few =
        let value = run-plain depth _ k (omega arith) (more.unbroken (key ∷ seen) depth k new.1 (omega arith)) in
        key-plain r seen w key _ u new.0
        ∙ rw (bytes_of-items_for key u, value)
        (rw (text-ascii w _ k (IsAscii-whitespace r w whitespace), text-append (quoted key) _ k (IsUtf8-quoted key u))
        (rw (text-ascii (58 ∷ []) (run_text g x c b) k (IsAscii-one 58 (omega arith)))))

    IsUtf8-pair : IsUtf8 (pair_text w key g x c b)
    IsUtf8-pair = IsUtf8-ascii_append w _ (IsAscii-whitespace r w whitespace)
        (IsUtf8-append (quoted key) _ (IsUtf8-quoted key u)
        (IsUtf8-ascii_append (58 ∷ []) _ (IsAscii-one 58 (omega arith)) (IsUtf8-run more.utf8)))

    pub member_spells : MembersSpell r most (key ∷ keys) (44 ∷ pair_text w key g x c b)
        (member (key_for w key) g n c ms)
    member_spells = record {
      utf8 = IsUtf8-ascii_append (44 ∷ []) _ (IsAscii-one 44 (omega arith)) IsUtf8-pair;
      in_grammar = ((whitespace, items_for_in_grammar key u, tt), gap, node.in_grammar, space, more.in_grammar);
      unbroken = λ seen depth k new few. ap (λ q. cell 44 None ∷ q) (pair-plain depth seen k new few)
          ∙ sym (text-ascii (44 ∷ []) (pair_text w key g x c b) k (IsAscii-one 44 (omega arith)));
    }

    pub object_spells : AreNew [] (key ∷ keys) → NodeSpells r (suc most) (123 ∷ pair_text w key g x c b)
        (Node.object (key_for w key) g n c ms)
    object_spells new = record {
      utf8 = IsUtf8-ascii_append (123 ∷ []) _ (IsAscii-one 123 (omega arith)) IsUtf8-pair;
      in_grammar = ((whitespace, items_for_in_grammar key u, tt), gap, node.in_grammar, space, more.in_grammar);
      unbroken = λ depth k few.
          ap (λ t. cell 123 None ∷ key_cells r [] (key_for w key) (breach_if t deep) (plain g (node_cells r n
          (suc depth) None (plain c (members_cells r ms (bytes_of (items_for key) ∷ []) (suc depth) k)))))
          (lt-leb r.depth depth (omega arith))
          ∙ ap (λ q. cell 123 None ∷ q) (pair-plain (suc depth) [] k new (omega arith))
          ∙ sym (text-ascii (123 ∷ []) (pair_text w key g x c b) k (IsAscii-one 123 (omega arith)));
    }

-- ---- a text of one value

pub node_parses : (r : Reading) (high : ℕ) (b : List ℕ) (n : Node) → high ≤ r.depth → NodeSpells r high b n
    → Parses r (chars b) (alone n)
node_parses r high b n few h = parses_plain r (chars b) (alone n) (tt, h.in_grammar, tt) (h.unbroken 0 [] (omega arith))
