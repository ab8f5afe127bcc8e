-- The cells of each part of a tree spell its characters; `spells`: those of a document equal the result of `spell`.
use Rattle.jzon_base.proofs.Common.{◌≡◌, ◌∙◌, ℕ, List, [], ◌∷◌, ◌++◌, Bool, true, false, Option, Some, None, refl, ap}
use Rattle.jzon_base.proofs.Common.{append-nil, if◌then◌else◌}
use Rattle.jzon.specs.Reading.{Reading}
use Rattle.jzon.specs.Grammar.{Sign, unsigned, Exponent, Numeral, Item, simple, single, double, Key, Node}
use Rattle.jzon.specs.Grammar.{Elements, no_elements, element, Members, no_members, member, Document}
use Rattle.jzon.specs.Grammar as grammar
use Rattle.jzon.specs.Spelling.{Breach, whole_breach, fraction_breach, Cell, cell, marked_last, digits_cells}
use Rattle.jzon.specs.Spelling.{whole_cells, fraction_cells, sign_cells, exponent_cells, magnitude_cells, item_cells}
use Rattle.jzon.specs.Spelling.{items_cells, key_cells, node_cells, elements_cells, members_cells, spell}
use Rattle.jzon.specs.TreeCharacters.{fraction_chars, sign_chars, exponent_chars, magnitude_chars, numeral_chars}
use Rattle.jzon.specs.TreeCharacters.{item_chars, items_chars, key_chars, node_chars, elements_chars, members_chars}
use Rattle.jzon.specs.TreeCharacters.{document_chars}
use Rattle.jzon.proofs.Texts.Cells.{chars_of, chars-plain}

chars-digits : (f : List ℕ → Option Breach) (prefix ds : List ℕ) (k : List Cell)
    → chars_of (digits_cells f prefix ds k) ≡ ds ++ chars_of k
chars-digits f prefix [] k = refl
chars-digits f prefix (d ∷ ds) k = ap (λ z. d ∷ z) (chars-digits f (d ∷ prefix) ds k)

chars-marked : (cs : List ℕ) (m : Option Breach) (k : List Cell) → chars_of (marked_last cs m k) ≡ cs ++ chars_of k
chars-marked [] m k = refl
chars-marked (c ∷ []) m k = refl
chars-marked (c ∷ d ∷ cs) m k = ap (λ z. c ∷ z) (chars-marked (d ∷ cs) m k)

chars-whole : (r : Reading) (ds : List ℕ) (m : Option Breach) (k : List Cell)
    → chars_of (whole_cells r ds m k) ≡ ds ++ chars_of k
chars-whole r [] m k = refl
chars-whole r (d ∷ ds) m k = ap (λ z. d ∷ z) (chars-digits (whole_breach r) (d ∷ []) ds k)

chars-fraction : (r : Reading) (ws ds : List ℕ) (k : List Cell)
    → chars_of (fraction_cells r ws ds k) ≡ fraction_chars ds (chars_of k)
chars-fraction r ws [] k = refl
chars-fraction r ws (d ∷ ds) k = ap (λ z. 46 ∷ z) (chars-digits (fraction_breach r ws) [] (d ∷ ds) k)

chars-sign : (s : Sign) (k : List Cell) → chars_of (sign_cells s k) ≡ sign_chars s (chars_of k)
chars-sign unsigned k = refl
chars-sign _ k = refl

chars-exponent : (r : Reading) (ws ds : List ℕ) (x : Option Exponent) (k : List Cell)
    → chars_of (exponent_cells r ws ds x k) ≡ exponent_chars x (chars_of k)
chars-exponent r ws ds None k = refl
chars-exponent r ws ds (Some e) k = simp (chars-sign, chars-digits)

chars-magnitude : (r : Reading) (n : Numeral) (m : Option Breach) (k : List Cell)
    → chars_of (magnitude_cells r n m k) ≡ magnitude_chars n (chars_of k)
chars-magnitude r n m k = simp (chars-whole, chars-fraction, chars-exponent)

chars-numeral : (r : Reading) (negative : Bool) (n : Numeral) (m : Option Breach) (k : List Cell)
    → chars_of (if negative then cell 45 m ∷ magnitude_cells r n None k else magnitude_cells r n m k)
    ≡ numeral_chars negative n (chars_of k)
chars-numeral r true n m k = ap (λ z. 45 ∷ z) (chars-magnitude r n None k)
chars-numeral r false n m k = chars-magnitude r n m k

chars-item : (i : Item) (k : List Cell) → chars_of (item_cells i k) ≡ item_chars i (chars_of k)
chars-item (grammar.plain c) k = refl
chars-item (simple c) k = refl
chars-item (single u) k = ap (λ z. 92 ∷ 117 ∷ z) (chars-plain u k)
chars-item (double u v) k = simp (chars-plain, chars-marked)

chars-items : (is : List Item) (k : List Cell) → chars_of (items_cells is k) ≡ items_chars is (chars_of k)
chars-items [] k = refl
chars-items (i ∷ is) k = chars-item i (items_cells is k) ∙ ap (item_chars i) (chars-items is k)

chars-key : (r : Reading) (seen : List (List ℕ)) (key : Key) (m : Option Breach) (k : List Cell)
    → chars_of (key_cells r seen key m k) ≡ key_chars key (chars_of k)
chars-key r seen key m k = simp (chars-plain, chars-items)

mutual
  pub chars-node : (r : Reading) (n : Node) (i : ℕ) (m : Option Breach) (k : List Cell)
      → chars_of (node_cells r n i m k) ≡ node_chars n (chars_of k)
  chars-node r Node.null i m k = refl
  chars-node r (Node.boolean true) i m k = refl
  chars-node r (Node.boolean false) i m k = refl
  chars-node r (Node.number n) i m k = chars-numeral r n.negative n m k
  chars-node r (Node.string is) i m k = ap (λ z. 34 ∷ z) (chars-items is _)
  chars-node r (Node.empty_array b) i m k = ap (λ z. 91 ∷ z) (chars-plain b _)
  chars-node r (Node.empty_object b) i m k = ap (λ z. 123 ∷ z) (chars-plain b _)
  chars-node r (Node.array b n c es) i m k = simp (chars-plain, chars-node r n, chars-elements r es)
  chars-node r (Node.object key b n c ms) i m k = simp (chars-key, chars-plain, chars-node r n, chars-members r ms)

  pub chars-elements : (r : Reading) (es : Elements) (i : ℕ) (k : List Cell)
      → chars_of (elements_cells r es i k) ≡ elements_chars es (chars_of k)
  chars-elements r no_elements i k = refl
  chars-elements r (element b n c es) i k = simp (chars-plain, chars-node r n, chars-elements r es)

  pub chars-members : (r : Reading) (ms : Members) (seen : List (List ℕ)) (i : ℕ) (k : List Cell)
      → chars_of (members_cells r ms seen i k) ≡ members_chars ms (chars_of k)
  chars-members r no_members seen i k = refl
  chars-members r (member key b n c ms) seen i k = simp (chars-key, chars-plain, chars-node r n, chars-members r ms)

pub spells : (r : Reading) (d : Document) → spell r d ≡ document_chars d
spells r d = simp (chars-plain, chars-node, append-nil)
