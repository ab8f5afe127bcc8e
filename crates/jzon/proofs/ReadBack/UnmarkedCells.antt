-- Cells without marks: the cells after each part of a tree have no marks either, and neither has the first character of
-- a value.
use Rattle.jzon_base.proofs.Common.{◌≡◌, ℕ, List, [], ◌∷◌, suc, Bool, true, false, if◌then◌else◌, Option, Some, None}
use Rattle.jzon_base.proofs.Common.{ap, ⊤, slice_get}
use Rattle.jzon.specs.Reading.{Reading}
use Rattle.jzon.specs.Grammar.{Sign, unsigned, Exponent, Numeral, Item, simple, single, double, Key}
use Rattle.jzon.specs.Grammar.{IsWhole}
use Rattle.jzon.specs.Grammar as grammar
use Rattle.jzon.specs.Spelling.{Breach, Cell, cell, plain, marked_last, whole_breach, fraction_breach, exponent_breach, digits_cells}
use Rattle.jzon.specs.Spelling.{whole_cells, fraction_cells, sign_cells, exponent_cells, magnitude_cells, item_cells}
use Rattle.jzon.specs.Spelling.{items_cells, key_cells}
use Rattle.jzon.proofs.Texts.Cells.{marks_of}

abbrev pub HaveNoMarks : List Cell → Type 0
HaveNoMarks [] = ⊤
HaveNoMarks (x ∷ q) = (x.mark ≡ None) × HaveNoMarks q

pub no_mark : (m : Option Breach) → ((b : Breach) → m ≡ Some b → ⊥) → m ≡ None
no_mark None h = cc
no_mark (Some b) h = absurd (h b cc)

pub unmarked : (q : List Cell) → ((i : ℕ) (b : Breach) → slice_get (marks_of q) i ≡ Some (Some b) → ⊥) → HaveNoMarks q
unmarked [] h = tt
unmarked (x ∷ q) h = (no_mark x.mark (λ b e. h 0 b (ap Some e)), unmarked q (λ i b e. h (suc i) b e))

-- ---- characters

pub plain_rest : (cs : List ℕ) (k : List Cell) → HaveNoMarks (plain cs k) → HaveNoMarks k
plain_rest [] k h = h
plain_rest (c ∷ cs) k h = plain_rest cs k h.1

marked_last_rest : (cs : List ℕ) (m : Option Breach) (k : List Cell) → HaveNoMarks (marked_last cs m k) → HaveNoMarks k
marked_last_rest [] m k h = h
marked_last_rest (c ∷ []) m k h = h.1
marked_last_rest (c ∷ d ∷ cs) m k h = marked_last_rest (d ∷ cs) m k h.1

-- ---- numbers

digits_rest : (breach : List ℕ → Option Breach) (prefix ds : List ℕ) (k : List Cell)
    → HaveNoMarks (digits_cells breach prefix ds k) → HaveNoMarks k
digits_rest breach prefix [] k h = h
digits_rest breach prefix (d ∷ ds) k h = digits_rest breach (d ∷ prefix) ds k h.1

fraction_rest : (r : Reading) (whole ds : List ℕ) (k : List Cell) → HaveNoMarks (fraction_cells r whole ds k) → HaveNoMarks k
fraction_rest r whole [] k h = h
fraction_rest r whole (d ∷ ds) k h = digits_rest (fraction_breach r whole) [] (d ∷ ds) k h.1

pub sign_rest : (s : Sign) (k : List Cell) → HaveNoMarks (sign_cells s k) → HaveNoMarks k
sign_rest unsigned k h = h
sign_rest _ k h = h.1

exponent_rest : (r : Reading) (whole ds : List ℕ) (e : Option Exponent) (k : List Cell)
    → HaveNoMarks (exponent_cells r whole ds e k) → HaveNoMarks k
exponent_rest r whole ds None k h = h
exponent_rest r whole ds (Some e) k h =
    digits_rest (exponent_breach r whole ds e.sign) [] e.digits k (sign_rest e.sign _ h.1)

whole_first : (r : Reading) (ds : List ℕ) (m : Option Breach) (k : List Cell) → IsWhole ds
    → HaveNoMarks (whole_cells r ds m k)
    → (m ≡ None) × HaveNoMarks k
whole_first r [] m k ok h = absurd ok
whole_first r (d ∷ ds) m k ok h = (h.0, digits_rest (whole_breach r) (d ∷ []) ds k h.1)

magnitude_first : (r : Reading) (n : Numeral) (m : Option Breach) (k : List Cell) → IsWhole n.whole
    → HaveNoMarks (magnitude_cells r n m k) → (m ≡ None) × HaveNoMarks k
magnitude_first r n m k ok h =
    let w = whole_first r n.whole m _ ok h in
    (w.0, exponent_rest r n.whole n.fraction n.exponent k (fraction_rest r n.whole n.fraction _ w.1))

pub signed_first : (r : Reading) (negative : Bool) (n : Numeral) (m : Option Breach) (k : List Cell) → IsWhole n.whole
    → HaveNoMarks (if negative then cell 45 m ∷ magnitude_cells r n None k else magnitude_cells r n m k) → (m ≡ None)
    × HaveNoMarks k
signed_first r true n m k ok h = (h.0, (magnitude_first r n None k ok h.1).1)
signed_first r false n m k ok h = magnitude_first r n m k ok h

-- ---- strings

item_rest : (i : Item) (k : List Cell) → HaveNoMarks (item_cells i k) → HaveNoMarks k
item_rest (grammar.plain c) k h = h.1
item_rest (simple c) k h = h.1.1
item_rest (single u) k h = plain_rest u k h.1.1
item_rest (double u v) k h = marked_last_rest v _ k (plain_rest u _ h.1.1).1.1

pub items_rest : (is : List Item) (k : List Cell) → HaveNoMarks (items_cells is k) → HaveNoMarks k
items_rest [] k h = h
items_rest (i ∷ is) k h = items_rest is k (item_rest i (items_cells is k) h)

pub key_first : (r : Reading) (seen : List (List ℕ)) (key : Key) (m : Option Breach) (k : List Cell)
    → HaveNoMarks (key_cells r seen key m k) → (m ≡ None) × HaveNoMarks k
key_first r seen key m k h =
    let first = plain_rest key.before _ h in
    let closing = items_rest key.items _ first.1 in
    (first.0, (plain_rest key.after (cell 58 None ∷ k) closing.1).1)
