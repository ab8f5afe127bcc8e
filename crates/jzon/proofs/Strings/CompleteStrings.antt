-- Complete, for strings (`complete_string`, `read_items`): over the items of a string the automaton goes from between
-- two items to after them, each move with its cell's mark, and has the bytes that they mean.
use Rattle.jzon_base.proofs.Common.{◌≡◌, ◌∙◌, ℕ, zero, suc, ◌+◌, List, [], ◌∷◌, ◌++◌, length, Bool, true, false, not}
use Rattle.jzon_base.proofs.Common.{◌&&◌, Option, None, refl, sym, subst, ap, arith, append_assoc, append-nil}
use Rattle.jzon_base.proofs.Common.{encode_utf8, encode_utf8_all, if◌then◌else◌, fold, encodes-append}
use Rattle.jzon_tree.specs.Value as value
use Rattle.jzon_tree.specs.Value.{kind_of}
use Rattle.jzon.specs.Reading.{Reading}
use Rattle.jzon.specs.Grammar.{Item, simple, single, double, AreHex, AreItems, IsItem, code_unit, is_surrogate, is_high}
use Rattle.jzon.specs.Grammar.{is_low}
use Rattle.jzon.specs.Grammar as grammar
use Rattle.jzon.specs.Spelling.{Breach, pair, Cell, cell, plain, marked_last, breach_if, item_cells, items_cells}
use Rattle.jzon.specs.Spelling.{items_length}
use Rattle.jzon.specs.Meaning.{item_text, characters_of, bytes_of, is_pair, pair_char}
use Rattle.jzon.specs.Private.Machine.{Frames, Role, as_value, before, string, after_value, between, code, second_code}
use Rattle.jzon.specs.Private.Machine.{Outcome, value_mark, after_unit, move_pair, add_hex}
use Rattle.jzon.specs.Private.Classes.{quote}
use Rattle.jzon.proofs.Texts.ClassesOfCharacters.{class-char}
use Rattle.jzon.proofs.Strings.StringCharacters.{plain_parts, simple_not_u}
use Rattle.jzon.proofs.Texts.Runs.{Meets, Follows}

-- ---- bytes

-- the bytes of one item and of those after it
pub bytes-more : (bs : List ℕ) (i : Item) (is : List Item)
    → bs ++ bytes_of (i ∷ is) ≡ (bs ++ encode_utf8_all (item_text i)) ++ bytes_of is
unfolding bytes_of
bytes-more bs i is = ap (λ z. bs ++ z) (encodes-append (item_text i) (characters_of is))
    ∙ sym (append_assoc bs (encode_utf8_all (item_text i)) (bytes_of is))

pub bytes-none : (bs : List ℕ) → bs ++ bytes_of [] ≡ bs
unfolding bytes_of
bytes-none bs = append-nil bs

-- an item that means one character
pub bytes-one : (bs : List ℕ) (c : ℕ) → bs ++ encode_utf8_all (c ∷ []) ≡ bs ++ encode_utf8 c
bytes-one bs c = ap (λ z. bs ++ z) (append-nil (encode_utf8 c))

-- ---- lengths in characters

length-plain : (cs : List ℕ) (k : List Cell) → length (plain cs k) ≡ length cs + length k
length-plain [] k = omega arith
length-plain (c ∷ cs) k = omega (arith, length-plain cs k)

length-marked : (cs : List ℕ) (m : Option Breach) (k : List Cell) → length (marked_last cs m k) ≡ length cs + length k
length-marked [] m k = omega arith
length-marked (c ∷ []) m k = omega arith
length-marked (c ∷ d ∷ cs) m k = omega (arith, length-marked (d ∷ cs) m k)

item_length : Item → ℕ
item_length (grammar.plain c) = 1
item_length (simple c) = 2
item_length (single u) = 2 + length u
item_length (double u v) = 4 + length u + length v

length-item : (i : Item) (k : List Cell) → length (item_cells i k) ≡ item_length i + length k
unfolding item_length
length-item (grammar.plain c) k = omega arith
length-item (simple c) k = omega arith
length-item (single u) k = omega (arith, length-plain)
length-item (double u v) k = omega (arith, length-plain, length-marked)

pub length-items : (is : List Item) (k : List Cell) → length (items_cells is k) ≡ items_length is + length k
length-items [] k = omega arith
length-items (i ∷ is) k =
    omega (arith, length-item i (items_cells is k), length-item i (items_cells is []), length-items is k)

-- ---- items

module _ (r : Reading) (G : Outcome → Type 0) (role : Role) (bs : List ℕ) where
  read_code : (n u : ℕ) (es : List ℕ) (q : List Cell) → AreHex (suc n) es
      → Follows r G q (after_unit (is_surrogate (fold add_hex u es)) role bs (fold add_hex u es))
      → Follows r G (plain es q) (string role bs (code n u))
  read_code n u [] q ok h = absurd ok
  read_code zero u (c ∷ []) q ok h = rw (ok.0) (refl, h)
  read_code zero u (c ∷ d ∷ es) q ok h = absurd ok.1
  read_code (suc n) u (c ∷ es) q ok h = rw (ok.0) (refl, read_code n (add_hex u c) es q ok.1 h)

  read_second : (u n v : ℕ) (es : List ℕ) (m : Option Breach) (q : List Cell) → AreHex (suc n) es
      → Meets (move_pair (is_high u && is_low (fold add_hex v es)) role bs u (fold add_hex v es)) m
      (λ p. Follows r G q p)
      → Follows r G (marked_last es m q) (string role bs (second_code u n v))
  read_second u n v [] m q ok h = absurd ok
  read_second u zero v (c ∷ []) m q ok h = rw (ok.0) h
  read_second u zero v (c ∷ d ∷ es) m q ok h = absurd ok.1
  read_second u (suc n) v (c ∷ []) m q ok h = absurd ok.1
  read_second u (suc n) v (c ∷ d ∷ es) m q ok h = rw (ok.0) (refl, read_second u n (add_hex v c) (d ∷ es) m q ok.1 h)

  -- b: the bytes of the surrogate pair, if it is one
  meets_pair : (t : Bool) (u v : ℕ) (q : List Cell)
      → Follows r G q (string role (bs ++ encode_utf8_all (if t then pair_char u v ∷ [] else [])) between)
      → Meets (move_pair t role bs u v) (breach_if (not t) pair) (λ p. Follows r G q p)
  meets_pair true u v q h = (refl, subst (λ b. Follows r G q (string role b between)) (bytes-one bs _) h)
  meets_pair false u v q h = (refl, subst (λ b. Follows r G q (string role b between)) (append-nil bs) h)

  read_item : (i : Item) (q : List Cell) → IsItem i
      → Follows r G q (string role (bs ++ encode_utf8_all (item_text i)) between)
      → Follows r G (item_cells i q) (string role bs between)
  unfolding code_unit
  read_item (grammar.plain c) q ok h =
      let t = plain_parts c ok in
      rw (ok, t.0, t.1) (refl, rw (bytes-one bs c) at h)
  read_item (simple c) q ok h =
      (refl, rw (simple_not_u c ok, ok) (refl, rw (bytes-one bs) at h))
  read_item (single u) q ok h = (refl, (refl, read_code 3 0 u q ok.0 (rw ok.1 (rw (bytes-one bs) at h))))
  read_item (double u v) q ok h =
      let second = read_second (code_unit u) 3 0 v _ q ok.2
      (meets_pair (is_pair u v) (code_unit u) (code_unit v) q h) in
      (refl, (refl, read_code 3 0 u _ ok.0 (rw ok.1 (refl, (refl, second)))))

module _ (r : Reading) (G : Outcome → Type 0) (role : Role) where
  pub read_items : (bs : List ℕ) (is : List Item) (q : List Cell) → AreItems is
      → Follows r G q (string role (bs ++ bytes_of is) between)
      → Follows r G (items_cells is q) (string role bs between)
  read_items bs [] q ok h = subst (λ b. Follows r G q (string role b between)) (bytes-none bs) h
  read_items bs (i ∷ is) q ok h =
      read_item r G role bs i (items_cells is q) ok.0
      (read_items (bs ++ encode_utf8_all (item_text i)) is q ok.1
      (subst (λ b. Follows r G q (string role b between)) (bytes-more bs i is) h))

-- a string that is a value
pub complete_string : (r : Reading) (G : Outcome → Type 0) (fs : Frames) (is : List Item) (k : List Cell) → AreItems is
    → Follows r G k (after_value fs (value.text (kind_of (bytes_of is)) (bytes_of is)))
    → Follows r G (cell 34 (value_mark r fs) ∷ items_cells is (cell 34 None ∷ k)) (before fs)
complete_string r G fs is k ok h =
    rw (class-char r.strict quote) (refl, read_items r G (as_value fs) [] is (cell 34 None ∷ k) ok (refl, h))
