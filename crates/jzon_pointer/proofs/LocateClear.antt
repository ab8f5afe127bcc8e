-- What follows from a text that breaks no limit: what stands after a part of it breaks none either, no container is too
-- deep, no key of a strict reading is repeated, and a key by itself breaks none.
use Rattle.jzon_base.proofs.Common.{◌≡◌, ◌∙◌, ◌<◌, ◌+◌, ℕ, zero, suc, List, [], ◌∷◌, Bool, true, false, not, ◌&&◌, ◌||◌}
use Rattle.jzon_base.proofs.Common.{refl, sym, ap, subst, arith, nat_tests, Option, Some, None, map, slice_get, if◌then◌else◌, bytes_eq}
use Rattle.jzon_base.proofs.Common.{bytes_eq-Decides, nat_list_eq_equiv, false≢true}
use Rattle.std.specs.Prelude.{nat_le}
use Rattle.std.specs.Option.{option_map_or}
use Rattle.jzon.specs.Reading.{Reading, usual}
use Rattle.jzon.specs.Grammar.{Sign, unsigned, plus, minus, Exponent, Numeral, Item, simple, single, double, Key, Node, Elements, no_elements}
use Rattle.jzon.specs.Grammar.{element, Members, no_members, member, IsNode, AreElements, AreMembers}
use Rattle.jzon.specs.Grammar as grammar
use Rattle.jzon.specs.Meaning.{bytes_of, is_pair}
use Rattle.jzon.specs.Same.{is_known}
use Rattle.jzon.specs.Spelling.{Breach, deep, pair, duplicate, Cell, plain, marked_last, breach_if, deep_if}
use Rattle.jzon.specs.Spelling.{item_cells, items_cells, items_length, key_cells, node_cells, elements_cells, members_cells}
use Rattle.jzon.proofs.ReadBack.UnmarkedCells.{items_rest, key_first, plain_rest, signed_first}
use Rattle.jzon_pointer.specs.Pointer.{names, token_key}
use Rattle.jzon_pointer.specs.Locate.{Named, keyed, last_named}
use Rattle.jzon_pointer.specs.Private.Walk.{AreClear}

pub clear_none : (cs : List Cell) → AreClear cs → (i : ℕ) (b : Breach) → slice_get (map (λ x. x.mark) cs) i ≡ Some (Some b)
    → ⊥
clear_none [] h i b e = cc
clear_none (c ∷ cs) h zero b e = let n = h.0 in cc
clear_none (c ∷ cs) h (suc i) b e = clear_none cs h.1 i b e

-- ---- what stands after a part

pub after_key : (r : Reading) (seen : List (List ℕ)) (key : Key) (m : Option Breach) (k : List Cell)
    → AreClear (key_cells r seen key m k) → AreClear k
after_key r seen key m k h = (key_first r seen key m k h).1

mutual
  pub after_node : (r : Reading) (n : Node) (i : ℕ) (m : Option Breach) (k : List Cell) → IsNode r n
      → AreClear (node_cells r n i m k) → AreClear k
  after_node r Node.null i m k g h = h.1.1.1.1
  after_node r (Node.boolean true) i m k g h = h.1.1.1.1
  after_node r (Node.boolean false) i m k g h = h.1.1.1.1.1
  after_node r (Node.number n) i m k g h = (signed_first r n.negative n m k g.0 h).1
  after_node r (Node.string is) i m k g h = (items_rest is _ h.1).1
  after_node r (Node.empty_array b) i m k g h = (plain_rest b _ h.1).1
  after_node r (Node.empty_object b) i m k g h = (plain_rest b _ h.1).1
  after_node r (Node.array b n c es) i m k g h =
      after_elements r es (suc i) k g.3 (plain_rest c _ (after_node r n (suc i) (deep_if r i) _ g.1 (plain_rest b _ h.1)))
  after_node r (Node.object key b n c ms) i m k g h =
      after_members r ms (bytes_of key.items ∷ []) (suc i) k g.4
      (plain_rest c _ (after_node r n (suc i) None _ g.2 (plain_rest b _ (after_key r [] key (deep_if r i) _ h.1))))

  after_elements : (r : Reading) (es : Elements) (i : ℕ) (k : List Cell) → AreElements r es
      → AreClear (elements_cells r es i k) → AreClear k
  after_elements r no_elements i k g h = h.1
  after_elements r (element b n c es) i k g h =
      after_elements r es i k g.3 (plain_rest c _ (after_node r n i None _ g.1 (plain_rest b _ h.1)))

  after_members : (r : Reading) (ms : Members) (seen : List (List ℕ)) (i : ℕ) (k : List Cell) → AreMembers r ms
      → AreClear (members_cells r ms seen i k) → AreClear k
  after_members r no_members seen i k g h = h.1
  after_members r (member key b n c ms) seen i k g h =
      after_members r ms (bytes_of key.items ∷ seen) i k g.4
      (plain_rest c _ (after_node r n i None _ g.2 (plain_rest b _ (after_key r seen key None _ h.1))))

-- ---- depth

-- the breach at a value's first character
first_node : (r : Reading) (n : Node) (i : ℕ) (m : Option Breach) (k : List Cell) → IsNode r n
    → AreClear (node_cells r n i m k) → m ≡ None
first_node r Node.null i m k g h = h.0
first_node r (Node.boolean true) i m k g h = h.0
first_node r (Node.boolean false) i m k g h = h.0
first_node r (Node.number n) i m k g h = (signed_first r n.negative n m k g.0 h).0
first_node r (Node.string is) i m k g h = h.0
first_node r (Node.empty_array b) i m k g h = h.0
first_node r (Node.empty_object b) i m k g h = h.0
first_node r (Node.array b n c es) i m k g h = h.0
first_node r (Node.object key b n c ms) i m k g h = h.0

breach_none : (t : Bool) (b : Breach) → breach_if t b ≡ None → t ≡ false
breach_none true b e = absurd (cc)
breach_none false b e = refl

within : (r : Reading) (i : ℕ) → deep_if r i ≡ None → i < r.depth
within r i e = let f : nat_le r.depth i ≡ false = breach_none (nat_le r.depth i) deep e in grind (arith, nat_tests)

pub array_within : (r : Reading) (b : List ℕ) (n : Node) (c : List ℕ) (es : Elements) (i : ℕ) (m : Option Breach)
    (k : List Cell) → IsNode r n → AreClear (node_cells r (Node.array b n c es) i m k) → i < r.depth
array_within r b n c es i m k g h = within r i (first_node r n (suc i) (deep_if r i) _ g (plain_rest b _ h.1))

pub object_within : (r : Reading) (key : Key) (b : List ℕ) (n : Node) (c : List ℕ) (ms : Members) (i : ℕ)
    (m : Option Breach) (k : List Cell) → AreClear (node_cells r (Node.object key b n c ms) i m k) → i < r.depth
object_within r key b n c ms i m k h = within r i (plain_rest key.before _ h.1).0

-- ---- keys

pub key_unknown : (r : Reading) (seen : List (List ℕ)) (key : Key) (m : Option Breach) (k : List Cell) → r.strict ≡ true
    → AreClear (key_cells r seen key m k) → is_known seen (bytes_of key.items) ≡ false
key_unknown r seen key m k strict h =
    let e = (items_rest key.items _ (plain_rest key.before _ h).1).0 in
    let f : (r.strict && is_known seen (bytes_of key.items)) ≡ false =
    breach_none (r.strict && is_known seen (bytes_of key.items)) (duplicate (items_length key.items + 1)) e in
    ap (λ s. s && is_known seen (bytes_of key.items)) (sym strict) ∙ f

-- each key that the token names is one of these
abbrev pub Knows : List ℕ → List (List ℕ) → Type 0
Knows t seen = (x : List ℕ) → names t x ≡ true → is_known seen x ≡ true

knows_by : (b : Bool) → b ≡ true → (c : Bool) → (c || b) ≡ true
knows_by b h true = refl
knows_by b h false = h

knows_more : (t y : List ℕ) (seen : List (List ℕ)) → Knows t seen → Knows t (y ∷ seen)
knows_more t y seen h = λ x e. knows_by (is_known seen x) (h x e) (bytes_eq y x)

unnamed_by : (b : Bool) (t x : List ℕ) (seen : List (List ℕ)) → Knows t seen → is_known seen x ≡ false → names t x ≡ b
    → names t x ≡ false
unnamed_by true t x seen h other e = absurd (false≢true (sym other ∙ h x e))
unnamed_by false t x seen h other e = e

-- where keys are unique, none comes after the one that the token names
pub last_unique : (r : Reading) (t : List ℕ) (ms : Members) (k : List ℕ) (seen : List (List ℕ)) (i : ℕ) (z : List Cell)
    (found : Option Named) → r.strict ≡ true → AreMembers r ms → AreClear (members_cells r ms seen i z) → Knows t seen
    → last_named t ms k found ≡ found
last_unique r t no_members k seen i z found strict g h knows = refl
last_unique r t (member key b n c ms) k seen i z found strict g h knows =
    let x = bytes_of key.items in
    let other : names t x ≡ false =
    unnamed_by (names t x) t x seen knows (key_unknown r seen key None _ strict h.1) refl in
    ap (λ q. last_named t ms k (if q then Some (keyed key b n c ms k) else found)) other
    ∙ last_unique r t ms k (x ∷ seen) i z found strict g.4
    (plain_rest c _ (after_node r n i None _ g.2 (plain_rest b _ (after_key r seen key None _ h.1)))) (knows_more t x seen knows)

knows_first_by : (o : Option (List ℕ)) (t y : List ℕ) (seen : List (List ℕ)) → token_key t ≡ o → names t y ≡ true
    → Knows t (y ∷ seen)
knows_first_by None t y seen e h =
    absurd (false≢true (sym (ap (λ w. option_map_or (bytes_eq y) w false) e) ∙ h))
knows_first_by (Some q) t y seen e h = λ x g.
    let yq : bytes_eq y q ≡ true = sym (ap (λ w. option_map_or (bytes_eq y) w false) e) ∙ h in
    let xq : bytes_eq x q ≡ true = sym (ap (λ w. option_map_or (bytes_eq x) w false) e) ∙ g in
    let same : y ≡ x = (bytes_eq-Decides y q).0 yq ∙ sym ((bytes_eq-Decides x q).0 xq) in
    let f : bytes_eq y x ≡ true = subst (λ (w : List ℕ). bytes_eq y w ≡ true) same (nat_list_eq_equiv.refl y) in
    ap (λ w. w || is_known seen x) f

pub knows_first : (t y : List ℕ) (seen : List (List ℕ)) → names t y ≡ true → Knows t (y ∷ seen)
knows_first t y seen h = knows_first_by (token_key t) t y seen refl h

-- ---- a key by itself

swap_plain : (w : List ℕ) (k l : List Cell) → AreClear (plain w k) → AreClear l → AreClear (plain w l)
swap_plain [] k l h g = g
swap_plain (c ∷ w) k l h g = (h.0, swap_plain w k l h.1 g)

swap_marked : (w : List ℕ) (m : Option Breach) (k l : List Cell) → AreClear (marked_last w m k) → AreClear l
    → AreClear (marked_last w m l)
swap_marked [] m k l h g = g
swap_marked (c ∷ []) m k l h g = (h.0, g)
swap_marked (c ∷ d ∷ w) m k l h g = (h.0, swap_marked (d ∷ w) m k l h.1 g)

swap_item : (i : Item) (k l : List Cell) → AreClear (item_cells i k) → AreClear l → AreClear (item_cells i l)
swap_item (grammar.plain c) k l h g = (h.0, g)
swap_item (simple c) k l h g = (h.0, (h.1.0, g))
swap_item (single u) k l h g = (h.0, (h.1.0, swap_plain u k l h.1.1 g))
swap_item (double u v) k l h g =
    let a = plain_rest u _ h.1.1 in (
      h.0,
      (
        h.1.0,
        swap_plain u _ _ h.1.1
            (a.0, (a.1.0, swap_marked v (breach_if (not (is_pair u v)) pair) k l a.1.1 g)),
      ),
    )

swap_items : (is : List Item) (k l : List Cell) → AreClear (items_cells is k) → AreClear l → AreClear (items_cells is l)
swap_items [] k l h g = g
swap_items (i ∷ is) k l h g =
    swap_item i (items_cells is k) (items_cells is l) h (swap_items is k l (items_rest (i ∷ []) (items_cells is k) h) g)

pub key_alone : (r : Reading) (seen : List (List ℕ)) (key : Key) (m : Option Breach) (z : List Cell)
    → AreClear (key_cells r seen key m z) → AreClear (node_cells usual (Node.string key.items) 0 None [])
key_alone r seen key m z h = (refl, swap_items key.items _ _ (plain_rest key.before _ h).1 (refl, tt))
