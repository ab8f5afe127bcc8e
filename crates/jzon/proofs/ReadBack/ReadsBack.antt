-- Each text that is written for a value without NaN is read as an equal value.
use Rattle.jzon_base.proofs.Common.{◌≡◌, ◌∙◌, ◌≢◌, ℕ, suc, ◌≤◌, List, [], ◌∷◌, ◌++◌, length, map, Bool, true}
use Rattle.jzon_base.proofs.Common.{false, cond, Option, Some, refl, sym, ap, subst, arith, IsUtf8, IsTrue, AllPairs}
use Rattle.jzon_base.proofs.Common.{AllByRecursion, IsDistinct, bytes_eq, and_parts}
use Rattle.jzon_base.proofs.Common.{and_from, length-map, bytes_eq-Decides}
use Rattle.jzon_base.specs.Decimal.{nan, parts}
use Rattle.jzon_base.specs.PairList.{keys_of, find, put_each}
use Rattle.jzon_base.proofs.Entries.PutEach.{put_each-distinct}
use Rattle.jzon_tree.specs.Value.{Value, null, boolean, text, number, array, object, Values, no_values, value}
use Rattle.jzon_tree.specs.Value.{values_of, ValuePairs, no_pairs, pair, pairs_of, list_of_pairs, nest, most_nest}
use Rattle.jzon_tree.specs.Value.{most_nest_under}
use Rattle.jzon_tree.specs.Lawful.{IsValue, AreValues, ArePairs, HasNoNan, HaveNoNan, PairsHaveNoNan}
use Rattle.jzon_tree.specs.Same.{same, same_items}
use Rattle.jzon_tree.specs.SameLaws.{same_at, object-intro}
use Rattle.jzon_tree.specs.Writing.{Style, Writes, WritesEach, WritesPairs, Encloses, IsOrder, text_at, colon_text}
use Rattle.jzon_tree.specs.Writing.{is_whitespace, is_all_whitespace}
use Rattle.jzon_tree.proofs.Printing.PrintedUtf8.{text_utf8}
use Rattle.jzon_tree.proofs.Values.Views.{list_of_pairs-pairs_of}
use Rattle.jzon.specs.Reading.{Reading}
use Rattle.jzon.specs.Grammar.{Node, Each, IsWhitespace}
use Rattle.jzon.specs.Meaning.{bytes_of, meaning, members_meaning}
use Rattle.jzon.specs.Laws.{alone, AllowsStrictAlone, ReadsBack}
use Rattle.jzon.proofs.ReadBack.DistinctKeys.{AreNew-IsDistinct}
use Rattle.jzon.proofs.ReadBack.NumbersReadBack.{printed_numeral}
use Rattle.jzon.proofs.ReadBack.Orders.{picked, map-picked, each_picked, AreBelow, AreBelow-order, texts_picked}
use Rattle.jzon.proofs.ReadBack.Orders.{distinct_picked, find-picked}
use Rattle.jzon.proofs.ReadBack.WrittenStrings.{items_for, bytes_of-items_for}
use Rattle.jzon.proofs.ReadBack.WrittenTrees.{NodeSpells, null_spells, true_spells, false_spells, number_spells}
use Rattle.jzon.proofs.ReadBack.WrittenTrees.{empty_array_spells, empty_object_spells, string_spells, key_for}
use Rattle.jzon.proofs.ReadBack.WrittenTrees.{array_spells, object_spells, node_parses}
use Rattle.jzon.proofs.ReadBack.JoinedTrees.{AllowsWhitespaceOf, node_raised, EachSpells, joined_elements, Entry}
use Rattle.jzon.proofs.ReadBack.JoinedTrees.{entry_text, entry_meaning, entry_keys, EntrySpells, joined_members}

-- The node spells the bytes, and means the same value.
record ReadNode (r : Reading) (v : Value) (b : List ℕ) : Type 0 where
  node : Node
  spells : NodeSpells r (nest v) b node
  alike : same (meaning node) v ≡ true

record ReadNodes (r : Reading) (vs : Values) (ts : List (List ℕ)) : Type 0 where
  nodes : List Node
  spell : (high : ℕ) → most_nest vs ≤ high → EachSpells r high ts nodes
  alike : same_items (values_of (map meaning nodes)) vs ≡ true

-- in the order of the object
record ReadEntries (r : Reading) (ps : ValuePairs) (ts : List (List ℕ)) : Type 0 where
  entries : List Entry
  texts : map entry_text entries ≡ ts
  spell : (high : ℕ) → most_nest_under ps ≤ high → AllByRecursion (EntrySpells r high) entries
  keys : entry_keys entries ≡ keys_of (list_of_pairs ps)
  alike : (q : List ℕ) → same_at (find q (map entry_meaning entries)) (find q (list_of_pairs ps)) ≡ true

-- ---- arrays

array_from : (r : Reading) (s : Style) (dent : ℕ) (v : Value) (vs : Values) (b : List ℕ) (ts : List (List ℕ))
    (ns : List Node) → AllowsWhitespaceOf r s
    → EachSpells r (most_nest (value v vs)) ts ns → same_items (values_of (map meaning ns)) (value v vs) ≡ true
    → Encloses s dent 91 ts 93 b
    → ReadNode r (array (value v vs)) b
array_from r s dent v vs b [] ns fit each alike w = absurd w.2
array_from r s dent v vs b (t ∷ ts) [] fit each alike w = absurd each
array_from r s dent v vs b (t ∷ ts) (n ∷ ns) fit each alike w =
    let high : ℕ = most_nest (value v vs) in
    let j = joined_elements r s (suc dent) high t ts n ns w.0 w.1 fit each w.2 (fit dent w.1 w.3) in
    let node : Node = Node.array j.before n j.after j.elements in
    record {
      node = node;
      spells =
          rw (w.4, j.text) (array_spells r high j.before t j.after j.rest n j.whitespace j.space each.0 high j.elements
          j.spell high (omega arith) (omega arith));
      alike = ap (λ ms. same_items (value (meaning n) ms) (value v vs)) j.means ∙ alike;
    }

-- ---- objects

-- the entries in the order in which they are written
object_from : (r : Reading) (s : Style) (dent : ℕ) (k : List ℕ) (v : Value) (ps : ValuePairs) (b : List ℕ) (es : List Entry)
    → AllowsWhitespaceOf r s
    → AllByRecursion (EntrySpells r (most_nest_under (pair k v ps))) es → IsDistinct bytes_eq (entry_keys es)
    → ((q : List ℕ) → same_at (find q (map entry_meaning es)) (find q (list_of_pairs (pair k v ps))) ≡ true)
    → Encloses s dent 123 (map entry_text es) 125 b → ReadNode r (object (pair k v ps)) b
object_from r s dent k v ps b [] fit each distinct alike w = absurd w.2
object_from r s dent k v ps b (e ∷ es) fit each distinct alike w =
    let high : ℕ = most_nest_under (pair k v ps) in
    let j = joined_members r s (suc dent) high e es w.0 w.1 fit each w.2 (fit dent w.1 w.3) in
    let node : Node = Node.object (key_for j.before e.key) e.gap e.node j.after j.members in
    let bytes : bytes_of (items_for e.key) ≡ e.key = bytes_of-items_for e.key each.0.utf8 in
    let means : put_each ((bytes_of (items_for e.key), meaning e.node) ∷ members_meaning j.members)
    ≡ map entry_meaning (e ∷ es) =
    ap (λ y. put_each ((y, meaning e.node) ∷ members_meaning j.members)) bytes
    ∙ ap (λ qs. put_each (entry_meaning e ∷ qs)) j.means
    ∙ put_each-distinct (map entry_meaning (e ∷ es)) distinct in
    record {
      node = node;
      spells =
          rw (w.4, j.text) (object_spells r high e.gap e.text j.after j.rest e.node each.0.whitespace j.space
          each.0.spells high _ j.members j.spell j.before e.key j.whitespace each.0.utf8 high (omega arith)
          (omega arith) (AreNew-IsDistinct (entry_keys (e ∷ es)) distinct));
      alike =
          rw means (object-intro (pairs_of (map entry_meaning (e ∷ es))) (pair k v ps)
          (λ q. ap (λ qs. same_at (find q qs) (find q (list_of_pairs (pair k v ps))))
          (list_of_pairs-pairs_of (map entry_meaning (e ∷ es))) ∙ alike q));
    }

object_read : (r : Reading) (s : Style) (dent : ℕ) (k : List ℕ) (v : Value) (ps : ValuePairs) (b : List ℕ)
    (positions : List ℕ) (es : List Entry) → AllowsWhitespaceOf r s
    → AllPairs (λ x y. x ≢ y) (keys_of (list_of_pairs (pair k v ps)))
    → AllByRecursion (EntrySpells r (most_nest_under (pair k v ps))) es
    → entry_keys es ≡ keys_of (list_of_pairs (pair k v ps))
    → ((q : List ℕ) → same_at (find q (map entry_meaning es)) (find q (list_of_pairs (pair k v ps))) ≡ true)
    → IsOrder (length (map entry_text es)) positions
    → Encloses s dent 123 (map (text_at (map entry_text es)) positions) 125 b → ReadNode r (object (pair k v ps)) b
object_read r s dent k v ps b positions [] fit distinct each keys alike o w = absurd (cc)
object_read r s dent k v ps b positions (e ∷ es) fit distinct each keys alike o w =
    let all : List Entry = e ∷ es in
    let stored : List (List ℕ × Value) = map entry_meaning all in
    let size : length (map entry_text all) ≡ length stored = simp length-map in
    let counted : length (keys_of stored) ≡ length stored = length-map stored (λ p. p.0) in
    let order : IsOrder (length stored) positions = subst (λ n. IsOrder n positions) size o in
    let apart : AllPairs (λ x y. x ≢ y) (keys_of stored) = subst (AllPairs (λ x y. x ≢ y)) (sym keys) distinct in
    let below : AreBelow (length (keys_of stored)) positions = rw counted (AreBelow-order _ positions order) in
    let written : map (text_at (map entry_text all)) positions ≡ map entry_text (picked e all positions) =
    texts_picked (map entry_text all) positions (entry_text e) (AreBelow-order _ positions o)
    ∙ sym (map-picked entry_text e all positions) in
    let meant : map entry_meaning (picked e all positions) ≡ picked (entry_meaning e) stored positions = map-picked
    entry_meaning e all positions in
    let named : entry_keys (picked e all positions) ≡ picked e.key (keys_of stored) positions =
    ap keys_of meant ∙ map-picked (λ (p : List ℕ × Value). p.0) (entry_meaning e) stored positions in
    let new : IsDistinct bytes_eq (entry_keys (picked e all positions)) =
    rw named (distinct_picked (keys_of stored) e.key positions apart below
    (λ i h. omega (arith, order.once i (omega (arith, counted))))) in
    object_from r s dent k v ps b (picked e all positions) fit
    (each_picked (EntrySpells r (most_nest_under (pair k v ps))) e all positions each.0 each) new
    (λ q. rw (meant, find-picked q (entry_meaning e) stored positions apart order) (alike q)) (rw written at w)

-- ---- one entry

-- the whitespace after a colon
gap_of : Bool → List ℕ
gap_of wide = elim wide [ true ↦ 32 ∷ [] | false ↦ [] ]

gap_whitespace : (r : Reading) (wide : Bool) → IsWhitespace r (gap_of wide)
unfolding gap_of
gap_whitespace r true = (refl, tt)
gap_whitespace r false = tt

colon-gap : (wide : Bool) (x : List ℕ) → colon_text wide ++ x ≡ 58 ∷ (gap_of wide ++ x)
unfolding gap_of
colon-gap true x = refl
colon-gap false x = refl

same_pair : (b : Bool) (m v : Value) (f g : Option Value) → same m v ≡ true → same_at f g ≡ true
    → same_at (cond b (Some m) f) (cond b (Some v) g) ≡ true
same_pair true m v f g here later = here
same_pair false m v f g here later = later

-- ---- all values

same_text : (s t : List ℕ) → s ≡ t → bytes_eq s t ≡ true
same_text s t e = (bytes_eq-Decides s t).1 e

-- a value with nothing inside it
leaf : {r : Reading} {v : Value} {b t : List ℕ} {n : Node} → b ≡ t → NodeSpells r (nest v) t n
    → same (meaning n) v ≡ true → ReadNode r v b
leaf {n = n} e spells alike = record { node = n; spells = rw e spells; alike = alike }

mutual
  read_node : (r : Reading) (s : Style) (dent : ℕ) (v : Value) (b : List ℕ) → AllowsWhitespaceOf r s → IsValue v
      → HasNoNan v → Writes s dent v b → ReadNode r v b
  read_node r s dent null b fit h no_nan w = leaf w (null_spells r) refl
  read_node r s dent (boolean true) b fit h no_nan w = leaf w (true_spells r) refl
  read_node r s dent (boolean false) b fit h no_nan w = leaf w (false_spells r) refl
  read_node r s dent (text k t) b fit h no_nan w =
      let u : IsUtf8 t = text_utf8 k t h in leaf w (string_spells r t u) (same_text _ t (bytes_of-items_for t u))
  read_node r s dent (number nan) b fit h no_nan w = absurd no_nan
  read_node r s dent (number (parts p m x)) b fit h no_nan w =
      let n = printed_numeral p m x h.0 h.1 in leaf w (number_spells r p m x n.0 h.0 h.1 n.1) n.1.alike
  read_node r s dent (array no_values) b fit h no_nan w = leaf w (empty_array_spells r) refl
  read_node r s dent (array (value v vs)) b fit h no_nan w =
      let e = read_nodes r s (suc dent) (value v vs) w.0 fit h no_nan w.1 in
      array_from r s dent v vs b w.0 e.nodes fit (e.spell _ (omega arith)) e.alike w.2
  read_node r s dent (object no_pairs) b fit h no_nan w = leaf w (empty_object_spells r) refl
  read_node r s dent (object (pair k v ps)) b fit h no_nan w =
      let e = read_entries r s (suc dent) (pair k v ps) w.0 fit h.0 no_nan w.2 in
      object_read r s dent k v ps b w.1 e.entries fit h.1 (e.spell _ (omega arith)) e.keys e.alike
      (rw (e.texts) w.3) (rw (e.texts) w.5)

  read_nodes : (r : Reading) (s : Style) (dent : ℕ) (vs : Values) (ts : List (List ℕ)) → AllowsWhitespaceOf r s
      → AreValues vs → HaveNoNan vs → WritesEach s dent vs ts → ReadNodes r vs ts
  read_nodes r s dent no_values [] fit h no_nan w = record { nodes = []; spell = λ high le. tt; alike = refl }
  read_nodes r s dent (value v vs) (t ∷ ts) fit h no_nan w =
      let one = read_node r s dent v t fit h.0 no_nan.0 w.0 in
      let more = read_nodes r s dent vs ts fit h.1 no_nan.1 w.1 in
      record {
        nodes = one.node ∷ more.nodes;
        spell = λ high le.
            (node_raised r (nest v) high t one.node (omega arith) one.spells, more.spell high (omega arith));
        alike = and_from _ _ one.alike more.alike;
      }
  read_nodes r s dent _ _ fit h no_nan w = absurd w

  read_entries : (r : Reading) (s : Style) (dent : ℕ) (ps : ValuePairs) (ts : List (List ℕ)) → AllowsWhitespaceOf r s
      → ArePairs ps → PairsHaveNoNan ps → WritesPairs s dent ps ts → ReadEntries r ps ts
  read_entries r s dent no_pairs [] fit h no_nan w =
      record { entries = []; texts = refl; spell = λ high le. tt; keys = refl; alike = λ q. refl }
  read_entries r s dent (pair k v ps) (t ∷ ts) fit h no_nan w =
      let wide : Bool = w.0.0 in
      let x : List ℕ = w.0.1 in
      let one = read_node r s dent v x fit h.1 no_nan.0 w.0.3 in
      let more = read_entries r s dent ps ts fit h.2 no_nan.1 w.1 in
      let here : Entry = record { key = k; gap = gap_of wide; text = x; node = one.node } in
      record {
        entries = here ∷ more.entries;
        texts = rw (w.0.4, colon-gap wide x, more.texts) refl;
        spell = λ high le.
            let spells = node_raised r (nest v) high x one.node (omega arith) one.spells in
            (record { utf8 = h.0; whitespace = gap_whitespace r wide; spells = spells }, more.spell high (omega arith));
        keys = ap (λ ks. k ∷ ks) more.keys;
        alike = λ q.
            same_pair (bytes_eq k q) (meaning one.node) v (find q (map entry_meaning more.entries))
            (find q (list_of_pairs ps)) one.alike (more.alike q);
      }
  read_entries r s dent _ _ fit h no_nan w = absurd w

-- ---- the law

whitespace_each : (strict : Bool) (w : List ℕ) → is_all_whitespace strict w ≡ true → Each (is_whitespace strict) w
whitespace_each strict [] h = tt
whitespace_each strict (c ∷ w) h = let t = and_parts _ _ h in (t.0, whitespace_each strict w t.1)

whitespace_of : (strict : Bool) (w : List ℕ) → (IsTrue strict → is_all_whitespace true w ≡ true)
    → is_all_whitespace false w ≡ true → is_all_whitespace strict w ≡ true
whitespace_of true w narrow h = narrow refl
whitespace_of false w narrow h = h

allows_style_whitespace : (r : Reading) (s : Style) → (IsTrue r.strict → AllowsStrictAlone s) → AllowsWhitespaceOf r s
allows_style_whitespace r s narrow dent w allowed = whitespace_each r.strict w
    (whitespace_of r.strict w (λ strict. narrow strict dent w allowed) allowed.0)

pub read_back : ReadsBack
read_back r s dent v b narrow h no_nan few w =
    let n = read_node r s dent v b (allows_style_whitespace r s narrow) h no_nan w in
    (n.spells.utf8, alone n.node, node_parses r (nest v) b n.node few n.spells, n.alike)
