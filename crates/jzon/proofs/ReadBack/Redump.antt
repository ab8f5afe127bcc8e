-- The compact text of a value is read as a value with the same compact text.
use Rattle.jzon_base.proofs.Common.{◌≡◌, ◌∙◌, ℕ, suc, List, [], ◌∷◌, ◌++◌, true, false, codes, refl, sym, ap, subst}
use Rattle.jzon_base.proofs.Common.{append_assoc, IsUtf8, IsDistinct, bytes_eq, IsDistinct-from_AllPairs}
use Rattle.jzon_base.proofs.Common.{bytes_eq-Decides, arith}
use Rattle.jzon_base.specs.Decimal.{nan, parts}
use Rattle.jzon_base.specs.PairList.{keys_of, put_each}
use Rattle.jzon_base.proofs.Entries.PutEach.{put_each-distinct}
use Rattle.jzon_tree.specs.Value.{Value, null, boolean, text, number, array, object, Values, no_values, value, ValuePairs}
use Rattle.jzon_tree.specs.Value.{no_pairs, pair, pairs_of, list_of_pairs, nest, most_nest, most_nest_under}
use Rattle.jzon_tree.specs.Text.{compact_layout, layout_text, more_values_text, more_pairs_text, quoted}
use Rattle.jzon_tree.specs.Lawful.{IsValue, AreValues, ArePairs}
use Rattle.jzon_tree.proofs.Printing.PrintedUtf8.{text_utf8}
use Rattle.jzon.specs.Reading.{Reading}
use Rattle.jzon.specs.Grammar.{Node, Elements, no_elements, element, Members, no_members, member}
use Rattle.jzon.specs.Meaning.{bytes_of, meaning, elements_meaning, members_meaning}
use Rattle.jzon.specs.Laws.{alone, Redump}
use Rattle.jzon.proofs.ReadBack.DistinctKeys.{AreNew, AreNew-IsDistinct}
use Rattle.jzon.proofs.ReadBack.NumbersReadBack.{printed_numeral}
use Rattle.jzon.proofs.ReadBack.WrittenStrings.{items_for, bytes_of-items_for}
use Rattle.jzon.proofs.ReadBack.WrittenTrees.{NodeSpells, ElementsSpell, MembersSpell, null_spells, true_spells}
use Rattle.jzon.proofs.ReadBack.WrittenTrees.{false_spells, number_spells, empty_array_spells, empty_object_spells}
use Rattle.jzon.proofs.ReadBack.WrittenTrees.{string_spells, key_for, pair_text, no_elements_spell, element_spells}
use Rattle.jzon.proofs.ReadBack.WrittenTrees.{array_spells, no_members_spell, member_spells, object_spells, node_parses}

-- The node spells the compact text of the value inside d containers, and means a value with the same compact text.
record Dumped (r : Reading) (d : ℕ) (v : Value) : Type 0 where
  node : Node
  spells : NodeSpells r (nest v) (layout_text compact_layout d v) node
  again : (e : ℕ) → layout_text compact_layout e (meaning node) ≡ layout_text compact_layout e v

record DumpedValues (r : Reading) (d : ℕ) (vs : Values) : Type 0 where
  elements : Elements
  spell : ElementsSpell r (most_nest vs) (more_values_text compact_layout d vs) elements
  again : (e : ℕ) → more_values_text compact_layout e (elements_meaning elements) ≡ more_values_text compact_layout e vs

record DumpedPairs (r : Reading) (d : ℕ) (ps : ValuePairs) : Type 0 where
  members : Members
  spell : MembersSpell r (most_nest_under ps) (keys_of (list_of_pairs ps)) (more_pairs_text compact_layout d ps) members
  keys : keys_of (members_meaning members) ≡ keys_of (list_of_pairs ps)
  again : (e : ℕ) → more_pairs_text compact_layout e (pairs_of (members_meaning members))
      ≡ more_pairs_text compact_layout e ps

-- the text of an entry, regrouped
laid_out : (key x b : List ℕ) → quoted key ++ codes ":" ++ x ++ b ≡ pair_text [] key [] x [] b
laid_out key x b = append_assoc (quoted key ++ codes ":") x b ∙ append_assoc (quoted key) (codes ":") (x ++ b)

mutual
  dumped : (r : Reading) (d : ℕ) (v : Value) → IsValue v → Dumped r d v
  dumped r d null h = record { node = Node.null; spells = null_spells r; again = λ e. refl }
  dumped r d (boolean true) h = record { node = Node.boolean true; spells = true_spells r; again = λ e. refl }
  dumped r d (boolean false) h = record { node = Node.boolean false; spells = false_spells r; again = λ e. refl }
  dumped r d (text k s) h =
      let u : IsUtf8 s = text_utf8 k s h in
      record {
        node = Node.string (items_for s);
        spells = string_spells r s u;
        again = λ e. ap quoted (bytes_of-items_for s u);
      }
  dumped r d (number nan) h = record { node = Node.null; spells = null_spells r; again = λ e. refl }
  dumped r d (number (parts p m x)) h =
      let n = printed_numeral p m x h.0 h.1 in
      record { node = Node.number n.0; spells = number_spells r p m x n.0 h.0 h.1 n.1; again = λ e. n.1.prints }
  dumped r d (array no_values) h =
      record { node = Node.empty_array []; spells = empty_array_spells r; again = λ e. refl }
  dumped r d (array (value v vs)) h =
      let one = dumped r (suc d) v h.0 in
      let more = dumped_values r d vs h.1 in
      record {
        node = Node.array [] one.node [] more.elements;
        spells = array_spells r (nest v) [] _ [] _ one.node tt tt one.spells (most_nest vs) more.elements more.spell
            _ (omega arith) (omega arith);
        again = λ e. rw (one.again (suc e), more.again e) refl;
      }
  dumped r d (object no_pairs) h =
      record { node = Node.empty_object []; spells = empty_object_spells r; again = λ e. refl }
  dumped r d (object (pair k v ps)) h =
      let one = dumped r (suc d) v h.0.1 in
      let more = dumped_pairs r d ps h.0.2 in
      let distinct : IsDistinct bytes_eq (k ∷ keys_of (list_of_pairs ps)) = IsDistinct-from_AllPairs bytes_eq-Decides _
      h.1 in
      let new : AreNew [] (k ∷ keys_of (list_of_pairs ps)) = AreNew-IsDistinct _ distinct in
      record {
        node = Node.object (key_for [] k) [] one.node [] more.members;
        spells =
            subst (λ b. NodeSpells r (nest (object (pair k v ps))) (123 ∷ b)
            (Node.object (key_for [] k) [] one.node [] more.members))
            (sym (laid_out k (layout_text compact_layout (suc d) v) (more_pairs_text compact_layout d ps)))
            (object_spells r (nest v) [] _ [] _ one.node tt tt one.spells (most_nest_under ps) _ more.members
            more.spell [] k tt h.0.0 _ (omega arith) (omega arith) new);
        again = λ e.
            let bytes : bytes_of (items_for k) ≡ k = bytes_of-items_for k h.0.0 in
            let kept : put_each ((bytes_of (items_for k), meaning one.node) ∷ members_meaning more.members)
            ≡ (k, meaning one.node) ∷ members_meaning more.members =
            ap (λ y. put_each ((y, meaning one.node) ∷ members_meaning more.members)) bytes
            ∙ put_each-distinct ((k, meaning one.node) ∷ members_meaning more.members)
            (subst (λ ks. IsDistinct bytes_eq (k ∷ ks)) (sym more.keys) distinct) in
            ap (λ ps. layout_text compact_layout e (object (pairs_of ps))) kept
            ∙ rw (one.again (suc e), more.again e) refl;
      }

  dumped_values : (r : Reading) (d : ℕ) (vs : Values) → AreValues vs → DumpedValues r d vs
  dumped_values r d no_values h = record { elements = no_elements; spell = no_elements_spell r 0; again = λ e. refl }
  dumped_values r d (value v vs) h =
      let one = dumped r (suc d) v h.0 in
      let more = dumped_values r d vs h.1 in
      record {
        elements = element [] one.node [] more.elements;
        spell = element_spells r (nest v) [] _ [] _ one.node tt tt one.spells (most_nest vs) more.elements more.spell
            _ (omega arith) (omega arith);
        again = λ e. rw (one.again (suc e), more.again e) refl;
      }

  dumped_pairs : (r : Reading) (d : ℕ) (ps : ValuePairs) → ArePairs ps → DumpedPairs r d ps
  dumped_pairs r d no_pairs h =
      record { members = no_members; spell = no_members_spell r 0; keys = refl; again = λ e. refl }
  dumped_pairs r d (pair k v ps) h =
      let one = dumped r (suc d) v h.1 in
      let more = dumped_pairs r d ps h.2 in
      let bytes : bytes_of (items_for k) ≡ k = bytes_of-items_for k h.0 in
      record {
        members = member (key_for [] k) [] one.node [] more.members;
        spell =
            subst (λ b. MembersSpell r (most_nest_under (pair k v ps)) (k ∷ keys_of (list_of_pairs ps)) (44 ∷ b)
            (member (key_for [] k) [] one.node [] more.members))
            (sym (laid_out k (layout_text compact_layout (suc d) v) (more_pairs_text compact_layout d ps)))
            (member_spells r (nest v) [] _ [] _ one.node tt tt one.spells (most_nest_under ps) _ more.members
            more.spell [] k tt h.0 _ (omega arith) (omega arith));
        keys = ap (λ y. y ∷ keys_of (members_meaning more.members)) bytes ∙ ap (λ ks. k ∷ ks) more.keys;
        again = λ e. rw (bytes, one.again (suc e), more.again e) refl;
      }

pub redumped : Redump
redumped r v h few =
    let d = dumped r 0 v h in
    (d.spells.utf8, alone d.node, node_parses r (nest v) _ d.node few d.spells, d.again 0)
