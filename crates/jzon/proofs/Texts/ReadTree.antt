-- The tree of one text, by computation (`read_tree`): the automaton accepts the text, and a tree of the grammar spells
-- it.
use Rattle.jzon_base.proofs.Common.{◌≡◌, ◌∙◌, ℕ, List, [], ◌∷◌, Bool, true, false, not, ◌&&◌, subst, IsTrue}
use Rattle.jzon_base.proofs.Common.{list_all, bytes_eq, and_parts, not-true, bytes_eq-Decides}
use Rattle.jzon_tree.specs.Writing.{is_whitespace}
use Rattle.jzon.specs.Reading.{Reading}
use Rattle.jzon.specs.Grammar.{Item, simple, single, double, Key, Node, Elements, no_elements, element, Members}
use Rattle.jzon.specs.Grammar.{no_members, member, Document, Each, IsItem, AreItems, IsKey, IsNode, AreElements}
use Rattle.jzon.specs.Grammar.{AreMembers, is_unescaped, is_simple, is_surrogate, code_unit}
use Rattle.jzon.specs.Grammar as grammar
use Rattle.jzon.specs.Fault.{Spells, Parses}
use Rattle.jzon.specs.Private.Machine.{no_frames, before, Outcome, meant, refused, outcome}
use Rattle.jzon.proofs.Strings.StringCharacters.{are_hex, hex-true}
use Rattle.jzon.proofs.WorkedRows.Samples.{is_numeral, is_numeral-true, parts-true}
use Rattle.jzon.specs.TreeCharacters.{document_chars}
use Rattle.jzon.proofs.Texts.TreeCharacters.{spells}
use Rattle.jzon.proofs.Texts.OneTree.{same_tree}
use Rattle.jzon.proofs.Texts.Verdict.{Verdict, answers}

-- ---- trees of the grammar

abbrev is_item : Item → Bool
is_item (grammar.plain c) = is_unescaped c
is_item (simple c) = is_simple c
is_item (single u) = are_hex 4 u && not (is_surrogate (code_unit u))
is_item (double u v) = are_hex 4 u && (is_surrogate (code_unit u) && are_hex 4 v)

abbrev is_blank : Reading → List ℕ → Bool
is_blank r = list_all (is_whitespace r.strict)

abbrev is_key : Reading → Key → Bool
is_key r k = is_blank r k.before && (list_all is_item k.items && is_blank r k.after)

abbrev mutual
  is_node : Reading → Node → Bool
  is_node r Node.null = true
  is_node r (Node.boolean b) = true
  is_node r (Node.number n) = is_numeral n
  is_node r (Node.string is) = list_all is_item is
  is_node r (Node.empty_array b) = is_blank r b
  is_node r (Node.empty_object b) = is_blank r b
  is_node r (Node.array b n c es) = is_blank r b && (is_node r n && (is_blank r c && are_elements r es))
  is_node r (Node.object k b n c ms) =
      is_key r k && (is_blank r b && (is_node r n && (is_blank r c && are_members r ms)))

  are_elements : Reading → Elements → Bool
  are_elements r no_elements = true
  are_elements r (element b n c es) = is_blank r b && (is_node r n && (is_blank r c && are_elements r es))

  are_members : Reading → Members → Bool
  are_members r no_members = true
  are_members r (member k b n c ms) =
      is_key r k && (is_blank r b && (is_node r n && (is_blank r c && are_members r ms)))

abbrev is_document : Reading → Document → Bool
is_document r d = is_blank r d.before && (is_node r d.node && is_blank r d.after)

each-true : (test : ℕ → Bool) (w : List ℕ) → IsTrue (list_all test w) → Each test w
each-true test [] h = tt
each-true test (c ∷ w) h = let t = and_parts _ _ h in (t.0, each-true test w t.1)

item-true : (i : Item) → IsTrue (is_item i) → IsItem i
item-true (grammar.plain c) h = h
item-true (simple c) h = h
item-true (single u) h = search (parts-true, hex-true, not-true)
item-true (double u v) h = search (parts-true, hex-true)

items-true : (is : List Item) → IsTrue (list_all is_item is) → AreItems is
items-true [] h = tt
items-true (i ∷ is) h = let t = and_parts _ _ h in (item-true i t.0, items-true is t.1)

key-true : (r : Reading) (k : Key) → IsTrue (is_key r k) → IsKey r k
key-true r k h = search (parts-true, each-true, items-true)

mutual
  node-true : (r : Reading) (n : Node) → IsTrue (is_node r n) → IsNode r n
  node-true r Node.null h = tt
  node-true r (Node.boolean b) h = tt
  node-true r (Node.number n) h = is_numeral-true n h
  node-true r (Node.string is) h = items-true is h
  node-true r (Node.empty_array b) h = each-true _ b h
  node-true r (Node.empty_object b) h = each-true _ b h
  node-true r (Node.array b n c es) h = search (parts-true, each-true, node-true r n, elements-true r es)
  node-true r (Node.object k b n c ms) h = search (parts-true, key-true, each-true, node-true r n, members-true r ms)

  elements-true : (r : Reading) (es : Elements) → IsTrue (are_elements r es) → AreElements r es
  elements-true r no_elements h = tt
  elements-true r (element b n c es) h = search (parts-true, each-true, node-true r n, elements-true r es)

  members-true : (r : Reading) (ms : Members) → IsTrue (are_members r ms) → AreMembers r ms
  members-true r no_members h = tt
  members-true r (member k b n c ms) h = search (parts-true, key-true, each-true, node-true r n, members-true r ms)

-- ---- one text

abbrev is_meant : Outcome → Bool
is_meant (meant v) = true
is_meant (refused f rest) = false

-- a text whose outcome is a value, and a tree that spells it
read_spelled : (r : Reading) (t : List ℕ) (d : Document) (o : Outcome) → Verdict r t o
    → IsTrue (is_meant o) → Spells r t d → Parses r t d
read_spelled r t d (meant v) reported m h =
    subst (Parses r t) (same_tree r t reported.0 d reported.1.0 h) reported.1
read_spelled r t d (refused f rest) reported m h = absurd (cc)

abbrev pub is_read : Reading → List ℕ → Document → Bool
is_read r t d = is_meant (outcome r t (before no_frames)) && (is_document r d && bytes_eq (document_chars d) t)

pub read_tree : (r : Reading) (t : List ℕ) (d : Document) → is_read r t d ≡ true → Parses r t d
read_tree r t d h =
    let a = and_parts _ _ h in
    let b = and_parts _ _ a.1 in
    let c = and_parts _ _ b.0 in
    let e = and_parts _ _ c.1 in
    let same : document_chars d ≡ t = (bytes_eq-Decides (document_chars d) t).0 b.1 in
    read_spelled r t d (outcome r t (before no_frames)) (answers r t) a.0
    ((each-true _ d.before c.0, node-true r d.node e.0, each-true _ d.after e.1), spells r d ∙ same)
