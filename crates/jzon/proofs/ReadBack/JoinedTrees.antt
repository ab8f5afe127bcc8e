-- Trees of what a style joins: values separated by commas with whitespace around them, and members.
use Rattle.jzon_base.proofs.Common.{◌≡◌, ◌∙◌, ℕ, ◌≤◌, List, [], ◌∷◌, ◌++◌, map, refl, ap, append_assoc, arith}
use Rattle.jzon_base.proofs.Common.{IsUtf8, ⊤, AllByRecursion}
use Rattle.jzon_base.specs.PairList.{keys_of}
use Rattle.jzon_tree.specs.Value.{Value, value, values_of}
use Rattle.jzon_tree.specs.Text.{quoted}
use Rattle.jzon_tree.specs.Writing.{Style, IsAllowedWhitespace, Joins}
use Rattle.jzon.specs.Reading.{Reading}
use Rattle.jzon.specs.Grammar.{Node, Elements, no_elements, element, Members, no_members, member, IsWhitespace}
use Rattle.jzon.specs.Meaning.{bytes_of, meaning, elements_meaning, members_meaning}
use Rattle.jzon.proofs.ReadBack.WrittenStrings.{items_for, bytes_of-items_for}
use Rattle.jzon.proofs.ReadBack.WrittenTrees.{NodeSpells, ElementsSpell, MembersSpell, run_text, key_for, pair_text}
use Rattle.jzon.proofs.ReadBack.WrittenTrees.{no_elements_spell, element_spells, no_members_spell, member_spells}

-- the style allows only whitespace of the reading
abbrev pub AllowsWhitespaceOf : Reading → Style → Type 0
AllowsWhitespaceOf r s = (dent : ℕ) (w : List ℕ) → IsAllowedWhitespace s dent w → IsWhitespace r w

-- ---- higher bounds

pub node_raised : (r : Reading) (h g : ℕ) (b : List ℕ) (n : Node) → h ≤ g → NodeSpells r h b n → NodeSpells r g b n
node_raised r h g b n le e =
    record { utf8 = e.utf8; in_grammar = e.in_grammar; unbroken = λ depth k few. e.unbroken depth k (omega arith) }

-- ---- values

-- each node spells its text
abbrev pub EachSpells : Reading → ℕ → List (List ℕ) → List Node → Type 0
EachSpells r high [] [] = ⊤
EachSpells r high (t ∷ ts) (n ∷ ns) = NodeSpells r high t n × EachSpells r high ts ns
EachSpells r high _ _ = ⊥

-- The text `inside` of the values, followed by the whitespace w and the bracket, splits into whitespace, the first
-- value, whitespace and the elements after it.
pub record JoinedElements (r : Reading) (high : ℕ) (t : List ℕ) (ns : List Node) (inside w : List ℕ) : Type 0 where
  pub before : List ℕ
  pub after : List ℕ
  pub rest : List ℕ
  pub elements : Elements
  pub whitespace : IsWhitespace r before
  pub space : IsWhitespace r after
  pub spell : ElementsSpell r high rest elements
  pub text : inside ++ (w ++ 93 ∷ []) ≡ run_text before t after rest
  pub means : elements_meaning elements ≡ values_of (map meaning ns)

-- whitespace, a text and what follows it
after_value : (w t x y : List ℕ) → (w ++ (t ++ x)) ++ y ≡ w ++ (t ++ (x ++ y))
after_value w t x y = append_assoc w (t ++ x) y ∙ ap (λ z. w ++ z) (append_assoc t x y)

pub joined_elements : (r : Reading) (s : Style) (dent high : ℕ) (t : List ℕ) (ts : List (List ℕ)) (n : Node)
    (ns : List Node) (inside w : List ℕ)
    → AllowsWhitespaceOf r s → EachSpells r high (t ∷ ts) (n ∷ ns) → Joins s dent (t ∷ ts) inside → IsWhitespace r w
    → JoinedElements r high t ns inside w
joined_elements r s dent high t [] n [] inside w fit each join space = record {
  before = join.0;
  after = w;
  rest = 93 ∷ [];
  elements = no_elements;
  whitespace = fit dent join.0 join.1;
  space = space;
  spell = no_elements_spell r high;
  text = ap (λ x. x ++ (w ++ 93 ∷ [])) join.2 ∙ append_assoc join.0 t (w ++ 93 ∷ []);
  means = refl;
}
joined_elements r s dent high t [] n (m ∷ ns) inside w fit each join space = absurd each.1
joined_elements r s dent high t (u ∷ ts) n [] inside w fit each join space = absurd each.1
joined_elements r s dent high t (u ∷ ts) n (m ∷ ns) inside w fit each join space =
    let more = joined_elements r s dent high u ts m ns join.1 w fit each.1 join.3 space in
    record {
      before = join.0;
      after = [];
      rest = 44 ∷ run_text more.before u more.after more.rest;
      elements = element more.before m more.after more.elements;
      whitespace = fit dent join.0 join.2;
      space = tt;
      spell =
          element_spells r high more.before u more.after more.rest m more.whitespace more.space each.1.0 high
          more.elements more.spell high (omega arith) (omega arith);
      text =
          ap (λ x. x ++ (w ++ 93 ∷ [])) join.4 ∙ after_value join.0 t (44 ∷ join.1) (w ++ 93 ∷ [])
          ∙ ap (λ x. join.0 ++ (t ++ 44 ∷ x)) more.text;
      means = ap (λ vs. value (meaning m) vs) more.means;
    }

-- ---- members

-- a key, the whitespace after its colon, and the text and the node of its value
pub record Entry : Type 0 where
  pub key : List ℕ
  pub gap : List ℕ
  pub text : List ℕ
  pub node : Node

abbrev pub entry_text : Entry → List ℕ
entry_text e = quoted e.key ++ (58 ∷ (e.gap ++ e.text))

abbrev pub entry_meaning : Entry → List ℕ × Value
entry_meaning e = (e.key, meaning e.node)

abbrev pub entry_keys : List Entry → List (List ℕ)
entry_keys es = keys_of (map entry_meaning es)

pub record EntrySpells (r : Reading) (high : ℕ) (e : Entry) : Type 0 where
  pub utf8 : IsUtf8 e.key
  pub whitespace : IsWhitespace r e.gap
  pub spells : NodeSpells r high e.text e.node

-- what follows the text of an entry
entry_after : (e : Entry) (w x : List ℕ) → w ++ (entry_text e ++ x)
    ≡ w ++ (quoted e.key ++ (58 ∷ (e.gap ++ (e.text ++ x))))
entry_after e w x =
    ap (λ z. w ++ z) (append_assoc (quoted e.key) (58 ∷ (e.gap ++ e.text)) x
    ∙ ap (λ z. quoted e.key ++ 58 ∷ z) (append_assoc e.gap e.text x))

pub record JoinedMembers (r : Reading) (high : ℕ) (e : Entry) (es : List Entry) (inside w : List ℕ) : Type 0 where
  pub before : List ℕ
  pub after : List ℕ
  pub rest : List ℕ
  pub members : Members
  pub whitespace : IsWhitespace r before
  pub space : IsWhitespace r after
  pub spell : MembersSpell r high (entry_keys es) rest members
  pub text : inside ++ (w ++ 125 ∷ []) ≡ pair_text before e.key e.gap e.text after rest
  pub means : members_meaning members ≡ map entry_meaning es

pub joined_members : (r : Reading) (s : Style) (dent high : ℕ) (e : Entry) (es : List Entry) (inside w : List ℕ)
    → AllowsWhitespaceOf r s → AllByRecursion (EntrySpells r high) (e ∷ es)
    → Joins s dent (map entry_text (e ∷ es)) inside → IsWhitespace r w → JoinedMembers r high e es inside w
joined_members r s dent high e [] inside w fit each join space = record {
  before = join.0;
  after = w;
  rest = 125 ∷ [];
  members = no_members;
  whitespace = fit dent join.0 join.1;
  space = space;
  spell = no_members_spell r high;
  text = ap (λ x. x ++ (w ++ 125 ∷ [])) join.2 ∙ append_assoc join.0 (entry_text e) (w ++ 125 ∷ [])
      ∙ entry_after e join.0 (w ++ 125 ∷ []);
  means = refl;
}
joined_members r s dent high e (f ∷ es) inside w fit each join space =
    let more = joined_members r s dent high f es join.1 w fit each.1 join.3 space in
    let bytes : bytes_of (items_for f.key) ≡ f.key = bytes_of-items_for f.key each.1.0.utf8 in
    record {
      before = join.0;
      after = [];
      rest = 44 ∷ pair_text more.before f.key f.gap f.text more.after more.rest;
      members = member (key_for more.before f.key) f.gap f.node more.after more.members;
      whitespace = fit dent join.0 join.2;
      space = tt;
      spell =
          member_spells r high f.gap f.text more.after more.rest f.node each.1.0.whitespace more.space
          each.1.0.spells high _ more.members more.spell more.before f.key more.whitespace each.1.0.utf8
          high (omega arith) (omega arith);
      text =
          ap (λ x. x ++ (w ++ 125 ∷ [])) join.4 ∙ after_value join.0 (entry_text e) (44 ∷ join.1) (w ++ 125 ∷ [])
          ∙ entry_after e join.0 (44 ∷ (join.1 ++ (w ++ 125 ∷ [])))
          ∙ ap (λ x. pair_text join.0 e.key e.gap e.text [] (44 ∷ x)) more.text;
      means = ap (λ y. (y, meaning f.node) ∷ members_meaning more.members) bytes
          ∙ ap (λ ps. entry_meaning f ∷ ps) more.means;
    }
