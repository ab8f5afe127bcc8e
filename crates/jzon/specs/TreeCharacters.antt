-- The text of a tree without its marks, part by part, each with what follows.
use Rattle.std.specs.Prelude.{ℕ, List, [], ◌∷◌, ◌++◌, Bool, true, false, Option, None, Some}
use Rattle.jzon.specs.Grammar.{Sign, unsigned, plus, minus, Exponent, Numeral, Item, simple, single, double, Key, Node}
use Rattle.jzon.specs.Grammar.{Elements, no_elements, element, Members, no_members, member, Document}
use Rattle.jzon.specs.Grammar as grammar

-- the point and the digits after it, if there are any, and then t
abbrev pub fraction_chars : List ℕ → List ℕ → List ℕ
fraction_chars [] t = t
fraction_chars (d ∷ ds) t = 46 ∷ d ∷ (ds ++ t)

-- a sign, and then t
abbrev pub sign_chars : Sign → List ℕ → List ℕ
sign_chars unsigned t = t
sign_chars plus t = 43 ∷ t
sign_chars minus t = 45 ∷ t

-- an exponent, if there is one, and then t
abbrev pub exponent_chars : Option Exponent → List ℕ → List ℕ
exponent_chars None t = t
exponent_chars (Some e) t = e.letter ∷ sign_chars e.sign (e.digits ++ t)

-- a number without its minus, and then t
abbrev pub magnitude_chars : Numeral → List ℕ → List ℕ
magnitude_chars n t = n.whole ++ fraction_chars n.fraction (exponent_chars n.exponent t)

-- a number, and then t
abbrev pub numeral_chars : Bool → Numeral → List ℕ → List ℕ
numeral_chars true n t = 45 ∷ magnitude_chars n t
numeral_chars false n t = magnitude_chars n t

-- a character of a string or an escape, and then t
abbrev pub item_chars : Item → List ℕ → List ℕ
item_chars (grammar.plain c) t = c ∷ t
item_chars (simple c) t = 92 ∷ c ∷ t
item_chars (single u) t = 92 ∷ 117 ∷ (u ++ t)
item_chars (double u v) t = 92 ∷ 117 ∷ (u ++ (92 ∷ 117 ∷ (v ++ t)))

-- the characters and escapes of a string, and then t
abbrev pub items_chars : List Item → List ℕ → List ℕ
items_chars [] t = t
items_chars (i ∷ is) t = item_chars i (items_chars is t)

-- a key with the whitespace around it and its colon, and then t
abbrev pub key_chars : Key → List ℕ → List ℕ
key_chars key t = key.before ++ (34 ∷ items_chars key.items (34 ∷ (key.after ++ (58 ∷ t))))

abbrev mutual
  -- a value, and then t
  pub node_chars : Node → List ℕ → List ℕ
  node_chars Node.null t = 110 ∷ 117 ∷ 108 ∷ 108 ∷ t
  node_chars (Node.boolean true) t = 116 ∷ 114 ∷ 117 ∷ 101 ∷ t
  node_chars (Node.boolean false) t = 102 ∷ 97 ∷ 108 ∷ 115 ∷ 101 ∷ t
  node_chars (Node.number n) t = numeral_chars n.negative n t
  node_chars (Node.string is) t = 34 ∷ items_chars is (34 ∷ t)
  node_chars (Node.empty_array b) t = 91 ∷ (b ++ (93 ∷ t))
  node_chars (Node.empty_object b) t = 123 ∷ (b ++ (125 ∷ t))
  node_chars (Node.array b n c es) t = 91 ∷ (b ++ node_chars n (c ++ elements_chars es t))
  node_chars (Node.object key b n c ms) t = 123 ∷ key_chars key (b ++ node_chars n (c ++ members_chars ms t))

  -- the later elements of an array and its bracket, and then t
  pub elements_chars : Elements → List ℕ → List ℕ
  elements_chars no_elements t = 93 ∷ t
  elements_chars (element b n c es) t = 44 ∷ (b ++ node_chars n (c ++ elements_chars es t))

  -- the later members of an object and its bracket, and then t
  pub members_chars : Members → List ℕ → List ℕ
  members_chars no_members t = 125 ∷ t
  members_chars (member key b n c ms) t = 44 ∷ key_chars key (b ++ node_chars n (c ++ members_chars ms t))

-- a text: whitespace, a value, whitespace
abbrev pub document_chars : Document → List ℕ
document_chars d = d.before ++ node_chars d.node d.after
