-- What the worked rows share: how a list of rows is proved, readings, trees, and tests of numbers of the grammar.
use Prim.Native.String.{String}
use Rattle.jzon_base.proofs.Common.{◌≡◌, ℕ, zero, suc, List, [], ◌∷◌, ◌++◌, map, replicate, Bool, true, false, not}
use Rattle.jzon_base.proofs.Common.{◌&&◌, ◌==◌, Option, Some, None, All, codes, refl, ap, arith, and_parts, IsTrue}
use Rattle.jzon_base.proofs.Common.{is_ascii_digit, list_all}
pub use Rattle.jzon.specs.Laws.{alone}
use Rattle.jzon.specs.Reading.{Reading}
use Rattle.jzon.specs.Grammar.{Sign, plus, Exponent, Numeral, Item, plain, single, double, Key, Node, Elements}
use Rattle.jzon.specs.Grammar.{no_elements, element, Members, no_members, member, AreDigits, IsDigits, IsWhole}
use Rattle.jzon.specs.Grammar.{IsExponent, IsNumeral, is_exponent_letter}

-- ---- readings

abbrev pub shallow : ℕ → Reading
shallow n = record { strict = false; depth = n; exact = false }

abbrev pub strict_to : ℕ → Reading
strict_to n = record { strict = true; depth = n; exact = false }

-- ---- rows

-- if two columns of rows are equal, each row has the property that follows
pub each_row : {A B : Type 0} (P : A → Type 0) (f g : A → B) → ((x : A) → f x ≡ g x → P x) → (xs : List A)
    → map f xs ≡ map g xs → All P xs
each_row P f g law [] e k d lt = absurd (omega arith)
each_row P f g law (x ∷ xs) e zero d lt = law x (cc)
each_row P f g law (x ∷ xs) e (suc k) d lt = each_row P f g law xs (cc) k d (omega arith)

-- ---- trees

abbrev pub plains : List ℕ → List Item
plains [] = []
plains (c ∷ cs) = plain c ∷ plains cs

-- a string of unescaped characters, and a key of such characters with no whitespace around it
abbrev pub string : String → Node
string s = Node.string (plains (codes s))

abbrev pub key_of : List Item → Key
key_of is = record { before = []; items = is; after = [] }

abbrev pub key : String → Key
key s = key_of (plains (codes s))

-- `\uXXXX`, and two of them
abbrev pub escape : String → Item
escape u = single (codes u)

abbrev pub surrogates : String → String → Item
surrogates u v = double (codes u) (codes v)

-- numbers: digits alone, with digits after a point, with an exponent too, and with a minus
abbrev pub integer : String → Numeral
integer ds = record { negative = false; whole = codes ds; fraction = []; exponent = None }

abbrev pub decimal : String → String → Numeral
decimal ws fs = record (integer ws) { fraction = codes fs }

abbrev pub power : String → String → Sign → String → Numeral
power ws fs s ds = record (decimal ws fs) { exponent = Some (record { letter = 101; sign = s; digits = codes ds }) }

abbrev pub negated : Numeral → Numeral
negated n = record n { negative = true }

abbrev zero_node : Node
zero_node = Node.number (integer "0")

abbrev pub one : Node
one = Node.number (integer "1")

abbrev pub two : Node
two = Node.number (integer "2")

-- containers with no whitespace: values, and members
abbrev pub elements : List Node → Elements
elements [] = no_elements
elements (n ∷ ns) = element [] n [] (elements ns)

abbrev pub array : Node → List Node → Node
array n ns = Node.array [] n [] (elements ns)

abbrev pub members : List (Key × Node) → Members
members [] = no_members
members (m ∷ ms) = member m.0 [] m.1 [] (members ms)

abbrev pub object : Key → Node → List (Key × Node) → Node
object k n ms = Node.object k [] n [] (members ms)

-- n arrays around a value
abbrev pub nested : ℕ → Node → Node
nested zero v = v
nested (suc n) v = array (nested n v) []

-- n times, an array and in it an object around a value
abbrev pub in_turn : ℕ → Node → Node
in_turn zero v = v
in_turn (suc n) v = array (object (key "a") (in_turn n v) []) []

-- whitespace, and a repeated key
abbrev spaced_key : String → Key
spaced_key s = record { before = codes " "; items = plains (codes s); after = [] }

abbrev pub spaced : Node
spaced =
    Node.object (spaced_key "foo") (codes " ") zero_node [] (member (spaced_key "bar") (codes " ") one []
    (member (spaced_key "foo") (codes " ") two (codes " ") no_members))

-- every kind of value
abbrev pub mixed : Node
mixed =
    object (key "a") (array one (Node.number (negated (power "0" "5" plus "2"))
    ∷ Node.string (plain 120 ∷ escape "00e9" ∷ surrogates "D834" "DD1E" ∷ []) ∷ [])) ((key "b", Node.null) ∷ [])

abbrev pub mixed_text : List ℕ
mixed_text = codes "{\"a\":[1,-0.5e+2,\"x\\u00e9\\uD834\\uDD1E\"],\"b\":null}"

-- n equal characters and one more
pub replicate-cons : (n x : ℕ) (cs : List ℕ) → replicate n x ++ (x ∷ cs) ≡ x ∷ (replicate n x ++ cs)
replicate-cons zero x cs = refl
replicate-cons (suc n) x cs = ap (λ l. x ∷ l) (replicate-cons n x cs)

-- ---- numbers of the grammar

abbrev pub are_digits : List ℕ → Bool
are_digits = list_all is_ascii_digit

abbrev pub is_digits : List ℕ → Bool
is_digits [] = false
is_digits (d ∷ ds) = are_digits (d ∷ ds)

abbrev pub is_whole : List ℕ → Bool
is_whole [] = false
is_whole (d ∷ []) = is_ascii_digit d
is_whole (d ∷ e ∷ ds) = (is_ascii_digit d && not (d == 48)) && are_digits (e ∷ ds)

abbrev pub is_exponent : Option Exponent → Bool
is_exponent None = true
is_exponent (Some e) = is_exponent_letter e.letter && is_digits e.digits

abbrev pub is_numeral : Numeral → Bool
is_numeral n = is_whole n.whole && (are_digits n.fraction && is_exponent n.exponent)

pub left-true : (a b : Bool) → IsTrue (a && b) → IsTrue a
left-true a b h = (and_parts a b h).0

pub right-true : (a b : Bool) → IsTrue (a && b) → IsTrue b
right-true a b h = (and_parts a b h).1

-- the parts of a test that passes
pub ruleset parts-true = (left-true, right-true)

are_digits-true : (ds : List ℕ) → IsTrue (are_digits ds) → AreDigits ds
are_digits-true [] h = tt
are_digits-true (d ∷ ds) h = let t = and_parts _ _ h in (t.0, are_digits-true ds t.1)

is_digits-true : (ds : List ℕ) → IsTrue (is_digits ds) → IsDigits ds
is_digits-true [] h = absurd (cc)
is_digits-true (d ∷ ds) h = let t = and_parts _ _ h in (t.0, are_digits-true ds t.1)

is_whole-true : (ds : List ℕ) → IsTrue (is_whole ds) → IsWhole ds
is_whole-true [] h = absurd (cc)
is_whole-true (d ∷ []) h = h
is_whole-true (d ∷ e ∷ ds) h = let t = and_parts _ _ h in (t.0, are_digits-true (e ∷ ds) t.1)

is_exponent-true : (e : Option Exponent) → IsTrue (is_exponent e) → IsExponent e
is_exponent-true None h = tt
is_exponent-true (Some e) h = let t = and_parts _ _ h in (t.0, is_digits-true e.digits t.1)

pub is_numeral-true : (n : Numeral) → IsTrue (is_numeral n) → IsNumeral n
is_numeral-true n h = search (parts-true, is_whole-true, are_digits-true, is_exponent-true)
