-- One tree: two trees that spell the same text are equal (`same_tree`). No automaton is involved: two trees are
-- compared part by part, since the first character of what is left decides which part comes next, and the class of the
-- character after a part decides where the part ends.
use Rattle.jzon_base.proofs.Common.{◌≡◌, ◌∙◌, ℕ, zero, suc, List, [], ◌∷◌, ◌++◌, Bool, true, false, cond, ◌==◌, Option}
use Rattle.jzon_base.proofs.Common.{Some, None, refl, sym, subst, ap, arith, append-nil, IsTrue, ⊤, is_ascii_digit}
use Rattle.jzon_tree.specs.Writing.{is_whitespace}
use Rattle.jzon.specs.Reading.{Reading}
use Rattle.jzon.specs.Grammar.{Sign, unsigned, plus, minus, Exponent, Numeral, Item, simple, single, double, Key, Node}
use Rattle.jzon.specs.Grammar.{Elements, no_elements, element, Members, no_members, member, Document, Each}
use Rattle.jzon.specs.Grammar.{IsWhitespace, AreDigits, IsDigits, IsExponent, IsNumeral, AreHex, AreItems}
use Rattle.jzon.specs.Grammar.{IsKey, IsNode, AreElements, AreMembers, IsDocument, is_surrogate, code_unit}
use Rattle.jzon.specs.Grammar as grammar
use Rattle.jzon.specs.Fault.{Spells}
use Rattle.jzon.specs.Private.Classes.{Class, whitespace, digits, minus_char, plus_char, point, letter_e, quote}
use Rattle.jzon.specs.Private.Classes.{opens_array, closes_array, opens_object, closes_object, comma, colon}
use Rattle.jzon.specs.Private.Classes.{begins_null, begins_true, begins_false, class_of}
use Rattle.jzon.proofs.Texts.ClassesOfCharacters.{whitespace-class, digits-class, letter_e-class, class-char, char_of, whole_digits}
use Rattle.jzon.proofs.Strings.StringCharacters.{plain_parts, simple_not_u}
use Rattle.jzon.specs.TreeCharacters.{fraction_chars, sign_chars, exponent_chars, magnitude_chars, numeral_chars}
use Rattle.jzon.specs.TreeCharacters.{items_chars, key_chars, node_chars, elements_chars, members_chars}
use Rattle.jzon.specs.TreeCharacters.{document_chars}
use Rattle.jzon.proofs.Texts.TreeCharacters.{spells}

module _ (r : Reading) where
  abbrev class : ℕ → Class
  class c = class_of r.strict c

  heads : (a b : ℕ) (t u : List ℕ) → a ∷ t ≡ b ∷ u → a ≡ b
  heads a b t u e = cc

  -- ---- runs

  -- the text doesn't begin with a character of this class
  abbrev Not : Class → List ℕ → Type 0
  Not k [] = ⊤
  Not k (c ∷ cs) = class c ≡ k → ⊥

  begins : (k : Class) (t u : List ℕ) (c : ℕ) → Not k t → t ≡ c ∷ u → class c ≡ k → ⊥
  begins k [] u c apart e f = cc
  begins k (x ∷ t) u c apart e f = apart (ap class (let g : x ≡ c = cc in g) ∙ f)

  -- characters that pass the test, all of one class, and then no more of it
  same_run : (k : Class) (test : ℕ → Bool) → ((c : ℕ) → IsTrue (test c) → class c ≡ k) → (w x t u : List ℕ)
      → Each test w → Each test x → Not k t → Not k u → w ++ t ≡ x ++ u → (w ≡ x) × (t ≡ u)
  same_run k test of [] [] t u w_ok x_ok t_no u_no e = (refl, e)
  same_run k test of [] (x ∷ xs) t u w_ok x_ok t_no u_no e = absurd (begins k t (xs ++ u) x t_no e (of x x_ok.0))
  same_run k test of (w ∷ ws) [] t u w_ok x_ok t_no u_no e =
      absurd (begins k u (ws ++ t) w u_no (sym e) (of w w_ok.0))
  same_run k test of (w ∷ ws) (x ∷ xs) t u w_ok x_ok t_no u_no e =
      let first : w ≡ x = cc in
      let g = same_run k test of ws xs t u w_ok.1 x_ok.1 t_no u_no (cc) in
      (rw (first, g.0) refl, g.1)

  same_blanks : (w x t u : List ℕ) → IsWhitespace r w → IsWhitespace r x → Not whitespace t → Not whitespace u
      → w ++ t ≡ x ++ u → (w ≡ x) × (t ≡ u)
  same_blanks w x t u = same_run whitespace (is_whitespace r.strict) (λ c h. whitespace-class r c h) w x t u

  same_digits : (w x t u : List ℕ) → AreDigits w → AreDigits x → Not digits t → Not digits u
      → w ++ t ≡ x ++ u → (w ≡ x) × (t ≡ u)
  same_digits w x t u = same_run digits is_ascii_digit (λ c h. digits-class r.strict c h) w x t u

  -- ---- what may follow a value

  abbrev stops : Class → Bool
  stops whitespace = true
  stops comma = true
  stops closes_array = true
  stops closes_object = true
  stops _ = false

  abbrev Stops : List ℕ → Type 0
  Stops [] = ⊤
  Stops (c ∷ cs) = IsTrue (stops (class c))

  fault_here : (k : Class) (t : List ℕ) → stops k ≡ false → Stops t → Not k t
  fault_here k [] apart h = tt
  fault_here k (c ∷ cs) apart h = λ e. let f : stops (class c) ≡ false = ap stops e ∙ apart in cc

  stops_blanks : (w t : List ℕ) → IsWhitespace r w → Stops t → Stops (w ++ t)
  stops_blanks [] t ok h = h
  stops_blanks (c ∷ w) t ok h = ap stops (whitespace-class r c ok.0)

  -- ---- numbers

  exponent_not : (k : Class) (x : Option Exponent) (t : List ℕ) → stops k ≡ false → (letter_e ≡ k → ⊥) → IsExponent x
      → Stops t → Not k (exponent_chars x t)
  exponent_not k None t apart other ok h = fault_here k t apart h
  exponent_not k (Some x) t apart other ok h = λ e. other (sym (letter_e-class r.strict x.letter ok.0) ∙ e)

  fraction_not : (ds : List ℕ) (x : Option Exponent) (t : List ℕ) → IsExponent x → Stops t
      → Not digits (fraction_chars ds (exponent_chars x t))
  fraction_not [] x t ok h = exponent_not digits x t refl (λ e. cc) ok h
  fraction_not (d ∷ ds) x t ok h = λ e. let f : point ≡ digits = sym (class-char r.strict point) ∙ e in cc

  are_digits : (ds : List ℕ) → IsDigits ds → AreDigits ds
  are_digits [] ok = tt
  are_digits (d ∷ ds) ok = ok

  -- a sign isn't a digit
  no_sign : (c : ℕ) (ds t u : List ℕ) → (digits ≡ class c → ⊥) → IsDigits ds → ds ++ t ≡ c ∷ u → ⊥
  no_sign c [] t u other ok e = ok
  no_sign c (d ∷ ds) t u other ok e =
      let f : d ≡ c = cc in other (sym (digits-class r.strict d ok.0) ∙ ap class f)

  no_plus : digits ≡ class 43 → ⊥
  no_plus e = let f : digits ≡ plus_char = e ∙ class-char r.strict plus_char in cc

  no_minus : digits ≡ class 45 → ⊥
  no_minus e = let f : digits ≡ minus_char = e ∙ class-char r.strict minus_char in cc

  same_sign : (a b : Sign) (ds es t u : List ℕ) → IsDigits ds → IsDigits es
      → sign_chars a (ds ++ t) ≡ sign_chars b (es ++ u) → (a ≡ b) × (ds ++ t ≡ es ++ u)
  same_sign unsigned unsigned ds es t u ok ko e = (refl, e)
  same_sign plus plus ds es t u ok ko e = (refl, let f : ds ++ t ≡ es ++ u = cc in f)
  same_sign minus minus ds es t u ok ko e = (refl, let f : ds ++ t ≡ es ++ u = cc in f)
  same_sign unsigned plus ds es t u ok ko e = absurd (no_sign 43 ds t (es ++ u) no_plus ok e)
  same_sign unsigned minus ds es t u ok ko e = absurd (no_sign 45 ds t (es ++ u) no_minus ok e)
  same_sign plus unsigned ds es t u ok ko e = absurd (no_sign 43 es u (ds ++ t) no_plus ko (sym e))
  same_sign minus unsigned ds es t u ok ko e = absurd (no_sign 45 es u (ds ++ t) no_minus ko (sym e))
  same_sign plus minus ds es t u ok ko e = absurd (omega (arith, heads 43 45 _ _ e))
  same_sign minus plus ds es t u ok ko e = absurd (omega (arith, heads 45 43 _ _ e))

  same_exponent : (x y : Option Exponent) (t u : List ℕ) → IsExponent x → IsExponent y → Stops t → Stops u
      → exponent_chars x t ≡ exponent_chars y u → (x ≡ y) × (t ≡ u)
  same_exponent None None t u ok ko h k e = (refl, e)
  same_exponent None (Some y) t u ok ko h k e =
      absurd (begins letter_e t _ y.letter (fault_here letter_e t refl h) e (letter_e-class r.strict y.letter ko.0))
  same_exponent (Some x) None t u ok ko h k e =
      absurd (begins letter_e u _ x.letter (fault_here letter_e u refl k) (sym e)
      (letter_e-class r.strict x.letter ok.0))
  same_exponent (Some x) (Some y) t u ok ko h k e =
      let letter : x.letter ≡ y.letter = cc in
      let s = same_sign x.sign y.sign x.digits y.digits t u ok.1 ko.1 (cc) in
      let d = same_digits x.digits y.digits t u (are_digits x.digits ok.1) (are_digits y.digits ko.1)
      (fault_here digits t refl h) (fault_here digits u refl k) s.1 in
      (λ i. Some (record { letter = letter i; sign = s.0 i; digits = d.0 i }), d.1)

  same_fraction : (ds es : List ℕ) (x y : Option Exponent) (t u : List ℕ) → AreDigits ds → AreDigits es → IsExponent x
      → IsExponent y → Stops t → Stops u
      → fraction_chars ds (exponent_chars x t) ≡ fraction_chars es (exponent_chars y u)
      → (ds ≡ es) × (exponent_chars x t ≡ exponent_chars y u)
  same_fraction [] [] x y t u ok ko x_ok y_ok h k e = (refl, e)
  same_fraction [] (d ∷ es) x y t u ok ko x_ok y_ok h k e =
      absurd (begins point (exponent_chars x t) _ 46 (exponent_not point x t refl (λ f. cc) x_ok h) e
      (class-char r.strict point))
  same_fraction (d ∷ ds) [] x y t u ok ko x_ok y_ok h k e =
      absurd (begins point (exponent_chars y u) _ 46 (exponent_not point y u refl (λ f. cc) y_ok k) (sym e)
      (class-char r.strict point))
  same_fraction (d ∷ ds) (c ∷ es) x y t u ok ko x_ok y_ok h k e =
      same_digits (d ∷ ds) (c ∷ es) (exponent_chars x t) (exponent_chars y u) ok ko
      (exponent_not digits x t refl (λ f. cc) x_ok h) (exponent_not digits y u refl (λ f. cc) y_ok k) (cc)

  same_magnitude : (m n : Numeral) (t u : List ℕ) → IsNumeral m → IsNumeral n → Stops t → Stops u
      → magnitude_chars m t ≡ magnitude_chars n u
      → (m.whole ≡ n.whole) × (m.fraction ≡ n.fraction) × (m.exponent ≡ n.exponent) × (t ≡ u)
  same_magnitude m n t u ok ko h k e =
      let w = same_digits m.whole n.whole _ _ (are_digits m.whole (whole_digits m.whole ok.0))
      (are_digits n.whole (whole_digits n.whole ko.0)) (fraction_not m.fraction m.exponent t ok.2 h)
      (fraction_not n.fraction n.exponent u ko.2 k) e in
      let f = same_fraction m.fraction n.fraction m.exponent n.exponent t u ok.1 ko.1 ok.2 ko.2 h k w.1 in
      let x = same_exponent m.exponent n.exponent t u ok.2 ko.2 h k f.1 in
      (w.0, f.0, x.0, x.1)

  same_numeral_by : (a b : Bool) (m n : Numeral) (t u : List ℕ) → IsNumeral m → IsNumeral n → Stops t → Stops u
      → numeral_chars a m t ≡ numeral_chars b n u → (a ≡ b) × (magnitude_chars m t ≡ magnitude_chars n u)
  same_numeral_by true true m n t u ok ko h k e =
      (refl, let f : magnitude_chars m t ≡ magnitude_chars n u = cc in f)
  same_numeral_by false false m n t u ok ko h k e = (refl, e)
  same_numeral_by true false m n t u ok ko h k e =
      absurd (no_sign 45 n.whole _ _ no_minus (whole_digits n.whole ko.0) (sym e))
  same_numeral_by false true m n t u ok ko h k e =
      absurd (no_sign 45 m.whole _ _ no_minus (whole_digits m.whole ok.0) e)

  same_numeral : (m n : Numeral) (t u : List ℕ) → IsNumeral m → IsNumeral n → Stops t → Stops u
      → numeral_chars m.negative m t ≡ numeral_chars n.negative n u → (m ≡ n) × (t ≡ u)
  same_numeral m n t u ok ko h k e =
      let a = same_numeral_by m.negative n.negative m n t u ok ko h k e in
      let b = same_magnitude m n t u ok ko h k a.1 in
      (λ i. record { negative = a.0 i; whole = b.0 i; fraction = b.1 i; exponent = b.2 i }, b.3)

  -- ---- strings

  -- how a text goes on between two items: with the end, a simple escape, an escape of digits, or a character
  abbrev escape_shape : List ℕ → ℕ
  escape_shape [] = 4
  escape_shape (c ∷ cs) = cond (c == 117) 2 1

  abbrev shape : List ℕ → ℕ
  shape [] = 4
  shape (c ∷ cs) = cond (c == 34) 0 (cond (c == 92) (escape_shape cs) 3)

  abbrev items_shape : List Item → ℕ
  items_shape [] = 0
  items_shape (simple c ∷ is) = 1
  items_shape (single u ∷ is) = 2
  items_shape (double u v ∷ is) = 2
  items_shape (grammar.plain c ∷ is) = 3

  shaped : (is : List Item) (t : List ℕ) → AreItems is → shape (items_chars is (34 ∷ t)) ≡ items_shape is
  shaped (grammar.plain c ∷ is) t ok = let p = plain_parts c ok.0 in rw (p.0, p.1) refl
  shaped (simple c ∷ is) t ok = rw (simple_not_u c ok.0) refl
  shaped _ t ok = refl

  goes_on : (i : Item) (is : List Item) → items_shape (i ∷ is) ≡ 0 → ⊥
  goes_on (grammar.plain c) is e = omega (arith, e)
  goes_on _ is e = omega (arith, e)

  same_hex : (n : ℕ) (u v s t : List ℕ) → AreHex n u → AreHex n v → u ++ s ≡ v ++ t → (u ≡ v) × (s ≡ t)
  same_hex zero [] [] s t ok ko e = (refl, e)
  same_hex zero [] (d ∷ v) s t ok ko e = absurd ko
  same_hex zero (c ∷ u) v s t ok ko e = absurd ok
  same_hex (suc n) [] v s t ok ko e = absurd ok
  same_hex (suc n) (c ∷ u) [] s t ok ko e = absurd ko
  same_hex (suc n) (c ∷ u) (d ∷ v) s t ok ko e =
      let first : c ≡ d = cc in
      let g = same_hex n u v s t ok.1 ko.1 (cc) in
      (rw (first, g.0) refl, g.1)

  -- one escape isn't two: the first of two names a surrogate
  not_both : (u v : List ℕ) → u ≡ v → is_surrogate (code_unit u) ≡ false → IsTrue (is_surrogate (code_unit v)) → ⊥
  not_both u v e apart surrogate = let f : is_surrogate (code_unit u) ≡ is_surrogate (code_unit v) =
      ap (λ x. is_surrogate (code_unit x)) e in cc

  same_items : (is js : List Item) (t u : List ℕ) → AreItems is → AreItems js
      → items_chars is (34 ∷ t) ≡ items_chars js (34 ∷ u) → (is ≡ js) × (t ≡ u)
  same_items [] [] t u ok ko e = (refl, let f : t ≡ u = cc in f)
  same_items (grammar.plain c ∷ is) (grammar.plain d ∷ js) t u ok ko e =
      let first : c ≡ d = cc in
      let g = same_items is js t u ok.1 ko.1 (cc) in
      (rw (first, g.0) refl, g.1)
  same_items (simple c ∷ is) (simple d ∷ js) t u ok ko e =
      let first : c ≡ d = cc in
      let g = same_items is js t u ok.1 ko.1 (cc) in
      (rw (first, g.0) refl, g.1)
  same_items (single a ∷ is) (single b ∷ js) t u ok ko e =
      let rest : a ++ items_chars is (34 ∷ t) ≡ b ++ items_chars js (34 ∷ u) = cc in
      let f = same_hex 4 a b _ _ ok.0.0 ko.0.0 rest in
      let g = same_items is js t u ok.1 ko.1 f.1 in
      (rw (f.0, g.0) refl, g.1)
  same_items (double a b ∷ is) (double c d ∷ js) t u ok ko e =
      let rest : a ++ (92 ∷ 117 ∷ (b ++ items_chars is (34 ∷ t)))
      ≡ c ++ (92 ∷ 117 ∷ (d ++ items_chars js (34 ∷ u))) = cc in
      let f = same_hex 4 a c _ _ ok.0.0 ko.0.0 rest in
      let second : b ++ items_chars is (34 ∷ t) ≡ d ++ items_chars js (34 ∷ u) = (let x = f.1 in cc) in
      let s = same_hex 4 b d _ _ ok.0.2 ko.0.2 second in
      let g = same_items is js t u ok.1 ko.1 s.1 in
      (rw (f.0, s.0, g.0) refl, g.1)
  same_items (single a ∷ is) (double c d ∷ js) t u ok ko e =
      let rest : a ++ items_chars is (34 ∷ t) ≡ c ++ (92 ∷ 117 ∷ (d ++ items_chars js (34 ∷ u))) = cc in
      absurd (not_both a c (same_hex 4 a c _ _ ok.0.0 ko.0.0 rest).0 ok.0.1 ko.0.1)
  same_items (double a b ∷ is) (single c ∷ js) t u ok ko e =
      let rest : a ++ (92 ∷ 117 ∷ (b ++ items_chars is (34 ∷ t))) ≡ c ++ items_chars js (34 ∷ u) = cc in
      absurd (not_both c a (sym (same_hex 4 a c _ _ ok.0.0 ko.0.0 rest).0) ko.0.1 ok.0.1)
  same_items [] (j ∷ js) t u ok ko e = absurd (goes_on j js (sym (shaped (j ∷ js) u ko) ∙ ap shape (sym e)))
  same_items (i ∷ is) [] t u ok ko e = absurd (goes_on i is (sym (shaped (i ∷ is) t ok) ∙ ap shape e))
  same_items is js t u ok ko e = absurd (omega (arith, sym (shaped is t ok) ∙ ap shape e ∙ shaped js u ko))

  -- ---- values

  -- the class of a value's first character; a minus counts as a digit, and an `f` as a `t`
  abbrev merged : Class → Class
  merged minus_char = digits
  merged begins_false = begins_true
  merged k = k

  abbrev kind : Node → Class
  kind Node.null = begins_null
  kind (Node.boolean b) = begins_true
  kind (Node.number n) = digits
  kind (Node.string is) = quote
  kind (Node.empty_array b) = opens_array
  kind (Node.array b n c es) = opens_array
  kind (Node.empty_object b) = opens_object
  kind (Node.object key b n c ms) = opens_object

  abbrev first : List ℕ → Option Class
  first [] = None
  first (c ∷ cs) = Some (merged (class c))

  first_numeral : (negative : Bool) (ws t : List ℕ) (n : Numeral) (u : List ℕ) → n.whole ≡ ws → IsDigits ws
      → first (numeral_chars negative n u) ≡ Some digits
  first_numeral true ws t n u e ok = ap (λ k. Some (merged k)) (class-char r.strict minus_char)
  first_numeral false [] t n u e ok = absurd ok
  first_numeral false (d ∷ ws) t n u e ok =
      ap (λ z. first (z ++ fraction_chars n.fraction (exponent_chars n.exponent u))) e
      ∙ ap (λ k. Some (merged k)) (digits-class r.strict d ok.0)

  lead : (n : Node) (t : List ℕ) → IsNode r n → first (node_chars n t) ≡ Some (kind n)
  lead Node.null t ok = ap (λ k. Some (merged k)) (class-char r.strict begins_null)
  lead (Node.boolean true) t ok = ap (λ k. Some (merged k)) (class-char r.strict begins_true)
  lead (Node.boolean false) t ok = ap (λ k. Some (merged k)) (class-char r.strict begins_false)
  lead (Node.number n) t ok = first_numeral n.negative n.whole t n t refl (whole_digits n.whole ok.0)
  lead (Node.string is) t ok = ap (λ k. Some (merged k)) (class-char r.strict quote)
  lead (Node.empty_array b) t ok = ap (λ k. Some (merged k)) (class-char r.strict opens_array)
  lead (Node.array b n c es) t ok = ap (λ k. Some (merged k)) (class-char r.strict opens_array)
  lead (Node.empty_object b) t ok = ap (λ k. Some (merged k)) (class-char r.strict opens_object)
  lead (Node.object key b n c ms) t ok = ap (λ k. Some (merged k)) (class-char r.strict opens_object)

  -- neither whitespace nor the bracket that closes an array
  abbrev begins_value : Class → Bool
  begins_value whitespace = false
  begins_value closes_array = false
  begins_value _ = true

  kind_begins : (n : Node) → begins_value (kind n) ≡ true
  kind_begins Node.null = refl
  kind_begins _ = refl

  -- so a value begins with no character of these two classes
  not_value : (k : Class) (t : List ℕ) (n : Node) → begins_value (merged k) ≡ false → first t ≡ Some (kind n) → Not k t
  not_value k [] n apart e = tt
  not_value k (c ∷ cs) n apart e = λ f.
      let g : merged (class c) ≡ kind n = cc in
      let h : begins_value (kind n) ≡ false = ap begins_value (sym g) ∙ ap (λ x. begins_value (merged x)) f ∙ apart in
      let i = kind_begins n in cc

  no_blank : (n : Node) (t : List ℕ) → IsNode r n → Not whitespace (node_chars n t)
  no_blank n t ok = not_value whitespace (node_chars n t) n refl (lead n t ok)

  token_blank : (k : Class) → (k ≡ whitespace → ⊥) → class (char_of k) ≡ whitespace → ⊥
  token_blank k apart f = apart (sym (class-char r.strict k) ∙ f)

  elements_blank : (es : Elements) (t : List ℕ) → Not whitespace (elements_chars es t)
  elements_blank no_elements t = token_blank closes_array (λ e. cc)
  elements_blank (element b n c es) t = token_blank comma (λ e. cc)

  members_blank : (ms : Members) (t : List ℕ) → Not whitespace (members_chars ms t)
  members_blank no_members t = token_blank closes_object (λ e. cc)
  members_blank (member key b n c ms) t = token_blank comma (λ e. cc)

  elements_stop : (c : List ℕ) (es : Elements) (t : List ℕ) → IsWhitespace r c → Stops (c ++ elements_chars es t)
  elements_stop c no_elements t ok = stops_blanks c _ ok (ap stops (class-char r.strict closes_array))
  elements_stop c (element b n d es) t ok = stops_blanks c _ ok (ap stops (class-char r.strict comma))

  members_stop : (c : List ℕ) (ms : Members) (t : List ℕ) → IsWhitespace r c → Stops (c ++ members_chars ms t)
  members_stop c no_members t ok = stops_blanks c _ ok (ap stops (class-char r.strict closes_object))
  members_stop c (member key b n d ms) t ok = stops_blanks c _ ok (ap stops (class-char r.strict comma))

  same_key : (k l : Key) (t u : List ℕ) → IsKey r k → IsKey r l → key_chars k t ≡ key_chars l u → (k ≡ l) × (t ≡ u)
  same_key k l t u ok ko e =
      let a = same_blanks k.before l.before _ _ ok.0 ko.0 (token_blank quote (λ f. cc))
      (token_blank quote (λ f. cc)) e in
      let rest : items_chars k.items (34 ∷ (k.after ++ (58 ∷ t))) ≡ items_chars l.items (34 ∷ (l.after ++ (58 ∷ u))) =
      (let x = a.1 in cc) in
      let i = same_items k.items l.items (k.after ++ (58 ∷ t)) (l.after ++ (58 ∷ u)) ok.1 ko.1 rest in
      let z = same_blanks k.after l.after _ _ ok.2 ko.2 (token_blank colon (λ f. cc))
      (token_blank colon (λ f. cc)) i.1 in
      (λ j. record { before = a.0 j; items = i.0 j; after = z.0 j }, let x = z.1 in let f : t ≡ u = cc in f)

  -- an empty container isn't one with elements or members
  no_empty_array : (b c t u : List ℕ) (n : Node) → IsWhitespace r b → IsWhitespace r c → IsNode r n
      → b ++ (93 ∷ t) ≡ c ++ node_chars n u → ⊥
  no_empty_array b c t u n ok ko n_ok e =
      let a = same_blanks b c _ _ ok ko (token_blank closes_array (λ f. cc))
      (no_blank n u n_ok) e in
      begins closes_array (node_chars n u) t 93 (not_value closes_array _ n refl (lead n u n_ok)) (sym a.1)
      (class-char r.strict closes_array)

  no_empty_object : (b t u : List ℕ) (key : Key) → IsWhitespace r b → IsKey r key → b ++ (125 ∷ t) ≡ key_chars key u → ⊥
  no_empty_object b t u key ok ko e =
      let a = same_blanks b key.before _ _ ok ko.0 (token_blank closes_object (λ f. cc))
      (token_blank quote (λ f. cc)) e in
      omega (arith, heads 125 34 _ _ a.1)

  mutual
    same_node : (m n : Node) (t u : List ℕ) → IsNode r m → IsNode r n → Stops t → Stops u
        → node_chars m t ≡ node_chars n u → (m ≡ n) × (t ≡ u)
    same_node Node.null Node.null t u ok ko h k e = (refl, let f : t ≡ u = cc in f)
    same_node (Node.boolean true) (Node.boolean true) t u ok ko h k e = (refl, let f : t ≡ u = cc in f)
    same_node (Node.boolean false) (Node.boolean false) t u ok ko h k e = (refl, let f : t ≡ u = cc in f)
    same_node (Node.boolean true) (Node.boolean false) t u ok ko h k e = absurd (omega (arith, heads 116 102 _ _ e))
    same_node (Node.boolean false) (Node.boolean true) t u ok ko h k e = absurd (omega (arith, heads 102 116 _ _ e))
    same_node (Node.number m) (Node.number n) t u ok ko h k e =
        let g = same_numeral m n t u ok ko h k e in (ap Node.number g.0, g.1)
    same_node (Node.string is) (Node.string js) t u ok ko h k e =
        let g = same_items is js t u ok ko (cc) in (ap Node.string g.0, g.1)
    same_node (Node.empty_array b) (Node.empty_array c) t u ok ko h k e =
        let g = same_blanks b c (93 ∷ t) (93 ∷ u) ok ko (elements_blank no_elements t) (elements_blank no_elements u)
        (cc) in
        (ap Node.empty_array g.0, let x = g.1 in let f : t ≡ u = cc in f)
    same_node (Node.empty_object b) (Node.empty_object c) t u ok ko h k e =
        let g = same_blanks b c (125 ∷ t) (125 ∷ u) ok ko (members_blank no_members t) (members_blank no_members u)
        (cc) in
        (ap Node.empty_object g.0, let x = g.1 in let f : t ≡ u = cc in f)
    same_node (Node.array b m c es) (Node.array b' n c' fs) t u ok ko h k e =
        let rest : b ++ node_chars m (c ++ elements_chars es t) ≡ b' ++ node_chars n (c' ++ elements_chars fs u) = cc in
        let a = same_blanks b b' _ _ ok.0 ko.0 (no_blank m _ ok.1) (no_blank n _ ko.1) rest in
        let g = same_node m n _ _ ok.1 ko.1 (elements_stop c es t ok.2) (elements_stop c' fs u ko.2) a.1 in
        let z = same_blanks c c' _ _ ok.2 ko.2 (elements_blank es t) (elements_blank fs u) g.1 in
        let s = same_elements es fs t u ok.3 ko.3 z.1 in
        (rw (a.0, g.0, z.0, s.0) refl, s.1)
    same_node (Node.object key b m c ms) (Node.object key' b' n c' ns) t u ok ko h k e =
        let rest : key_chars key (b ++ node_chars m (c ++ members_chars ms t))
        ≡ key_chars key' (b' ++ node_chars n (c' ++ members_chars ns u)) = cc in
        let y = same_key key key' _ _ ok.0 ko.0 rest in
        let a = same_blanks b b' _ _ ok.1 ko.1 (no_blank m _ ok.2) (no_blank n _ ko.2) y.1 in
        let g = same_node m n _ _ ok.2 ko.2 (members_stop c ms t ok.3) (members_stop c' ns u ko.3) a.1 in
        let z = same_blanks c c' _ _ ok.3 ko.3 (members_blank ms t) (members_blank ns u) g.1 in
        let s = same_members ms ns t u ok.4 ko.4 z.1 in
        (rw (y.0, a.0, g.0, z.0, s.0) refl, s.1)
    same_node (Node.empty_array b) (Node.array c n d es) t u ok ko h k e =
        absurd (no_empty_array b c t (d ++ elements_chars es u) n ok ko.0 ko.1 (cc))
    same_node (Node.array c n d es) (Node.empty_array b) t u ok ko h k e =
        absurd (no_empty_array b c u (d ++ elements_chars es t) n ko ok.0 ok.1 (cc))
    same_node (Node.empty_object b) (Node.object key c n d ms) t u ok ko h k e =
        absurd (no_empty_object b t (c ++ node_chars n (d ++ members_chars ms u)) key ok ko.0 (cc))
    same_node (Node.object key c n d ms) (Node.empty_object b) t u ok ko h k e =
        absurd (no_empty_object b u (c ++ node_chars n (d ++ members_chars ms t)) key ko ok.0 (cc))
    same_node m n t u ok ko h k e =
        absurd (let f : Some (kind m) ≡ Some (kind n) = sym (lead m t ok) ∙ ap first e ∙ lead n u ko in cc)

    same_elements : (es fs : Elements) (t u : List ℕ) → AreElements r es → AreElements r fs
        → elements_chars es t ≡ elements_chars fs u → (es ≡ fs) × (t ≡ u)
    same_elements no_elements no_elements t u ok ko e = (refl, let f : t ≡ u = cc in f)
    same_elements (element b m c es) (element b' n c' fs) t u ok ko e =
        let rest : b ++ node_chars m (c ++ elements_chars es t) ≡ b' ++ node_chars n (c' ++ elements_chars fs u) = cc in
        let a = same_blanks b b' _ _ ok.0 ko.0 (no_blank m _ ok.1) (no_blank n _ ko.1) rest in
        let g = same_node m n _ _ ok.1 ko.1 (elements_stop c es t ok.2) (elements_stop c' fs u ko.2) a.1 in
        let z = same_blanks c c' _ _ ok.2 ko.2 (elements_blank es t) (elements_blank fs u) g.1 in
        let s = same_elements es fs t u ok.3 ko.3 z.1 in
        (rw (a.0, g.0, z.0, s.0) refl, s.1)
    same_elements no_elements (element b n c fs) t u ok ko e = absurd (omega (arith, heads 93 44 _ _ e))
    same_elements (element b n c es) no_elements t u ok ko e = absurd (omega (arith, heads 44 93 _ _ e))

    same_members : (ms ns : Members) (t u : List ℕ) → AreMembers r ms → AreMembers r ns
        → members_chars ms t ≡ members_chars ns u → (ms ≡ ns) × (t ≡ u)
    same_members no_members no_members t u ok ko e = (refl, let f : t ≡ u = cc in f)
    same_members (member key b m c ms) (member key' b' n c' ns) t u ok ko e =
        let rest : key_chars key (b ++ node_chars m (c ++ members_chars ms t))
        ≡ key_chars key' (b' ++ node_chars n (c' ++ members_chars ns u)) = cc in
        let y = same_key key key' _ _ ok.0 ko.0 rest in
        let a = same_blanks b b' _ _ ok.1 ko.1 (no_blank m _ ok.2) (no_blank n _ ko.2) y.1 in
        let g = same_node m n _ _ ok.2 ko.2 (members_stop c ms t ok.3) (members_stop c' ns u ko.3) a.1 in
        let z = same_blanks c c' _ _ ok.3 ko.3 (members_blank ms t) (members_blank ns u) g.1 in
        let s = same_members ms ns t u ok.4 ko.4 z.1 in
        (rw (y.0, a.0, g.0, z.0, s.0) refl, s.1)
    same_members no_members (member key b n c ns) t u ok ko e = absurd (omega (arith, heads 125 44 _ _ e))
    same_members (member key b n c ms) no_members t u ok ko e = absurd (omega (arith, heads 44 125 _ _ e))

  after_stops : (w : List ℕ) → IsWhitespace r w → Stops w
  after_stops w ok = subst Stops (append-nil w) (stops_blanks w [] ok tt)

  same_document : (d e : Document) → IsDocument r d → IsDocument r e → document_chars d ≡ document_chars e → d ≡ e
  same_document d e ok ko h =
      let a = same_blanks d.before e.before _ _ ok.0 ko.0 (no_blank d.node _ ok.1) (no_blank e.node _ ko.1) h in
      let g = same_node d.node e.node d.after e.after ok.1 ko.1 (after_stops d.after ok.2) (after_stops e.after ko.2)
      a.1 in λ i. record { before = a.0 i; node = g.0 i; after = g.1 i }

pub same_tree : (r : Reading) (t : List ℕ) (d e : Document) → Spells r t d → Spells r t e → d ≡ e
same_tree r t d e h k = same_document r d e h.0 k.0 (sym (spells r d) ∙ h.1 ∙ sym k.1 ∙ spells r e)
