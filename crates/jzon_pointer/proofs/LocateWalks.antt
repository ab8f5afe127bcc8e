-- The steps of the walk of src/locate.rt, each from what stands in the text to what the walk comes to.
use Rattle.jzon_base.proofs.Common.{◌≡◌, ◌≢◌, ◌∙◌, ◌<◌, ◌≤◌, ◌+◌, ℕ, zero, suc, List, [], ◌∷◌, ◌++◌, Bool, true, false}
use Rattle.jzon_base.proofs.Common.{refl, sym, ap, subst, arith, nat_tests, drop, get_or, encode_utf8_all, encode_ascii}
use Rattle.jzon_base.proofs.Common.{Option, Some, None}
use Rattle.std.specs.Prelude.{option_and_then}
use Rattle.std.specs.Option.{MatchOption}
use Rattle.std.specs.Str.{IsCharBoundary}
use Rattle.std.proofs.lemmas.Str.{IsCharBoundary-before_ascii}
use Rattle.jzon.specs.Reading.{Reading}
use Rattle.jzon.specs.Grammar.{Node, Elements, no_elements, element, Members, IsNode, IsWhitespace}
use Rattle.jzon.specs.Grammar.{AreElements}
use Rattle.jzon.specs.Spelling.{Breach, Cell, plain, deep_if, node_cells, elements_cells}
use Rattle.jzon_pointer.specs.Locate.{Named, value_text, unnamed, element_named}
use Rattle.jzon_pointer.specs.Private.Walk.{after_whitespace, is_blank, skim, From}
use Rattle.jzon_pointer.specs.Locate.{child_named, named_in, node_text, elements_text, members_text}
use Rattle.jzon_pointer.specs.Private.Walk.{IsSpotOf, Stands, Goes}
use Rattle.jzon_pointer.specs.Private.Walk.{Comes, EndsAfter, Finds, AreWithin, IsElement, ReadsElement, AreClear}
use Rattle.jzon_pointer.specs.declared.locate.Passed.{Passed}
use Rattle.jzon_pointer.specs.declared.locate.Spot.{Spot}
use Rattle.jzon_pointer.specs.Private.Walk.{Outside}
use Rattle.jzon_pointer.proofs.LocateSteps.{pass_node, pass_elements, skim_element, skim_member}
use Rattle.jzon_pointer.proofs.LocateBytes.{skim_bytes, blanks_end}
use Rattle.jzon.proofs.ReadBack.UnmarkedCells.{plain_rest}
use Rattle.jzon_pointer.proofs.LocateClear.{after_node, array_within, object_within}
use Rattle.jzon_pointer.proofs.LocateTexts.{Begins, Opened, is_array, opened, starts, begins, one_char, first_byte, small_start, node_text_is, elements_text_is}
use Rattle.jzon_pointer.proofs.LocateTexts.{members_text_is, text_empty_array, text_array}
use Rattle.jzon_pointer.proofs.LocateTexts.{text_element, text_no_elements, text_object}

pub match_map : {X A B : Type 0} {P Q : X → Type 0} (o : Option X) → (A → B) → ((x : X) → P x → Q x)
    → MatchOption o A P → MatchOption o B Q
match_map None f g h = f h
match_map (Some x) f g h = g x h

-- ---- where values end

pub node_ends : (r : Reading) (n : Node) (k : List ℕ) → IsNode r n
    → skim (Outside zero) (encode_utf8_all (node_text n k)) ≡ skim (Outside zero) (encode_utf8_all k)
node_ends r n k h =
    skim_bytes (node_text n k) (Outside zero)
    ∙ ap encode_utf8_all (ap (skim (Outside zero)) (node_text_is n k) ∙ pass_node r n zero k h)
    ∙ sym (skim_bytes k (Outside zero))

pub elements_end : (r : Reading) (es : Elements) (k : List ℕ) → AreElements r es
    → skim (Outside 1) (encode_utf8_all (elements_text es k)) ≡ skim (Outside zero) (encode_utf8_all k)
elements_end r es k h =
    skim_bytes (elements_text es k) (Outside 1)
    ∙ ap encode_utf8_all (ap (skim (Outside 1)) (elements_text_is es k) ∙ pass_elements r es zero k h)
    ∙ sym (skim_bytes k (Outside zero))

-- from after the bracket of an array or an object
array_end : (r : Reading) (n : Node) (k rest : List ℕ) → IsNode r n → node_text n k ≡ 91 ∷ rest
    → skim (Outside 1) (encode_utf8_all rest) ≡ skim (Outside zero) (encode_utf8_all k)
array_end r n k rest h e =
    let f : encode_utf8_all (node_text n k) ≡ 91 ∷ encode_utf8_all rest =
    ap encode_utf8_all e ∙ ap (λ z. z ++ encode_utf8_all rest) (encode_ascii 91 (omega arith)) in
    sym (ap (skim (Outside zero)) f) ∙ node_ends r n k h

object_end : (r : Reading) (n : Node) (k rest : List ℕ) → IsNode r n → node_text n k ≡ 123 ∷ rest
    → skim (Outside 1) (encode_utf8_all rest) ≡ skim (Outside zero) (encode_utf8_all k)
object_end r n k rest h e =
    let f : encode_utf8_all (node_text n k) ≡ 123 ∷ encode_utf8_all rest =
    ap encode_utf8_all e ∙ ap (λ z. z ++ encode_utf8_all rest) (encode_ascii 123 (omega arith)) in
    sym (ap (skim (Outside zero)) f) ∙ node_ends r n k h

-- the value of an element or of an entry, up to the comma or the bracket after it
pub after_element : (r : Reading) (c : List ℕ) (es : Elements) (k : List ℕ) → IsWhitespace r c
    → skim (Outside zero) (encode_utf8_all (c ++ elements_text es k)) ≡ encode_utf8_all (elements_text es k)
after_element r c es k w =
    skim_bytes (c ++ elements_text es k) (Outside zero)
    ∙ ap encode_utf8_all (ap (λ z. skim (Outside zero) (c ++ z)) (elements_text_is es k)
    ∙ skim_element r Node.null c es k tt w ∙ sym (elements_text_is es k))

pub after_member : (r : Reading) (c : List ℕ) (ms : Members) (k : List ℕ) → IsWhitespace r c
    → skim (Outside zero) (encode_utf8_all (c ++ members_text ms k)) ≡ encode_utf8_all (members_text ms k)
after_member r c ms k w =
    skim_bytes (c ++ members_text ms k) (Outside zero)
    ∙ ap encode_utf8_all (ap (λ z. skim (Outside zero) (c ++ z)) (members_text_is ms k)
    ∙ skim_member r Node.null c ms k tt w ∙ sym (members_text_is ms k))

-- ---- whitespace

no_blank : (c : ℕ) → starts c ≡ true → (c < 128) × (is_blank c ≡ false)
no_blank c h = (grind (arith, nat_tests), grind (arith, nat_tests))

-- whitespace before a text that begins a value
pub blanks_before : (r : Reading) (w cs : List ℕ) → IsWhitespace r w → Begins cs
    → after_whitespace (encode_utf8_all (w ++ cs)) ≡ encode_utf8_all cs
blanks_before r w cs h b =
    let ok = no_blank b.first b.ok in
    ap (λ z. after_whitespace (encode_utf8_all (w ++ z))) b.is
    ∙ blanks_end r.strict w b.first b.rest h ok.0 ok.1 ∙ ap encode_utf8_all (sym b.is)

-- and before one character
pub blanks_char : (r : Reading) (w : List ℕ) (c : ℕ) (cs : List ℕ) → IsWhitespace r w → c < 128
    → is_blank c ≡ false → after_whitespace (encode_utf8_all (w ++ c ∷ cs)) ≡ encode_utf8_all (c ∷ cs)
blanks_char r w c cs h small other = blanks_end r.strict w c cs h small other

-- ---- primitives, and values that are too deep

pub byte_of : (bytes : List ℕ) (at c d : ℕ) (cs k : List ℕ) → c < 128 → From bytes at cs → cs ≡ c ∷ k → get_or bytes at 0 ≢ c → ⊥
byte_of bytes at c d cs k small h e other = other (one_char bytes at c k small (h ∙ ap encode_utf8_all e)).byte

pub no_children : (t bytes : List ℕ) (at : ℕ) (n : Node) (k : List ℕ) → From bytes at (node_text n k)
    → get_or bytes at 0 ≢ 91 → get_or bytes at 0 ≢ 123 → child_named t n k ≡ None
no_children t bytes at Node.null k h a o = refl
no_children t bytes at (Node.boolean b) k h a o = refl
no_children t bytes at (Node.number n) k h a o = refl
no_children t bytes at (Node.string is) k h a o = refl
no_children t bytes at (Node.empty_array b) k h a o = refl
no_children t bytes at (Node.empty_object b) k h a o = refl
no_children t bytes at (Node.array b n c es) k h a o =
    absurd (byte_of bytes at 91 0 _ _ (omega arith) h (text_array b n c es k) a)
no_children t bytes at (Node.object key b n c ms) k h a o =
    absurd (byte_of bytes at 123 0 _ _ (omega arith) h (text_object key b n c ms k) o)

pub too_deep : (r : Reading) (t : List ℕ) (depth : ℕ) (n : Node) (k : List ℕ) (m : Option Breach) (z : List Cell)
    → IsNode r n → AreClear (node_cells r n depth m z) → r.depth ≤ depth → child_named t n k ≡ None
too_deep r t depth Node.null k m z g h le = refl
too_deep r t depth (Node.boolean b) k m z g h le = refl
too_deep r t depth (Node.number n) k m z g h le = refl
too_deep r t depth (Node.string is) k m z g h le = refl
too_deep r t depth (Node.empty_array b) k m z g h le = refl
too_deep r t depth (Node.empty_object b) k m z g h le = refl
too_deep r t depth (Node.array b n c es) k m z g h le =
    absurd (omega (arith, array_within r b n c es depth m z g.1 h))
too_deep r t depth (Node.object key b n c ms) k m z g h le =
    absurd (omega (arith, object_within r key b n c ms depth m z h))

-- ---- what a walk comes to

pub ends_by : (bytes : List ℕ) (unique : Bool) (start d : ℕ) (o : Option ℕ) (xs : List ℕ) → EndsAfter bytes unique start d o
    → skim (Outside d) (drop start bytes) ≡ xs → MatchOption o (unique ≡ true) (λ e. drop e bytes ≡ xs)
ends_by bytes unique start d o xs h e = match_map o (λ a. a) (λ x p. p.2 ∙ e) h

pub spot_none : (bytes : List ℕ) (f : Option Spot) (o : Option Named) → f ≡ None → o ≡ None → IsSpotOf bytes f o
spot_none bytes None None e g = tt
spot_none bytes None (Some p) e g = absurd (cc)
spot_none bytes (Some s) None e g = absurd (cc)
spot_none bytes (Some s) (Some p) e g = absurd (cc)

spot_some : (bytes : List ℕ) (f : Option Spot) (s : Spot) (o : Option Named) (p : Named) → f ≡ Some s → o ≡ Some p
    → From bytes s.value (value_text p) × From bytes s.name p.from × IsCharBoundary bytes s.value × IsCharBoundary bytes s.name
    → IsSpotOf bytes f o
spot_some bytes f s o p e g h =
    subst (λ (x : Option Spot). IsSpotOf bytes x o) (sym e) (subst (λ (x : Option Named). IsSpotOf bytes (Some s) x) (sym g) h)

-- where a value's text stands, a character begins
pub value_start : (r : Reading) (bytes : List ℕ) (at : ℕ) (n : Node) (k : List ℕ) → IsNode r n
    → From bytes at (node_text n k) → IsCharBoundary bytes at
value_start r bytes at n k g h =
    let b = begins r n k g in
    let s = first_byte bytes at (node_text n k) h b in
    IsCharBoundary-before_ascii bytes at s.within (rw s.byte (small_start b.first b.ok))

-- the tokens are at their end
pub comes_whole : (r : Reading) (bytes : List ℕ) (unique : Bool) (depth : ℕ) (ts : List (List ℕ)) (s : Spot) (p : Named)
    (w : Passed) → ts ≡ [] → Stands r bytes depth s p → w.found ≡ Some s → EndsAfter bytes unique s.value zero w.end
    → Comes bytes unique p.after (named_in ts p) w
comes_whole r bytes unique depth ts s p w none at f e =
    let g : named_in ts p ≡ Some p = ap (λ us. named_in us p) none in
    let start = value_start r bytes s.value p.node p.after at.grammar at.value in (
      spot_some bytes w.found s (named_in ts p) p f g (at.value, at.name, start, at.start),
      ends_by bytes unique s.value zero w.end _ e (ap (skim (Outside zero)) at.value ∙ node_ends r p.node p.after at.grammar),
    )

-- no child is named
pub comes_none : (r : Reading) (bytes : List ℕ) (unique : Bool) (depth : ℕ) (ts us : List (List ℕ)) (t : List ℕ) (s : Spot)
    (p : Named) (w : Passed) → ts ≡ t ∷ us → child_named t p.node p.after ≡ None → Stands r bytes depth s p
    → w.found ≡ None → EndsAfter bytes unique s.value zero w.end → Comes bytes unique p.after (named_in ts p) w
comes_none r bytes unique depth ts us t s p w more none at f e =
    let g : named_in ts p ≡ None = ap (λ vs. named_in vs p) more ∙ ap (option_and_then (named_in us)) none in (
      spot_none bytes w.found (named_in ts p) f g,
      ends_by bytes unique s.value zero w.end _ e (ap (skim (Outside zero)) at.value ∙ node_ends r p.node p.after at.grammar),
    )

start_byte : (x c : ℕ) → x ≡ c → starts c ≡ true → (x ≢ 0) × (x ≢ 93)
start_byte x c e h = (λ f. grind (arith, nat_tests), λ f. grind (arith, nat_tests))

-- ---- arrays

-- from after the bracket of a value that begins with one
pub inside_array : (r : Reading) (bytes : List ℕ) (at : ℕ) (n : Node) (k : List ℕ) → IsNode r n → Opened bytes at n k 91
    → skim (Outside 1) (drop (at + 1) bytes) ≡ skim (Outside zero) (encode_utf8_all k)
inside_array r bytes at n k g o = ap (skim (Outside 1)) o.next ∙ array_end r n k o.rest g o.is

pub inside_object : (r : Reading) (bytes : List ℕ) (at : ℕ) (n : Node) (k : List ℕ) → IsNode r n → Opened bytes at n k 123
    → skim (Outside 1) (drop (at + 1) bytes) ≡ skim (Outside zero) (encode_utf8_all k)
inside_object r bytes at n k g o = ap (skim (Outside 1)) o.next ∙ object_end r n k o.rest g o.is

-- the text after an array's bracket
array_text : (bytes : List ℕ) (at : ℕ) (cs k rest : List ℕ) → From bytes at cs → cs ≡ 91 ∷ rest → From bytes (at + 1) rest
array_text bytes at cs k rest h e = (one_char bytes at 91 rest (omega arith) (h ∙ ap encode_utf8_all e)).next

-- what is read of the array gives what the token names in it
pub element_child : (r : Reading) (bytes : List ℕ) (depth at : ℕ) (t : List ℕ) (n : Node) (k : List ℕ) (o : Option ℕ)
    (m : Option Breach) (z : List Cell) → IsNode r n → AreClear (node_cells r n depth m z) → From bytes at (node_text n k)
    → is_array n ≡ true → ReadsElement bytes (at + 1) t o
    → MatchOption o (child_named t n k ≡ None) (IsElement r bytes depth k (child_named t n k))
element_child r bytes depth at t (Node.array b n c es) k o m z g clear h is reads =
    reads.0 r depth b n c es k g.0 (record { grammar = (g.1, g.2, g.3); clear = (deep_if r depth, z, plain_rest b _ clear.1) })
    (array_text bytes at _ k _ h (text_array b n c es k))
element_child r bytes depth at t (Node.empty_array b) k o m z g clear h is reads =
    let none = reads.1 r b k g (array_text bytes at _ k _ h (text_empty_array b k)) in
    subst (λ (x : Option ℕ). MatchOption x (◌≡◌ {A = Option Named} None None) (IsElement r bytes depth k None)) (sym none) refl
element_child r bytes depth at t n k o m z g clear h is reads = absurd (cc)

-- where no element is named
pub comes_no_element : (r : Reading) (bytes : List ℕ) (unique : Bool) (depth : ℕ) (ts us : List (List ℕ)) (t : List ℕ)
    (s : Spot) (p : Named) (w : Passed) → ts ≡ t ∷ us → Stands r bytes depth s p → get_or bytes s.value 0 ≡ 91
    → ReadsElement bytes (s.value + 1) t None → w.found ≡ None → EndsAfter bytes unique (s.value + 1) 1 w.end
    → Comes bytes unique p.after (named_in ts p) w
comes_no_element r bytes unique depth ts us t s p w more at byte reads f e =
    let open_ = opened r bytes s.value p.node p.after 91 at.grammar at.value byte in
    let none = element_child r bytes depth s.value t p.node p.after None at.clear.0 at.clear.1 at.grammar at.clear.2 at.value
    (open_.opens.0 refl) reads in
    let g : named_in ts p ≡ None = ap (λ vs. named_in vs p) more ∙ ap (option_and_then (named_in us)) none in (
      spot_none bytes w.found (named_in ts p) f g,
      ends_by bytes unique (s.value + 1) 1 w.end _ e (inside_array r bytes s.value p.node p.after at.grammar open_),
    )

-- the end of an array, from that of one of its elements
ends_beyond : (bytes : List ℕ) (unique : Bool) (v w : Option ℕ) (xs ys : List ℕ) → MatchOption v (unique ≡ true) (λ e. drop e bytes ≡ xs)
    → MatchOption v (w ≡ None) (λ e. EndsAfter bytes unique e 1 w) → skim (Outside 1) xs ≡ ys
    → MatchOption w (unique ≡ true) (λ e. drop e bytes ≡ ys)
ends_beyond bytes unique None w xs ys h g e =
    subst (λ (x : Option ℕ). MatchOption x (unique ≡ true) (λ a. drop a bytes ≡ ys)) (sym g) h
ends_beyond bytes unique (Some v) w xs ys h g e = ends_by bytes unique v 1 w ys g (ap (skim (Outside 1)) h ∙ e)

pub comes_element : (r : Reading) (bytes : List ℕ) (unique : Bool) (most depth : ℕ) (ts us : List (List ℕ)) (t : List ℕ)
    (s : Spot) (p : Named) (at : ℕ) (v w : Passed) → ts ≡ t ∷ us → Goes unique most r → Stands r bytes depth s p
    → get_or bytes s.value 0 ≡ 91 → ReadsElement bytes (s.value + 1) t (Some at)
    → Finds bytes unique most us (suc depth) (record { name = at; value = at }) v → w.found ≡ v.found
    → MatchOption v.end (w.end ≡ None) (λ e. EndsAfter bytes unique e 1 w.end)
    → Comes bytes unique p.after (named_in ts p) w
comes_element r bytes unique most depth ts us t s p at v w more goes here byte reads finds f e =
    let open_ = opened r bytes s.value p.node p.after 91 here.grammar here.value byte in
    let x = element_child r bytes depth s.value t p.node p.after (Some at) here.clear.0 here.clear.1 here.grammar here.clear.2
    here.value (open_.opens.0 refl) reads in
    let q = unnamed x.node (x.blanks ++ elements_text x.others p.after) in
    let inner = finds r q goes (record {
      grammar = x.within.grammar.0;
      clear = (x.within.clear.0, plain x.blanks (elements_cells r x.others (suc depth) x.within.clear.1), x.within.clear.2);
      value = x.text;
      name = x.text;
      start = value_start r bytes at x.node _ x.within.grammar.0 x.text;
    }) in
    let g : named_in ts p ≡ named_in us q =
    ap (λ vs. named_in vs p) more ∙ ap (option_and_then (named_in us)) x.named in (
      subst (λ (y : Option Spot). IsSpotOf bytes y (named_in ts p)) (sym f)
          (subst (λ (y : Option Named). IsSpotOf bytes v.found y) (sym g) inner.0),
      ends_beyond bytes unique v.end w.end _ _ inner.1 e
          (ap (skim (Outside 1)) (after_element r x.blanks x.others p.after x.within.grammar.1)
          ∙ elements_end r x.others p.after x.within.grammar.2),
    )

-- ---- the elements of an array, one after the other

-- the element that stands at an offset, and how many are left to pass to the one that is named
pub record Passing (r : Reading) (bytes : List ℕ) (depth : ℕ) (k : List ℕ) (o : Option Named) (left at : ℕ) : Type 0 where
  pub node : Node
  pub blanks : List ℕ
  pub others : Elements
  pub within : AreWithin r depth node blanks others
  pub text : From bytes at (node_text node (blanks ++ elements_text others k))
  pub named : o ≡ element_named node blanks others k left

pub passing_start : (r : Reading) (bytes : List ℕ) (depth start at : ℕ) (b : List ℕ) (n : Node) (c : List ℕ) (es : Elements)
    (k : List ℕ) (index : ℕ) → IsWhitespace r b → AreWithin r depth n c es
    → From bytes start (b ++ node_text n (c ++ elements_text es k)) → drop at bytes ≡ after_whitespace (drop start bytes)
    → Passing r bytes depth k (element_named n c es k index) index at
passing_start r bytes depth start at b n c es k index w within h e = record {
  node = n;
  blanks = c;
  others = es;
  within = within;
  text = e ∙ ap after_whitespace h
      ∙ blanks_before r b (node_text n (c ++ elements_text es k)) w (begins r n (c ++ elements_text es k) within.grammar.0);
  named = refl;
}

-- from an element to the comma or the bracket after it
passing_text : (r : Reading) (bytes : List ℕ) (at comma : ℕ) (n : Node) (c : List ℕ) (es : Elements) (k : List ℕ)
    → IsNode r n → IsWhitespace r c → From bytes at (node_text n (c ++ elements_text es k))
    → drop comma bytes ≡ skim (Outside zero) (drop at bytes) → From bytes comma (elements_text es k)
passing_text r bytes at comma n c es k g w h e =
    e ∙ ap (skim (Outside zero)) h ∙ node_ends r n (c ++ elements_text es k) g ∙ after_element r c es k w

-- no comma: the element was the last
last_element : (bytes : List ℕ) (comma : ℕ) (n : Node) (c : List ℕ) (es : Elements) (k : List ℕ) (left : ℕ)
    → From bytes comma (elements_text es k) → get_or bytes comma 0 ≢ 44 → element_named n c es k (suc left) ≡ None
last_element bytes comma n c no_elements k left h other = refl
last_element bytes comma n c (element b m d es) k left h other =
    absurd (byte_of bytes comma 44 0 _ _ (omega arith) h (text_element b m d es k) other)

pub passing_end : (r : Reading) (bytes : List ℕ) (depth : ℕ) (k : List ℕ) (o : Option Named) (left at comma : ℕ)
    → Passing r bytes depth k o (suc left) at → drop comma bytes ≡ skim (Outside zero) (drop at bytes)
    → get_or bytes comma 0 ≢ 44 → o ≡ None
passing_end r bytes depth k o left at comma p e other =
    p.named ∙ last_element bytes comma p.node p.blanks p.others k left
    (passing_text r bytes at comma p.node p.blanks p.others k p.within.grammar.0 p.within.grammar.1 p.text e) other

next_element : (r : Reading) (bytes : List ℕ) (depth : ℕ) (k : List ℕ) (o : Option Named) (left comma at : ℕ) (n : Node)
    (c : List ℕ) (es : Elements) → AreWithin r depth n c es → o ≡ element_named n c es k (suc left)
    → From bytes comma (elements_text es k) → get_or bytes comma 0 ≡ 44
    → drop at bytes ≡ after_whitespace (drop (comma + 1) bytes) → Passing r bytes depth k o left at
next_element r bytes depth k o left comma at n c no_elements within is h byte e =
    let b = one_char bytes comma 93 k (omega arith) (h ∙ ap encode_utf8_all (text_no_elements k)) in
    absurd (omega (arith, b.byte, byte))
next_element r bytes depth k o left comma at n c (element b m d es) within is h byte e =
    let next = one_char bytes comma 44 _ (omega arith) (h ∙ ap encode_utf8_all (text_element b m d es k)) in
    let g = within.grammar.2 in record {
      node = m;
      blanks = d;
      others = es;
      within = record {
        grammar = (g.1, g.2, g.3);
        clear = (None, within.clear.1, plain_rest b _ (plain_rest c _ (after_node r n (suc depth) within.clear.0 _ within.grammar.0 within.clear.2)).1);
      };
      text = e ∙ ap after_whitespace next.next
          ∙ blanks_before r b (node_text m (d ++ elements_text es k)) g.0 (begins r m (d ++ elements_text es k) g.1);
      named = is;
    }

pub passing_next : (r : Reading) (bytes : List ℕ) (depth : ℕ) (k : List ℕ) (o : Option Named) (left at comma next : ℕ)
    → Passing r bytes depth k o (suc left) at → drop comma bytes ≡ skim (Outside zero) (drop at bytes)
    → get_or bytes comma 0 ≡ 44 → drop next bytes ≡ after_whitespace (drop (comma + 1) bytes)
    → Passing r bytes depth k o left next
passing_next r bytes depth k o left at comma next p e byte f =
    next_element r bytes depth k o left comma next p.node p.blanks p.others p.within p.named
    (passing_text r bytes at comma p.node p.blanks p.others k p.within.grammar.0 p.within.grammar.1 p.text e) byte f

pub passing_there : (r : Reading) (bytes : List ℕ) (depth : ℕ) (k : List ℕ) (o : Option Named) (at : ℕ)
    → Passing r bytes depth k o zero at → IsElement r bytes depth k o at
passing_there r bytes depth k o at p = record {
  node = p.node;
  blanks = p.blanks;
  others = p.others;
  within = p.within;
  text = p.text;
  named = p.named;
}

-- an element's first byte is no bracket that closes, and not 0
pub passing_byte : (r : Reading) (bytes : List ℕ) (depth : ℕ) (k : List ℕ) (o : Option Named) (left at : ℕ)
    → Passing r bytes depth k o left at → (get_or bytes at 0 ≢ 0) × (get_or bytes at 0 ≢ 93)
passing_byte r bytes depth k o left at p =
    let cs = node_text p.node (p.blanks ++ elements_text p.others k) in
    let b = begins r p.node (p.blanks ++ elements_text p.others k) p.within.grammar.0 in
    let s = first_byte bytes at cs p.text b in
    start_byte (get_or bytes at 0) b.first s.byte b.ok
