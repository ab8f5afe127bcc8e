-- The string of a key in a text: where it is cut out, and what it means if no backslash is in it.
use Rattle.jzon_base.proofs.Common.{◌≡◌, ◌∙◌, ◌<◌, ◌≤◌, ◌+◌, ◌-◌, ℕ, suc, List, [], ◌∷◌, ◌++◌, Bool, refl, sym, ap, subst, arith, length, drop, take, get_or}
use Rattle.jzon_base.proofs.Common.{encode_utf8, encode_utf8_all, encode_ascii, encodes-append, slice_range, length-append, length-drop}
use Rattle.jzon_base.proofs.Common.{take-append_seam, IsCharBoundary-before_ascii}
use Rattle.std.proofs.lemmas.List.{append_assoc}
use Rattle.std.specs.Str.{IsCharBoundary}
use Rattle.jzon.specs.Reading.{Reading}
use Rattle.jzon.specs.Grammar.{Item, simple, single, double, Key, Node, IsKey, IsWhitespace}
use Rattle.jzon.specs.Grammar as grammar
use Rattle.jzon.specs.Meaning.{bytes_of, characters_of}
use Rattle.jzon.specs.TreeCharacters.{item_chars, items_chars}
use Rattle.jzon_pointer.specs.Locate.{key_text, node_text}
use Rattle.jzon_pointer.specs.Private.Walk.{From, NamesQuoted, ReadsKey}
use Rattle.jzon_pointer.specs.Pointer.{names}
use Rattle.jzon_pointer.proofs.LocateBytes.{blank_small}
use Rattle.jzon_pointer.proofs.LocateTexts.{key_text_is, node_text_is, one_char}
use Rattle.jzon_pointer.proofs.TokenSteps.{Lacks}

-- ---- where it is cut out

item_append : (i : Item) (s t : List ℕ) → item_chars i (s ++ t) ≡ item_chars i s ++ t
item_append (grammar.plain c) s t = refl
item_append (simple c) s t = refl
item_append (single u) s t = ap (λ z. 92 ∷ 117 ∷ z) (sym (append_assoc u s t))
item_append (double u v) s t =
    ap (λ z. 92 ∷ 117 ∷ z) (sym (append_assoc u (92 ∷ 117 ∷ (v ++ s)) t
    ∙ ap (λ z. u ++ (92 ∷ 117 ∷ z)) (append_assoc v s t)))

items_append : (is : List Item) (s t : List ℕ) → items_chars is (s ++ t) ≡ items_chars is s ++ t
items_append [] s t = refl
items_append (i ∷ is) s t = ap (item_chars i) (items_append is s t) ∙ item_append i (items_chars is s) t

key_split : (key : Key) (k : List ℕ)
    → key_text key k ≡ node_text (Node.string key.items) [] ++ (key.after ++ 58 ∷ k)
key_split key k =
    key_text_is key k ∙ ap (λ z. 34 ∷ z) (items_append key.items (34 ∷ []) (key.after ++ 58 ∷ k))
    ∙ ap (λ z. z ++ (key.after ++ 58 ∷ k)) (sym (node_text_is (Node.string key.items) []))

-- after a key a character of one byte stands
after_key : (r : Reading) (bytes : List ℕ) (end : ℕ) (w k : List ℕ) → IsWhitespace r w → From bytes end (w ++ 58 ∷ k)
    → (end < length bytes) × (get_or bytes end 0 < 128)
after_key r bytes end [] k w h =
    let s = one_char bytes end 58 k (omega arith) h in (s.within, rw s.byte (omega arith))
after_key r bytes end (c ∷ cs) k w h =
    let b = blank_small r.strict c w.0 in
    let s = one_char bytes end c (cs ++ 58 ∷ k) b.0 h in (s.within, rw s.byte b.0)

cut_length : (bytes xs ys : List ℕ) (start end : ℕ) → start < length bytes → end < length bytes
    → drop start bytes ≡ xs ++ ys → drop end bytes ≡ ys → end ≡ start + length xs
cut_length bytes xs ys start end a b h g =
    let l : length bytes - start ≡ length xs + length ys =
    sym (length-drop start bytes) ∙ ap length h ∙ length-append xs ys in
    let m : length bytes - end ≡ length ys = sym (length-drop end bytes) ∙ ap length g in
    omega (arith, a, b, l, m)

-- from one offset to another the text may be cut out, and is this
record Cut (bytes : List ℕ) (start end : ℕ) (quoted : List ℕ) : Type 0 where
  pub order : start ≤ end
  pub first : IsCharBoundary bytes start
  pub last : IsCharBoundary bytes end
  pub text : slice_range bytes start end ≡ quoted

key_cut : (r : Reading) (bytes : List ℕ) (start end : ℕ) (key : Key) (k : List ℕ) → IsKey r key
    → From bytes start (key_text key k) → From bytes end (key.after ++ 58 ∷ k)
    → Cut bytes start end (encode_utf8_all (node_text (Node.string key.items) []))
key_cut r bytes start end key k g h e =
    let quoted = encode_utf8_all (node_text (Node.string key.items) []) in
    let rest = encode_utf8_all (key.after ++ 58 ∷ k) in
    let first = one_char bytes start 34 _ (omega arith) (h ∙ ap encode_utf8_all (key_text_is key k)) in
    let last = after_key r bytes end key.after k g.2 e in
    let split : drop start bytes ≡ quoted ++ rest =
    h ∙ ap encode_utf8_all (key_split key k)
    ∙ encodes-append (node_text (Node.string key.items) []) (key.after ++ 58 ∷ k) in
    let far : end ≡ start + length quoted = cut_length bytes quoted rest start end first.within last.0 split e in
    let size : end - start ≡ length quoted = omega (arith, far) in record {
      order = omega (arith, far);
      first = IsCharBoundary-before_ascii bytes start first.within (rw first.byte (omega arith));
      last = IsCharBoundary-before_ascii bytes end last.0 last.1;
      text = ap (λ n. take n (drop start bytes)) size ∙ ap (take (length quoted)) split ∙ take-append_seam quoted rest;
    }

pub reads_quoted : (bytes : List ℕ) (start end : ℕ) (t quoted : List ℕ) (is : Bool) → quoted ≡ slice_range bytes start end
    → NamesQuoted quoted t is → ReadsKey bytes start end t is
reads_quoted bytes start end t quoted is e n = λ r seen key k m z g clear h f.
    n r seen key m z g clear (e ∙ (key_cut r bytes start end key k g h f).text)

-- what can't be cut out is no key
pub reads_none : (bytes : List ℕ) (start end : ℕ) (t : List ℕ) (is : Bool)
    → (start ≤ end → IsCharBoundary bytes start → IsCharBoundary bytes end → ⊥) → ReadsKey bytes start end t is
reads_none bytes start end t is uncut = λ r seen key k m z g clear h f.
    let c = key_cut r bytes start end key k g h f in absurd (uncut c.order c.first c.last)

-- ---- without a backslash

lacks_rest : (c : ℕ) (xs ys : List ℕ) → Lacks c (xs ++ ys) → Lacks c ys
lacks_rest c [] ys h = h
lacks_rest c (x ∷ xs) ys h = lacks_rest c xs ys (λ i less. h (suc i) (omega arith))

no_escape : (cs : List ℕ) → Lacks 92 (encode_utf8_all (92 ∷ cs)) → ⊥
no_escape cs h =
    let here : Lacks 92 (92 ∷ encode_utf8_all cs) =
    subst (λ (bs : List ℕ). Lacks 92 bs) (ap (λ z. z ++ encode_utf8_all cs) (encode_ascii 92 (omega arith))) h in
    here 0 (omega arith) refl

-- its characters are those that it means
plain_items : (is : List Item) (t : List ℕ) → Lacks 92 (encode_utf8_all (items_chars is t))
    → items_chars is t ≡ characters_of is ++ t
plain_items [] t h = refl
plain_items (grammar.plain c ∷ is) t h =
    ap (λ z. c ∷ z) (plain_items is t (lacks_rest 92 (encode_utf8 c) (encode_utf8_all (items_chars is t)) h))
plain_items (simple c ∷ is) t h = absurd (no_escape (c ∷ items_chars is t) h)
plain_items (single u ∷ is) t h = absurd (no_escape (117 ∷ (u ++ items_chars is t)) h)
plain_items (double u v ∷ is) t h = absurd (no_escape (117 ∷ (u ++ (92 ∷ 117 ∷ (v ++ items_chars is t)))) h)

plain_quoted : (is : List Item) (quoted : List ℕ) → quoted ≡ encode_utf8_all (node_text (Node.string is) [])
    → Lacks 92 quoted → quoted ≡ 34 ∷ (bytes_of is ++ 34 ∷ [])
unfolding bytes_of
plain_quoted is quoted e lacks =
    let inner = encode_utf8_all (items_chars is (34 ∷ [])) in
    let opened : quoted ≡ 34 ∷ inner =
    e ∙ ap encode_utf8_all (node_text_is (Node.string is) []) ∙ ap (λ z. z ++ inner) (encode_ascii 34 (omega arith)) in
    let less : Lacks 92 inner =
    lacks_rest 92 (34 ∷ []) inner (subst (λ (bs : List ℕ). Lacks 92 bs) opened lacks) in
    let last : encode_utf8_all (34 ∷ []) ≡ 34 ∷ [] = ap (λ z. z ++ []) (encode_ascii 34 (omega arith)) in
    opened ∙ ap (λ z. 34 ∷ encode_utf8_all z) (plain_items is (34 ∷ []) less)
    ∙ ap (λ z. 34 ∷ z) (encodes-append (characters_of is) (34 ∷ [])
    ∙ ap (λ z. encode_utf8_all (characters_of is) ++ z) last)

pub names_plain : (quoted t : List ℕ) (is : Bool) → Lacks 92 quoted
    → ((key : List ℕ) → quoted ≡ 34 ∷ (key ++ 34 ∷ []) → is ≡ names t key) → NamesQuoted quoted t is
names_plain quoted t is lacks n = λ r seen key m z g clear e. n (bytes_of key.items) (plain_quoted key.items quoted e lacks)
