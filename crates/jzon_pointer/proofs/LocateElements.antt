-- The elements of an array, one after the other, to the one that a token names.
use Rattle.jzon_base.proofs.Common.{◌≡◌, ◌≢◌, ◌∙◌, ◌<◌, ◌+◌, ◌-◌, ℕ, zero, suc, List, ◌∷◌, ◌++◌, refl, sym, ap, subst, arith, drop}
use Rattle.jzon_base.proofs.Common.{encode_ascii, encode_utf8_all, get_or, Option, Some, None}
use Rattle.std.specs.Prelude.{option_and_then}
use Rattle.jzon.specs.Reading.{Reading}
use Rattle.jzon.specs.Grammar.{Node, Elements, IsWhitespace}
use Rattle.jzon_pointer.specs.Locate.{Named, element_named, elements_text, node_text}
use Rattle.jzon_pointer.specs.Private.Walk.{AreWithin, From, IsElement, ReadsElement, after_whitespace, skim}
use Rattle.jzon_pointer.specs.Pointer.{index_named}
use Rattle.jzon_pointer.specs.Private.Walk.{Outside}
use Rattle.jzon_pointer.proofs.LocateTexts.{one_byte}
use Rattle.jzon_pointer.proofs.LocateWalks.{Passing, blanks_char, passing_byte, passing_end, passing_next, passing_start, passing_there}

-- At the offset stands the element after so many that were passed, of those from `start` on, or the bracket of an empty
-- array. As many are left to pass as the index is above those.
pub record Reaches (bytes : List ℕ) (start index passed at : ℕ) : Type 0 where
  pub passing : (left : ℕ) → passed + left ≡ index → (r : Reading) (depth : ℕ) (b : List ℕ) (n : Node) (c : List ℕ)
      (es : Elements) (k : List ℕ) → IsWhitespace r b → AreWithin r depth n c es
      → From bytes start (b ++ node_text n (c ++ elements_text es k))
      → Passing r bytes depth k (element_named n c es k index) left at
  pub empty : (r : Reading) (b k : List ℕ) → IsWhitespace r b → From bytes start (b ++ 93 ∷ k) → From bytes at (93 ∷ k)

pub reaches_first : (bytes : List ℕ) (start index at : ℕ) → drop at bytes ≡ after_whitespace (drop start bytes)
    → Reaches bytes start index 0 at
reaches_first bytes start index at e = record {
  passing = λ left is r depth b n c es k w within h.
      let same : index ≡ left = omega (arith, is) in
      subst (λ (i : ℕ). Passing r bytes depth k (element_named n c es k index) i at) same
      (passing_start r bytes depth start at b n c es k index w within h e);
  empty = λ r b k w h. e ∙ ap after_whitespace h ∙ blanks_char r b 93 k w (omega arith) refl;
}

-- after the bracket of an empty array is no comma
closed_there : (bytes : List ℕ) (at comma : ℕ) (k : List ℕ) → From bytes at (93 ∷ k)
    → drop comma bytes ≡ skim (Outside zero) (drop at bytes) → get_or bytes comma 0 ≡ 93
closed_there bytes at comma k h e =
    let f : drop at bytes ≡ 93 ∷ encode_utf8_all k = h ∙ ap (λ z. z ++ encode_utf8_all k) (encode_ascii 93 (omega arith)) in
    (one_byte bytes comma 93 (encode_utf8_all k) (e ∙ ap (skim (Outside zero)) f)).byte

pub reaches_next : (bytes : List ℕ) (start index passed at comma next : ℕ) → Reaches bytes start index passed at
    → drop comma bytes ≡ skim (Outside zero) (drop at bytes) → get_or bytes comma 0 ≡ 44
    → drop next bytes ≡ after_whitespace (drop (comma + 1) bytes) → Reaches bytes start index (passed + 1) next
reaches_next bytes start index passed at comma next p e byte f = record {
  passing = λ left is r depth b n c es k w within h.
      passing_next r bytes depth k (element_named n c es k index) left at comma next
      (p.passing (suc left) (omega (arith, is)) r depth b n c es k w within h) e byte f;
  empty = λ r b k w h.
      let closed = closed_there bytes at comma k (p.empty r b k w h) e in absurd (omega (arith, closed, byte));
}

-- ---- what is read

pub reads_no_index : (bytes : List ℕ) (start : ℕ) (t : List ℕ) → index_named t ≡ None → ReadsElement bytes start t None
reads_no_index bytes start t none = (
  λ r depth b n c es k w within h. ap (option_and_then (element_named n c es k)) none,
  λ r b k w h. refl,
)

pub reads_too_few : (bytes : List ℕ) (start : ℕ) (t : List ℕ) (index passed at comma : ℕ) → index_named t ≡ Some index
    → passed < index → Reaches bytes start index passed at → drop comma bytes ≡ skim (Outside zero) (drop at bytes)
    → get_or bytes comma 0 ≢ 44 → ReadsElement bytes start t None
reads_too_few bytes start t index passed at comma named less p e other =
    let is : passed + suc (index - passed - 1) ≡ index = omega (arith, less) in (
      λ r depth b n c es k w within h.
          ap (option_and_then (element_named n c es k)) named
          ∙ passing_end r bytes depth k (element_named n c es k index) (index - passed - 1) at comma
          (p.passing (suc (index - passed - 1)) is r depth b n c es k w within h) e other,
      λ r b k w h. refl,
    )

pub reads_no_element : (bytes : List ℕ) (start : ℕ) (t : List ℕ) (index at : ℕ) → Reaches bytes start index index at
    → (get_or bytes at 0 ≢ 0 → get_or bytes at 0 ≢ 93 → ⊥) → ReadsElement bytes start t None
reads_no_element bytes start t index at p stops = (
  λ r depth b n c es k w within h.
      let q = p.passing 0 (omega arith) r depth b n c es k w within h in
      let start_ = passing_byte r bytes depth k (element_named n c es k index) 0 at q in
      absurd (stops start_.0 start_.1),
  λ r b k w h. refl,
)

pub reads_element : (bytes : List ℕ) (start : ℕ) (t : List ℕ) (index at : ℕ) → index_named t ≡ Some index
    → Reaches bytes start index index at → get_or bytes at 0 ≢ 93 → ReadsElement bytes start t (Some at)
reads_element bytes start t index at named p other = (
  λ r depth b n c es k w within h.
      let q = p.passing 0 (omega arith) r depth b n c es k w within h in
      let same : element_named n c es k index ≡ option_and_then (element_named n c es k) (index_named t) =
      ap (option_and_then (element_named n c es k)) (sym named) in
      subst (λ (o : Option Named). IsElement r bytes depth k o at) same
      (passing_there r bytes depth k (element_named n c es k index) at q),
  λ r b k w h.
      let f : drop at bytes ≡ 93 ∷ encode_utf8_all k =
      p.empty r b k w h ∙ ap (λ z. z ++ encode_utf8_all k) (encode_ascii 93 (omega arith)) in
      absurd (other (one_byte bytes at 93 (encode_utf8_all k) f).byte),
)
