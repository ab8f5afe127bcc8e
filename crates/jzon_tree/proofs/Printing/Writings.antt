-- Each value has a text in every style, and how texts are put together.
use Rattle.jzon_base.proofs.Common.{◌≡◌, ℕ, suc, ◌<◌, Bool, true, false, List, [], ◌∷◌, ◌++◌, refl, sym, ap, ◌∙◌}
use Rattle.jzon_base.proofs.Common.{length, append_assoc, append-nil, arith, map, lt-ltb, codes, if◌then◌else◌, nat_lt}
use Rattle.jzon_base.specs.NumberText.{written_text}
use Rattle.jzon_base.specs.PairList.{keys_of}
use Rattle.jzon_tree.specs.Text.{quoted, boolean_text}
use Rattle.jzon_tree.specs.Value.{Value, null, boolean, text, number, array, object, Values, no_values, value}
use Rattle.jzon_tree.specs.Value.{values_of, ValuePairs, no_pairs, pair, list_of_pairs}
use Rattle.jzon_tree.specs.Writing.{Style, IsStyle, text_at, Joins, Encloses, Writes, WritesEach, WritesPairs}
use Rattle.jzon_tree.specs.Writing.{colon_text}
use Rattle.jzon_tree.specs.Lawful.{IsValue, AreValues, ArePairs}
use Rattle.jzon_tree.specs.Private.Printing.{IsBetween, IsClosing, Items, ArePrintedItems}

-- ---- texts with whitespace and commas
pub some_between : (s : Style) → IsStyle s → (d : ℕ) (comma : Bool) → (b : List ℕ) × IsBetween s d comma b
some_between s lawful d comma =
    let w = lawful.whitespace d in ((if comma then 44 ∷ [] else []) ++ w.0, (w.0, w.1, refl))

pub some_closing : (s : Style) → IsStyle s → (d bracket : ℕ) → (b : List ℕ) × IsClosing s d bracket b
some_closing s lawful d bracket = let w = lawful.whitespace d in (w.0 ++ bracket ∷ [], (w.0, w.1, refl))

pub some_items : (s : Style) → IsStyle s → (d : ℕ) (comma : Bool) (ts : List (List ℕ)) → (b : List ℕ)
    × Items s d comma ts b
some_items s lawful d comma [] = ([], refl)
some_items s lawful d comma (t ∷ ts) =
    let w : (b : List ℕ) × IsBetween s d comma b = some_between s lawful d comma in
    let r : (b : List ℕ) × Items s d true ts b = some_items s lawful d true ts in
    (w.0 ++ (t ++ r.0), (w.0, r.0, w.1, r.1, refl))

-- the same texts, joined
joins_after_comma : (s : Style) (d : ℕ) (t : List ℕ) (ts : List (List ℕ)) (b : List ℕ) → Items s d true (t ∷ ts) b
    → (inside : List ℕ) × Joins s d (t ∷ ts) inside × (b ≡ 44 ∷ inside)
joins_after_comma s d t [] b (v, r, (w, h, k), j, e) = (w ++ t, (w, h, refl), rw (e, k, j, append-nil t) refl)
joins_after_comma s d t (u ∷ ts) b (v, r, (w, h, k), j, e) =
    let m : (inside : List ℕ) × Joins s d (u ∷ ts) inside × (r ≡ 44 ∷ inside) = joins_after_comma s d u ts r j in
    (w ++ (t ++ 44 ∷ m.0), (w, m.0, h, m.1, refl), e ∙ ap (λ x. x ++ (t ++ r)) k ∙ ap (λ x. (44 ∷ w) ++ (t ++ x)) m.2)

joins : (s : Style) (d : ℕ) (t : List ℕ) (ts : List (List ℕ)) (b : List ℕ) → Items s d false (t ∷ ts) b
    → Joins s d (t ∷ ts) b
joins s d t [] b (v, r, (w, h, k), j, e) = (w, h, rw (e, k, j, append-nil t) refl)
joins s d t (u ∷ ts) b (v, r, (w, h, k), j, e) =
    let m : (inside : List ℕ) × Joins s d (u ∷ ts) inside × (r ≡ 44 ∷ inside) = joins_after_comma s d u ts r j in
    (w, m.0, h, m.1, e ∙ ap (λ x. x ++ (t ++ r)) k ∙ ap (λ x. w ++ (t ++ x)) m.2)

pub encloses : (s : Style) (d opening closing : ℕ) (t : List ℕ) (ts : List (List ℕ)) (y z : List ℕ)
    → Items s (suc d) false (t ∷ ts) y → IsClosing s d closing z
    → Encloses s d opening (t ∷ ts) closing (opening ∷ (y ++ z))
encloses s d opening closing t ts y z i (w, h, e) = (y, w, joins s (suc d) t ts y i, h, rw e refl)

some_enclosed : (s : Style) → IsStyle s → (d opening closing : ℕ) (t : List ℕ) (ts : List (List ℕ)) → (b : List ℕ)
    × Encloses s d opening (t ∷ ts) closing b
some_enclosed s lawful d opening closing t ts =
    let i : (b : List ℕ) × Items s (suc d) false (t ∷ ts) b = some_items s lawful (suc d) false (t ∷ ts) in
    let c : (b : List ℕ) × IsClosing s d closing b = some_closing s lawful d closing in
    (opening ∷ (i.0 ++ c.0), encloses s d opening closing t ts i.0 c.0 i.1 c.1)

-- ---- some text of a value without repeated keys
length-texts : (s : Style) (d : ℕ) (ps : ValuePairs) (ts : List (List ℕ)) → WritesPairs s d ps ts
    → length ts ≡ length (keys_of (list_of_pairs ps))
length-texts s d no_pairs [] h = refl
length-texts s d (pair k v ps) (t ∷ ts) h = ap suc (length-texts s d ps ts h.1)
length-texts s d _ _ h = absurd h

enclosed_order : (s : Style) → IsStyle s → (d opening closing n : ℕ) (ts : List (List ℕ)) (positions : List ℕ)
    → length positions ≡ suc n → (b : List ℕ) × Encloses s d opening (map (text_at ts) positions) closing b
enclosed_order s lawful d opening closing n ts [] e = absurd (omega (arith, e))
enclosed_order s lawful d opening closing n ts (p ∷ ps) e = some_enclosed s lawful d opening closing (text_at ts p)
    (map (text_at ts) ps)

mutual
  pub some_writing : (s : Style) → IsStyle s → (d : ℕ) (v : Value) → IsValue v → (b : List ℕ) × Writes s d v b
  some_writing s lawful d null h = (codes "null", refl)
  some_writing s lawful d (boolean t) h = (boolean_text t, refl)
  some_writing s lawful d (text k t) h = (quoted t, refl)
  some_writing s lawful d (number n) h = (written_text n, refl)
  some_writing s lawful d (array no_values) h = (codes "[]", refl)
  some_writing s lawful d (array (value v vs)) h =
      let x : (b : List ℕ) × Writes s (suc d) v b = some_writing s lawful (suc d) v h.0 in
      let xs : (ts : List (List ℕ)) × WritesEach s (suc d) vs ts = some_writings s lawful (suc d) vs h.1 in
      let w : (b : List ℕ) × Encloses s d 91 (x.0 ∷ xs.0) 93 b = some_enclosed s lawful d 91 93 x.0 xs.0 in
      (w.0, (x.0 ∷ xs.0, (x.1, xs.1), w.1))
  some_writing s lawful d (object no_pairs) h = (codes "{}", refl)
  some_writing s lawful d (object (pair k v ps)) h =
      let xs : (ts : List (List ℕ)) × WritesPairs s (suc d) (pair k v ps) ts = some_pairs s lawful (suc d) (pair k v ps)
      h.0 in
      let o = lawful.order (keys_of (list_of_pairs (pair k v ps))) h.1 in
      let w : (b : List ℕ) × Encloses s d 123 (map (text_at xs.0) o.0) 125 b = enclosed_order s lawful d 123 125
      (length (keys_of (list_of_pairs ps))) xs.0 o.0 o.1.as_many in
      (w.0, (xs.0, o.0, xs.1, rw (length-texts s (suc d) (pair k v ps) xs.0 xs.1) o.1, o.2, w.1))

  pub some_writings : (s : Style) → IsStyle s → (d : ℕ) (vs : Values) → AreValues vs → (ts : List (List ℕ))
      × WritesEach s d vs ts
  some_writings s lawful d no_values h = ([], tt)
  some_writings s lawful d (value v vs) h =
      let x : (b : List ℕ) × Writes s d v b = some_writing s lawful d v h.0 in
      let xs : (ts : List (List ℕ)) × WritesEach s d vs ts = some_writings s lawful d vs h.1 in
      (x.0 ∷ xs.0, (x.1, xs.1))

  some_pairs : (s : Style) → IsStyle s → (d : ℕ) (ps : ValuePairs) → ArePairs ps → (ts : List (List ℕ))
      × WritesPairs s d ps ts
  some_pairs s lawful d no_pairs h = ([], tt)
  some_pairs s lawful d (pair k v ps) h =
      let x : (b : List ℕ) × Writes s d v b = some_writing s lawful d v h.1 in
      let xs : (ts : List (List ℕ)) × WritesPairs s d ps ts = some_pairs s lawful d ps h.2 in (
        (quoted k ++ (colon_text lawful.colon.0 ++ x.0)) ∷ xs.0,
        ((lawful.colon.0, x.0, lawful.colon.1, x.1, refl), xs.1),
      )

-- ---- elements in sequence: whether a comma precedes the next
abbrev pub needs_comma : Bool → List (List ℕ) → Bool
needs_comma comma [] = comma
needs_comma comma (t ∷ ts) = true

pub needs_comma-after : (ts : List (List ℕ)) → needs_comma false ts ≡ nat_lt 0 (length ts)
needs_comma-after [] = refl
needs_comma-after (t ∷ ts) = sym (lt-ltb 0 (length (t ∷ ts)) (omega arith))

always_comma : (ts : List (List ℕ)) → needs_comma true ts ≡ true
always_comma [] = refl
always_comma (t ∷ ts) = refl

pub Items-append : (s : Style) (d : ℕ) (comma : Bool) (ts us : List (List ℕ)) (b z : List ℕ) → Items s d comma ts b
    → Items s d (needs_comma comma ts) us z → Items s d comma (ts ++ us) (b ++ z)
Items-append s d comma [] us b z e h = rw e h
Items-append s d comma (t ∷ ts) us b z (w, r, hw, hr, e) h = (
  w,
  r ++ z,
  hw,
  Items-append s d true ts us r z hr (rw (always_comma ts) h),
  rw e
      (append_assoc w (t ++ r) z ∙ ap (λ x. w ++ x) (append_assoc t r z)),
)

WritesEach-append : (s : Style) (d : ℕ) (us vs : List Value) (xs ys : List (List ℕ)) → WritesEach s d (values_of us) xs
    → WritesEach s d (values_of vs) ys → WritesEach s d (values_of (us ++ vs)) (xs ++ ys)
WritesEach-append s d [] vs [] ys h k = k
WritesEach-append s d (u ∷ us) vs (x ∷ xs) ys h k = (h.0, WritesEach-append s d us vs xs ys h.1 k)
WritesEach-append s d _ vs _ ys h k = absurd h

WritesEach-length : (s : Style) (d : ℕ) (us : List Value) (xs : List (List ℕ)) → WritesEach s d (values_of us) xs
    → length xs ≡ length us
WritesEach-length s d [] [] h = refl
WritesEach-length s d (u ∷ us) (x ∷ xs) h = ap suc (WritesEach-length s d us xs h.1)
WritesEach-length s d _ _ h = absurd h

-- the values in sequence, where a comma may precede the first too
abbrev pub MoreItems : Style → ℕ → Bool → List Value → List ℕ → Type 0
MoreItems s d comma vs b = (ts : List (List ℕ)) × WritesEach s d (values_of vs) ts × Items s d comma ts b

pub some_more : (s : Style) → IsStyle s → (d : ℕ) (comma : Bool) (vs : List Value) → AreValues (values_of vs)
    → (b : List ℕ) × MoreItems s d comma vs b
some_more s lawful d comma vs h =
    let xs : (ts : List (List ℕ)) × WritesEach s d (values_of vs) ts = some_writings s lawful d (values_of vs) h in
    let w : (b : List ℕ) × Items s d comma xs.0 b = some_items s lawful d comma xs.0 in
    (w.0, (xs.0, xs.1, w.1))

pub MoreItems-cons : (s : Style) (d : ℕ) (comma : Bool) (v : Value) (vs : List Value) (w x z : List ℕ)
    → IsBetween s d comma w → Writes s d v x → MoreItems s d true vs z → MoreItems s d comma (v ∷ vs) (w ++ (x ++ z))
MoreItems-cons s d comma v vs w x z hw hx (ts, ht, hi) = (x ∷ ts, (hx, ht), (w, z, hw, hi, refl))

pub AreItems-append : (s : Style) (d : ℕ) (us vs : List Value) (b z : List ℕ) → ArePrintedItems s d us b
    → MoreItems s d (nat_lt 0 (length us)) vs z → ArePrintedItems s d (us ++ vs) (b ++ z)
AreItems-append s d us vs b z (xs, hx, hb) (ys, hy, hz) =
    let same : needs_comma false xs ≡ nat_lt 0 (length us) = needs_comma-after xs
    ∙ ap (λ n. nat_lt 0 n) (WritesEach-length s d us xs hx) in
    (xs ++ ys, WritesEach-append s d us vs xs ys hx hy, Items-append s d false xs ys b z hb (rw same hz))

-- the brackets of an array that is not empty
pub array_closed : (s : Style) (d : ℕ) (vs : List Value) → 0 < length vs → (y z : List ℕ) → ArePrintedItems s (suc d) vs y
    → IsClosing s d 93 z → Writes s d (array (values_of vs)) (91 ∷ (y ++ z))
array_closed s d [] n y z i c = absurd (omega arith)
array_closed s d (v ∷ vs) n y z ([], w, i) c = absurd w
array_closed s d (v ∷ vs) n y z (t ∷ ts, w, i) c = (t ∷ ts, w, encloses s d 91 93 t ts y z i c)
