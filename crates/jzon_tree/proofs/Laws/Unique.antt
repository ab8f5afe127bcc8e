-- A style with exactly one choice of each kind allows exactly one text for each value: the text in its layout.
use Rattle.jzon_base.proofs.Common.{◌≡◌, ℕ, suc, ◌+◌, Bool, true, false, List, [], ◌∷◌, ◌++◌, refl, sym, ap, ◌∙◌}
use Rattle.jzon_base.proofs.Common.{length, append_assoc, length-append, arith, map, Option, Some, None, subst, Result}
use Rattle.jzon_base.proofs.Common.{Ok, Err, IsTrue, OnOk, OnErr, range_with_len, bytes_eq, Appends, get_or-append_seam}
use Rattle.jzon_base.proofs.Common.{take-append_seam, bytes_eq-Decides}
use Rattle.std.specs.Borrow.{GName}
use Rattle.jzon_base.specs.PartialWrites.{AppendsBeginning}
use Rattle.jzon_base.specs.PairList.{keys_of}
use Rattle.jzon_tree.specs.Generator.{Adds, Begins, Sends, Emitted, Prints, insertion}
use Rattle.jzon_tree.specs.Generators.{fresh}
use Rattle.jzon_tree.specs.Styles.{only, same_form}
use Rattle.jzon_tree.specs.Text.{Spacing, layout_text, more_values_text, more_pairs_text, quoted}
use Rattle.jzon_tree.specs.Value.{Value, array, object, Values, no_values, value, ValuePairs, no_pairs, pair, list_of_pairs}
use Rattle.jzon_tree.specs.Writing.{Style, IsAllowedWhitespace, text_at, Joins, Writes, WritesEach, WritesPairs}
use Rattle.jzon_tree.specs.Writing.{colon_text}

same_list : (xs ys : List ℕ) → bytes_eq xs ys ≡ true → xs ≡ ys
same_list xs ys e = (bytes_eq-Decides xs ys).0 e

form_is : (form wide : Bool) → IsTrue (same_form form wide) → form ≡ wide
form_is true true h = refl
form_is false false h = refl
form_is _ _ h = absurd (cc h)

-- ---- the order of insertion
in_order : (ts prefix : List (List ℕ)) → map (text_at (prefix ++ ts)) (range_with_len (length prefix) (length ts)) ≡ ts
in_order [] prefix = refl
in_order (t ∷ ts) prefix =
    let e : map (text_at (prefix ++ t ∷ ts)) (range_with_len (length prefix + 1) (length ts))
    ≡ ts = rw (length-append prefix (t ∷ []), append_assoc prefix (t ∷ []) ts) at (in_order ts (prefix ++ t ∷ [])) in
    rw (get_or-append_seam prefix t ts [], e) refl

after_comma : (l t m rest : List ℕ) → (l ++ (t ++ 44 ∷ m)) ++ rest ≡ (l ++ t) ++ 44 ∷ (m ++ rest)
after_comma l t m rest = ap (λ x. x ++ rest) (sym (append_assoc l t (44 ∷ m))) ∙ append_assoc (l ++ t) (44 ∷ m) rest

-- ---- the texts of the values and entries
module _ (line : ℕ → List ℕ) (wide : Bool) where
  abbrev layout : Spacing
  layout = record { line = line; colon = colon_text wide }

  abbrev style : Style
  style = only line wide

  whitespace_is : (d : ℕ) (w : List ℕ) → IsAllowedWhitespace style d w → w ≡ line d
  whitespace_is d w h = same_list w (line d) h.1

  abbrev value_texts : ℕ → Values → List (List ℕ)
  value_texts d no_values = []
  value_texts d (value v vs) = layout_text layout d v ∷ value_texts d vs

  abbrev pair_texts : ℕ → ValuePairs → List (List ℕ)
  pair_texts d no_pairs = []
  pair_texts d (pair k v ps) = (quoted k ++ (colon_text wide ++ layout_text layout d v)) ∷ pair_texts d ps

  -- the texts with their whitespace and commas, and the closing bracket
  values_inside : (d : ℕ) (v : Value) (vs : Values) (b w : List ℕ)
      → Joins style (suc d) (value_texts (suc d) (value v vs)) b → w ≡ line d
      → b ++ (w ++ 93 ∷ []) ≡ (line (suc d) ++ layout_text layout (suc d) v) ++ more_values_text layout d vs
  values_inside d v no_values b w (u, h, e) f = rw (e, whitespace_is (suc d) u h, f) refl
  values_inside d v (value x vs) b w (u, m, h, j, e) f =
      rw (e, whitespace_is (suc d) u h) (after_comma (line (suc d)) (layout_text layout (suc d) v) m (w ++ 93 ∷ [])
      ∙ ap (λ y. (line (suc d) ++ layout_text layout (suc d) v) ++ 44 ∷ y) (values_inside d x vs m w j f))

  abbrev named : ℕ → List ℕ → Value → List ℕ
  named d k v = quoted k ++ (colon_text wide ++ layout_text layout d v)

  abbrev start : ℕ → List ℕ → Value → List ℕ
  start d k v = line d ++ quoted k ++ colon_text wide ++ layout_text layout d v

  started : (d : ℕ) (k : List ℕ) (v : Value) (rest : List ℕ) → (line d ++ named d k v) ++ rest ≡ start d k v ++ rest
  started d k v rest =
      ap (λ x. x ++ rest) (sym (append_assoc (line d) (quoted k) (colon_text wide ++ layout_text layout d v))
      ∙ sym (append_assoc (line d ++ quoted k) (colon_text wide) (layout_text layout d v)))

  pairs_inside : (d : ℕ) (k : List ℕ) (v : Value) (ps : ValuePairs) (b w : List ℕ)
      → Joins style (suc d) (pair_texts (suc d) (pair k v ps)) b → w ≡ line d
      → b ++ (w ++ 125 ∷ []) ≡ start (suc d) k v ++ more_pairs_text layout d ps
  pairs_inside d k v no_pairs b w (u, h, e) f = rw (e, whitespace_is (suc d) u h, f)
      (started (suc d) k v (line d ++ 125 ∷ []))
  pairs_inside d k v (pair l x ps) b w (u, m, h, j, e) f =
      rw (e, whitespace_is (suc d) u h) (after_comma (line (suc d)) (named (suc d) k v) m (w ++ 125 ∷ [])
      ∙ started (suc d) k v (44 ∷ (m ++ (w ++ 125 ∷ [])))
      ∙ ap (λ y. start (suc d) k v ++ 44 ∷ y) (pairs_inside d l x ps m w j f))

  length-texts : (d : ℕ) (ps : ValuePairs) → length (pair_texts d ps) ≡ length (keys_of (list_of_pairs ps))
  length-texts d no_pairs = refl
  length-texts d (pair k v ps) = ap suc (length-texts d ps)

  mutual
    pub written : (d : ℕ) (v : Value) (b : List ℕ) → Writes style d v b → b ≡ layout_text layout d v
    written d (array (value v vs)) b (ts, each, (inside, w, j, h, e)) =
        e ∙ ap (λ x. 91 ∷ x) (values_inside d v vs inside w (subst (λ xs. Joins style (suc d) xs inside)
        (written_values (suc d) (value v vs) ts each) j) (whitespace_is d w h))
    written d (object (pair k v ps)) b (ts, positions, each, order, allowed, (inside, w, j, h, e)) =
        let same : ts ≡ pair_texts (suc d) (pair k v ps) = written_pairs (suc d) (pair k v ps) ts each in
        let as_many : length (keys_of (list_of_pairs (pair k v ps)))
        ≡ length ts = sym (length-texts (suc d) (pair k v ps)) ∙ ap length (sym same) in
        let ordered : map (text_at ts) positions ≡ pair_texts (suc d) (pair k v ps) =
        ap (map (text_at ts)) (same_list positions _ allowed ∙ ap insertion as_many) ∙ in_order ts [] ∙ same in
        e ∙ ap (λ x. 123 ∷ x) (pairs_inside d k v ps inside w (subst (λ xs. Joins style (suc d) xs inside) ordered j)
        (whitespace_is d w h))
    written d _ b e = e

    written_values : (d : ℕ) (vs : Values) (ts : List (List ℕ)) → WritesEach style d vs ts → ts ≡ value_texts d vs
    written_values d no_values [] h = refl
    written_values d (value v vs) (t ∷ ts) h = rw (written d v t h.0, written_values d vs ts h.1) refl
    written_values d _ _ h = absurd h

    written_pairs : (d : ℕ) (ps : ValuePairs) (ts : List (List ℕ)) → WritesPairs style d ps ts → ts ≡ pair_texts d ps
    written_pairs d no_pairs [] h = refl
    written_pairs d (pair k v ps) (t ∷ ts) ((form, x, c, i, e), h) = rw
        (e, form_is form wide c, written d v x i, written_pairs d ps ts h) refl
    written_pairs d _ _ h = absurd h

-- ---- the final state of a writer that a generator borrowed
adds-appended : (P : List ℕ → Type 0) (bs : List ℕ) (a b : Option (List ℕ)) → ((x : List ℕ) → P x → x ≡ bs) → Adds P a b
    → Appends a b bs
adds-appended P bs None b f h = tt
adds-appended P bs (Some xs) None f h = absurd h
adds-appended P bs (Some xs) (Some ys) f (x, e, p) = e ∙ ap (λ w. xs ++ w) (f x p)

adds-beginning : (P : List ℕ → Type 0) (bs : List ℕ) (a b : Option (List ℕ)) → ((x : List ℕ) → P x → x ≡ bs)
    → Adds (Begins P) a b → AppendsBeginning a b bs
adds-beginning P bs None b f h = (0, omega arith, tt)
adds-beginning P bs (Some xs) None f h = absurd h
adds-beginning P bs (Some xs) (Some ys) f (x, e, (y, p)) =
    let whole : x ++ y ≡ bs = f (x ++ y) p in (
      length x,
      omega (arith, length-append x y, ap (λ (w : List ℕ). length w) whole),
      e
          ∙ ap (λ w. xs ++ w) (rw whole at (sym (take-append_seam x y))),
    )

sends_ok : (P : List ℕ → Type 0) (bs : List ℕ) {E : Type 0} (a b : Option (List ℕ)) (r : Result (Unit {0}) E)
    → ((x : List ℕ) → P x → x ≡ bs) → Sends P a b r → OnOk r (Appends a b bs)
sends_ok P bs a b (Ok u) unique h = adds-appended P bs a b unique h
sends_ok P bs a b (Err u) unique h = tt

sends_err : (P : List ℕ → Type 0) (bs : List ℕ) {E : Type 0} (a b : Option (List ℕ)) (r : Result (Unit {0}) E)
    → ((x : List ℕ) → P x → x ≡ bs) → Sends P a b r → OnErr r (AppendsBeginning a b bs)
sends_err P bs a b (Ok u) unique h = tt
sends_err P bs a b (Err u) unique h = adds-beginning P bs a b unique h

lent : (P : List ℕ → Type 0) {W E : Type 0} (contents : W → Option (List ℕ)) (old new : Emitted)
    (r : Result (Unit {0}) E) (n m : GName) (x now : W)
    → Prints P old new r → old.lender ≡ Some n → new.lender ≡ Some m → (n ≡ m → x ≡ now) → new.out ≡ contents now
    → Sends P old.out (contents x) r
lent P contents old new (Ok u) n m x now h e f same out = let s : n ≡ m = cc (e, f, h.lender) in
    rw (same s, sym out) h.bytes
lent P contents old new (Err u) n m x now h e f same out = let s : n ≡ m = cc (e, f, h.lender) in
    rw (same s, sym out) h.bytes

-- the same for a generator that began without an indent
module _ (style : Style) (v : Value) {W E : Type 0} (contents : W → Option (List ℕ))
    (old new : Emitted) (o : Option (List ℕ)) (l : Option GName) (r : Result (Unit {0}) E) (n m : GName) (x now : W)
    (begun : old ≡ fresh o style l) (printed : Prints (Writes old.style old.dent v) old new r)
    (e : old.lender ≡ Some n) (f : new.lender ≡ Some m) (same : n ≡ m → x ≡ now) (out : new.out ≡ contents now)
  where
    pub given_back : Sends (Writes style 0 v) o (contents x) r
    given_back = subst (λ z. Sends (Writes style 0 v) z (contents x) r) (ap (λ z. z.out) begun)
        (lent (Writes style 0 v) contents old new r n m x now
        (subst (λ z. Prints (Writes z.style z.dent v) old new r) begun printed) e f same out)

-- what is sent in a style that allows exactly one text
module _ (line : ℕ → List ℕ) (wide : Bool) (v : Value) {E : Type 0} (a b : Option (List ℕ)) (r : Result (Unit {0}) E)
    (sent : Sends (Writes (only line wide) 0 v) a b r)
  where
    pub sent_ok : OnOk r (Appends a b (layout_text (layout line wide) 0 v))
    sent_ok = sends_ok (Writes (only line wide) 0 v) (layout_text (layout line wide) 0 v) a b r (written line wide 0 v)
        sent

    pub sent_err : OnErr r (AppendsBeginning a b (layout_text (layout line wide) 0 v))
    sent_err = sends_err (Writes (only line wide) 0 v) (layout_text (layout line wide) 0 v) a b r
        (written line wide 0 v) sent
