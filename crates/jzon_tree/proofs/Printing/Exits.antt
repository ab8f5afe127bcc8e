-- What has been written when the functions that write values return.
use Rattle.jzon_base.proofs.Common.{◌≡◌, ℕ, zero, suc, ◌+◌, ◌-◌, ◌<◌, List, [], ◌∷◌, ◌++◌, length, Result, ◌∙◌, ap}
use Rattle.jzon_base.proofs.Common.{subst, get_or, take, append_assoc, append-nil, sym, refl, true, false, inl}
use Rattle.jzon_base.proofs.Common.{inr, add-one, arith, length-append, IsErr, nat_lt, IsTrue, lt-ltb}
use Rattle.jzon_base.specs.PairList.{keys_of}
use Rattle.jzon_tree.specs.Generator.{Begins, Just, Emitted, Added, Failed, Stopped, Emits, noted, IsForm, IsPrintedKey}
use Rattle.jzon_tree.specs.Lawful.{IsValue, AreValues, ArePairs}
use Rattle.jzon_tree.specs.Private.Printing.{IsBetween, IsClosing, ArePrintedItems, IsEntry, pair_at, ArePrintedMembers, PrintsIf}
use Rattle.jzon_tree.specs.Text.{quoted}
use Rattle.jzon_tree.specs.Value.{Value, array, object, values_of, pairs_of}
use Rattle.jzon_tree.specs.Writing.{Style, IsStyle, IsOrder, Writes, colon_text}
use Rattle.jzon_tree.proofs.Printing.Emissions.{Added-after, Failed-after, Stopped-after, Failed-begins, Stopped-begins}
use Rattle.jzon_tree.proofs.Printing.Emissions.{Stopped-failed, PrintsIf-at_err, stopped_at_opening, stopped_at_indent}
use Rattle.jzon_tree.proofs.Printing.Emissions.{stopped_inside, printed_at_close}
use Rattle.jzon_tree.proofs.Printing.Members.{members_push, members_begin, some_members, some_entry, object_closed}
use Rattle.jzon_tree.proofs.Printing.Orders.{order_within}
use Rattle.jzon_tree.proofs.Printing.Writings.{some_writing, some_more, some_closing, MoreItems, MoreItems-cons, AreItems-append}
use Rattle.jzon_tree.proofs.Printing.Writings.{array_closed}

-- ---- an array
module _ (a : Emitted) (lawful : IsStyle a.style) (vs : List Value) (n : 0 < length vs) {E : Type 0}
    (r : Result (Unit {0}) E) where
  abbrev this_array : List ℕ → Type 0
  this_array = Writes a.style a.dent (array (values_of vs))

  pub array_at_opening : (b : Emitted) → IsErr r → Failed (Just (91 ∷ [])) a b
      → PrintsIf (AreValues (values_of vs)) this_array a b r
  array_at_opening b k h = PrintsIf-at_err _ this_array a b r k
      (λ keyed. stopped_at_opening 91 93 (λ s d. ArePrintedItems s d vs) this_array a (array_closed a.style a.dent vs n)
      (some_more a.style lawful (suc a.dent) false vs keyed) (some_closing a.style lawful a.dent 93) b h)

  module _ (b c : Emitted) (h : Added (Just (91 ∷ [])) a b) where
    pub array_at_indent : IsErr r → c ≡ record b { faults = noted b.faults }
        → PrintsIf (AreValues (values_of vs)) this_array a c r
    array_at_indent k e = PrintsIf-at_err _ this_array a c r k
        (λ keyed. stopped_at_indent 91 93 (λ s d. ArePrintedItems s d vs) this_array a (array_closed a.style a.dent vs n)
        (some_more a.style lawful (suc a.dent) false vs keyed) (some_closing a.style lawful a.dent 93) b c h e)

    module _ (d : Emitted) (e : c ≡ record b { dent = b.dent + 1 }) where
      pub array_at_items : IsErr r → (AreValues (values_of vs) → Stopped (ArePrintedItems c.style c.dent vs) c d)
          → PrintsIf (AreValues (values_of vs)) this_array a d r
      array_at_items k f = PrintsIf-at_err _ this_array a d r k
          (λ keyed. stopped_inside 91 93 (λ s d. ArePrintedItems s d vs) this_array a (array_closed a.style a.dent vs n) b c d
          h e (some_closing a.style lawful a.dent 93) (f keyed))

      pub array_at_close : (f : Emitted) → Added (ArePrintedItems c.style c.dent vs) c d
          → Emits (IsClosing d.style (d.dent - 1) 93) (record d { dent = d.dent - 1 }) f r
          → PrintsIf (AreValues (values_of vs)) this_array a f r
      array_at_close f = printed_at_close 91 93 (λ s d. ArePrintedItems s d vs) this_array a (array_closed a.style a.dent vs n)
          b c d h e (AreValues (values_of vs)) f r

-- ---- the loop over an array's elements: us are written, v is next, and rest follow
keyed_next : (us : List Value) (v : Value) (rest : List Value) → AreValues (values_of (us ++ v ∷ rest)) → IsValue v
    × AreValues (values_of rest)
keyed_next [] v rest h = h
keyed_next (u ∷ us) v rest h = keyed_next us v rest h.1

module _ (a : Emitted) (lawful : IsStyle a.style) (us : List Value) (v : Value) (rest : List Value) (b c : Emitted)
    (h : Added (ArePrintedItems a.style a.dent us) a b) where
  abbrev all : List Value
  all = us ++ v ∷ rest

  -- what was written, and what precedes the next element
  begun : List ℕ → Type 0
  begun x = (u w : List ℕ) × ArePrintedItems a.style a.dent us u × IsBetween a.style a.dent (nat_lt 0 (length us)) w
      × (x ≡ u ++ w)

  begun_then : (x y : List ℕ) → ArePrintedItems a.style a.dent us x → IsBetween a.style a.dent (nat_lt 0 (length us)) y
      → begun (x ++ y)
  unfolding begun
  begun_then x y p q = (x, y, p, q, refl)

  -- with a text of the next element
  begun_ends : (vs : List Value) (x y z : List ℕ) → begun x → Writes a.style a.dent v y
      → MoreItems a.style a.dent true vs z → ArePrintedItems a.style a.dent (us ++ v ∷ vs) ((x ++ y) ++ z)
  unfolding begun
  begun_ends vs x y z (u, w, hu, hw, e) hy hz =
      rw (e, append_assoc (u ++ w) y z, append_assoc u w (y ++ z))
      (AreItems-append a.style a.dent us (v ∷ vs) u (w ++ (y ++ z)) hu
      (MoreItems-cons a.style a.dent (nat_lt 0 (length us)) v vs w y z hw hy hz))

  module _ (keyed : AreValues (values_of all)) where
    begun_early : (x : List ℕ) → begun x → Begins (ArePrintedItems a.style a.dent all) x
    begun_early x k =
        let y : (b : List ℕ) × Writes a.style a.dent v b = some_writing a.style lawful a.dent v
        (keyed_next us v rest keyed).0 in
        let z : (b : List ℕ) × MoreItems a.style a.dent true rest b = some_more a.style lawful a.dent true rest
        (keyed_next us v rest keyed).1 in
        (y.0 ++ z.0, rw (sym (append_assoc x y.0 z.0)) (begun_ends rest x y.0 z.0 k y.1 z.1))

    more_early : (x : List ℕ) → ArePrintedItems a.style a.dent (us ++ v ∷ []) x → Begins (ArePrintedItems a.style a.dent all) x
    more_early x p =
        let z : (b : List ℕ) × MoreItems a.style a.dent true rest b = some_more a.style lawful a.dent true rest
        (keyed_next us v rest keyed).1 in (
          z.0,
          rw (append_assoc us (v ∷ []) rest) at (AreItems-append a.style a.dent (us ++ v ∷ []) rest x z.0 p
              (rw (lt-ltb 0 (length (us ++ v ∷ [])) (omega (arith, length-append us (v ∷ [])))) z.1)),
        )

  pub items_at_begin : {E : Type 0} (r : Result (Unit {0}) E) → IsErr r
      → Failed (IsBetween b.style b.dent (nat_lt 0 (length us))) b c
      → PrintsIf (AreValues (values_of all)) (ArePrintedItems a.style a.dent all) a c r
  items_at_begin r k f = PrintsIf-at_err _ _ a c r k (λ keyed. Stopped-failed _ a c
      (Failed-begins begun (ArePrintedItems a.style a.dent all) a c (begun_early keyed)
      (Failed-after (ArePrintedItems a.style a.dent us) (λ s d. IsBetween s d (nat_lt 0 (length us))) begun a b c
      begun_then h f)))

  module _ (d : Emitted) (k : Added (IsBetween b.style b.dent (nat_lt 0 (length us))) b c) where
    has_begun : Added begun a c
    has_begun = Added-after (ArePrintedItems a.style a.dent us) (λ s d. IsBetween s d (nat_lt 0 (length us))) begun a b c
        begun_then h k

    one_more : (x y : List ℕ) → begun x → Writes a.style a.dent v y → ArePrintedItems a.style a.dent (us ++ v ∷ []) (x ++ y)
    one_more x y p q = rw (append-nil (x ++ y)) at (begun_ends [] x y [] p q ([], tt, refl))

    pub items_at_item : {E : Type 0} (r : Result (Unit {0}) E) → IsErr r
        → (IsValue v → Stopped (Writes c.style c.dent v) c d)
        → PrintsIf (AreValues (values_of all)) (ArePrintedItems a.style a.dent all) a d r
    items_at_item r e f = PrintsIf-at_err _ _ a d r e (λ keyed.
        Stopped-begins (ArePrintedItems a.style a.dent (us ++ v ∷ [])) (ArePrintedItems a.style a.dent all) a d (more_early keyed)
        (Stopped-after begun (λ s d. Writes s d v) (ArePrintedItems a.style a.dent (us ++ v ∷ [])) a c d one_more has_begun
        (f (keyed_next us v rest keyed).0)))

    pub items_more : Added (Writes c.style c.dent v) c d → Added (ArePrintedItems a.style a.dent (us ++ v ∷ [])) a d
    items_more f = Added-after begun (λ s d. Writes s d v) (ArePrintedItems a.style a.dent (us ++ v ∷ [])) a c d one_more
        has_begun f

-- ---- the loop over an object's entries: those at the first i positions are written, and e is next
keyed_at : (es : List (List ℕ × Value)) (p : ℕ) → ArePairs (pairs_of es) → p < length es → IsValue (pair_at es p).1
keyed_at [] p k h = absurd (omega arith)
keyed_at (e ∷ es) zero k h = k.1
keyed_at (e ∷ es) (suc p) k h = keyed_at es p k.2 (omega arith)

module _ (a : Emitted) (lawful : IsStyle a.style) (es : List (List ℕ × Value)) (ps : List ℕ)
    (o : IsOrder (length es) ps) (i : ℕ) (e : List ℕ × Value) (hi : i < length ps) (he : pair_at es (get_or ps i 0) ≡ e)
    (b c : Emitted) (h : Added (ArePrintedMembers a.style a.dent es (take i ps)) a b) where
  ready : List ℕ → Type 0
  ready x = (u w : List ℕ) × ArePrintedMembers a.style a.dent es (take i ps) u × IsBetween a.style a.dent (nat_lt 0 i) w
      × (x ≡ u ++ w)

  ready_then : (x y : List ℕ) → ArePrintedMembers a.style a.dent es (take i ps) x → IsBetween a.style a.dent (nat_lt 0 i) y
      → ready (x ++ y)
  unfolding ready
  ready_then x y m q = (x, y, m, q, refl)

  entry_then : (x y : List ℕ) → ready x → IsEntry a.style a.dent e y
      → ArePrintedMembers a.style a.dent es (take (i + 1) ps) (x ++ y)
  unfolding ready
  entry_then x y (u, w, hu, hw, k) q =
      rw (k, append_assoc u w y, add-one i) (members_push a.style a.dent es ps o i u w y hi hu hw
      (subst (λ f. IsEntry a.style a.dent f y) (sym he) q))

  early : ArePairs (pairs_of es) → (x : List ℕ) → ArePrintedMembers a.style a.dent es (take (i + 1) ps) x
      → Begins (ArePrintedMembers a.style a.dent es ps) x
  early keyed x m = members_begin a.style a.dent es ps o lawful keyed (suc i) x (omega (arith, hi))
      (rw (add-one i) at m)

  ready_early : ArePairs (pairs_of es) → (x : List ℕ) → ready x → Begins (ArePrintedMembers a.style a.dent es ps) x
  ready_early keyed x k =
      let y : (b : List ℕ) × IsEntry a.style a.dent (pair_at es (get_or ps i 0)) b = some_entry a.style a.dent es ps o
      lawful keyed es (get_or ps i 0) keyed (order_within (length es) ps o i hi) in
      let z : Begins (ArePrintedMembers a.style a.dent es ps) (x ++ y.0) = early keyed (x ++ y.0)
      (entry_then x y.0 k (subst (λ f. IsEntry a.style a.dent f y.0) he y.1)) in
      (y.0 ++ z.0, rw (sym (append_assoc x y.0 z.0)) z.1)

  pub members_at_begin : {E : Type 0} (r : Result (Unit {0}) E) → IsErr r
      → Failed (IsBetween b.style b.dent (nat_lt 0 i)) b c → PrintsIf (ArePairs (pairs_of es))
      (ArePrintedMembers a.style a.dent es ps) a c r
  members_at_begin r k f = PrintsIf-at_err _ _ a c r k (λ keyed. Stopped-failed _ a c
      (Failed-begins ready (ArePrintedMembers a.style a.dent es ps) a c (ready_early keyed)
      (Failed-after (ArePrintedMembers a.style a.dent es (take i ps)) (λ s d. IsBetween s d (nat_lt 0 i)) ready a b c
      ready_then h f)))

  module _ (d : Emitted) (k : Added (IsBetween b.style b.dent (nat_lt 0 i)) b c) where
    is_ready : Added ready a c
    is_ready = Added-after (ArePrintedMembers a.style a.dent es (take i ps)) (λ s d. IsBetween s d (nat_lt 0 i)) ready a b c
        ready_then h k

    pub members_at_entry : {E : Type 0} (r : Result (Unit {0}) E) → IsErr r
        → (IsValue e.1 → Stopped (IsEntry c.style c.dent e) c d)
        → PrintsIf (ArePairs (pairs_of es)) (ArePrintedMembers a.style a.dent es ps) a d r
    members_at_entry r j f = PrintsIf-at_err _ _ a d r j (λ keyed.
        Stopped-begins (ArePrintedMembers a.style a.dent es (take (i + 1) ps)) (ArePrintedMembers a.style a.dent es ps) a d
        (early keyed)
        (Stopped-after ready (λ s d. IsEntry s d e) (ArePrintedMembers a.style a.dent es (take (i + 1) ps)) a c d entry_then
        is_ready
        (f (subst (λ f. IsValue f.1) he (keyed_at es (get_or ps i 0) keyed (order_within (length es) ps o i hi))))))

    pub members_more : Added (IsEntry c.style c.dent e) c d → Added (ArePrintedMembers a.style a.dent es (take (i + 1) ps)) a d
    members_more f = Added-after ready (λ s d. IsEntry s d e) (ArePrintedMembers a.style a.dent es (take (i + 1) ps)) a c d
        entry_then is_ready f

-- ---- an object whose order is known
module _ (a : Emitted) (lawful : IsStyle a.style) (es : List (List ℕ × Value)) (ps : List ℕ)
    (o : IsOrder (length es) ps) (t : IsTrue (a.style.order (keys_of es) ps)) (n : 0 < length es) {E : Type 0}
    (r : Result (Unit {0}) E) where
  abbrev this_object : List ℕ → Type 0
  this_object = Writes a.style a.dent (object (pairs_of es))

  pub object_at_opening : (b : Emitted) → IsErr r → Failed (Just (123 ∷ [])) a b
      → PrintsIf (IsValue (object (pairs_of es))) this_object a b r
  object_at_opening b k h = PrintsIf-at_err _ this_object a b r k
      (λ keyed. stopped_at_opening 123 125 (λ s d. ArePrintedMembers s d es ps) this_object a
      (object_closed a.style a.dent es ps o t n) (some_members a.style (suc a.dent) es ps o lawful keyed.0)
      (some_closing a.style lawful a.dent 125) b h)

  module _ (b c : Emitted) (h : Added (Just (123 ∷ [])) a b) where
    pub object_at_indent : IsErr r → c ≡ record b { faults = noted b.faults }
        → PrintsIf (IsValue (object (pairs_of es))) this_object a c r
    object_at_indent k e = PrintsIf-at_err _ this_object a c r k
        (λ keyed. stopped_at_indent 123 125 (λ s d. ArePrintedMembers s d es ps) this_object a
        (object_closed a.style a.dent es ps o t n) (some_members a.style (suc a.dent) es ps o lawful keyed.0)
        (some_closing a.style lawful a.dent 125) b c h e)

    module _ (d : Emitted) (e : c ≡ record b { dent = b.dent + 1 }) where
      pub object_at_members : IsErr r → (ArePairs (pairs_of es) → Stopped (ArePrintedMembers c.style c.dent es ps) c d)
          → PrintsIf (IsValue (object (pairs_of es))) this_object a d r
      object_at_members k f = PrintsIf-at_err _ this_object a d r k
          (λ keyed. stopped_inside 123 125 (λ s d. ArePrintedMembers s d es ps) this_object a
          (object_closed a.style a.dent es ps o t n) b c d h e (some_closing a.style lawful a.dent 125) (f keyed.0))

      pub object_at_close : (f : Emitted) → Added (ArePrintedMembers c.style c.dent es ps) c d
          → Emits (IsClosing d.style (d.dent - 1) 125) (record d { dent = d.dent - 1 }) f r
          → PrintsIf (IsValue (object (pairs_of es))) this_object a f r
      object_at_close f = printed_at_close 123 125 (λ s d. ArePrintedMembers s d es ps) this_object a
          (object_closed a.style a.dent es ps o t n) b c d h e (IsValue (object (pairs_of es))) f r

-- ---- a key, and its colon
module _ (s : Style) (k : List ℕ) where
  pub key_colon : (x y : List ℕ) → Just (quoted k) x → IsForm s (58 ∷ 32 ∷ []) 58 y → IsPrintedKey s k (x ++ y)
  key_colon x y p (inl q) = (true, q.1, ap (λ w. w ++ y) p ∙ ap (λ w. quoted k ++ w) q.0)
  key_colon x y p (inr q) = (false, q.1, ap (λ w. w ++ y) p ∙ ap (λ w. quoted k ++ w) q.0)

  pub key_begins : IsStyle s → (x : List ℕ) → Just (quoted k) x → Begins (IsPrintedKey s k) x
  key_begins lawful x p =
      let (wide, t) = lawful.colon in
      (colon_text wide, (wide, t, ap (λ w. w ++ colon_text wide) p))

-- ---- an entry: its key with the colon, and its value
module _ (s : Style) (d : ℕ) (e : List ℕ × Value) where
  pub pair_value : (x y : List ℕ) → IsPrintedKey s e.0 x → Writes s d e.1 y → IsEntry s d e (x ++ y)
  pair_value x y (wide, t, p) q = (wide, y, t, q, ap (λ w. w ++ y) p ∙ append_assoc (quoted e.0) (colon_text wide) y)

  pub after_key : IsStyle s → IsValue e.1 → (x : List ℕ) → IsPrintedKey s e.0 x → Begins (IsEntry s d e) x
  after_key lawful keyed x p =
      let y : (b : List ℕ) × Writes s d e.1 b = some_writing s lawful d e.1 keyed in
      (y.0, pair_value x y.0 p y.1)
