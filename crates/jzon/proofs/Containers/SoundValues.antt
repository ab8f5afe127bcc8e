-- Sound (`sound`): if the automaton reads a text to a value, ignoring marks, some tree spells the text and means the
-- value. By induction over the text: `Left p t` says what the text t is from state p to its end (from inside an array:
-- the rest of an element, then elements, the bracket, and what follows the array), and `on` extends it by one
-- character.
use Rattle.jzon_base.proofs.Common.{◌≡◌, ◌∙◌, ◌⊎◌, inl, inr, ℕ, suc, List, [], ◌∷◌, ◌++◌, length, Bool, true, false}
use Rattle.jzon_base.proofs.Common.{cond, ◌==◌, Option, Some, None, refl, sym, ap, eqb-true, fold, bytes_eq}
use Rattle.jzon_base.specs.PairList.{put}
use Rattle.jzon_tree.specs.Value as value
use Rattle.jzon_tree.specs.Value.{Value, values_of, pairs_of, kind_of}
use Rattle.jzon.specs.Reading.{Reading}
use Rattle.jzon.specs.Grammar.{Key, Node, Elements, no_elements, element, Members, no_members, member, Document}
use Rattle.jzon.specs.Grammar.{IsWhitespace, IsKey, IsNode, AreElements, AreMembers}
use Rattle.jzon.specs.Spelling.{Breach}
use Rattle.jzon.specs.Meaning.{bytes_of, meaning, elements_meaning, members_meaning}
use Rattle.jzon.specs.Fault.{Spells}
use Rattle.jzon.specs.Private.Classes.{Class, whitespace, digits, minus_char, quote, opens_array, closes_array}
use Rattle.jzon.specs.Private.Classes.{opens_object, closes_object, comma, colon, begins_null, begins_true}
use Rattle.jzon.specs.Private.Classes.{begins_false, class_of, after_first_digit, after_minus}
use Rattle.jzon.specs.Private.Machine.{EntriesSoFar, Frames, no_frames, array_frame, object_frame, as_value, as_key, State}
use Rattle.jzon.specs.Private.Machine.{before, Role, Move, numeral, last, meant, meant_at, closed_string, before_key}
use Rattle.jzon.specs.Private.Machine.{word, string, after_key, after_value, between, go, bad, past_letter, value_mark}
use Rattle.jzon.specs.Private.Machine.{key_mark, bad_at, move_before, move_before_key, move_after_key, move_after_value}
use Rattle.jzon.specs.Private.Machine.{move_empty_array, move_empty_object}
use Rattle.jzon.proofs.Texts.ClassesOfCharacters.{class-says}
use Rattle.jzon.proofs.Texts.Runs.{On, Goes}
use Rattle.jzon.specs.TreeCharacters.{key_chars, node_chars, elements_chars, members_chars}
use Rattle.jzon.proofs.Texts.TreeCharacters.{spells}
use Rattle.jzon.proofs.Containers.CompleteValues.{with_prefix, with_prefix-append, closed-values}
use Rattle.jzon.proofs.Numbers.SoundNumbers.{InNumeral, number_ends, number_on, digit_sound, minus_sound}
use Rattle.jzon.proofs.Strings.SoundStrings.{Left as string_left, string_on}

module _ (r : Reading) (v : Value) where
  -- ---- what the rest of a text is, from each state to the end of the text

  -- after a value: the rest of its container, and so on; at the top the value is the result
  abbrev AfterValue : Frames → Value → List ℕ → Type 0
  AfterValue no_frames x t = IsWhitespace r t × (x ≡ v)
  AfterValue (array_frame fs vs) x t = (w : List ℕ) × (es : Elements) × (u : List ℕ) × IsWhitespace r w
      × AreElements r es
      × (t ≡ w ++ elements_chars es u)
      × AfterValue fs (value.array (with_prefix vs (value.value x (elements_meaning es)))) u
  AfterValue (object_frame fs es k) x t = (w : List ℕ) × (ms : Members) × (u : List ℕ) × IsWhitespace r w
      × AreMembers r ms
      × (t ≡ w ++ members_chars ms u)
      × AfterValue fs (value.object (pairs_of (fold (λ qs p. put p.0 p.1 qs) (put k x es) (members_meaning ms)))) u

  -- whitespace and a value
  abbrev ValueLeft : Frames → List ℕ → Type 0
  ValueLeft fs t = (w : List ℕ) × (n : Node) × (u : List ℕ) × IsWhitespace r w × IsNode r n × (t ≡ w ++ node_chars n u)
      × AfterValue fs (meaning n) u

  -- whitespace and the bracket that closes an empty array
  abbrev ArrayCloses : Frames → List ℕ → Type 0
  ArrayCloses (array_frame fs []) t = (w : List ℕ) × (u : List ℕ) × IsWhitespace r w × (t ≡ w ++ (93 ∷ u))
      × AfterValue fs (value.array value.no_values) u
  ArrayCloses _ t = ⊥

  -- whitespace, a colon and a value
  abbrev ColonLeft : Frames → EntriesSoFar → List ℕ → List ℕ → Type 0
  ColonLeft fs es k t = (z : List ℕ) × (u : List ℕ) × IsWhitespace r z × (t ≡ z ++ (58 ∷ u))
      × ValueLeft (object_frame fs es k) u

  -- a key, a colon and a value
  abbrev MemberLeft : Frames → EntriesSoFar → List ℕ → Type 0
  MemberLeft fs es t = (key : Key) × (b : List ℕ) × (n : Node) × (u : List ℕ) × IsKey r key × IsWhitespace r b
      × IsNode r n × (t ≡ key_chars key (b ++ node_chars n u))
      × AfterValue (object_frame fs es (bytes_of key.items)) (meaning n) u

  abbrev ObjectCloses : Frames → EntriesSoFar → List ℕ → Type 0
  ObjectCloses fs [] t = (w : List ℕ) × (u : List ℕ) × IsWhitespace r w × (t ≡ w ++ (125 ∷ u))
      × AfterValue fs (value.object value.no_pairs) u
  ObjectCloses fs (e ∷ es) t = ⊥

  abbrev AfterString : Role → List ℕ → List ℕ → Type 0
  AfterString (as_value fs) bs u = AfterValue fs (value.text (kind_of bs) bs) u
  AfterString (as_key fs es opened) bs u = ColonLeft fs es bs u

  abbrev Left : State → List ℕ → Type 0
  Left (before fs) t = ValueLeft fs t ⊎ ArrayCloses fs t
  Left (before_key fs es) t = MemberLeft fs es t ⊎ ObjectCloses fs es t
  Left (word fs x l ls) t = (u : List ℕ) × (t ≡ l ∷ (ls ++ u)) × AfterValue fs x u
  Left (numeral fs negative x) t = InNumeral r v fs (AfterValue fs) negative x t
  Left (string role bs x) t = string_left r v role (AfterString role) x bs t
  Left (after_key fs es k) t = ColonLeft fs es k t
  Left (after_value fs x) t = AfterValue fs x t

  -- ---- the end of the text

  after_ends : (fs : Frames) (x : Value) → meant_at fs x ≡ meant v → AfterValue fs x []
  after_ends no_frames x e = (tt, let f : x ≡ v = cc in f)
  after_ends _ x e = absurd (cc)

  ends : (p : State) → last p ≡ meant v → Left p []
  ends (numeral fs negative x) e = number_ends r v fs (AfterValue fs) (after_ends fs) x negative e
  ends (after_value fs x) e = after_ends fs x e
  ends _ e = absurd (cc)

  no_more : (m : Option Breach) (F : State → Type 0) → On (bad_at m) F → ⊥
  no_more None F h = h
  no_more (Some b) F h = h

  -- ---- one character

  module _ (c : ℕ) (cs : List ℕ) (ih : (p : State) → Goes r v cs p → Left p cs) where
    abbrev M : Move → Type 0
    M z = On z (λ p. Goes r v cs p)

    -- after a value

    element_on : (fs : Frames) (vs : List Value) (x : Value) → c ≡ 44 → Left (before (array_frame fs (vs ++ x ∷ []))) cs
        → AfterValue (array_frame fs vs) x (c ∷ cs)
    element_on fs vs x e (inl (b, y, u, b_ok, y_ok, f, (w, es, u', w_ok, es_ok, g, h))) =
        ([], element b y w es, u', tt, (b_ok, y_ok, w_ok, es_ok), (cc), rw with_prefix-append at h)
    element_on fs vs x e (inr h) = absurd (no_close vs h)
      where
        no_close : (us : List Value) → ArrayCloses (array_frame fs (us ++ x ∷ [])) cs → ⊥
        no_close [] h = h
        no_close (y ∷ us) h = h

    member_on : (fs : Frames) (es : EntriesSoFar) (k : List ℕ) (x : Value) → c ≡ 44 → Left (before_key fs (put k x es)) cs
        → AfterValue (object_frame fs es k) x (c ∷ cs)
    member_on fs es k x e (inl (key, b, y, u, key_ok, b_ok, y_ok, f, (w, ms, u', w_ok, ms_ok, g, h))) =
        ([], member key b y w ms, u', tt, (key_ok, b_ok, y_ok, w_ok, ms_ok), (cc), h)
    member_on fs es k x e (inr h) = absurd (no_close es h)
      where
        by_test : (a : Bool) (p q : List ℕ × Value) (ps qs : EntriesSoFar)
            → ObjectCloses fs (cond a (p ∷ ps) (q ∷ qs)) cs → ⊥
        by_test true p q ps qs h = h
        by_test false p q ps qs h = h

        no_close : (ps : EntriesSoFar) → ObjectCloses fs (put k x ps) cs → ⊥
        no_close [] h = h
        no_close (p ∷ ps) h = by_test (bytes_eq p.0 k) _ _ _ _ h

    after_more : (fs : Frames) (x : Value)
        → class_of r.strict c ≡ whitespace → AfterValue fs x cs → AfterValue fs x (c ∷ cs)
    after_more no_frames x e (w_ok, f) = ((class-says r.strict c e, w_ok), f)
    after_more (array_frame fs vs) x e (w, es, u, w_ok, es_ok, f, h) =
        (c ∷ w, es, u, (class-says r.strict c e, w_ok), es_ok, ap (λ z. c ∷ z) f, h)
    after_more (object_frame fs ps k) x e (w, ms, u, w_ok, ms_ok, f, h) =
        (c ∷ w, ms, u, (class-says r.strict c e, w_ok), ms_ok, ap (λ z. c ∷ z) f, h)

    after_on : (k : Class) (fs : Frames) (x : Value) → class_of r.strict c ≡ k → M (move_after_value k fs x)
        → AfterValue fs x (c ∷ cs)
    after_on whitespace fs x e h = after_more fs x e (ih (after_value fs x) h)
    after_on comma (array_frame fs vs) x e h =
        element_on fs vs x (class-says r.strict c e) (ih (before (array_frame fs (vs ++ x ∷ []))) h)
    after_on comma (object_frame fs es k) x e h =
        member_on fs es k x (class-says r.strict c e) (ih (before_key fs (put k x es)) h)
    after_on closes_array (array_frame fs vs) x e h =
        let k = ih (after_value fs (value.array (values_of (vs ++ x ∷ [])))) h in
        ([], no_elements, cs, tt, tt, ap (λ z. z ∷ cs) (class-says r.strict c e), rw closed-values at k)
    after_on closes_object (object_frame fs es k) x e h =
        ([], no_members, cs, tt, tt, ap (λ z. z ∷ cs) (class-says r.strict c e), ih _ h)
    after_on _ fs x e h = absurd h

    -- before a value

    value_more : (fs : Frames) → class_of r.strict c ≡ whitespace → Left (before fs) cs → Left (before fs) (c ∷ cs)
    value_more fs e (inl (w, n, u, w_ok, n_ok, f, h)) =
        inl (c ∷ w, n, u, (class-says r.strict c e, w_ok), n_ok, ap (λ z. c ∷ z) f, h)
    value_more (array_frame fs []) e (inr (w, u, w_ok, f, h)) =
        inr (c ∷ w, u, (class-says r.strict c e, w_ok), ap (λ z. c ∷ z) f, h)
    value_more _ e (inr h) = absurd h

    array_closes : (fs : Frames) → c ≡ 93 → M (move_empty_array fs) → ArrayCloses fs (c ∷ cs)
    array_closes (array_frame fs []) e h =
        ([], cs, tt, ap (λ z. z ∷ cs) e, ih (after_value fs (value.array value.no_values)) h)
    array_closes _ e h = absurd h

    array_on : (fs : Frames) → c ≡ 91 → Left (before (array_frame fs [])) cs → ValueLeft fs (c ∷ cs)
    array_on fs e (inl (b, x, u, b_ok, x_ok, f, (w, es, u', w_ok, es_ok, g, h))) =
        ([], Node.array b x w es, u', tt, (b_ok, x_ok, w_ok, es_ok), (cc), h)
    array_on fs e (inr (w, u, w_ok, f, h)) = ([], Node.empty_array w, u, tt, w_ok, (cc), h)

    object_on : (fs : Frames) → c ≡ 123 → Left (before_key fs []) cs → ValueLeft fs (c ∷ cs)
    object_on fs e (inl (key, b, x, u, key_ok, b_ok, x_ok, f, (w, ms, u', w_ok, ms_ok, g, h))) =
        ([], Node.object key b x w ms, u', tt, (key_ok, b_ok, x_ok, w_ok, ms_ok), (cc), h)
    object_on fs e (inr (w, u, w_ok, f, h)) = ([], Node.empty_object w, u, tt, w_ok, (cc), h)

    -- the first letter of a literal is read
    word_on : (fs : Frames) (n : Node) (d l : ℕ) (ls : List ℕ) → c ≡ d → IsNode r n
        → ((u : List ℕ) → d ∷ l ∷ (ls ++ u) ≡ node_chars n u) → Left (word fs (meaning n) l ls) cs
        → ValueLeft fs (c ∷ cs)
    word_on fs n d l ls e ok spelt (u, f, h) = ([], n, u, tt, ok, rw e (ap (λ z. d ∷ z) f) ∙ spelt u, h)

    value_on : (k : Class) (fs : Frames) → class_of r.strict c ≡ k → M (move_before r k fs c)
        → Left (before fs) (c ∷ cs)
    value_on whitespace fs e h = value_more fs e (ih (before fs) h)
    value_on digits fs e h =
        let g = digit_sound r v fs (AfterValue fs) c cs e (ih (numeral fs false (after_first_digit (c == 48) c)) h) in
        inl ([], Node.number g.0, g.1, tt, g.2, g.3, g.4)
    value_on minus_char fs e h =
        let g = minus_sound r v fs (AfterValue fs) cs (ih (numeral fs true after_minus) h) in
        inl ([], Node.number g.0, g.1, tt, g.2, ap (λ z. z ∷ cs) (class-says r.strict c e) ∙ g.3, g.4)
    value_on quote fs e h =
        let g = ih (string (as_value fs) [] between) h in
        inl ([], Node.string g.0, g.1, tt, g.2, rw (class-says r.strict c e) (ap (λ z. 34 ∷ z) g.3), g.4)
    value_on opens_array fs e h = inl (array_on fs (class-says r.strict c e) (ih (before (array_frame fs [])) h))
    value_on opens_object fs e h = inl (object_on fs (class-says r.strict c e) (ih (before_key fs []) h))
    value_on closes_array fs e h = inr (array_closes fs (class-says r.strict c e) h)
    value_on begins_null fs e h =
        inl (word_on fs Node.null 110 117 (108 ∷ 108 ∷ []) (class-says r.strict c e) tt (λ u. refl) (ih _ h))
    value_on begins_true fs e h =
        inl (word_on fs (Node.boolean true) 116 114 (117 ∷ 101 ∷ []) (class-says r.strict c e) tt (λ u. refl)
        (ih _ h))
    value_on begins_false fs e h =
        inl (word_on fs (Node.boolean false) 102 97 (108 ∷ 115 ∷ 101 ∷ []) (class-says r.strict c e) tt
        (λ u. refl) (ih _ h))
    value_on _ fs e h = absurd (no_more (value_mark r fs) _ h)

    -- keys

    key_more : (fs : Frames) (es : EntriesSoFar) → class_of r.strict c ≡ whitespace → Left (before_key fs es) cs
        → Left (before_key fs es) (c ∷ cs)
    key_more fs es e (inl (key, b, x, u, (a_ok, i_ok, z_ok), b_ok, x_ok, f, h)) =
        let longer : Key = record key { before = c ∷ key.before } in
        inl (longer, b, x, u, ((class-says r.strict c e, a_ok), i_ok, z_ok), b_ok, x_ok, ap (λ z. c ∷ z) f, h)
    key_more fs [] e (inr (w, u, w_ok, f, h)) =
        inr (c ∷ w, u, (class-says r.strict c e, w_ok), ap (λ z. c ∷ z) f, h)
    key_more fs (x ∷ es) e (inr h) = absurd h

    object_closes : (fs : Frames) (es : EntriesSoFar) → c ≡ 125 → M (move_empty_object fs es) → ObjectCloses fs es (c ∷ cs)
    object_closes fs [] e h = ([], cs, tt, ap (λ z. z ∷ cs) e, ih (after_value fs (value.object value.no_pairs)) h)
    object_closes fs (x ∷ es) e h = absurd h

    quote_on : (fs : Frames) (es : EntriesSoFar) (opened : ℕ) → c ≡ 34 → Left (string (as_key fs es opened) [] between) cs
        → MemberLeft fs es (c ∷ cs)
    quote_on fs es opened e (is, u, is_ok, f, (z, u', z_ok, g, (b, x, u'', b_ok, x_ok, k, h))) =
        (record { before = []; items = is; after = z }, b, x, u'', (tt, is_ok, z_ok), b_ok, x_ok, (cc), h)

    key_on : (k : Class) (fs : Frames) (es : EntriesSoFar) → class_of r.strict c ≡ k
        → M (move_before_key r k fs es (suc (length cs))) → Left (before_key fs es) (c ∷ cs)
    key_on whitespace fs es e h = key_more fs es e (ih (before_key fs es) h)
    key_on quote fs es e h =
        inl (quote_on fs es (suc (length cs)) (class-says r.strict c e)
        (ih (string (as_key fs es (suc (length cs))) [] between) h))
    key_on closes_object fs es e h = inr (object_closes fs es (class-says r.strict c e) h)
    key_on _ fs es e h = absurd (no_more (key_mark r fs es) _ h)

    colon_value : (fs : Frames) (es : EntriesSoFar) (k : List ℕ) → c ≡ 58 → Left (before (object_frame fs es k)) cs
        → ColonLeft fs es k (c ∷ cs)
    colon_value fs es k e (inl h) = ([], cs, tt, ap (λ z. z ∷ cs) e, h)
    colon_value fs es k e (inr h) = absurd h

    colon_on : (class : Class) (fs : Frames) (es : EntriesSoFar) (k : List ℕ) → class_of r.strict c ≡ class
        → M (move_after_key class fs es k) → ColonLeft fs es k (c ∷ cs)
    colon_on whitespace fs es k e h =
        let g = ih (after_key fs es k) h in (c ∷ g.0, g.1, (class-says r.strict c e, g.2), ap (λ z. c ∷ z) g.3, g.4)
    colon_on colon fs es k e h =
        colon_value fs es k (class-says r.strict c e) (ih (before (object_frame fs es k)) h)
    colon_on _ fs es k e h = absurd h

    -- literals

    past : (fs : Frames) (x : Value) (ls : List ℕ) → Goes r v cs (past_letter fs x ls)
        → (u : List ℕ) × (cs ≡ ls ++ u) × AfterValue fs x u
    past fs x [] h = (cs, refl, ih (after_value fs x) h)
    past fs x (l ∷ ls) h = ih (word fs x l ls) h

    letter_on : (a : Bool) (fs : Frames) (x : Value) (l : ℕ) (ls : List ℕ) → c == l ≡ a
        → M (cond a (go None (past_letter fs x ls)) bad) → Left (word fs x l ls) (c ∷ cs)
    letter_on true fs x l ls e h =
        let (u, f, k) = past fs x ls h in (u, ap (λ z. z ∷ cs) (eqb-true c l e) ∙ ap (λ z. l ∷ z) f, k)
    letter_on false fs x l ls e h = absurd h

    closing : (role : Role) (bs : List ℕ) → M (closed_string r role bs (suc (length cs))) → AfterString role bs cs
    closing (as_value fs) bs h = ih (after_value fs (value.text (kind_of bs) bs)) h
    closing (as_key fs es opened) bs h = ih (after_key fs es bs) h

    on : (p : State) → Goes r v (c ∷ cs) p → Left p (c ∷ cs)
    on (before fs) h = value_on (class_of r.strict c) fs refl h
    on (before_key fs es) h = key_on (class_of r.strict c) fs es refl h
    on (word fs x l ls) h = letter_on (c == l) fs x l ls refl h
    on (numeral fs negative x) h =
        number_on r v fs (AfterValue fs) c cs (λ b y k. ih (numeral fs b y) k) x (class_of r.strict c) negative refl
        (λ y k. after_on (class_of r.strict c) fs y refl k) h
    on (string role bs x) h =
        string_on r v role (AfterString role) x bs c cs h (λ y b k. ih (string role b y) k) (λ b k. closing role b k)
    on (after_key fs es k) h = colon_on (class_of r.strict c) fs es k refl h
    on (after_value fs x) h = after_on (class_of r.strict c) fs x refl h

  left : (t : List ℕ) (p : State) → Goes r v t p → Left p t
  left [] p h = ends p h
  left (c ∷ cs) p h = on c cs (λ q k. left cs q k) p h

  document_of : (t : List ℕ) → Left (before no_frames) t → (d : Document) × Spells r t d × (meaning d.node ≡ v)
  document_of t (inl (w, n, u, w_ok, n_ok, f, (u_ok, e))) =
      let d : Document = record { before = w; node = n; after = u } in
      (d, ((w_ok, n_ok, u_ok), spells r d ∙ sym f), e)
  document_of t (inr h) = absurd h

pub sound : (r : Reading) (v : Value) (t : List ℕ) → Goes r v t (before no_frames)
    → (d : Document) × Spells r t d × (meaning d.node ≡ v)
sound r v t h = document_of r v t (left r v t (before no_frames) h)
