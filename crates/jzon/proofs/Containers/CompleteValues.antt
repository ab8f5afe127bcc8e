-- Complete (`complete`): over the cells of a tree the automaton goes from before it to after its meaning, each move
-- with its cell's mark. Shown for each part of a tree, whatever cells k follow it and whatever G is required at the
-- end: if G is reached from after the part over k, it is reached from before the part over its cells and k.
use Rattle.jzon_base.proofs.Common.{◌≡◌, ◌∙◌, ℕ, suc, ◌+◌, ◌-◌, List, [], ◌∷◌, ◌++◌, length, Bool, true, false, cond}
use Rattle.jzon_base.proofs.Common.{◌&&◌, ◌||◌, None, refl, sym, subst, ap, arith, fold, is_some, bytes_eq}
use Rattle.jzon_base.specs.PairList.{find, put}
use Rattle.jzon_base.proofs.KeyIndex.KnownKeys.{known-put}
use Rattle.jzon_tree.specs.Same.{is_known}
use Rattle.jzon_tree.specs.Value as value
use Rattle.jzon_tree.specs.Value.{Value, Values, pairs_of}
use Rattle.jzon.specs.Reading.{Reading}
use Rattle.jzon.specs.Grammar.{Key, Node, Elements, no_elements, element, Members, no_members, member, Document}
use Rattle.jzon.specs.Grammar.{IsWhitespace, IsKey, IsNode, AreElements, AreMembers, IsDocument}
use Rattle.jzon.specs.Spelling.{duplicate, Cell, cell, plain, breach_if, items_cells, items_length, duplicate_if}
use Rattle.jzon.specs.Spelling.{key_cells, node_cells, elements_cells, members_cells, cells}
use Rattle.jzon.specs.Meaning.{bytes_of, meaning, elements_meaning, members_meaning}
use Rattle.jzon.specs.Private.Machine.{EntriesSoFar, Frames, no_frames, array_frame, object_frame, as_key, State, before}
use Rattle.jzon.specs.Private.Machine.{before_key, after_key, after_value, Outcome, meant, frames_depth}
use Rattle.jzon.specs.Private.Machine.{value_mark, key_mark, repeated_if, allows_whitespace}
use Rattle.jzon.specs.Private.Classes.{quote, opens_array, closes_array, opens_object, closes_object, comma, colon}
use Rattle.jzon.specs.Private.Classes.{begins_null, begins_true, begins_false}
use Rattle.jzon.proofs.Texts.ClassesOfCharacters.{class-char}
use Rattle.jzon.proofs.Texts.Runs.{Follows, stays}
use Rattle.jzon.proofs.Numbers.CompleteNumbers.{complete_number}
use Rattle.jzon.proofs.Strings.CompleteStrings.{read_items, complete_string, length-items}

-- ---- values of an array, with those before

abbrev pub with_prefix : List Value → Values → Values
with_prefix [] vs = vs
with_prefix (u ∷ us) vs = value.value u (with_prefix us vs)

pub with_prefix-append : (us : List Value) (v : Value) (vs : Values)
    → with_prefix (us ++ v ∷ []) vs ≡ with_prefix us (value.value v vs)
with_prefix-append [] v vs = refl
with_prefix-append (u ∷ us) v vs = ap (value.value u) (with_prefix-append us v vs)

pub closed-values : (us : List Value) (v : Value)
    → value.values_of (us ++ v ∷ []) ≡ with_prefix us (value.value v value.no_values)
closed-values [] v = refl
closed-values (u ∷ us) v = ap (value.value u) (closed-values us v)

-- ---- marks

pub not_first_value : (r : Reading) (fs : Frames) (us : List Value) (v : Value)
    → value_mark r (array_frame fs (us ++ v ∷ [])) ≡ None
not_first_value r fs [] v = refl
not_first_value r fs (u ∷ us) v = refl

not_first_by : (r : Reading) (fs : Frames) (t : Bool) (p q : List ℕ × Value) (ps qs : EntriesSoFar)
    → key_mark r fs (cond t (p ∷ ps) (q ∷ qs)) ≡ None
not_first_by r fs true p q ps qs = refl
not_first_by r fs false p q ps qs = refl

pub not_first_key : (r : Reading) (fs : Frames) (k : List ℕ) (v : Value) (es : EntriesSoFar)
    → key_mark r fs (put k v es) ≡ None
not_first_key r fs k v [] = refl
not_first_key r fs k v (e ∷ es) = not_first_by r fs (bytes_eq e.0 k) _ _ _ _

-- the keys of the object so far are those in `seen`
abbrev Knows : List (List ℕ) → EntriesSoFar → Type 0
Knows seen es = (q : List ℕ) → is_some (find q es) ≡ is_known seen q

knows-put : (seen : List (List ℕ)) (es : EntriesSoFar) (k : List ℕ) (v : Value) → Knows seen es
    → Knows (k ∷ seen) (put k v es)
knows-put seen es k v h q = known-put q k v es ∙ ap (λ t. bytes_eq k q || t) (h q)

-- ---- whitespace

module _ (r : Reading) (G : Outcome → Type 0) where
  abbrev F : List Cell → State → Type 0
  F q p = Follows r G q p

  blanks : (w : List ℕ) (p : State) (q : List Cell) → IsWhitespace r w → allows_whitespace p ≡ true → F q p
      → F (plain w q) p
  blanks [] p q ok allows h = h
  blanks (c ∷ w) p q ok allows h =
      rw (stays r p c (suc (length (plain w q))) allows ok.0) (refl, blanks w p q ok.1 allows h)

  -- ---- keys

  complete_key : (fs : Frames) (es : EntriesSoFar) (seen : List (List ℕ)) (key : Key) (k : List Cell) → Knows seen es
      → IsKey r key → F k (before (object_frame fs es (bytes_of key.items)))
      → F (key_cells r seen key (key_mark r fs es) k) (before_key fs es)
  complete_key fs es seen key k knows ok h =
      let after : List Cell = plain key.after (cell 58 None ∷ k) in
      let closing : Cell = cell 34 (duplicate_if r seen key.items) in
      let opened : ℕ = suc (length (items_cells key.items (closing ∷ after))) in
      let back : opened - suc (length after) ≡ items_length key.items + 1 =
      omega (arith, length-items key.items (closing ∷ after)) in
      let mark : repeated_if r es (bytes_of key.items) (opened - suc (length after)) ≡ duplicate_if r seen key.items =
      ap (λ t. breach_if (r.strict && t) (duplicate (opened - suc (length after)))) (knows (bytes_of key.items))
      ∙ ap (λ n. breach_if (r.strict && is_known seen (bytes_of key.items)) (duplicate n)) back in
      let colon_next = blanks key.after (after_key fs es (bytes_of key.items)) _ ok.2 refl
      (rw (class-char r.strict colon) (refl, h)) in
      blanks key.before (before_key fs es) _ ok.0 refl (rw (class-char r.strict quote)
      (refl, read_items r G (as_key fs es opened) [] key.items (closing ∷ after) ok.1 (mark, colon_next)))

  -- ---- values

  mutual
    pub complete_node : (n : Node) (fs : Frames) (k : List Cell) → IsNode r n → F k (after_value fs (meaning n))
        → F (node_cells r n (frames_depth fs) (value_mark r fs) k) (before fs)
    complete_node Node.null fs k ok h = rw (class-char r.strict begins_null) (refl, (refl, (refl, (refl, h))))
    complete_node (Node.boolean true) fs k ok h = rw (class-char r.strict begins_true) (refl, (refl, (refl, (refl, h))))
    complete_node (Node.boolean false) fs k ok h =
        rw (class-char r.strict begins_false) (refl, (refl, (refl, (refl, (refl, h)))))
    complete_node (Node.number n) fs k ok h = complete_number r G fs n k ok h
    complete_node (Node.string is) fs k ok h = complete_string r G fs is k ok h
    complete_node (Node.empty_array b) fs k ok h =
        rw (class-char r.strict opens_array)
        (refl, blanks b (before (array_frame fs [])) _ ok refl (rw (class-char r.strict closes_array) (refl, h)))
    complete_node (Node.empty_object b) fs k ok h =
        rw (class-char r.strict opens_object)
        (refl, blanks b (before_key fs []) _ ok refl (rw (class-char r.strict closes_object) (refl, h)))
    complete_node (Node.array b n c es) fs k ok h =
        let inner : Frames = array_frame fs [] in
        let rest = blanks c (after_value inner (meaning n)) _ ok.2 refl
        (complete_elements es fs [] (meaning n) k ok.3 h) in
        let first = blanks b (before inner) _ ok.0 refl (complete_node n inner _ ok.1 rest) in
        rw (class-char r.strict opens_array) (refl, first)
    complete_node (Node.object key b n c ms) fs k ok h =
        let name : List ℕ = bytes_of key.items in
        let inner : Frames = object_frame fs [] name in
        let rest = blanks c (after_value inner (meaning n)) _ ok.3 refl (complete_members ms fs [] name (meaning n)
        (name ∷ []) k (knows-put [] [] name (meaning n) (λ q. refl)) ok.4 h) in
        let first = complete_key fs [] [] key _ (λ q. refl) ok.0
        (blanks b (before inner) _ ok.1 refl (complete_node n inner _ ok.2 rest)) in
        rw (class-char r.strict opens_object) (refl, first)

    complete_elements : (es : Elements) (fs : Frames) (vs : List Value) (v : Value) (k : List Cell) → AreElements r es
        → F k (after_value fs (value.array (with_prefix vs (value.value v (elements_meaning es)))))
        → F (elements_cells r es (suc (frames_depth fs)) k) (after_value (array_frame fs vs) v)
    complete_elements no_elements fs vs v k ok h =
        rw (class-char r.strict closes_array)
        (refl, subst (λ z. F k (after_value fs (value.array z))) (sym (closed-values vs v)) h)
    complete_elements (element b n c es) fs vs v k ok h =
        let inner : Frames = array_frame fs (vs ++ v ∷ []) in
        let rest : List Cell = plain c (elements_cells r es (suc (frames_depth fs)) k) in
        let more = complete_elements es fs (vs ++ v ∷ []) (meaning n) k ok.3 (rw with_prefix-append h) in
        let next = complete_node n inner rest ok.1 (blanks c (after_value inner (meaning n)) _ ok.2 refl more) in
        rw (class-char r.strict comma)
        (refl, blanks b (before inner) _ ok.0 refl (rw (← (not_first_value r fs vs v)) next))

    complete_members : (ms : Members) (fs : Frames) (es : EntriesSoFar) (key : List ℕ) (v : Value) (seen : List (List ℕ))
        (k : List Cell) → Knows seen (put key v es) → AreMembers r ms
        → F k (after_value fs
        (value.object (pairs_of (fold (λ qs p. put p.0 p.1 qs) (put key v es) (members_meaning ms)))))
        → F (members_cells r ms seen (suc (frames_depth fs)) k) (after_value (object_frame fs es key) v)
    complete_members no_members fs es key v seen k knows ok h = rw (class-char r.strict closes_object) (refl, h)
    complete_members (member key' b n c ms) fs es key v seen k knows ok h =
        let so_far : EntriesSoFar = put key v es in
        let inner : Frames = object_frame fs so_far (bytes_of key'.items) in
        let rest : List Cell = plain b (node_cells r n (suc (frames_depth fs)) None
        (plain c (members_cells r ms (bytes_of key'.items ∷ seen) (suc (frames_depth fs)) k))) in
        let more = complete_members ms fs so_far (bytes_of key'.items) (meaning n) (bytes_of key'.items ∷ seen) k
        (knows-put seen so_far (bytes_of key'.items) (meaning n) knows) ok.4 h in
        let next = complete_key fs so_far seen key' rest knows ok.0 (blanks b (before inner) _ ok.1 refl
        (complete_node n inner _ ok.2 (blanks c (after_value inner (meaning n)) _ ok.3 refl more))) in
        rw (class-char r.strict comma)
        (refl, subst (λ m. F (key_cells r seen key' m rest) (before_key fs so_far)) (not_first_key r fs key v es) next)

pub complete : (r : Reading) (d : Document) → IsDocument r d
    → Follows r (λ o. o ≡ meant (meaning d.node)) (cells r d) (before no_frames)
complete r d ok =
    let G : Outcome → Type 0 = λ o. o ≡ meant (meaning d.node) in
    blanks r G d.before (before no_frames) _ ok.0 refl (complete_node r G d.node no_frames _ ok.1
    (blanks r G d.after (after_value no_frames (meaning d.node)) [] ok.2 refl refl))
