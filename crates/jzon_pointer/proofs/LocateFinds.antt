-- What each function of the walk of src/locate.rt finds, from what the calls in it promise.
use Rattle.jzon_base.proofs.Common.{◌≡◌, ◌≢◌, ◌∙◌, ◌<◌, ◌≤◌, ◌⊎◌, ◌+◌, inl, inr, ℕ, zero, suc, List, [], ◌∷◌, ◌++◌, Bool, true, false}
use Rattle.jzon_base.proofs.Common.{refl, sym, ap, subst, arith, length, drop, get_or, Option, Some, None, if◌then◌else◌}
use Rattle.jzon_base.proofs.Common.{Bor, IsCharBoundary-before_ascii, add-one, map, slice_index_or}
use Rattle.std.specs.Prelude.{option_and_then}
use Rattle.std.specs.Option.{MatchOption}
use Rattle.jzon.specs.Reading.{Reading}
use Rattle.jzon.specs.Grammar.{Node, member}
use Rattle.jzon.specs.Meaning.{bytes_of}
use Rattle.jzon.specs.Spelling.{plain, members_cells}
use Rattle.jzon_pointer.specs.Pointer.{names}
use Rattle.jzon_pointer.specs.Locate.{Named}
use Rattle.jzon_pointer.specs.Private.Walk.{Comes, EndsAfter, Finds, From, Goes, IsSpotOf, Passes, ReadsElement, ReadsEntry, ReadsKey, Stands}
use Rattle.jzon_pointer.specs.Locate.{child_named, keyed, members_text, named_in, node_text}
use Rattle.jzon_pointer.specs.Private.Walk.{after_whitespace, skim}
use Rattle.jzon_pointer.specs.declared.locate.Entry.{Entry}
use Rattle.jzon_pointer.specs.declared.locate.Passed.{Passed}
use Rattle.jzon_pointer.specs.declared.locate.Spot.{Spot}
use Rattle.jzon_pointer.specs.Private.Walk.{Outside}
use Rattle.jzon.proofs.ReadBack.UnmarkedCells.{plain_rest}
use Rattle.jzon_pointer.proofs.LocateClear.{after_key}
use Rattle.jzon_pointer.proofs.LocateMembers.{AtEntry, InObject, bracket_end, comes_last, comes_unique, entry_passed, in_object_start}
use Rattle.jzon_pointer.proofs.LocateMembers.{key_starts, left_next}
use Rattle.jzon_pointer.proofs.LocateTexts.{one_char, opened}
use Rattle.jzon_pointer.proofs.LocateWalks.{after_member, comes_element, comes_no_element, comes_none, comes_whole, ends_by, match_map}
use Rattle.jzon_pointer.proofs.LocateWalks.{no_children, node_ends, spot_none, too_deep}

-- ---- values

pub finds_whole : (bytes : List ℕ) (unique : Bool) (most depth : ℕ) (ts : List (List ℕ)) (s : Spot) (w : Passed) → ts ≡ []
    → w.found ≡ Some s → EndsAfter bytes unique s.value zero w.end → Finds bytes unique most ts depth s w
finds_whole bytes unique most depth ts s w none f e = λ r p goes at. comes_whole r bytes unique depth ts s p w none at f e

-- no array and no object, or too deep for one with children
pub finds_none : (bytes : List ℕ) (unique : Bool) (most depth : ℕ) (ts us : List (List ℕ)) (t : List ℕ) (s : Spot)
    (w : Passed) → ts ≡ t ∷ us → ((get_or bytes s.value 0 ≢ 91) × (get_or bytes s.value 0 ≢ 123)) ⊎ (most ≤ depth)
    → w.found ≡ None → EndsAfter bytes unique s.value zero w.end → Finds bytes unique most ts depth s w
finds_none bytes unique most depth ts us t s w more (inl other) f e = λ r p goes at.
    comes_none r bytes unique depth ts us t s p w more (no_children t bytes s.value p.node p.after at.value other.0 other.1)
    at f e
finds_none bytes unique most depth ts us t s w more (inr deep) f e = λ r p goes at.
    comes_none r bytes unique depth ts us t s p w more
    (too_deep r t depth p.node p.after at.clear.0 at.clear.1 at.grammar at.clear.2 (omega (arith, deep, goes.1)))
    at f e

-- ---- arrays

pub finds_no_element : (bytes : List ℕ) (unique : Bool) (most depth : ℕ) (ts us : List (List ℕ)) (t : List ℕ) (s : Spot)
    (w : Passed) → ts ≡ t ∷ us → get_or bytes s.value 0 ≡ 91 → ReadsElement bytes (s.value + 1) t None → w.found ≡ None
    → EndsAfter bytes unique (s.value + 1) 1 w.end → Finds bytes unique most ts depth s w
finds_no_element bytes unique most depth ts us t s w more byte reads f e = λ r p goes at.
    comes_no_element r bytes unique depth ts us t s p w more at byte reads f e

pub finds_element : (bytes : List ℕ) (unique : Bool) (most depth : ℕ) (ts us : List (List ℕ)) (t : List ℕ) (s : Spot)
    (at : ℕ) (v w : Passed) → ts ≡ t ∷ us → get_or bytes s.value 0 ≡ 91 → ReadsElement bytes (s.value + 1) t (Some at)
    → Finds bytes unique most us (depth + 1) (record { name = at; value = at }) v → w.found ≡ v.found
    → MatchOption v.end (w.end ≡ None) (λ e. EndsAfter bytes unique e 1 w.end) → Finds bytes unique most ts depth s w
finds_element bytes unique most depth ts us t s at v w more byte reads finds f e = λ r p goes here.
    comes_element r bytes unique most depth ts us t s p at v w more goes here byte reads
    (subst (λ (i : ℕ). Finds bytes unique most us i (record { name = at; value = at }) v) (add-one depth) finds) f e

-- the end of an array from that of one of its elements: nothing is looked for after it, or its own end is
pub element_kept : (bytes : List ℕ) (unique : Bool) (v : Passed) → v.end ≡ None
    → MatchOption v.end (v.end ≡ None) (λ e. EndsAfter bytes unique e 1 v.end)
element_kept bytes unique v is =
    subst (λ (o : Option ℕ). MatchOption o (v.end ≡ None) (λ e. EndsAfter bytes unique e 1 v.end)) (sym is) is

pub element_closed : (bytes : List ℕ) (unique : Bool) (v : Passed) (e : ℕ) (o : Option ℕ) → v.end ≡ Some e
    → EndsAfter bytes unique e 1 o → MatchOption v.end (o ≡ None) (λ i. EndsAfter bytes unique i 1 o)
element_closed bytes unique v e o is h =
    subst (λ (x : Option ℕ). MatchOption x (o ≡ None) (λ i. EndsAfter bytes unique i 1 o)) (sym is) h

-- ---- objects

-- what stands at the offset of the next key, if a value stands at the spot
abbrev pub Inside : List ℕ → Bool → ℕ → ℕ → List (List ℕ) → List ℕ → Spot → ℕ → Option Spot → Type 0
Inside bytes unique most depth us t s name found =
    (r : Reading) (p : Named) → Goes unique most r → Stands r bytes depth s p
    → InObject r bytes depth us t p.node p.after name found

pub inside_first : (bytes : List ℕ) (unique : Bool) (most depth : ℕ) (us : List (List ℕ)) (t : List ℕ) (s : Spot)
    (name : ℕ) → get_or bytes s.value 0 ≡ 123 → drop name bytes ≡ after_whitespace (drop (s.value + 1) bytes)
    → Inside bytes unique most depth us t s name None
inside_first bytes unique most depth us t s name byte e = λ r p goes at.
    let o = opened r bytes s.value p.node p.after 123 at.grammar at.value byte in
    in_object_start r bytes depth us t p.node p.after s.value name at.clear.0 at.clear.1 at.grammar at.clear.2 at.value
    (o.opens.1 refl) e

-- an object with an entry at the offset of its key
abbrev Entered : Reading → List ℕ → ℕ → List (List ℕ) → List ℕ → Node → List ℕ → ℕ → Option Spot → Type 0
Entered r bytes depth us t (Node.object key b n c ms) k name found =
    AtEntry r bytes depth us t (member key b n c ms) k name found
Entered r bytes depth us t _ k name found = ⊥

entered : (r : Reading) (bytes : List ℕ) (depth : ℕ) (us : List (List ℕ)) (t : List ℕ) (n : Node) (k : List ℕ) (name : ℕ)
    (found : Option Spot) → get_or bytes name 0 ≡ 34 → InObject r bytes depth us t n k name found
    → Entered r bytes depth us t n k name found
entered r bytes depth us t (Node.object key b n c ms) k name found quote a = a
entered r bytes depth us t (Node.empty_object b) k name found quote a =
    let closed = (one_char bytes name 125 k (omega arith) a.0).byte in absurd (omega (arith, quote, closed))
entered r bytes depth us t Node.null k name found quote a = absurd a
entered r bytes depth us t (Node.boolean b) k name found quote a = absurd a
entered r bytes depth us t (Node.number n) k name found quote a = absurd a
entered r bytes depth us t (Node.string is) k name found quote a = absurd a
entered r bytes depth us t (Node.empty_array b) k name found quote a = absurd a
entered r bytes depth us t (Node.array b n c es) k name found quote a = absurd a

next_by : (r : Reading) (bytes : List ℕ) (unique : Bool) (most depth : ℕ) (ts us : List (List ℕ)) (t : List ℕ) (n : Node)
    (k : List ℕ) (name next e : ℕ) (found : Option Spot) (entry : Entry) (w : Passed) → ts ≡ t ∷ us → Goes unique most r
    → Entered r bytes depth us t n k name found → ReadsEntry bytes name (Some entry)
    → Passes bytes unique most ts depth name entry found w → w.end ≡ Some e → get_or bytes e 0 ≡ 44
    → drop next bytes ≡ after_whitespace (drop (e + 1) bytes) → InObject r bytes depth us t n k next w.found
next_by r bytes unique most depth ts us t (Node.object key b n c ms) k name next e found entry w more goes a reads passes is byte d =
    left_next r bytes depth us t (member key b n c ms) k unique w e next
    (entry_passed r bytes unique most depth ts us t (member key b n c ms) k name found entry w more goes a reads passes)
    is byte d
next_by r bytes unique most depth ts us t _ k name next e found entry w more goes a reads passes is byte d = absurd a

pub inside_next : (bytes : List ℕ) (unique : Bool) (most depth : ℕ) (ts us : List (List ℕ)) (t : List ℕ) (s : Spot)
    (name next e : ℕ) (found : Option Spot) (entry : Entry) (w : Passed) → ts ≡ t ∷ us
    → Inside bytes unique most depth us t s name found → ReadsEntry bytes name (Some entry) → get_or bytes name 0 ≡ 34
    → Passes bytes unique most ts depth name entry found w → w.end ≡ Some e → get_or bytes e 0 ≡ 44
    → drop next bytes ≡ after_whitespace (drop (e + 1) bytes) → Inside bytes unique most depth us t s next w.found
inside_next bytes unique most depth ts us t s name next e found entry w more inside reads quote passes is byte d = λ r p goes at.
    next_by r bytes unique most depth ts us t p.node p.after name next e found entry w more goes
    (entered r bytes depth us t p.node p.after name found quote (inside r p goes at)) reads passes is byte d

-- no entry is left
all_by : (r : Reading) (bytes : List ℕ) (unique : Bool) (depth : ℕ) (us : List (List ℕ)) (t : List ℕ) (n : Node)
    (k : List ℕ) (name : ℕ) (found : Option Spot) (w : Passed) → InObject r bytes depth us t n k name found
    → ReadsEntry bytes name None → w.found ≡ found → EndsAfter bytes unique name 1 w.end
    → Comes bytes unique k (option_and_then (named_in us) (child_named t n k)) w
all_by r bytes unique depth us t (Node.object key b n c ms) k name found w a reads f e =
    let g = a.enters.grammar in
    absurd (reads r a.key a.blanks a.node (a.after ++ members_text a.others k) g.0 g.1 g.2 a.enters.text)
all_by r bytes unique depth us t (Node.empty_object b) k name found w a reads f e = (
  spot_none bytes w.found None (f ∙ a.1) refl,
  ends_by bytes unique name 1 w.end _ e (bracket_end bytes name k a.0),
)
all_by r bytes unique depth us t _ k name found w a reads f e = absurd a

pub finds_all : (bytes : List ℕ) (unique : Bool) (most depth : ℕ) (ts us : List (List ℕ)) (t : List ℕ) (s : Spot)
    (name : ℕ) (found : Option Spot) (w : Passed) → ts ≡ t ∷ us → Inside bytes unique most depth us t s name found
    → ReadsEntry bytes name None → w.found ≡ found → EndsAfter bytes unique name 1 w.end
    → Finds bytes unique most ts depth s w
finds_all bytes unique most depth ts us t s name found w more inside reads f e = λ r p goes at.
    subst (λ (vs : List (List ℕ)). Comes bytes unique p.after (named_in vs p) w) (sym more)
    (all_by r bytes unique depth us t p.node p.after name found w (inside r p goes at) reads f e)

-- keys are unique, and the token names the one that was passed
unique_by : (r : Reading) (bytes : List ℕ) (unique : Bool) (most depth : ℕ) (ts us : List (List ℕ)) (t : List ℕ) (n : Node)
    (k : List ℕ) (name : ℕ) (found : Option Spot) (entry : Entry) (w : Passed) → ts ≡ t ∷ us → Goes unique most r
    → Entered r bytes depth us t n k name found → ReadsEntry bytes name (Some entry)
    → Passes bytes unique most ts depth name entry found w → w.end ≡ None
    → Comes bytes unique k (option_and_then (named_in us) (child_named t n k)) w
unique_by r bytes unique most depth ts us t (Node.object key b n c ms) k name found entry w more goes a reads passes is =
    comes_unique r bytes unique depth us t (member key b n c ms) k w
    (entry_passed r bytes unique most depth ts us t (member key b n c ms) k name found entry w more goes a reads passes) is
unique_by r bytes unique most depth ts us t _ k name found entry w more goes a reads passes is = absurd a

pub finds_unique : (bytes : List ℕ) (unique : Bool) (most depth : ℕ) (ts us : List (List ℕ)) (t : List ℕ) (s : Spot)
    (name : ℕ) (found : Option Spot) (entry : Entry) (w : Passed) → ts ≡ t ∷ us
    → Inside bytes unique most depth us t s name found → ReadsEntry bytes name (Some entry) → get_or bytes name 0 ≡ 34
    → Passes bytes unique most ts depth name entry found w → w.end ≡ None → Finds bytes unique most ts depth s w
finds_unique bytes unique most depth ts us t s name found entry w more inside reads quote passes is = λ r p goes at.
    subst (λ (vs : List (List ℕ)). Comes bytes unique p.after (named_in vs p) w) (sym more)
    (unique_by r bytes unique most depth ts us t p.node p.after name found entry w more goes
    (entered r bytes depth us t p.node p.after name found quote (inside r p goes at)) reads passes is)

-- after the last entry
last_by : (r : Reading) (bytes : List ℕ) (unique : Bool) (most depth : ℕ) (ts us : List (List ℕ)) (t : List ℕ) (n : Node)
    (k : List ℕ) (name e : ℕ) (found : Option Spot) (entry : Entry) (v w : Passed) → ts ≡ t ∷ us → Goes unique most r
    → Entered r bytes depth us t n k name found → ReadsEntry bytes name (Some entry)
    → Passes bytes unique most ts depth name entry found v → v.end ≡ Some e → get_or bytes e 0 ≢ 44 → w.found ≡ v.found
    → EndsAfter bytes unique e 1 w.end → Comes bytes unique k (option_and_then (named_in us) (child_named t n k)) w
last_by r bytes unique most depth ts us t (Node.object key b n c ms) k name e found entry v w more goes a reads passes is other f d =
    comes_last r bytes unique depth us t (member key b n c ms) k v w e
    (entry_passed r bytes unique most depth ts us t (member key b n c ms) k name found entry v more goes a reads passes)
    is other f d
last_by r bytes unique most depth ts us t _ k name e found entry v w more goes a reads passes is other f d = absurd a

pub finds_last : (bytes : List ℕ) (unique : Bool) (most depth : ℕ) (ts us : List (List ℕ)) (t : List ℕ) (s : Spot)
    (name e : ℕ) (found : Option Spot) (entry : Entry) (v w : Passed) → ts ≡ t ∷ us
    → Inside bytes unique most depth us t s name found → ReadsEntry bytes name (Some entry) → get_or bytes name 0 ≡ 34
    → Passes bytes unique most ts depth name entry found v → v.end ≡ Some e → get_or bytes e 0 ≢ 44 → w.found ≡ v.found
    → EndsAfter bytes unique e 1 w.end → Finds bytes unique most ts depth s w
finds_last bytes unique most depth ts us t s name e found entry v w more inside reads quote passes is other f d = λ r p goes at.
    subst (λ (vs : List (List ℕ)). Comes bytes unique p.after (named_in vs p) w) (sym more)
    (last_by r bytes unique most depth ts us t p.node p.after name e found entry v w more goes
    (entered r bytes depth us t p.node p.after name found quote (inside r p goes at)) reads passes is other f d)

-- ---- entries

-- what `Passes` promises, where the token names the key or doesn't
abbrev PassesBy : List ℕ → Bool → List (List ℕ) → Option Named → Named → List ℕ → Passed → Bool → Type 0
PassesBy bytes unique us o p rest w q =
    IsSpotOf bytes w.found (option_and_then (named_in us) (if q then Some p else o))
    × MatchOption w.end ((unique ≡ true) × (q ≡ true)) (λ e. From bytes e rest)

first_same : {A : Type 0} (ts us vs : List A) (t u : A) → ts ≡ t ∷ us → ts ≡ u ∷ vs → (t ≡ u) × (us ≡ vs)
first_same ts us vs t u e f = (cc, cc)

-- the token names the key
pub passes_into : (bytes : List ℕ) (unique : Bool) (most depth : ℕ) (ts vs : List (List ℕ)) (u : List ℕ) (at : ℕ)
    (entry : Entry) (before : Option Spot) (w : Passed) → ts ≡ u ∷ vs → ReadsKey bytes at entry.key_end u true
    → Finds bytes unique most vs (depth + 1) (record { name = at; value = entry.value }) w
    → Passes bytes unique most ts depth at entry before w
passes_into bytes unique most depth ts vs u at entry before w more reads finds = λ r t us seen key b n c ms k o is goes enters here found.
    let same = first_same ts vs us u t more is in
    let g = enters.grammar in
    let clear = enters.clear in
    let named : true ≡ names t (bytes_of key.items) =
    reads r seen key (b ++ node_text n (c ++ members_text ms k)) clear.0 _ g.0 clear.2 enters.text here.0
    ∙ ap (λ x. names x (bytes_of key.items)) same.0 in
    let starts = key_starts bytes at key _ enters.text in
    let inner = subst (λ (i : ℕ). Finds bytes unique most vs i (record { name = at; value = entry.value }) w) (add-one depth) finds
    r (keyed key b n c ms k) goes (record {
      grammar = g.2;
      clear = (
        None,
        plain c (members_cells r ms (bytes_of key.items ∷ seen) (suc depth) clear.1),
        plain_rest b _ (after_key r seen key clear.0 _ clear.2),
      );
      value = here.1;
      name = enters.text;
      start = IsCharBoundary-before_ascii bytes at starts.0 (rw starts.1 (omega arith));
    }) in
    subst (λ (q : Bool). PassesBy bytes unique us o (keyed key b n c ms k) (members_text ms k) w q) named (
      subst (λ (xs : List (List ℕ)). IsSpotOf bytes w.found (named_in xs (keyed key b n c ms k))) same.1 inner.0,
      match_map w.end (λ x. (x, refl)) (λ e f. f ∙ after_member r c ms k g.3) inner.1,
    )

-- it doesn't
pub passes_over : (bytes : List ℕ) (unique : Bool) (most depth : ℕ) (ts vs : List (List ℕ)) (u : List ℕ) (at e : ℕ)
    (entry : Entry) (before : Option Spot) (w : Passed) → ts ≡ u ∷ vs → ReadsKey bytes at entry.key_end u false
    → w.found ≡ before → w.end ≡ Some e → drop e bytes ≡ skim (Outside zero) (drop entry.value bytes)
    → Passes bytes unique most ts depth at entry before w
passes_over bytes unique most depth ts vs u at e entry before w more reads f d skims = λ r t us seen key b n c ms k o is goes enters here found.
    let same = first_same ts vs us u t more is in
    let g = enters.grammar in
    let clear = enters.clear in
    let named : false ≡ names t (bytes_of key.items) =
    reads r seen key (b ++ node_text n (c ++ members_text ms k)) clear.0 _ g.0 clear.2 enters.text here.0
    ∙ ap (λ x. names x (bytes_of key.items)) same.0 in
    let ends : From bytes e (members_text ms k) =
    skims ∙ ap (skim (Outside zero)) here.1 ∙ node_ends r n (c ++ members_text ms k) g.2 ∙ after_member r c ms k g.3 in
    subst (λ (q : Bool). PassesBy bytes unique us o (keyed key b n c ms k) (members_text ms k) w q) named (
      subst (λ (x : Option Spot). IsSpotOf bytes x (option_and_then (named_in us) o)) (sym f) found,
      subst (λ (x : Option ℕ). MatchOption x ((unique ≡ true) × (false ≡ true)) (λ i. From bytes i (members_text ms k))) (sym d) ends,
    )

-- ---- the tokens that are left

abbrev pub texts : List (Bor (List ℕ)) → List (List ℕ)
texts items = map (λ t. t.now) items

pub tokens_end : (items : List (Bor (List ℕ))) (level : ℕ) → length items ≤ level → drop level (texts items) ≡ []
tokens_end [] zero h = refl
tokens_end [] (suc i) h = refl
tokens_end (x ∷ xs) zero h = absurd (omega (arith, h))
tokens_end (x ∷ xs) (suc i) h = tokens_end xs i (omega (arith, h))

pub tokens_split : (items : List (Bor (List ℕ))) (level : ℕ) (x : Bor (List ℕ)) → level < length items
    → x ≡ slice_index_or items level x → drop level (texts items) ≡ x.now ∷ drop (level + 1) (texts items)
tokens_split [] level x h e = absurd (omega (arith, h))
tokens_split (y ∷ ys) zero x h e = ap (λ (b : Bor (List ℕ)). b.now ∷ texts ys) (sym e)
tokens_split (y ∷ ys) (suc i) x h e =
    let same : suc (i + 1) ≡ suc i + 1 = omega arith in
    tokens_split ys i x (omega (arith, h)) e ∙ ap (λ j. x.now ∷ drop j (y.now ∷ texts ys)) same

pub tokens_some : (items : List (Bor (List ℕ))) (level : ℕ) → level < length items
    → (t : List ℕ) × (us : List (List ℕ)) × (drop level (texts items) ≡ t ∷ us)
tokens_some [] level h = absurd (omega (arith, h))
tokens_some (x ∷ xs) zero h = (x.now, texts xs, refl)
tokens_some (x ∷ xs) (suc i) h = tokens_some xs i (omega (arith, h))
