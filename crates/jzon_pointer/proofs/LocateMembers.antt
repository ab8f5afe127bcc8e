-- The steps of the walk over an object: an entry, the entries one after the other, and what the object's walk comes to.
use Rattle.jzon_base.proofs.Common.{◌≡◌, ◌≢◌, ◌∙◌, ◌<◌, ◌+◌, ℕ, zero, suc, List, [], ◌∷◌, ◌++◌, Bool, true, false}
use Rattle.jzon_base.proofs.Common.{refl, sym, ap, subst, arith, length, drop, get_or, encode_ascii, encode_utf8_all, Option, Some, None, if◌then◌else◌}
use Rattle.std.specs.Prelude.{option_and_then}
use Rattle.std.specs.Option.{MatchOption}
use Rattle.jzon.specs.Reading.{Reading}
use Rattle.jzon.specs.Grammar.{Key, Node, Members, no_members, member, IsNode, IsKey, IsWhitespace, AreMembers}
use Rattle.jzon.specs.Meaning.{bytes_of}
use Rattle.jzon.specs.Spelling.{Breach, Cell, deep_if, node_cells, members_cells}
use Rattle.jzon.specs.TreeCharacters.{items_chars}
use Rattle.jzon_pointer.specs.Pointer.{names}
use Rattle.jzon_pointer.specs.Locate.{Named, keyed, last_named, named_in}
use Rattle.jzon_pointer.specs.Private.Walk.{after_string, after_whitespace, skim, From}
use Rattle.jzon_pointer.specs.Locate.{node_text, members_text, key_text}
use Rattle.jzon_pointer.specs.Private.Walk.{IsSpotOf, Enters, Goes, Comes, ReadsEntry}
use Rattle.jzon_pointer.specs.Private.Walk.{EndsAfter, Passes, AreClear}
use Rattle.jzon_pointer.specs.declared.locate.Entry.{Entry}
use Rattle.jzon_pointer.specs.declared.locate.Passed.{Passed}
use Rattle.jzon_pointer.specs.declared.locate.Spot.{Spot}
use Rattle.jzon_pointer.specs.Private.Walk.{Outside}
use Rattle.jzon_pointer.proofs.LocateSteps.{string_ends}
use Rattle.jzon_pointer.proofs.LocateBytes.{string_bytes}
use Rattle.jzon.proofs.ReadBack.UnmarkedCells.{plain_rest}
use Rattle.jzon_pointer.proofs.LocateClear.{after_node, after_key, last_unique, knows_first}
use Rattle.jzon_pointer.proofs.LocateTexts.{begins, one_char, is_object, key_text_is, text_empty_object, text_object}
use Rattle.jzon_pointer.proofs.LocateTexts.{text_member, text_no_members}
use Rattle.jzon_pointer.proofs.LocateWalks.{match_map, ends_by, blanks_before, blanks_char}
use Rattle.jzon_pointer.proofs.LocateWalks.{byte_of}

-- ---- an entry

pub key_starts : (bytes : List ℕ) (at : ℕ) (key : Key) (k : List ℕ) → From bytes at (key_text key k)
    → (at < length bytes) × (get_or bytes at 0 ≡ 34)
key_starts bytes at key k h =
    let s = one_char bytes at 34 _ (omega arith) (h ∙ ap encode_utf8_all (key_text_is key k)) in (s.within, s.byte)

pub key_ends : (r : Reading) (bytes : List ℕ) (at end : ℕ) (key : Key) (k : List ℕ) → IsKey r key
    → From bytes at (key_text key k) → drop end bytes ≡ after_string (drop (at + 1) bytes)
    → From bytes end (key.after ++ 58 ∷ k)
key_ends r bytes at end key k g h e =
    let s = one_char bytes at 34 _ (omega arith) (h ∙ ap encode_utf8_all (key_text_is key k)) in
    e ∙ ap after_string s.next ∙ string_bytes (items_chars key.items (34 ∷ (key.after ++ 58 ∷ k))) false
    ∙ ap encode_utf8_all (string_ends key.items (key.after ++ 58 ∷ k) g.1)

pub colon_there : (r : Reading) (bytes : List ℕ) (end colon : ℕ) (key : Key) (k : List ℕ) → IsKey r key
    → From bytes end (key.after ++ 58 ∷ k) → drop colon bytes ≡ after_whitespace (drop end bytes)
    → (get_or bytes colon 0 ≡ 58) × From bytes (colon + 1) k
colon_there r bytes end colon key k g h e =
    let s = one_char bytes colon 58 k (omega arith)
    (e ∙ ap after_whitespace h ∙ blanks_char r key.after 58 k g.2 (omega arith) refl) in (s.byte, s.next)

pub value_there : (r : Reading) (bytes : List ℕ) (start value : ℕ) (b : List ℕ) (n : Node) (k : List ℕ) → IsWhitespace r b
    → IsNode r n → From bytes start (b ++ node_text n k) → drop value bytes ≡ after_whitespace (drop start bytes)
    → From bytes value (node_text n k)
value_there r bytes start value b n k w g h e = e ∙ ap after_whitespace h ∙ blanks_before r b (node_text n k) w (begins r n k g)

pub no_quote : (bytes : List ℕ) (at : ℕ) → get_or bytes at 0 ≢ 34 → ReadsEntry bytes at None
no_quote bytes at other = λ r key b n k g w h f. other (key_starts bytes at key (b ++ node_text n k) f).1

pub no_colon : (bytes : List ℕ) (at end colon : ℕ) → drop end bytes ≡ after_string (drop (at + 1) bytes)
    → drop colon bytes ≡ after_whitespace (drop end bytes) → get_or bytes colon 0 ≢ 58 → ReadsEntry bytes at None
no_colon bytes at end colon d e other = λ r key b n k g w h f.
    let ends = key_ends r bytes at end key (b ++ node_text n k) g f d in
    other (colon_there r bytes end colon key (b ++ node_text n k) g ends e).0

pub reads_entry : (bytes : List ℕ) (at colon : ℕ) (entry : Entry) → drop entry.key_end bytes ≡ after_string (drop (at + 1) bytes)
    → drop colon bytes ≡ after_whitespace (drop entry.key_end bytes)
    → drop entry.value bytes ≡ after_whitespace (drop (colon + 1) bytes) → ReadsEntry bytes at (Some entry)
reads_entry bytes at colon entry d e v = λ r key b n k g w h f.
    let ends = key_ends r bytes at entry.key_end key (b ++ node_text n k) g f d in
    let there = colon_there r bytes entry.key_end colon key (b ++ node_text n k) g ends e in
    (ends, value_there r bytes (colon + 1) entry.value b n k w h there.1 v)

-- ---- the entries, one after the other

-- The entry at an offset with what is left of the object, and what was found before it. `whole` are all entries.
pub record AtEntry (r : Reading) (bytes : List ℕ) (depth : ℕ) (us : List (List ℕ)) (t : List ℕ) (whole : Members) (k : List ℕ)
    (name : ℕ) (found : Option Spot) : Type 0 where
  pub seen : List (List ℕ)
  pub key : Key
  pub blanks : List ℕ
  pub node : Node
  pub after : List ℕ
  pub others : Members
  pub before : Option Named
  pub enters : Enters r bytes depth seen name key blanks node after others k
  pub rest : last_named t whole k None ≡ last_named t (member key blanks node after others) k before
  pub spot : IsSpotOf bytes found (option_and_then (named_in us) before)

-- the same in any object
abbrev pub InObject : Reading → List ℕ → ℕ → List (List ℕ) → List ℕ → Node → List ℕ → ℕ → Option Spot → Type 0
InObject r bytes depth us t (Node.object key b n c ms) k name found =
    AtEntry r bytes depth us t (member key b n c ms) k name found
InObject r bytes depth us t (Node.empty_object b) k name found = From bytes name (125 ∷ k) × (found ≡ None)
InObject r bytes depth us t _ k name found = ⊥

pub in_object_start : (r : Reading) (bytes : List ℕ) (depth : ℕ) (us : List (List ℕ)) (t : List ℕ) (n : Node) (k : List ℕ)
    (at name : ℕ) (m : Option Breach) (z : List Cell) → IsNode r n → AreClear (node_cells r n depth m z)
    → From bytes at (node_text n k) → is_object n ≡ true → drop name bytes ≡ after_whitespace (drop (at + 1) bytes)
    → InObject r bytes depth us t n k name None
in_object_start r bytes depth us t (Node.object key b n c ms) k at name m z g clear h is e =
    let q = key_text key (b ++ node_text n (c ++ members_text ms k)) in
    let s = one_char bytes at 123 _ (omega arith) (h ∙ ap encode_utf8_all (text_object key b n c ms k)) in record {
      seen = [];
      key = key;
      blanks = b;
      node = n;
      after = c;
      others = ms;
      before = None;
      enters = record {
        grammar = g;
        clear = (deep_if r depth, z, clear.1);
        text = e ∙ ap after_whitespace s.next ∙ blanks_before r key.before q g.0.0 (begins r (Node.string key.items) _ g.0.1);
      };
      rest = refl;
      spot = tt;
    }
in_object_start r bytes depth us t (Node.empty_object b) k at name m z g clear h is e =
    let s = one_char bytes at 123 _ (omega arith) (h ∙ ap encode_utf8_all (text_empty_object b k)) in
    (e ∙ ap after_whitespace s.next ∙ blanks_char r b 125 k g (omega arith) refl, refl)
in_object_start r bytes depth us t n k at name m z g clear h is e = absurd (cc)

-- What is left of the object after an entry, and what was found up to there. Where nothing more is looked for, nothing more
-- is to be found.
pub record Left (r : Reading) (bytes : List ℕ) (depth : ℕ) (us : List (List ℕ)) (t : List ℕ) (whole : Members) (k : List ℕ)
    (unique : Bool) (w : Passed) : Type 0 where
  pub seen : List (List ℕ)
  pub others : Members
  pub before : Option Named
  pub grammar : AreMembers r others
  pub clear : (z : List Cell) × AreClear (members_cells r others seen (suc depth) z)
  pub rest : last_named t whole k None ≡ last_named t others k before
  pub spot : IsSpotOf bytes w.found (option_and_then (named_in us) before)
  pub end : MatchOption w.end ((unique ≡ true) × (last_named t others k before ≡ before)) (λ e. From bytes e (members_text others k))

-- where the token names the key of a strict reading
unique_left : (r : Reading) (bytes : List ℕ) (depth : ℕ) (us : List (List ℕ)) (t : List ℕ) (whole : Members) (k : List ℕ)
    (name : ℕ) (found : Option Spot) (a : AtEntry r bytes depth us t whole k name found) (unique : Bool)
    → (unique ≡ true → r.strict ≡ true) → (unique ≡ true) × (names t (bytes_of a.key.items) ≡ true)
    → let o = if names t (bytes_of a.key.items) then Some (keyed a.key a.blanks a.node a.after a.others k) else a.before in
    (unique ≡ true) × (last_named t a.others k o ≡ o)
unique_left r bytes depth us t whole k name found a unique goes h =
    let c = a.enters.clear in (
      h.0,
      last_unique r t a.others k (bytes_of a.key.items ∷ a.seen) (suc depth) c.1
          (if names t (bytes_of a.key.items) then Some (keyed a.key a.blanks a.node a.after a.others k) else a.before) (goes h.0) a.enters.grammar.4
          (plain_rest a.after _ (after_node r a.node (suc depth) None _ a.enters.grammar.2 (plain_rest a.blanks _ (after_key r a.seen a.key c.0 _ c.2))))
          (knows_first t (bytes_of a.key.items) a.seen h.1),
    )

pub entry_passed : (r : Reading) (bytes : List ℕ) (unique : Bool) (most depth : ℕ) (ts us : List (List ℕ)) (t : List ℕ)
    (whole : Members) (k : List ℕ) (name : ℕ) (found : Option Spot) (entry : Entry) (w : Passed) → ts ≡ t ∷ us
    → Goes unique most r → AtEntry r bytes depth us t whole k name found → ReadsEntry bytes name (Some entry)
    → Passes bytes unique most ts depth name entry found w → Left r bytes depth us t whole k unique w
entry_passed r bytes unique most depth ts us t whole k name found entry w more goes a reads passes =
    let g = a.enters.grammar in
    let c = a.enters.clear in
    let e = reads r a.key a.blanks a.node (a.after ++ members_text a.others k) g.0 g.1 g.2 a.enters.text in
    let p = passes r t us a.seen a.key a.blanks a.node a.after a.others k a.before more goes a.enters e a.spot in record {
      seen = bytes_of a.key.items ∷ a.seen;
      others = a.others;
      before = if names t (bytes_of a.key.items) then Some (keyed a.key a.blanks a.node a.after a.others k) else a.before;
      grammar = g.4;
      clear = (c.1, plain_rest a.after _ (after_node r a.node (suc depth) None _ a.enters.grammar.2 (plain_rest a.blanks _ (after_key r a.seen a.key c.0 _ c.2))));
      rest = a.rest;
      spot = p.0;
      end = match_map w.end (unique_left r bytes depth us t whole k name found a unique goes.0) (λ x h. h) p.1;
    }

left_more : (r : Reading) (bytes : List ℕ) (depth : ℕ) (us : List (List ℕ)) (t : List ℕ) (whole : Members) (k : List ℕ)
    (f : Option Spot) (seen : List (List ℕ)) (ms : Members) (o : Option Named) (z : List Cell) (e name : ℕ) → AreMembers r ms
    → AreClear (members_cells r ms seen (suc depth) z) → last_named t whole k None ≡ last_named t ms k o
    → IsSpotOf bytes f (option_and_then (named_in us) o) → From bytes e (members_text ms k) → get_or bytes e 0 ≡ 44
    → drop name bytes ≡ after_whitespace (drop (e + 1) bytes) → AtEntry r bytes depth us t whole k name f
left_more r bytes depth us t whole k f seen no_members o z e name g clear rest spot h byte n =
    let b = one_char bytes e 125 k (omega arith) (h ∙ ap encode_utf8_all (text_no_members k)) in
    absurd (omega (arith, b.byte, byte))
left_more r bytes depth us t whole k f seen (member key b m c ms) o z e name g clear rest spot h byte n =
    let q = key_text key (b ++ node_text m (c ++ members_text ms k)) in
    let s = one_char bytes e 44 _ (omega arith) (h ∙ ap encode_utf8_all (text_member key b m c ms k)) in record {
      seen = seen;
      key = key;
      blanks = b;
      node = m;
      after = c;
      others = ms;
      before = o;
      enters = record {
        grammar = g;
        clear = (None, z, clear.1);
        text = n ∙ ap after_whitespace s.next ∙ blanks_before r key.before q g.0.0 (begins r (Node.string key.items) _ g.0.1);
      };
      rest = rest;
      spot = spot;
    }

pub left_next : (r : Reading) (bytes : List ℕ) (depth : ℕ) (us : List (List ℕ)) (t : List ℕ) (whole : Members) (k : List ℕ)
    (unique : Bool) (w : Passed) (e name : ℕ) → Left r bytes depth us t whole k unique w → w.end ≡ Some e
    → get_or bytes e 0 ≡ 44 → drop name bytes ≡ after_whitespace (drop (e + 1) bytes)
    → AtEntry r bytes depth us t whole k name w.found
left_next r bytes depth us t whole k unique w e name l is byte n =
    let h : From bytes e (members_text l.others k) =
    subst (λ (x : Option ℕ). MatchOption x ((unique ≡ true) × (last_named t l.others k l.before ≡ l.before)) (λ a. From bytes a (members_text l.others k))) is l.end in
    left_more r bytes depth us t whole k w.found l.seen l.others l.before l.clear.0 e name l.grammar l.clear.1 l.rest l.spot h byte n

last_left : (bytes : List ℕ) (e : ℕ) (t : List ℕ) (ms : Members) (k : List ℕ) (o : Option Named)
    → From bytes e (members_text ms k) → get_or bytes e 0 ≢ 44
    → (last_named t ms k o ≡ o) × From bytes e (125 ∷ k)
last_left bytes e t no_members k o h other = (refl, h ∙ ap encode_utf8_all (text_no_members k))
last_left bytes e t (member key b m c ms) k o h other =
    absurd (byte_of bytes e 44 0 _ _ (omega arith) h (text_member key b m c ms k) other)

-- the end of an object, from its bracket
pub bracket_end : (bytes : List ℕ) (e : ℕ) (k : List ℕ) → From bytes e (125 ∷ k)
    → skim (Outside 1) (drop e bytes) ≡ skim (Outside zero) (encode_utf8_all k)
bracket_end bytes e k h = ap (skim (Outside 1)) (h ∙ ap (λ z. z ++ encode_utf8_all k) (encode_ascii 125 (omega arith)))

-- what an object's walk comes to after its last entry
pub comes_last : (r : Reading) (bytes : List ℕ) (unique : Bool) (depth : ℕ) (us : List (List ℕ)) (t : List ℕ)
    (whole : Members) (k : List ℕ) (w v : Passed) (e : ℕ) → Left r bytes depth us t whole k unique w → w.end ≡ Some e
    → get_or bytes e 0 ≢ 44 → v.found ≡ w.found → EndsAfter bytes unique e 1 v.end
    → Comes bytes unique k (option_and_then (named_in us) (last_named t whole k None)) v
comes_last r bytes unique depth us t whole k w v e l is other f ends =
    let h : From bytes e (members_text l.others k) =
    subst (λ (x : Option ℕ). MatchOption x ((unique ≡ true) × (last_named t l.others k l.before ≡ l.before)) (λ a. From bytes a (members_text l.others k))) is l.end in
    let q = last_left bytes e t l.others k l.before h other in
    let same : l.before ≡ last_named t whole k None = sym (l.rest ∙ q.0) in (
      subst (λ (x : Option Spot). IsSpotOf bytes x (option_and_then (named_in us) (last_named t whole k None))) (sym f)
          (subst (λ (x : Option Named). IsSpotOf bytes w.found (option_and_then (named_in us) x)) same l.spot),
      ends_by bytes unique e 1 v.end _ ends (bracket_end bytes e k q.1),
    )

-- and after one that a token names, where keys are unique
pub comes_unique : (r : Reading) (bytes : List ℕ) (unique : Bool) (depth : ℕ) (us : List (List ℕ)) (t : List ℕ)
    (whole : Members) (k : List ℕ) (w : Passed) → Left r bytes depth us t whole k unique w → w.end ≡ None
    → Comes bytes unique k (option_and_then (named_in us) (last_named t whole k None)) w
comes_unique r bytes unique depth us t whole k w l is =
    let h : (unique ≡ true) × (last_named t l.others k l.before ≡ l.before) =
    subst (λ (x : Option ℕ). MatchOption x ((unique ≡ true) × (last_named t l.others k l.before ≡ l.before)) (λ a. From bytes a (members_text l.others k))) is l.end in
    let same : l.before ≡ last_named t whole k None = sym (l.rest ∙ h.1) in (
      subst (λ (x : Option Named). IsSpotOf bytes w.found (option_and_then (named_in us) x)) same l.spot,
      subst (λ (x : Option ℕ). MatchOption x (unique ≡ true) (λ a. drop a bytes ≡ skim (Outside zero) (encode_utf8_all k))) (sym is) h.0,
    )
