-- What a merge patch makes of a value, member by member, and the members that `merge::diff` puts into one.
use Rattle.std.proofs.Common.{◌≡◌, ◌≢◌, inl, inr, ℕ, List, [], ◌∷◌, Bool, true, false, ◌||◌, if◌then◌else◌, Option, None, Some, IfSome, option_map}
use Rattle.std.proofs.Common.{AllPairs, Bor, arith, length, ◌==◌, refl, sym, ap, ◌∙◌, subst}
use Rattle.std.proofs.lemmas.Bool.{eqb-true, false≢true}
use Rattle.std.proofs.lemmas.Map.Keys.{IsDistinct-head, IsDistinct-tail}
use Rattle.std.proofs.lemmas.Map.Made.{AllPairs-from_IsDistinct, IsDistinct-from_AllPairs}
use Rattle.std.proofs.lemmas.Slice.Eq.{bytes_eq-Decides}
use Rattle.std.specs.List.{IsDistinct}
use Rattle.std.specs.Option.{is_some, option_copied}
use Rattle.std.specs.Str.{bytes_eq}
use Rattle.jzon.specs.Entries.{entries_of}
use Rattle.jzon.specs.JsonValue.{JsonValue}
use Rattle.jzon.specs.Lawful.{IsValue}
use Rattle.jzon.specs.Object.{Object}
use Rattle.jzon.specs.PairList.{find, put, cut, keys_of}
use Rattle.jzon.specs.Readers.{entries, is_null, is_object, or_null}
use Rattle.jzon.specs.Same.{same}
use Rattle.jzon.specs.SameLaws.{same_at, same_equiv, object-elim, object-intro, find-head, find-past}
use Rattle.jzon.specs.Value.{Value, ValuePairs, null, boolean, text, number, array, object, no_pairs, pair, list_of_pairs, pairs_of}
use Rattle.jzon.specs.View.{view, view_object, viewed}
use Rattle.jzon.proofs.KeptByChanges.{IsValue-found}
use Rattle.jzon.proofs.PairLaws.{bytes_eq-other, find-put_same, find-put_other, find-cut_same, find-cut_other, distinct-put, distinct-cut}
use Rattle.jzon.proofs.ValueLaws.{keys-viewed, list_of_pairs-pairs_of, pairs_of-list_of_pairs, viewed-put}
use Rattle.jzon_pointer.specs.Names.{is_among}
use Rattle.jzon_tools.specs.Merge.{merged, merged_pairs}
use Rattle.jzon_tools.specs.MergeDiff.{AddsChange, MergesInto, NoneChanges, NoneMergesInto, Removes, member_after}
use Rattle.jzon_tools.proofs.DiffSteps.{among-there, here, not_again_by, or-left, or-right, seen, unknown}

abbrev pub Pairs : Type 0
Pairs = List (List ℕ × Value)

abbrev pub Apart : Pairs → Type 0
Apart ps = AllPairs (λ i j. i ≢ j) (keys_of ps)

abbrev O : Pairs → Value
O ts = object (pairs_of ts)

none_apart : Apart []
unfolding IsDistinct
none_apart = AllPairs-from_IsDistinct bytes_eq-Decides [] tt

-- ---- a member after a patch

-- the members after one member of a patch
abbrev after_one : Bool → List ℕ → Value → Pairs → Pairs
after_one b j w ts = if b then cut j ts else put j w ts

one-apart : (b : Bool) (j : List ℕ) (w : Value) (ts : Pairs) → Apart ts → Apart (after_one b j w ts)
one-apart true j w ts h = distinct-cut j ts h
one-apart false j w ts h = distinct-put j w ts h

one-same : (b : Bool) (j : List ℕ) (w : Value) (ts : Pairs) → Apart ts
    → find j (after_one b j w ts) ≡ (if b then None else Some w)
one-same true j w ts h = find-cut_same j ts h
one-same false j w ts h = find-put_same j w ts

one-other : (b : Bool) (j k : List ℕ) (w : Value) (ts : Pairs) → k ≢ j → find k (after_one b j w ts) ≡ find k ts
one-other true j k w ts h = find-cut_other k j ts h
one-other false j k w ts h = find-put_other k j w ts h

-- a key isn't found among those after it
pub not-again : (j : List ℕ) (ks : List (List ℕ)) → IsDistinct bytes_eq (j ∷ ks) → is_among ks j ≡ false
not-again j ks h = not_again_by j ks (IsDistinct-head bytes_eq j ks h)

apart-by : (b : Bool) (j k : List ℕ) → bytes_eq j k ≡ b → b ≡ false → k ≢ j
apart-by b j k e h same = false≢true (sym h ∙ sym e ∙ (bytes_eq-Decides j k).1 (sym same))

found-by : (b : Bool) (j k : List ℕ) (v : Value) (ps ts : Pairs) → bytes_eq j k ≡ b → Apart ts → find j ps ≡ None
    → member_after (find k (after_one (is_null v) j (merged true (or_null (find j ts)) v) ts)) (find k ps)
    ≡ member_after (find k ts) (if b then Some v else find k ps)
found-by true j k v ps ts e apart none =
    let w = merged true (or_null (find j ts)) v in
    subst (λ (i : List ℕ). member_after (find i (after_one (is_null v) j w ts)) (find i ps)
    ≡ member_after (find i ts) (Some v))
    ((bytes_eq-Decides j k).0 e)
    (ap (member_after (find j (after_one (is_null v) j w ts))) none ∙ one-same (is_null v) j w ts apart)
found-by false j k v ps ts e apart none =
    ap (λ o. member_after o (find k ps))
    (one-other (is_null v) j k (merged true (or_null (find j ts)) v) ts (apart-by false j k e refl))

merged-found : (k : List ℕ) (ps : ValuePairs) (ts : Pairs) → Apart ts → IsDistinct bytes_eq (keys_of (list_of_pairs ps))
    → find k (merged_pairs true ts ps) ≡ member_after (find k ts) (find k (list_of_pairs ps))
merged-found k no_pairs ts apart distinct = refl
merged-found k (pair j v ps) ts apart distinct =
    let w = merged true (or_null (find j ts)) v in
    let rest = list_of_pairs ps in
    merged-found k ps (after_one (is_null v) j w ts) (one-apart (is_null v) j w ts apart)
    (IsDistinct-tail bytes_eq j (keys_of rest) distinct)
    ∙ found-by (bytes_eq j k) j k v rest ts refl apart (unknown rest j (not-again j (keys_of rest) distinct))

-- the same of entries, as an object has them
at-merged : (k : List ℕ) (F : Pairs) (ps : ValuePairs) → Apart F → Apart (list_of_pairs ps)
    → find k (list_of_pairs (pairs_of (merged_pairs true (list_of_pairs (pairs_of F)) ps)))
    ≡ member_after (find k F) (find k (list_of_pairs ps))
at-merged k F ps apart distinct =
    ap (find k) (list_of_pairs-pairs_of (merged_pairs true (list_of_pairs (pairs_of F)) ps))
    ∙ ap (λ l. find k (merged_pairs true l ps)) (list_of_pairs-pairs_of F)
    ∙ merged-found k ps F apart (IsDistinct-from_AllPairs bytes_eq-Decides (keys_of (list_of_pairs ps)) distinct)

-- ---- the whole patch

pub merges-by : (F T rs : Pairs) → Apart F → Apart rs
    → ((k : List ℕ) → same_at (member_after (find k F) (find k rs)) (find k T) ≡ true)
    → MergesInto (O F) (O T) (O rs)
merges-by F T rs apart distinct each =
    let M = merged_pairs true (list_of_pairs (pairs_of F)) (pairs_of rs) in
    object-intro (pairs_of M) (pairs_of T) (λ k.
    ap (λ o. same_at o (find k (list_of_pairs (pairs_of T))))
    (at-merged k F (pairs_of rs) apart (subst Apart (sym (list_of_pairs-pairs_of rs)) distinct)
    ∙ ap (λ l. member_after (find k F) (find k l)) (list_of_pairs-pairs_of rs))
    ∙ ap (λ l. same_at (member_after (find k F) (find k rs)) (find k l)) (list_of_pairs-pairs_of T) ∙ each k)

no-by : (b : Bool) → (b ≡ true → ⊥) → b ≡ false
no-by true h = absurd (h refl)
no-by false h = refl

value-found : (o : Option Value) → ((w : Value) → o ≡ Some w → IsValue w) → IfSome o IsValue
value-found None h = tt
value-found (Some w) h = h w refl

pub none-by : (F T : Pairs) (key : List ℕ) (v : Value) → Apart F → find key T ≡ Some v → NoneChanges (find key F) v
    → NoneMergesInto (O F) (O T)
none-by F T key v apart there none null lawful = refl
none-by F T key v apart there none (boolean b) lawful = refl
none-by F T key v apart there none (text k s) lawful = refl
none-by F T key v apart there none (number n) lawful = refl
none-by F T key v apart there none (array vs) lawful = refl
none-by F T key v apart there none (object ps) lawful =
    let M = merged_pairs true (list_of_pairs (pairs_of F)) ps in
    let w = find key (list_of_pairs ps) in
    no-by (same (object (pairs_of M)) (O T)) (λ h.
    false≢true (sym (none w (value-found w (λ x at. IsValue-found key x (object ps) lawful at)))
    ∙ ap (λ o. same_at o (Some v)) (sym (at-merged key F ps apart lawful.1))
    ∙ ap (λ o. same_at (find key (list_of_pairs (pairs_of M))) o)
    (sym (ap (find key) (list_of_pairs-pairs_of T) ∙ there))
    ∙ object-elim (pairs_of M) (pairs_of T) h key))

-- a patch does the same to values with the same entries
merged-alike : (t u p : Value) → entries t ≡ entries u → merged true t p ≡ merged true u p
merged-alike t u null e = refl
merged-alike t u (boolean b) e = refl
merged-alike t u (text k s) e = refl
merged-alike t u (number n) e = refl
merged-alike t u (array vs) e = refl
merged-alike t u (object ps) e = ap (λ l. object (pairs_of (merged_pairs true l ps))) e

pub merges-alike : (t u n p : Value) → entries t ≡ entries u → MergesInto t n p → MergesInto u n p
merges-alike t u n p e h = ap (λ v. same v n) (sym (merged-alike t u p e)) ∙ h

pub none-alike : (t u n : Value) → entries t ≡ entries u → NoneMergesInto t n → NoneMergesInto u n
none-alike t u n e h p lawful = ap (λ v. same v n) (sym (merged-alike t u p e)) ∙ h p lawful

-- a patch that is no object is the value itself
merged-whole : (t v : Value) → is_object v ≡ false → merged true t v ≡ v
merged-whole t null h = refl
merged-whole t (boolean b) h = refl
merged-whole t (text k s) h = refl
merged-whole t (number n) h = refl
merged-whole t (array vs) h = refl
merged-whole t (object ps) h = absurd (false≢true (sym h))

pub merges-whole : (t v : Value) → is_object v ≡ false → MergesInto t v v
merges-whole t v h = ap (λ w. same w v) (merged-whole t v h) ∙ same_equiv.refl v

-- ---- one member

pub change-none : (key : List ℕ) (o : Option Value) (v : Value) (rs : Pairs) → same_at o (Some v) ≡ true
    → AddsChange key o v rs rs
change-none key o v rs h = inl (refl, h)

put-by : (b : Bool) (m v : Value) → b ≡ false → same m v ≡ true → same_at (if b then None else Some m) (Some v) ≡ true
put-by true m v e h = absurd (false≢true (sym e))
put-by false m v e h = h

pub change-put : (key : List ℕ) (o : Option Value) (v w : Value) (rs qs : Pairs) → is_null w ≡ false
    → MergesInto (or_null o) v w → qs ≡ put key w rs → AddsChange key o v rs qs
change-put key o v w rs qs e h is = inr (w, is, put-by (is_null w) (merged true (or_null o) w) v e h)

pub null-is : (v : Value) → is_null v ≡ true → v ≡ null
null-is null h = refl
null-is (boolean b) h = absurd (false≢true h)
null-is (text k s) h = absurd (false≢true h)
null-is (number n) h = absurd (false≢true h)
null-is (array vs) h = absurd (false≢true h)
null-is (object ps) h = absurd (false≢true h)

null-none : (o : Option Value) → same_at o (Some null) ≡ false → NoneChanges o null
null-none o h None lawful = h
null-none o h (Some null) lawful = refl
null-none o h (Some (boolean b)) lawful = refl
null-none o h (Some (text k s)) lawful = refl
null-none o h (Some (number n)) lawful = refl
null-none o h (Some (array vs)) lawful = refl
null-none o h (Some (object ps)) lawful = refl

pub leaf-none : (o : Option Value) (v : Value) → is_null v ≡ true → same_at o (Some v) ≡ false → NoneChanges o v
leaf-none o v e h =
    subst (λ w. NoneChanges o w) (sym (null-is v e))
    (null-none o (ap (λ w. same_at o (Some w)) (sym (null-is v e)) ∙ h))

none-after : (b : Bool) (m v : Value) → same m v ≡ false → same_at (if b then None else Some m) (Some v) ≡ false
none-after true m v h = refl
none-after false m v h = h

-- an object that no patch makes of the old member isn't that member
kept-none : (o : Option Value) (qs : ValuePairs) → NoneMergesInto (or_null o) (object qs)
    → same_at o (Some (object qs)) ≡ false
kept-none None qs h = refl
kept-none (Some null) qs h = refl
kept-none (Some (boolean b)) qs h = refl
kept-none (Some (text k s)) qs h = refl
kept-none (Some (number n)) qs h = refl
kept-none (Some (array vs)) qs h = refl
kept-none (Some (object ps)) qs h =
    ap (λ l. same (object l) (object qs)) (sym (pairs_of-list_of_pairs ps)) ∙ h (object no_pairs) (tt, none_apart)

pub nested-none : (o : Option Value) (t : Value) (qs : ValuePairs) → entries t ≡ entries (or_null o)
    → NoneMergesInto t (object qs) → NoneChanges o (object qs)
nested-none o t qs e h None lawful = kept-none o qs (none-alike t (or_null o) (object qs) e h)
nested-none o t qs e h (Some w) lawful =
    none-after (is_null w) (merged true (or_null o) w) (object qs) (none-alike t (or_null o) (object qs) e h w lawful)

-- a patch of no members leaves an object as it is
pub nested-kept : (u : ValuePairs) (n : Value) (rs : Pairs) → rs ≡ [] → MergesInto (object u) n (O rs)
    → same (object u) n ≡ true
nested-kept u n rs is h =
    ap (λ l. same (object l) n) (sym (pairs_of-list_of_pairs u))
    ∙ ap (λ l. same (merged true (object u) (O l)) n) (sym is) ∙ h

-- where the old member is an object
pub kept-object : (o : Option Value) (t n : Value) (rs : Pairs) → is_object (or_null o) ≡ true
    → entries t ≡ entries (or_null o) → rs ≡ [] → MergesInto t n (O rs) → same_at o (Some n) ≡ true
kept-object None t n rs there e is h = absurd (false≢true there)
kept-object (Some null) t n rs there e is h = absurd (false≢true there)
kept-object (Some (boolean b)) t n rs there e is h = absurd (false≢true there)
kept-object (Some (text k s)) t n rs there e is h = absurd (false≢true there)
kept-object (Some (number m)) t n rs there e is h = absurd (false≢true there)
kept-object (Some (array vs)) t n rs there e is h = absurd (false≢true there)
kept-object (Some (object u)) t n rs there e is h = nested-kept u n rs is (merges-alike t (object u) n (O rs) e h)

-- ---- what the program sees

copied-seen : (r : Option (Bor JsonValue)) → option_map view (option_copied r) ≡ option_map (λ v. view v.now) r
copied-seen None = refl
copied-seen (Some v) = refl

pub got : (k : List ℕ) (ps : List (List ℕ × JsonValue)) (r : Option (Bor JsonValue)) → option_copied r ≡ find k ps
    → option_map (λ v. view v.now) r ≡ find k (viewed ps)
got k ps r h = sym (copied-seen r) ∙ sym (seen k ps (option_copied r) h)

pub if_some : {A : Type 0} (o : Option A) (P : A → Type 0) (x : A) → o ≡ Some x → IfSome o P → P x
if_some o P x is h = subst (λ p. IfSome p P) is h

pub empty-viewed : (ps : List (List ℕ × JsonValue)) → (length ps == 0) ≡ true → viewed ps ≡ []
empty-viewed [] h = refl
empty-viewed (p ∷ ps) h = absurd (omega (arith, eqb-true (length (p ∷ ps)) 0 h))

pub entries-object : (o : Object) (t : List (List ℕ × Value)) → viewed (entries_of o) ≡ t → entries (view_object o) ≡ t
entries-object o t h = list_of_pairs-pairs_of (viewed (entries_of o)) ∙ h

pub apart-entries : (ps : List (List ℕ × JsonValue)) → IsDistinct bytes_eq (keys_of ps) → Apart (viewed ps)
apart-entries ps h =
    AllPairs-from_IsDistinct bytes_eq-Decides (keys_of (viewed ps))
    (subst (IsDistinct bytes_eq) (sym (keys-viewed ps)) h)

pub distinct-entries : (ps : List (List ℕ × JsonValue)) → IsDistinct bytes_eq (keys_of ps)
    → IsDistinct bytes_eq (keys_of (viewed ps))
distinct-entries ps h = subst (IsDistinct bytes_eq) (sym (keys-viewed ps)) h

pub put-viewed : (k : List ℕ) (v : JsonValue) (w : Value) (ps qs : List (List ℕ × JsonValue)) → qs ≡ put k v ps
    → view v ≡ w → viewed qs ≡ put k w (viewed ps)
put-viewed k v w ps qs is same = ap viewed is ∙ viewed-put k v ps ∙ ap (λ x. put k x (viewed ps)) same

-- ---- the members that are removed

pub removed-none : (F T : Pairs) (ks : List (List ℕ)) → ks ≡ keys_of F
    → ((k : List ℕ) → find k T ≡ None → is_among ks k ≡ false → member_after (find k F) None ≡ None)
removed-none F T ks all k none h = unknown F k (ap (λ l. is_among l k) (sym all) ∙ h)

-- so far, but for these keys
abbrev pub RemovesBut : List (List ℕ) → Pairs → Pairs → Pairs → Type 0
RemovesBut ks old new rs = Apart rs
    × ((k : List ℕ) → find k new ≡ None → is_among ks k ≡ false → member_after (find k old) (find k rs) ≡ None)
    × ((k : List ℕ) → is_some (find k new) ≡ true → find k rs ≡ None)

pub removes-start : (F T : Pairs) (ks : List (List ℕ)) (rs : Pairs) → ks ≡ keys_of F → rs ≡ [] → RemovesBut ks F T rs
removes-start F T ks rs all is =
    subst (λ l. RemovesBut ks F T l) (sym is)
    (none_apart, removed-none F T ks all, λ k there. refl)

some-none : (o : Option Value) → o ≡ None → is_some o ≡ true → ⊥
some-none o e h = false≢true (sym (ap is_some e) ∙ h)

or-both : (b c : Bool) → b ≡ false → c ≡ false → (b || c) ≡ false
or-both true c h g = absurd (false≢true (sym h))
or-both false c h g = g

-- the key is among the new ones
pub removes-kept : (key : List ℕ) (ks rest : List (List ℕ)) (F T rs : Pairs) → ks ≡ key ∷ rest
    → is_some (find key T) ≡ true → RemovesBut ks F T rs → RemovesBut rest F T rs
removes-kept key ks rest F T rs next there (apart, done, todo) = (
  apart,
  λ k none h. by (bytes_eq key k) k refl none h,
  todo,
)
  where
    by : (b : Bool) (k : List ℕ) → bytes_eq key k ≡ b → find k T ≡ None → is_among rest k ≡ false
        → member_after (find k F) (find k rs) ≡ None
    by true k e none h =
        absurd (some-none (find key T) (ap (λ (i : List ℕ). find i T) ((bytes_eq-Decides key k).0 e) ∙ none) there)
    by false k e none h =
        done k none (ap (λ l. is_among l k) next ∙ or-both (bytes_eq key k) (is_among rest k) e h)

-- the key isn't, and a null is put
pub removes-put : (key : List ℕ) (ks rest : List (List ℕ)) (F T rs qs : Pairs) → ks ≡ key ∷ rest
    → is_some (find key T) ≡ false → qs ≡ put key null rs → RemovesBut ks F T rs → RemovesBut rest F T qs
removes-put key ks rest F T rs qs next none is (apart, done, todo) =
    subst (λ l. RemovesBut rest F T l) (sym is) (
      distinct-put key null rs apart,
      λ k missing h. by (bytes_eq key k) k refl missing h,
      λ k there. find-put_other k key null rs (other k there) ∙ todo k there,
    )
  where
    other : (k : List ℕ) → is_some (find k T) ≡ true → k ≢ key
    other k there same = false≢true (sym none ∙ ap (λ (i : List ℕ). is_some (find i T)) (sym same) ∙ there)

    by : (b : Bool) (k : List ℕ) → bytes_eq key k ≡ b → find k T ≡ None → is_among rest k ≡ false
        → member_after (find k F) (find k (put key null rs)) ≡ None
    by true k e missing h =
        subst (λ (i : List ℕ). member_after (find i F) (find i (put key null rs)) ≡ None) ((bytes_eq-Decides key k).0 e)
        (ap (member_after (find key F)) (find-put_same key null rs))
    by false k e missing h =
        ap (member_after (find k F)) (find-put_other k key null rs (apart-by false key k e refl))
        ∙ done k missing (ap (λ l. is_among l k) next ∙ or-both (bytes_eq key k) (is_among rest k) e h)

pub removes-end : (F T rs : Pairs) (ks : List (List ℕ)) → ks ≡ [] → RemovesBut ks F T rs → Removes F T rs
removes-end F T rs ks is (apart, done, todo) = (apart, λ k none. done k none (ap (λ l. is_among l k) is), todo)

-- ---- the members that are changed

-- the patch makes of the old members those of the new ones but for these, of which it has none
abbrev pub ChangesBut : Pairs → Pairs → Pairs → Pairs → Type 0
ChangesBut rest old new rs = Apart rs × IsDistinct bytes_eq (keys_of rest)
    × ((k : List ℕ) → is_among (keys_of rest) k ≡ true → find k new ≡ find k rest)
    × ((k : List ℕ) → is_among (keys_of rest) k ≡ false
    → same_at (member_after (find k old) (find k rs)) (find k new) ≡ true)
    × ((k : List ℕ) → is_among (keys_of rest) k ≡ true → find k rs ≡ None)

pub changes-start : (rest F T rs : Pairs) → rest ≡ T → IsDistinct bytes_eq (keys_of T) → Removes F T rs
    → ChangesBut rest F T rs
changes-start rest F T rs all distinct (apart, gone, none) =
    subst (λ l. ChangesBut l F T rs) (sym all) (
      apart,
      distinct,
      λ k h. refl,
      λ k h. let missing = unknown T k h in
          ap (λ o. same_at o (find k T)) (gone k missing) ∙ ap (same_at None) missing,
      λ k h. none k (among-there T k h),
    )

-- the first of the rest
pub next-found : (key : List ℕ) (v : Value) (rest more F T rs : Pairs) → rest ≡ (key, v) ∷ more
    → ChangesBut rest F T rs → find key T ≡ Some v
next-found key v rest more F T rs next (apart, distinct, found, done, todo) =
    found key (ap (λ l. is_among (keys_of l) key) next
    ∙ or-left (bytes_eq key key) (is_among (keys_of more) key) (here key))
    ∙ ap (find key) next ∙ find-head key v more

pub changes-next : (key : List ℕ) (v : Value) (rest more F T rs qs : Pairs) → rest ≡ (key, v) ∷ more
    → ChangesBut rest F T rs → AddsChange key (find key F) v rs qs → ChangesBut more F T qs
changes-next key v rest more F T rs qs next so_far one_more =
    by (subst (λ l. ChangesBut l F T rs) next so_far) one_more
  where
    at_key : find key T ≡ Some v
    at_key = next-found key v rest more F T rs next so_far

    step : ChangesBut ((key, v) ∷ more) F T rs → Apart qs
        → ((k : List ℕ) → k ≢ key → find k qs ≡ find k rs)
        → same_at (member_after (find key F) (find key qs)) (find key T) ≡ true → ChangesBut more F T qs
    step (apart, distinct, found, done, todo) apart' kept new =
        let again = not-again key (keys_of more) distinct in
        let other : (k : List ℕ) → is_among (keys_of more) k ≡ true → k ≢ key =
        λ k h same. false≢true (sym again ∙ ap (is_among (keys_of more)) (sym same) ∙ h) in (
          apart',
          IsDistinct-tail bytes_eq key (keys_of more) distinct,
          λ k h. found k (or-right (bytes_eq key k) (is_among (keys_of more) k) h)
              ∙ find-past key k v more (bytes_eq-other key k (λ same. other k h (sym same))),
          λ k h. changed (bytes_eq key k) k refl h done kept new,
          λ k h. kept k (other k h) ∙ todo k (or-right (bytes_eq key k) (is_among (keys_of more) k) h),
        )
      where
        changed : (b : Bool) (k : List ℕ) → bytes_eq key k ≡ b → is_among (keys_of more) k ≡ false
            → ((i : List ℕ) → is_among (key ∷ keys_of more) i ≡ false
            → same_at (member_after (find i F) (find i rs)) (find i T) ≡ true)
            → ((i : List ℕ) → i ≢ key → find i qs ≡ find i rs)
            → same_at (member_after (find key F) (find key qs)) (find key T) ≡ true
            → same_at (member_after (find k F) (find k qs)) (find k T) ≡ true
        changed true k e h done kept new =
            subst (λ (i : List ℕ). same_at (member_after (find i F) (find i qs)) (find i T) ≡ true)
            ((bytes_eq-Decides key k).0 e) new
        changed false k e h done kept new =
            ap (λ o. same_at (member_after (find k F) o) (find k T)) (kept k (apart-by false key k e refl))
            ∙ done k (or-both (bytes_eq key k) (is_among (keys_of more) k) e h)

    by : ChangesBut ((key, v) ∷ more) F T rs → AddsChange key (find key F) v rs qs → ChangesBut more F T qs
    by before (inl (is, equal)) =
        let none : find key qs ≡ None =
        ap (find key) is ∙ before.4 key (or-left (bytes_eq key key) (is_among (keys_of more) key) (here key)) in
        step before (subst Apart (sym is) before.0) (λ k other. ap (find k) is)
        (ap (λ o. same_at (member_after (find key F) o) (find key T)) none ∙ ap (same_at (find key F)) at_key ∙ equal)
    by before (inr (w, is, equal)) =
        step before (subst Apart (sym is) (distinct-put key w rs before.0))
        (λ k other. ap (find k) is ∙ find-put_other k key w rs other)
        (ap (λ o. same_at (member_after (find key F) o) (find key T)) (ap (find key) is ∙ find-put_same key w rs)
        ∙ ap (same_at (member_after (find key F) (Some w))) at_key ∙ equal)

pub changes-end : (rest F T rs : Pairs) → rest ≡ [] → Apart F → ChangesBut rest F T rs → MergesInto (O F) (O T) (O rs)
changes-end rest F T rs is apart (apart', distinct, found, done, todo) =
    merges-by F T rs apart apart' (λ k. done k (ap (λ l. is_among (keys_of l) k) is))

pub changes-none : (key : List ℕ) (v : Value) (rest more F T rs : Pairs) → rest ≡ (key, v) ∷ more → Apart F
    → ChangesBut rest F T rs → NoneChanges (find key F) v → NoneMergesInto (O F) (O T)
changes-none key v rest more F T rs next apart so_far none =
    none-by F T key v apart (next-found key v rest more F T rs next so_far) none
