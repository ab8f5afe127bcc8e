-- A merge makes the same of the members that are left once those are removed whose key has null in the patch.
use Rattle.std.proofs.Common.{◌≡◌, ℕ, List, [], ◌∷◌, Bool, true, false, not, cond, filter}
use Rattle.std.proofs.Common.{None, Some, refl, sym, ap, ◌∙◌, subst}
use Rattle.std.proofs.lemmas.Bool.{false≢true}
use Rattle.std.proofs.lemmas.Map.Keys.{IsDistinct-head, IsDistinct-tail}
use Rattle.std.proofs.lemmas.Map.Made.{IsDistinct-from_AllPairs}
use Rattle.std.proofs.lemmas.Slice.Eq.{bytes_eq-Decides}
use Rattle.std.specs.Cmp.Lexicographic.{nat_list_eq_equiv}
use Rattle.std.specs.List.{AllByRecursion, IsDistinct}
use Rattle.std.specs.Str.{bytes_eq}
use Rattle.jzon.specs.JsonValue.{JsonValue}
use Rattle.jzon.specs.PairList.{find, put, cut, keys_of}
use Rattle.jzon.specs.Readers.{or_null, is_null}
use Rattle.jzon.specs.Value.{Value, ValuePairs, no_pairs, pair, list_of_pairs}
use Rattle.jzon.specs.View.{view, viewed, view_pairs}
use Rattle.jzon.proofs.PairLaws.{distinct-put, distinct-cut}
use Rattle.jzon.proofs.ValueLaws.{list_of_pairs-pairs_of}
use Rattle.jzon_tools.specs.Merge.{merged, merged_pairs}
use Rattle.jzon_tools.specs.Private.Removals.{is_null_found}
use Rattle.jzon_tools.proofs.DiffSteps.{unknown}
use Rattle.jzon_tools.proofs.MergeDiffSteps.{Pairs, Apart, apart-entries, distinct-entries, not-again}

-- ---- the members whose key passes a test

abbrev left : {V : Type 0} → (List ℕ → Bool) → List (List ℕ × V) → List (List ℕ × V)
left q ts = filter (λ e. q e.0) ts

left-all : (ts : Pairs) → left (λ k. true) ts ≡ ts
left-all [] = refl
left-all (e ∷ ts) = ap (λ l. e ∷ l) (left-all ts)

module _ (q : List ℕ → Bool) (j : List ℕ) where
  passes : (k : List ℕ) → q j ≡ true → bytes_eq k j ≡ true → q k ≡ true
  passes k keeps same = ap q ((bytes_eq-Decides k j).0 same) ∙ keeps

  find-left-by : (c : Bool) (e : List ℕ × Value) (ts : Pairs) → (bytes_eq e.0 j ≡ true → c ≡ true)
      → find j (left q ts) ≡ find j ts → find j (cond c (e ∷ left q ts) (left q ts)) ≡ find j (e ∷ ts)
  find-left-by true e ts keeps rest = ap (λ o. cond (bytes_eq e.0 j) (Some e.1) o) rest
  find-left-by false e ts keeps rest = by (bytes_eq e.0 j) keeps
    where
      by : (b : Bool) → (b ≡ true → false ≡ true) → find j (left q ts) ≡ cond b (Some e.1) (find j ts)
      by true h = absurd (false≢true (h refl))
      by false h = rest

  find-left : q j ≡ true → (ts : Pairs) → find j (left q ts) ≡ find j ts
  find-left keeps [] = refl
  find-left keeps (e ∷ ts) = find-left-by (q e.0) e ts (passes e.0 keeps) (find-left keeps ts)

  put-left-by : (b c : Bool) (w : Value) (e : List ℕ × Value) (ts : Pairs) → bytes_eq e.0 j ≡ b → q e.0 ≡ c
      → (b ≡ true → c ≡ true) → left q (put j w ts) ≡ put j w (left q ts)
      → left q (cond b ((e.0, w) ∷ ts) (e ∷ put j w ts)) ≡ put j w (cond c (e ∷ left q ts) (left q ts))
  put-left-by true true w e ts is passed keeps rest = rw (is, passed) refl
  put-left-by true false w e ts is passed keeps rest = absurd (false≢true (keeps refl))
  put-left-by false true w e ts is passed keeps rest = rw (is, passed) (ap (λ l. e ∷ l) rest)
  put-left-by false false w e ts is passed keeps rest = rw passed rest

  put-left : q j ≡ true → (w : Value) (ts : Pairs) → left q (put j w ts) ≡ put j w (left q ts)
  put-left keeps w [] = rw keeps refl
  put-left keeps w (e ∷ ts) =
      put-left-by (bytes_eq e.0 j) (q e.0) w e ts refl refl (passes e.0 keeps) (put-left keeps w ts)

  -- the test that also refuses j
  abbrev but : List ℕ → Bool
  but k = cond (bytes_eq j k) false (q k)

  left-absent : (ts : Pairs) → AllByRecursion (λ k. bytes_eq j k ≡ false) (keys_of ts) → left but ts ≡ left q ts
  left-absent [] absent = refl
  left-absent (e ∷ ts) absent =
      let other = absent.0 in rw other (ap (λ l. cond (q e.0) (e ∷ l) l) (left-absent ts absent.1))

  cut-left-by : (b : Bool) (e : List ℕ × Value) (ts : Pairs) → bytes_eq e.0 j ≡ b
      → AllByRecursion (λ k. bytes_eq e.0 k ≡ false) (keys_of ts) → left but ts ≡ left q (cut j ts)
      → cond (cond b false (q e.0)) (e ∷ left but ts) (left but ts) ≡ left q (cond b ts (e ∷ cut j ts))
  cut-left-by true e ts is absent rest =
      left-absent ts (subst (λ (i : List ℕ). AllByRecursion (λ k. bytes_eq i k ≡ false) (keys_of ts))
      ((bytes_eq-Decides e.0 j).0 is) absent)
  cut-left-by false e ts is absent rest = ap (λ l. cond (q e.0) (e ∷ l) l) rest

  cut-left : (ts : Pairs) → IsDistinct bytes_eq (keys_of ts) → left but ts ≡ left q (cut j ts)
  cut-left [] distinct = refl
  cut-left (e ∷ ts) distinct =
      ap (λ b. cond (cond b false (q e.0)) (e ∷ left but ts) (left but ts)) (nat_list_eq_equiv.symm j e.0)
      ∙ cut-left-by (bytes_eq e.0 j) e ts refl
      (IsDistinct-head bytes_eq e.0 (keys_of ts) distinct)
      (cut-left ts (IsDistinct-tail bytes_eq e.0 (keys_of ts) distinct))

  cut-but-by : (b c : Bool) (e : List ℕ × Value) (ts : Pairs) → bytes_eq e.0 j ≡ b → cut j (left but ts) ≡ left but ts
      → cut j (cond (cond b false c) (e ∷ left but ts) (left but ts))
      ≡ cond (cond b false c) (e ∷ left but ts) (left but ts)
  cut-but-by true c e ts is rest = rest
  cut-but-by false true e ts is rest = rw is (ap (λ l. e ∷ l) rest)
  cut-but-by false false e ts is rest = rest

  cut-but : (ts : Pairs) → cut j (left but ts) ≡ left but ts
  cut-but [] = refl
  cut-but (e ∷ ts) =
      subst (λ b. cut j (cond (cond b false (q e.0)) (e ∷ left but ts) (left but ts))
      ≡ cond (cond b false (q e.0)) (e ∷ left but ts) (left but ts))
      (sym (nat_list_eq_equiv.symm j e.0)) (cut-but-by (bytes_eq e.0 j) (q e.0) e ts refl (cut-but ts))

-- ---- the members that a patch keeps

-- whether a patch keeps the member of a key
abbrev pub keeps : Pairs → List ℕ → Bool
keeps rs k = not (is_null_found (find k rs))

module _ (j : List ℕ) (v : Value) (rs : Pairs) where
  removed-by : (b : Bool) (k : List ℕ) → is_null v ≡ true
      → not (is_null_found (cond b (Some v) (find k rs))) ≡ cond b false (keeps rs k)
  removed-by true k null = ap not null
  removed-by false k null = refl

  -- a null adds its key to those that are refused
  removed : is_null v ≡ true → keeps ((j, v) ∷ rs) ≡ but (keeps rs) j
  removed null i k = removed-by (bytes_eq j k) k null i

  kept-by : (b : Bool) (k : List ℕ) → bytes_eq j k ≡ b → is_null v ≡ false → find j rs ≡ None
      → not (is_null_found (cond b (Some v) (find k rs))) ≡ keeps rs k
  kept-by true k same other none =
      ap not other ∙ ap (λ o. not (is_null_found o)) (sym none ∙ ap (λ i. find i rs) ((bytes_eq-Decides j k).0 same))
  kept-by false k same other none = refl

  -- another value adds none
  kept : is_null v ≡ false → find j rs ≡ None → keeps ((j, v) ∷ rs) ≡ keeps rs
  kept other none i k = kept-by (bytes_eq j k) k refl other none i

-- ---- the whole patch

abbrev Goes : ValuePairs → Pairs → Type 0
Goes ps ts = merged_pairs true (left (keeps (list_of_pairs ps)) ts) ps ≡ merged_pairs true ts ps

goes-by : (b : Bool) (j : List ℕ) (v : Value) (ps : ValuePairs) (ts : Pairs) → is_null v ≡ b
    → find j (list_of_pairs ps) ≡ None → Apart ts → ((us : Pairs) → Apart us → Goes ps us)
    → merged_pairs true
    (cond b (cut j (left (keeps ((j, v) ∷ list_of_pairs ps)) ts))
    (put j (merged true (or_null (find j (left (keeps ((j, v) ∷ list_of_pairs ps)) ts))) v)
    (left (keeps ((j, v) ∷ list_of_pairs ps)) ts))) ps
    ≡ merged_pairs true (cond b (cut j ts) (put j (merged true (or_null (find j ts)) v) ts)) ps
goes-by true j v ps ts is none apart rest =
    let rs = list_of_pairs ps in
    ap (λ l. merged_pairs true l ps)
    (ap (λ q. cut j (left q ts)) (removed j v rs is) ∙ cut-but (keeps rs) j ts
    ∙ cut-left (keeps rs) j ts (IsDistinct-from_AllPairs bytes_eq-Decides (keys_of ts) apart))
    ∙ rest (cut j ts) (distinct-cut j ts apart)
goes-by false j v ps ts is none apart rest =
    let rs = list_of_pairs ps in
    let q = keeps rs in
    let passed : q j ≡ true = ap (λ o. not (is_null_found o)) none in
    let w = merged true (or_null (find j ts)) v in
    ap (λ p. merged_pairs true (put j (merged true (or_null (find j (left p ts))) v) (left p ts)) ps)
    (kept j v rs is none)
    ∙ ap (λ o. merged_pairs true (put j (merged true (or_null o) v) (left q ts)) ps) (find-left q j passed ts)
    ∙ ap (λ l. merged_pairs true l ps) (sym (put-left q j passed w ts))
    ∙ rest (put j w ts) (distinct-put j w ts apart)

goes : (ps : ValuePairs) (ts : Pairs) → Apart ts → IsDistinct bytes_eq (keys_of (list_of_pairs ps)) → Goes ps ts
goes no_pairs ts apart distinct = left-all ts
goes (pair j v ps) ts apart distinct =
    let rest = list_of_pairs ps in
    goes-by (is_null v) j v ps ts refl (unknown rest j (not-again j (keys_of rest) distinct)) apart
    (λ us h. goes ps us h (IsDistinct-tail bytes_eq j (keys_of rest) distinct))

-- ---- the members as the program has them

viewed-left : (q : List ℕ → Bool) (ps : List (List ℕ × JsonValue)) → viewed (left q ps) ≡ left q (viewed ps)
viewed-left q [] = refl
viewed-left q (p ∷ ps) = by (q p.0) (viewed-left q ps)
  where
    by : (b : Bool) → viewed (left q ps) ≡ left q (viewed ps)
        → viewed (cond b (p ∷ left q ps) (left q ps))
        ≡ cond b ((p.0, view p.1) ∷ left q (viewed ps)) (left q (viewed ps))
    by true rest = ap (λ l. (p.0, view p.1) ∷ l) rest
    by false rest = rest

-- the entries of an object, of which a filter kept those that the patch doesn't remove
pub removed-first : (b : Bool) (es kept ms : List (List ℕ × JsonValue)) → b ≡ true → IsDistinct bytes_eq (keys_of es)
    → IsDistinct bytes_eq (keys_of ms) → kept ≡ filter (λ e. keeps (viewed ms) e.0) es
    → merged_pairs b (viewed kept) (view_pairs ms) ≡ merged_pairs b (viewed es) (view_pairs ms)
removed-first false es kept ms drops distinct once is = absurd (false≢true drops)
removed-first true es kept ms drops distinct once is =
    let seen = list_of_pairs-pairs_of (viewed ms) in
    ap (λ l. merged_pairs true l (view_pairs ms))
    (ap viewed is ∙ viewed-left (keeps (viewed ms)) es ∙ ap (λ l. left (keeps l) (viewed es)) (sym seen))
    ∙ goes (view_pairs ms) (viewed es) (apart-entries es distinct)
    (subst (λ (l : Pairs). IsDistinct bytes_eq (keys_of l)) (sym seen) (distinct-entries ms once))
