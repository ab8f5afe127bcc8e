-- Entries in the order of their keys: what is found among them, and that no two lists of them have the same look-ups.
use Rattle.std.proofs.Common.{◌≡◌, ◌≢◌, ℕ, List, Bool, true, false, cond, Option, None, Some, option_map}
use Rattle.std.proofs.Common.{refl, sym, ap, ◌∙◌, subst, AllPairs, Ordering, Less, Equal, Greater, ◌⊎◌, inl, inr, suc}
use Rattle.std.proofs.Common.{arith}
use Rattle.std.proofs.lemmas.Bool.{false≢true}
use Rattle.std.proofs.lemmas.Option.{none-some, same_Some}
use Rattle.std.proofs.lemmas.Slice.Eq.{bytes_eq-Decides}
use Rattle.std.proofs.lemmas.Cmp.{nat_list_cmp_total}
use Rattle.std.proofs.lemmas.Map.Text.{is_eq-slice_cmp}
use Rattle.std.specs.Str.{bytes_eq}
use Rattle.std.specs.Cmp.Lexicographic.{nat_list_eq_equiv, slice_cmp}
use Rattle.std.specs.Ordering.{nat_cmp, is_lt, is_eq, ordering_reverse}
use Rattle.jzon.specs.PairList.{find, keys_of, cut}
use Rattle.jzon.specs.SameLaws.{at, find-head, find-past}
use Rattle.jzon.specs.SortedStyle.{is_before}
use Rattle.jzon.specs.Value.{Value, ValuePairs, no_pairs, pair, list_of_pairs}
use Rattle.jzon.proofs.PairLaws.{find-cut_same}
use Rattle.jzon_tools.specs.Canonical.{put_sorted, arranged, arranged_pairs}

-- ---- the order of keys

pub is_lt-Less : (o : Ordering) → is_lt o ≡ true → o ≡ Less
is_lt-Less Less h = refl
is_lt-Less Equal h = absurd (false≢true h)
is_lt-Less Greater h = absurd (false≢true h)

pub before-trans : (i j k : List ℕ) → is_before i j ≡ true → is_before j k ≡ true → is_before i k ≡ true
before-trans i j k a b = ap is_lt (nat_list_cmp_total.trans i j k (is_lt-Less _ a) (is_lt-Less _ b))

pub before-apart : (k j : List ℕ) → is_before k j ≡ true → bytes_eq j k ≡ false
before-apart k j h = sym (is_eq-slice_cmp j k)
    ∙ ap is_eq (nat_list_cmp_total.antisymm j k ∙ ap ordering_reverse (is_lt-Less _ h))

pub before-other : (k j : List ℕ) → (o : Ordering) → slice_cmp nat_cmp k j ≡ o → is_before k j ≡ false
    → bytes_eq k j ≡ false → is_before j k ≡ true
before-other k j Less e h d = absurd (false≢true (sym h ∙ ap is_lt e))
before-other k j Equal e h d = absurd (false≢true (sym d ∙ sym (is_eq-slice_cmp k j) ∙ ap is_eq e))
before-other k j Greater e h d = ap is_lt (nat_list_cmp_total.antisymm j k ∙ ap ordering_reverse e)

pub apart-sym : (j k : List ℕ) → bytes_eq j k ≡ false → bytes_eq k j ≡ false
apart-sym j k h = nat_list_eq_equiv.symm k j ∙ h

three_ways : (k l : List ℕ) → (o : Ordering) → slice_cmp nat_cmp k l ≡ o
    → (is_before k l ≡ true) ⊎ ((is_before l k ≡ true) ⊎ (k ≡ l))
three_ways k l Less e = inl (ap is_lt e)
three_ways k l Equal e = inr (inr ((bytes_eq-Decides k l).0 (sym (is_eq-slice_cmp k l) ∙ ap is_eq e)))
three_ways k l Greater e = inr (inl (ap is_lt (nat_list_cmp_total.antisymm l k ∙ ap ordering_reverse e)))

-- ---- sorted entries

abbrev pub AllAfter : List ℕ → ValuePairs → Type 0
AllAfter k no_pairs = Unit {0}
AllAfter k (pair j v ps) = (is_before k j ≡ true) × AllAfter k ps

abbrev pub IsSorted : ValuePairs → Type 0
IsSorted no_pairs = Unit {0}
IsSorted (pair k v ps) = AllAfter k ps × IsSorted ps

after-weaker : (i k : List ℕ) (ps : ValuePairs) → is_before i k ≡ true → AllAfter k ps → AllAfter i ps
after-weaker i k no_pairs h a = tt
after-weaker i k (pair j v ps) h a = (before-trans i k j h a.0, after-weaker i k ps h a.1)

AllAfter-put_sorted : (i k : List ℕ) (v : Value) (ps : ValuePairs) → is_before i k ≡ true → AllAfter i ps
    → AllAfter i (put_sorted k v ps)
AllAfter-put_sorted i k v no_pairs h a = (h, tt)
AllAfter-put_sorted i k v (pair j w ps) h a = pick (AllAfter-put_sorted i k v ps h a.1) (is_before k j)
  where
    pick : AllAfter i (put_sorted k v ps) → (b : Bool)
        → AllAfter i (cond b (pair k v (pair j w ps)) (pair j w (put_sorted k v ps)))
    pick more true = (h, a)
    pick more false = (a.0, more)

absent : (k : List ℕ) (ps : ValuePairs) → AllAfter k ps → at k ps ≡ None
absent k no_pairs a = refl
absent k (pair j w ps) a = find-past j k w (list_of_pairs ps) (before-apart k j a.0) ∙ absent k ps a.1

missing : (j k : List ℕ) (w : Value) (ps : ValuePairs) (b : Bool) → bytes_eq j k ≡ b
    → cond b (Some w) (at k ps) ≡ None → (bytes_eq j k ≡ false) × (at k ps ≡ None)
missing j k w ps true e h = absurd (none-some w (sym h))
missing j k w ps false e h = (e, h)

IsSorted-put_sorted : (k : List ℕ) (v : Value) (ps : ValuePairs) → at k ps ≡ None → IsSorted ps
    → IsSorted (put_sorted k v ps)
IsSorted-put_sorted k v no_pairs none s = (tt, tt)
IsSorted-put_sorted k v (pair j w ps) none s = pick (λ m. IsSorted-put_sorted k v ps m s.1) (is_before k j) refl
  where
    pick : (at k ps ≡ None → IsSorted (put_sorted k v ps)) → (b : Bool) → is_before k j ≡ b
        → IsSorted (cond b (pair k v (pair j w ps)) (pair j w (put_sorted k v ps)))
    pick more true e = ((e, after-weaker k j ps e s.0), s)
    pick more false e =
        let m = missing j k w ps (bytes_eq j k) refl none in (
          AllAfter-put_sorted j k v ps
              (before-other k j (slice_cmp nat_cmp k j) refl e (apart-sym j k m.0)) s.0,
          more m.1,
        )

swapped : (b c : Bool) (x y : Value) (z : Option Value) → (b ≡ true → c ≡ true → ⊥)
    → cond b (Some x) (cond c (Some y) z) ≡ cond c (Some y) (cond b (Some x) z)
swapped true true x y z h = absurd (h refl refl)
swapped true false x y z h = refl
swapped false c x y z h = refl

at-put_sorted : (i k : List ℕ) (v : Value) (ps : ValuePairs) → at k ps ≡ None
    → at i (put_sorted k v ps) ≡ cond (bytes_eq k i) (Some v) (at i ps)
at-put_sorted i k v no_pairs none = refl
at-put_sorted i k v (pair j w ps) none = pick (λ m. at-put_sorted i k v ps m) (is_before k j)
  where
    pick : (at k ps ≡ None → at i (put_sorted k v ps) ≡ cond (bytes_eq k i) (Some v) (at i ps)) → (b : Bool)
        → at i (cond b (pair k v (pair j w ps)) (pair j w (put_sorted k v ps)))
        ≡ cond (bytes_eq k i) (Some v) (at i (pair j w ps))
    pick more true = refl
    pick more false =
        let m = missing j k w ps (bytes_eq j k) refl none in
        ap (λ o. cond (bytes_eq j i) (Some w) o) (more m.1)
        ∙ swapped (bytes_eq j i) (bytes_eq k i) w v (at i ps)
        (λ a b. false≢true (sym m.0 ∙ (bytes_eq-Decides j k).1
        ((bytes_eq-Decides j i).0 a ∙ sym ((bytes_eq-Decides k i).0 b))))

pub one_list : (ps qs : ValuePairs) → IsSorted ps → IsSorted qs → ((k : List ℕ) → at k ps ≡ at k qs) → ps ≡ qs
one_list no_pairs no_pairs s t h = refl
one_list no_pairs (pair l w qs) s t h = absurd (none-some w (h l ∙ find-head l w (list_of_pairs qs)))
one_list (pair k v ps) no_pairs s t h = absurd (none-some v (sym (h k) ∙ find-head k v (list_of_pairs ps)))
one_list (pair k v ps) (pair l w qs) s t h = pick (one_list ps qs s.1 t.1) (three_ways k l (slice_cmp nat_cmp k l) refl)
  where
    tail : k ≡ l → (j : List ℕ) (b : Bool) → bytes_eq k j ≡ b → at j ps ≡ at j qs
    tail e j true f =
        let g : k ≡ j = (bytes_eq-Decides k j).0 f in
        absent j ps (subst (λ (i : List ℕ). AllAfter i ps) g s.0)
        ∙ sym (absent j qs (subst (λ (i : List ℕ). AllAfter i qs) (sym e ∙ g) t.0))
    tail e j false f =
        sym (find-past k j v (list_of_pairs ps) f) ∙ h j
        ∙ find-past l j w (list_of_pairs qs) (ap (λ (i : List ℕ). bytes_eq i j) (sym e) ∙ f)

    pick : (((j : List ℕ) → at j ps ≡ at j qs) → ps ≡ qs)
        → (is_before k l ≡ true) ⊎ ((is_before l k ≡ true) ⊎ (k ≡ l)) → pair k v ps ≡ pair l w qs
    pick more (inl b) = absurd (none-some v (sym (absent k (pair l w qs) (b, after-weaker k l qs b t.0)) ∙ sym (h k)
        ∙ find-head k v (list_of_pairs ps)))
    pick more (inr (inl b)) = absurd (none-some w (sym (absent l (pair k v ps) (b, after-weaker l k ps b s.0)) ∙ h l
        ∙ find-head l w (list_of_pairs qs)))
    pick more (inr (inr e)) =
        let same_value : v ≡ w = same_Some v w (sym (find-head k v (list_of_pairs ps)) ∙ h k
        ∙ ap (λ (i : List ℕ). at i (pair l w qs)) e ∙ find-head l w (list_of_pairs qs)) in
        let rest : ps ≡ qs = more (λ j. tail e j (bytes_eq k j) refl) in
        rw (e, same_value, rest) refl

-- ---- distinct keys

abbrev pub Distinct : ValuePairs → Type 0
Distinct no_pairs = Unit {0}
Distinct (pair k v ps) = (at k ps ≡ None) × Distinct ps

pub distinct : (ps : ValuePairs) → AllPairs (λ j k. j ≢ k) (keys_of (list_of_pairs ps)) → Distinct ps
distinct no_pairs h = tt
distinct (pair k v ps) h =
    let cut_head : cut k (list_of_pairs (pair k v ps)) ≡ list_of_pairs ps = rw ((bytes_eq-Decides k k).1 refl) refl in (
      ap (find k) (sym cut_head) ∙ find-cut_same k (list_of_pairs (pair k v ps)) h,
      distinct ps (λ i j d lt len. h (suc i) (suc j) d (omega arith) (omega arith)),
    )

module _ (leaf : Value → Value) where
  mapped : (b : Bool) (v : Value) (o : Option Value)
      → cond b (Some (arranged leaf v)) (option_map (arranged leaf) o) ≡ option_map (arranged leaf) (cond b (Some v) o)
  mapped true v o = refl
  mapped false v o = refl

  pub at-arranged_pairs : (ps : ValuePairs) → Distinct ps → (i : List ℕ)
      → at i (arranged_pairs leaf ps) ≡ option_map (arranged leaf) (at i ps)
  at-arranged_pairs no_pairs d i = refl
  at-arranged_pairs (pair k v ps) d i =
      at-put_sorted i k (arranged leaf v) (arranged_pairs leaf ps)
      (at-arranged_pairs ps d.1 k ∙ ap (option_map (arranged leaf)) d.0)
      ∙ ap (λ o. cond (bytes_eq k i) (Some (arranged leaf v)) o) (at-arranged_pairs ps d.1 i)
      ∙ mapped (bytes_eq k i) v (at i ps)

  pub IsSorted-arranged_pairs : (ps : ValuePairs) → Distinct ps → IsSorted (arranged_pairs leaf ps)
  IsSorted-arranged_pairs no_pairs d = tt
  IsSorted-arranged_pairs (pair k v ps) d = IsSorted-put_sorted k (arranged leaf v) (arranged_pairs leaf ps)
      (at-arranged_pairs ps d.1 k ∙ ap (option_map (arranged leaf)) d.0) (IsSorted-arranged_pairs ps d.1)
