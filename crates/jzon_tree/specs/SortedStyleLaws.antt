-- The style of sorted keys allows an order of any list of keys. (These are proofs; they are here because the laws of
-- generators cite them.)
use Rattle.std.specs.Prelude.{◌≡◌, ℕ, suc, ◌+◌, ◌==◌, Bool, true, false, not, if◌then◌else◌, List}
use Rattle.std.specs.Prelude.{[], ◌∷◌, length, map, count_by, cond, refl}
use Rattle.std.proofs.Common.{ap, ◌∙◌, sym}
use Rattle.std.proofs.Math.Nat.{add_left_comm}
use Rattle.std.proofs.lemmas.Bool.{and_parts}
use Rattle.std.proofs.lemmas.Cmp.{nat_list_cmp_total}
use Rattle.std.proofs.lemmas.List.Sorted.{ranks_by}
use Rattle.std.proofs.lemmas.List.Sums.{sum_by-cons}
use Rattle.jzon_tree.specs.Generator.{insertion}
use Rattle.jzon_tree.specs.SortedStyle.{is_before, ascend, sorted_style}
use Rattle.jzon_tree.specs.StyleLaws.{IsOrder-insertion, IsStyle-compact}
use Rattle.jzon_tree.specs.Writing.{IsStyle, text_at}

-- of two texts, at most one is before the other
pub is_before-one_way : (j k : List ℕ) → is_before j k ≡ true → is_before k j ≡ false
is_before-one_way j k h = (ranks_by nat_list_cmp_total (λ (t : List ℕ). t)).one_way j k h

-- ---- ascending texts, split at the first

-- the first of these texts isn't before j
abbrev follows : List ℕ → List (List ℕ) → Bool
follows j [] = true
follows j (k ∷ ks) = not (is_before k j)

ascend-cons : (j : List ℕ) (ks : List (List ℕ)) → follows j ks ≡ true → ascend ks ≡ true → ascend (j ∷ ks) ≡ true
ascend-cons j [] f h = refl
ascend-cons j (k ∷ ks) f h = rw (f, h) refl

ascend-parts : (j : List ℕ) (ks : List (List ℕ)) → ascend (j ∷ ks) ≡ true → (follows j ks ≡ true) × (ascend ks ≡ true)
ascend-parts j [] h = (refl, refl)
ascend-parts j (k ∷ ks) h = and_parts (not (is_before k j)) (ascend (k ∷ ks)) h

-- ---- positions, sorted by the keys at them
module _ (keys : List (List ℕ)) where
  abbrev put_if : Bool → ℕ → ℕ → List ℕ → List ℕ → List ℕ
  put_if further p q more qs = if further then q ∷ more else p ∷ q ∷ qs

  -- inserts p before the first position whose key isn't less
  abbrev put : ℕ → List ℕ → List ℕ
  put p [] = p ∷ []
  put p (q ∷ qs) = put_if (is_before (text_at keys q) (text_at keys p)) p q (put p qs) qs

  abbrev sorted : List ℕ → List ℕ
  sorted [] = []
  sorted (p ∷ ps) = put p (sorted ps)

  abbrev times : ℕ → List ℕ → ℕ
  times i ps = count_by (λ j. j == i) ps

  times-cons : (i p : ℕ) (ps : List ℕ) → times i (p ∷ ps) ≡ cond (p == i) 1 0 + times i ps
  times-cons i p ps = sum_by-cons (λ j. cond (j == i) 1 0) p ps

  -- inserting p adds one occurrence of p
  times-put_if : (b : Bool) (i p q : ℕ) (more qs : List ℕ) → times i more ≡ cond (p == i) 1 0 + times i qs
      → times i (put_if b p q more qs) ≡ cond (p == i) 1 0 + times i (q ∷ qs)
  times-put_if true i p q more qs h = times-cons i q more
      ∙ ap (λ n. cond (q == i) 1 0 + n) h
      ∙ add_left_comm (cond (q == i) 1 0) (cond (p == i) 1 0) (times i qs)
      ∙ sym (ap (λ n. cond (p == i) 1 0 + n) (times-cons i q qs))
  times-put_if false i p q more qs h = times-cons i p (q ∷ qs)

  times-put : (i p : ℕ) (qs : List ℕ) → times i (put p qs) ≡ cond (p == i) 1 0 + times i qs
  times-put i p [] = times-cons i p []
  times-put i p (q ∷ qs) =
      times-put_if (is_before (text_at keys q) (text_at keys p)) i p q (put p qs) qs (times-put i p qs)

  times-sorted : (i : ℕ) (ps : List ℕ) → times i (sorted ps) ≡ times i ps
  times-sorted i [] = refl
  times-sorted i (p ∷ ps) = times-put i p (sorted ps)
      ∙ ap (λ n. cond (p == i) 1 0 + n) (times-sorted i ps)
      ∙ sym (times-cons i p ps)

  length-put_if : (b : Bool) (p q : ℕ) (more qs : List ℕ) → length more ≡ suc (length qs)
      → length (put_if b p q more qs) ≡ suc (length (q ∷ qs))
  length-put_if true p q more qs h = ap suc h
  length-put_if false p q more qs h = refl

  length-put : (p : ℕ) (qs : List ℕ) → length (put p qs) ≡ suc (length qs)
  length-put p [] = refl
  length-put p (q ∷ qs) = length-put_if (is_before (text_at keys q) (text_at keys p)) p q (put p qs) qs
      (length-put p qs)

  length-sorted : (ps : List ℕ) → length (sorted ps) ≡ length ps
  length-sorted [] = refl
  length-sorted (p ∷ ps) = length-put p (sorted ps) ∙ ap suc (length-sorted ps)

  -- the keys at sorted positions ascend
  abbrev texts : List ℕ → List (List ℕ)
  texts = map (text_at keys)

  follows-put_if : (b : Bool) (j : List ℕ) (p q : ℕ) (more qs : List ℕ) → is_before (text_at keys p) j ≡ false
      → follows j (texts (q ∷ qs)) ≡ true → follows j (texts (put_if b p q more qs)) ≡ true
  follows-put_if true j p q more qs h f = f
  follows-put_if false j p q more qs h f = rw h refl

  follows-put : (j : List ℕ) (p : ℕ) (qs : List ℕ) → is_before (text_at keys p) j ≡ false
      → follows j (texts qs) ≡ true → follows j (texts (put p qs)) ≡ true
  follows-put j p [] h f = rw h refl
  follows-put j p (q ∷ qs) h f = follows-put_if (is_before (text_at keys q) (text_at keys p)) j p q (put p qs) qs h f

  ascend-put_if : (b : Bool) (p q : ℕ) (qs : List ℕ) → is_before (text_at keys q) (text_at keys p) ≡ b
      → ascend (texts (q ∷ qs)) ≡ true → ascend (texts (put p qs)) ≡ true
      → ascend (texts (put_if b p q (put p qs) qs)) ≡ true
  ascend-put_if true p q qs e h more =
      ascend-cons (text_at keys q) (texts (put p qs))
      (follows-put (text_at keys q) p qs (is_before-one_way (text_at keys q) (text_at keys p) e)
      (ascend-parts (text_at keys q) (texts qs) h).0)
      more
  ascend-put_if false p q qs e h more = ascend-cons (text_at keys p) (texts (q ∷ qs)) (rw e refl) h

  ascend-put : (p : ℕ) (qs : List ℕ) → ascend (texts qs) ≡ true → ascend (texts (put p qs)) ≡ true
  ascend-put p [] h = refl
  ascend-put p (q ∷ qs) h =
      ascend-put_if (is_before (text_at keys q) (text_at keys p)) p q qs refl h
      (ascend-put p qs (ascend-parts (text_at keys q) (texts qs) h).1)

  ascend-sorted : (ps : List ℕ) → ascend (texts (sorted ps)) ≡ true
  ascend-sorted [] = refl
  ascend-sorted (p ∷ ps) = ascend-put p (sorted ps) (ascend-sorted ps)

-- the sorted style allows a text of each value
pub IsStyle-sorted : IsStyle sorted_style
IsStyle-sorted = record {
  whitespace = IsStyle-compact.whitespace;
  colon = IsStyle-compact.colon;
  order = λ ks distinct.
      let start = IsOrder-insertion (length ks) in
      let ps = insertion (length ks) in (
        sorted ks ps,
        record {
          as_many = length-sorted ks ps ∙ start.as_many;
          once = λ i h. times-sorted ks i ps ∙ start.once i h;
        },
        ascend-sorted ks ps,
      );
}
