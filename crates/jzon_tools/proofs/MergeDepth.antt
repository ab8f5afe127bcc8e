-- A merge makes no value deeper than both were.
use Rattle.std.proofs.Common.{◌≡◌, ◌<◌, ◌≤◌, ℕ, zero, suc, List, Bool, true, false, ◌&&◌, if◌then◌else◌, Option, None, Some, refl, sym, ap, ◌∙◌, subst, arith, max}
use Rattle.jzon.specs.PairList.{find, put, cut}
use Rattle.jzon.specs.Readers.{entries, or_null, is_null}
use Rattle.jzon.specs.Value.{Value, ValuePairs, null, boolean, text, number, array, object, no_pairs, pair, pairs_of, nest, most_nest_under}
use Rattle.jzon.proofs.KeptByChanges.{nest-with_entry, nest-without_entry, nest-found}
use Rattle.jzon.proofs.ValueLaws.{list_of_pairs-pairs_of, pairs_of-list_of_pairs}
use Rattle.jzon_tools.specs.Merge.{merged, merged_pairs}

abbrev Pairs : Type 0
Pairs = List (List ℕ × Value)

abbrev O : Pairs → Value
O ts = object (pairs_of ts)

rest-nest : (ps : ValuePairs) → nest (object ps) ≤ suc (most_nest_under ps)
rest-nest no_pairs = omega arith
rest-nest (pair k v ps) = omega arith

found-nest_by : (h : ℕ) (k : List ℕ) (ts : Pairs) (o : Option Value) → nest (O ts) ≤ suc h → find k ts ≡ o
    → nest (or_null o) ≤ h
found-nest_by h k ts None within e = omega arith
found-nest_by h k ts (Some c) within e =
    omega (arith, within, nest-found k c (O ts) (ap (find k) (list_of_pairs-pairs_of ts) ∙ e))

put-nest : (h : ℕ) (k : List ℕ) (w : Value) (ts : Pairs) → nest w < h → nest (O ts) ≤ h → nest (O (put k w ts)) ≤ h
put-nest h k w ts below within =
    subst (λ (l : Pairs). nest (O (put k w l)) ≤ h) (list_of_pairs-pairs_of ts) (nest-with_entry h k w (O ts) below within)

cut-nest : (h : ℕ) (k : List ℕ) (ts : Pairs) → nest (O ts) ≤ h → nest (O (cut k ts)) ≤ h
cut-nest h k ts within =
    subst (λ (l : Pairs). nest (O (cut k l)) ≤ h) (list_of_pairs-pairs_of ts) (nest-without_entry h k (O ts) within)

member-nest : (h : ℕ) (c : Bool) (k : List ℕ) (w : Value) (ts : Pairs) → nest w < h → nest (O ts) ≤ h
    → nest (O (if c then cut k ts else put k w ts)) ≤ h
member-nest h true k w ts below within = cut-nest h k ts within
member-nest h false k w ts below within = put-nest h k w ts below within

entries-nest : (h : ℕ) (t : Value) → nest t ≤ h → nest (O (entries t)) ≤ h
entries-nest h (object ps) within = subst (λ qs. nest (object qs) ≤ h) (sym (pairs_of-list_of_pairs ps)) within
entries-nest h null within = omega arith
entries-nest h (boolean b) within = omega arith
entries-nest h (text k s) within = omega arith
entries-nest h (number n) within = omega arith
entries-nest h (array vs) within = omega arith

mutual
  merged-nest : (h : ℕ) (b : Bool) (t p : Value) → nest t ≤ h → nest p ≤ h → nest (merged b t p) ≤ h
  merged-nest h b t null within less = less
  merged-nest h b t (boolean c) within less = less
  merged-nest h b t (text k s) within less = less
  merged-nest h b t (number n) within less = less
  merged-nest h b t (array vs) within less = less
  merged-nest h b t (object ps) within less = merged_pairs-nest h b (entries t) ps (entries-nest h t within) less

  merged_pairs-nest : (h : ℕ) (b : Bool) (ts : Pairs) (ps : ValuePairs) → nest (O ts) ≤ h → nest (object ps) ≤ h
      → nest (O (merged_pairs b ts ps)) ≤ h
  merged_pairs-nest h b ts no_pairs within less = within
  merged_pairs-nest zero b ts (pair k v ps) within less = absurd (omega (arith, less))
  merged_pairs-nest (suc h) b ts (pair k v ps) within less =
      let old = or_null (find k ts) in
      let new = merged-nest h b old v (found-nest_by h k ts (find k ts) within refl) (omega (arith, less)) in
      merged_pairs-nest (suc h) b (if b && is_null v then cut k ts else put k (merged b old v) ts) ps
      (member-nest (suc h) (b && is_null v) k (merged b old v) ts (omega (arith, new)) within)
      (omega (arith, rest-nest ps, less))

pub merged_depth : (b : Bool) (t p w : Value) → w ≡ merged b t p → nest w ≤ max (nest t) (nest p)
merged_depth b t p w is =
    subst (λ v. nest v ≤ max (nest t) (nest p)) (sym is)
    (merged-nest (max (nest t) (nest p)) b t p (omega arith) (omega arith))
