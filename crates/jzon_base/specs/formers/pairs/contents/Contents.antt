-- `Entries` as a type former, for recursive types, by its values.
use Rattle.std.specs.Prelude.{◌≡◌, ℕ, max, List, [], ◌∷◌, map, length}
use mathlib.Core.Path.{refl, sym, ap, ◌∙◌}
use mathlib.Core.Former.{Former, Count, Row, one_more, this, const, pair, list, list_count, list_put, via, children}
use native.Mathlib.Nat.{ℕ_set, suc-ne-zero, suc_inj}
use lib.ListN.{length-map}
use denote.RattleType.{RattleType}
use denote.HoleLaws.{Alike}
use denote.HolePlaces.{Recodes, struct_places, laid}
use denote.Hole.Carrier.{listed}
use denote.Hole.Fix.{over}
use denote.Param.Weighed.{Weighed, most, none_max, List-puts, w_pair, w_const}
use denote.Param.Nested.{deepest}
use denote.Model.Placed.{held, view_places_where}
use Rattle.std.specs.List.{zip}
use Rattle.std.specs.formers.vec.Vec as vec
use Rattle.std.specs.declared.alloc.Global.{Global}
use Rattle.std.specs.contracts.alloc.Global as heap
use Rattle.std.specs.contracts.impls.GlobalAllocator.TheImpl.{ghosts}
use base.Stored.{code_map, coded×, coded_list, coded_ℕ, gcons}
use Rattle.jzon_base.specs.declared.pairs.contents.Contents.TheInside.{Inside}
use Rattle.jzon_base.specs.declared.pairs.contents.Contents.TheView.{view, invariant}
use Rattle.jzon_base.specs.contracts.pairs.contents.Contents as C
use Rattle.jzon_base.specs.contracts.pairs.contents.Contents.TheInside as I
use Rattle.jzon_base.specs.PairList.{values_of}

-- a key with one of g's values
abbrev entry : Former {0} → Former {0}
entry g = pair (const (List ℕ)) g

-- the entry, with h applied to its value
abbrev on_value : {X Y : Type 0} → (X → Y) → List ℕ × X → List ℕ × Y
on_value h p = (p.0, h p.1)

-- the former: entries with g's values
abbrev pub the_former : Former {0} → Former {0}
the_former g = list (entry g)

most_values : {K Y : Type 0} (f : Y → ℕ) (es : List (K × Y)) → most (λ p. max 0 (f p.1)) es ≡ most f (map (λ p. p.1) es)
most_values f [] = refl
most_values f (e ∷ es) = λ i. max (sym (none_max (f e.1)) i) (most_values f es i)

-- entries are put into a row as deep as their heaviest value is
pub entries_puts : {g : Former {0}} (w : Weighed g) (X : Type 0) (μ : X → ℕ) (es : List (List ℕ × g.Of X)) (n : Count)
    (t : Row X n)
    → deepest μ (list_count (entry g) (map ((entry g).shape X) es) n) (list_put (entry g) X es n t)
    ≡ max (most (w.weight X μ) (values_of es)) (deepest μ n t)
entries_puts w X μ es n t = List-puts (w_pair (w_const (List ℕ)) w) X μ es n t
    ∙ ap (λ a. max a (deepest μ n t)) (most_values (w.weight X μ) es)

-- their weight is the greatest of a value
abbrev pub the_weighed : {g : Former {0}} → Weighed g → Weighed (the_former g)
the_weighed w = record { weight = λ X μ c. most (w.weight X μ) (values_of c); puts = λ X μ c. entries_puts w X μ c }

-- the entries of no values
pub the_empty : List (List ℕ × ⊥)
the_empty = []

-- the values of the entries
abbrev pub the_items : (X : Type 0) → List (List ℕ × X) → List X
the_items X ps = values_of ps

-- the children that the former lists are these values
pub the_items_listed : (X : Type 0) (ps : List (List ℕ × X))
    → listed _ (children (the_former this) X ps) ≡ the_items X ps
the_items_listed X [] = refl
the_items_listed X (p ∷ ps) = ap (λ l. p.1 ∷ l) (the_items_listed X ps)

abbrev fields : Former {0}
fields = via (pair (const (List (List ℕ))) (vec.the_former this Global)) Inside (λ X a. (a.keys, a.values))
    (λ X v. record { keys = v.0; values = v.1 }) (λ X a. refl) (λ X v. refl)

zip-map : {X Y : Type 0} (h : X → Y) (ks : List (List ℕ)) (vs : List X)
    → zip ks (map h vs) ≡ map (on_value h) (zip ks vs)
zip-map h [] vs = refl
zip-map h (k ∷ ks) [] = refl
zip-map h (k ∷ ks) (v ∷ vs) = ap (λ l. (k, h v) ∷ l) (zip-map h ks vs)

zip-held : (X : Type 0) (ks : List (List ℕ)) (vs : List X) → length vs ≡ length ks
    → held (list (entry this)) X (zip ks vs) ≡ held (list this) X vs
zip-held X [] [] e = refl
zip-held X [] (v ∷ vs) e = absurd (suc-ne-zero (length vs) e)
zip-held X (k ∷ ks) [] e = absurd (suc-ne-zero (length ks) (sym e))
zip-held X (k ∷ ks) (v ∷ vs) e = λ i. (
  one_more (zip-held X ks vs (suc_inj e) i).0,
  (v, (zip-held X ks vs (suc_inj e) i).1),
)

module _ (R R' : RattleType) (h : R.Denot → R'.Denot) where
  -- entries of alike values are alike
  pub the_places : Alike R R' h → Alike (C.the_row R) (C.the_row R') ((the_former this).map R.Denot R'.Denot h)
  the_places a = view_places_where fields (the_former this) view
      (λ X Y k u. zip-map k u.keys u.values.items)
      (λ X u. length u.values.items ≡ length u.keys) (λ X Y k u e. sym (length-map u.values.items k) ∙ e)
      (λ X u e. zip-held X u.keys u.values.items e)
      R.Denot R'.Denot h (C.the_row R).coded (C.the_row R').coded
      (invariant R.Denot) (invariant R'.Denot) (λ u. ℕ_set _ _) (λ u. ℕ_set _ _)
      (λ u e. length-map u.values.items h ∙ e) (λ u e. sym (length-map u.values.items h) ∙ e) (λ u e. e)
      (over (I.the_row R)) (over (I.the_row R'))
      (struct_places (I.the_type R) (I.the_type R') (λ n. n, (vec.mapped h, tt)) _ (λ d. refl) refl
      ((refl, (λ n. refl, λ n. refl)), (laid _ _ _ (vec.the_places heap.the_row ghosts R R' h a), tt)))

  -- entries of values that are coded anew are coded anew
  pub the_codes_placed : Recodes R R' h → Recodes (C.the_row R) (C.the_row R')
      ((the_former this).map R.Denot R'.Denot h)
  the_codes_placed e c = sym (code_map (coded× (coded_list coded_ℕ) R.coded).code
      (coded× (coded_list coded_ℕ) R'.coded).code (on_value h)
      (λ x i. gcons ((coded_list coded_ℕ).code x.0) (sym (e x.1) i)) c)
