-- `Pairs` as a type former, for recursive types, by the values of the entries in its box.
use Rattle.std.specs.Prelude.{◌≡◌, ℕ, List, [], Option, None, Some}
use mathlib.Core.Path.{refl}
use mathlib.Core.Logic.{◌⊎◌, inl, inr}
use mathlib.Core.Former.{Former, this, const, pair, or, via, children}
use base.Stored.{gnil}
use base.Fml.{ftrue}
use denote.RattleType.{RattleType}
use denote.RawPtr.{Ptr}
use denote.Memory.{part_of}
use denote.Sharing.{nothing}
use denote.HoleLaws.{Alike}
use denote.HolePlaces.{Recodes, struct_places, enum_places, eachs, laid, one_value}
use denote.Hole.Carrier.{listed}
use denote.Hole.Fix.{over}
use denote.Param.Weighed.{Weighed}
use denote.Model.Placed.{held, view_places}
use Rattle.std.specs.declared.boxed.Box.{Box}
use Rattle.std.specs.contracts.boxed.Box as box
use Rattle.std.specs.contracts.option.Option as option
use Rattle.std.specs.declared.alloc.Global.{Global}
use Rattle.std.specs.contracts.alloc.Global as heap
use Rattle.std.specs.contracts.impls.GlobalAllocator.TheImpl.{ghosts}
use Rattle.jzon_base.specs.PairList.{entries_in_box}
use Rattle.jzon_base.specs.declared.pairs.Pairs.TheInside.{Inside}
use Rattle.jzon_base.specs.declared.pairs.Pairs.TheView.{view, invariant}
use Rattle.jzon_base.specs.contracts.pairs.Pairs as C
use Rattle.jzon_base.specs.contracts.pairs.Pairs.TheInside as I
use Rattle.jzon_base.specs.contracts.pairs.contents.Contents as T
use Rattle.jzon_base.specs.formers.pairs.contents.Contents as entries

-- the former: entries with g's values
abbrev pub the_former : Former {0} → Former {0}
the_former = entries.the_former

-- their weight is the greatest of a value
abbrev pub the_weighed : {g : Former {0}} → Weighed g → Weighed (the_former g)
the_weighed = entries.the_weighed

-- the entries of no values
pub the_empty : List (List ℕ × ⊥)
the_empty = []

-- the values of the entries
abbrev pub the_items : (X : Type 0) → List (List ℕ × X) → List X
the_items = entries.the_items

-- the children that the former lists are these values
pub the_items_listed : (X : Type 0) (ps : List (List ℕ × X))
    → listed _ (children (the_former this) X ps) ≡ the_items X ps
the_items_listed = entries.the_items_listed

abbrev BoxOf : Type 0 → Type 0
BoxOf X = Box (List (List ℕ × X)) Global

module _ {X : Type 0} where
  abbrev split : Option (BoxOf X) → Unit {0} ⊎ ((Ptr × Global) × List (List ℕ × X))
  split None = inl tt
  split (Some b) = inr ((b.ptr, b.alloc), b.value)

  abbrev join : Unit {0} ⊎ ((Ptr × Global) × List (List ℕ × X)) → Option (BoxOf X)
  join (inl u) = None
  join (inr v) = Some (record { ptr = v.0.0; alloc = v.0.1; value = v.1 })

  join-split : (o : Option (BoxOf X)) → join (split o) ≡ o
  join-split None = refl
  join-split (Some b) = refl

  split-join : (o : Unit {0} ⊎ ((Ptr × Global) × List (List ℕ × X))) → split (join o) ≡ o
  split-join (inl u) = refl
  split-join (inr v) = refl

-- the box, where there is one
abbrev boxes : Former {0}
boxes = via (or (const (Unit {0})) (pair (const (Ptr × Global)) (entries.the_former this)))
    (λ X. Option (BoxOf X)) (λ X. split) (λ X. join) (λ X. join-split) (λ X. split-join)

abbrev fields : Former {0}
fields = via (pair (const Global) boxes) Inside (λ X a. (a.alloc, a.entries))
    (λ X v. record { alloc = v.0; entries = v.1 }) (λ X a. refl) (λ X v. refl)

module _ (X : Type 0) where
  abbrev with_entries : Inside X → Option (BoxOf X) → Inside X
  with_entries u o = record { alloc = u.alloc; entries = o }

  keeps : (u : Inside X) (o : Option (BoxOf X))
      → held (the_former this) X (entries_in_box o) ≡ held fields X (with_entries u o)
  keeps u None = refl
  keeps u (Some b) = refl

abbrev with_value : {A B : Type 0} → Box A Global → B → Box B Global
with_value b y = record { ptr = b.ptr; alloc = b.alloc; value = y }

module _ (X Y : Type 0) (h : X → Y) where
  abbrev over_list : List (List ℕ × X) → List (List ℕ × Y)
  over_list = (the_former this).map X Y h

  abbrev over_box : BoxOf X → BoxOf Y
  over_box b = with_value b (over_list b.value)

  abbrev over_boxes : Option (BoxOf X) → Option (BoxOf Y)
  over_boxes None = None
  over_boxes (Some b) = Some (over_box b)

  mapped : (o : Option (BoxOf X)) → boxes.map X Y h o ≡ over_boxes o
  mapped None = refl
  mapped (Some b) = refl

  natural : (u : Inside X) (o : Option (BoxOf X))
      → entries_in_box (fields.map X Y h (with_entries X u o)).entries ≡ over_list (entries_in_box o)
  natural u None = refl
  natural u (Some b) = refl

-- the row of a box for the row of what is in it
abbrev boxed : RattleType → RattleType
boxed E = box.the_row E heap.the_row ghosts

abbrev box_of : RattleType → RattleType
box_of R = boxed (T.the_row R)

module _ (R S : RattleType) (h : R.Denot → S.Denot) where
  box_places : Alike R S h → Alike (box_of R) (box_of S) (over_box R.Denot S.Denot h)
  unfolding part_of
  box_places a =
      let E = T.the_row R in
      let t = entries.the_places R S h a in record {
        mir_same = λ i. (boxed (one_value E (t.mir_same i) (λ _. ftrue) (λ _ _. nothing) gnil)).mir;
        own_same = λ b i.
            (boxed (one_value E (t.mir_same i) (t.own_same b.value i) (t.shr_same b.value i) gnil)).own_val
            (with_value b tt);
        shr_same = λ b i.
            (boxed (one_value E (t.mir_same i) (t.own_same b.value i) (t.shr_same b.value i) gnil)).shr_at
            (with_value b tt);
      }

  variant : (o : Option (BoxOf R.Denot))
      → (option.enum (box_of S)).as_values (over_boxes R.Denot S.Denot h o)
      ≡ eachs (option.enum (box_of R)).parts (option.enum (box_of S)).parts
      (tt, ((over_box R.Denot S.Denot h, tt), tt)) ((option.enum (box_of R)).as_values o)
  variant None = refl
  variant (Some b) = refl

  boxes_places : Alike R S h
      → Alike (option.the_row (box_of R)) (option.the_row (box_of S)) (over_boxes R.Denot S.Denot h)
  boxes_places a = enum_places (option.enum (box_of R)) (option.enum (box_of S))
      (tt, ((over_box R.Denot S.Denot h, tt), tt)) (over_boxes R.Denot S.Denot h) variant refl
      (tt, ((laid _ _ _ (box_places a), tt), tt))

  -- `Pairs` of alike values are alike
  pub the_places : Alike R S h → Alike (C.the_row R) (C.the_row S) ((the_former this).map R.Denot S.Denot h)
  the_places a = view_places fields (the_former this) view
      (λ X Y k u. natural X Y k u u.entries) (λ X u. keeps X u u.entries)
      R.Denot S.Denot h (C.the_row R).coded (C.the_row S).coded
      (invariant R.Denot) (invariant S.Denot) (λ u p q. refl) (λ u p q. refl) (λ u e. tt) (λ u e. tt)
      (over (I.the_row R)) (over (I.the_row S))
      (struct_places (I.the_type R) (I.the_type S) (λ n. n, (over_boxes R.Denot S.Denot h, tt)) _
      (λ d i. (d.alloc, (mapped R.Denot S.Denot h d.entries i, tt))) refl
      ((refl, (λ n. refl, λ n. refl)), (laid _ _ _ (boxes_places a), tt)))

  -- `Pairs` of values that are coded anew are coded anew
  pub the_codes_placed : Recodes R S h → Recodes (C.the_row R) (C.the_row S) ((the_former this).map R.Denot S.Denot h)
  the_codes_placed e c = entries.the_codes_placed R S h e c
