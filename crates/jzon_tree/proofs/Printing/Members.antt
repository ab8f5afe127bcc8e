-- The entries of an object, in any order.
use Rattle.jzon_base.proofs.Common.{◌≡◌, ◌≢◌, ℕ, zero, suc, ◌+◌, ◌-◌, ◌<◌, ◌≤◌, false, List, [], ◌∷◌, ◌++◌, refl, sym}
use Rattle.jzon_base.proofs.Common.{ap, subst, ◌∙◌, length, append_assoc, append-nil, arith, map, get_or, take, set}
use Rattle.jzon_base.proofs.Common.{replicate, inl, inr, take-suc, cases_lt, get_or-set_other, get_or-set_same}
use Rattle.jzon_base.proofs.Common.{get_or-take, length-take-le, take_all, length-map, length-replicate, map-append}
use Rattle.jzon_base.proofs.Common.{nat_lt, IsTrue}
use Rattle.std.proofs.Common.{length-take, length-set}
use Rattle.jzon_base.specs.PairList.{keys_of}
use Rattle.jzon_tree.specs.Generator.{Begins}
use Rattle.jzon_tree.specs.Text.{quoted}
use Rattle.jzon_tree.specs.Value.{Value, object, pairs_of}
use Rattle.jzon_tree.specs.Writing.{Style, IsStyle, IsOrder, text_at, Writes, WritesPairs, colon_text}
use Rattle.jzon_tree.specs.Lawful.{ArePairs}
use Rattle.jzon_tree.specs.Private.Printing.{IsBetween, IsClosing, IsEntry, pair_at, ArePrintedMembers}
use Rattle.jzon_tree.proofs.Printing.Orders.{order_occurs, order_within, order_differs}
use Rattle.jzon_tree.proofs.Values.Views.{list_of_pairs-pairs_of}
use Rattle.jzon_tree.proofs.Printing.Writings.{some_between, some_writing, encloses, Items-append, needs_comma}
use Rattle.jzon_tree.proofs.Printing.Writings.{needs_comma-after}

-- ---- one more text at its position
arranged-set : (ps : List ℕ) (p : ℕ) (ts : List (List ℕ)) (x : List ℕ) → ((k : ℕ) → k < length ps → get_or ps k 0 ≢ p)
    → map (text_at (set ts p x)) ps ≡ map (text_at ts) ps
arranged-set [] p ts x h = refl
arranged-set (q ∷ qs) p ts x h =
    rw (get_or-set_other ts p q x [] (h 0 (omega arith))) (ap (λ w. text_at ts q ∷ w)
    (arranged-set qs p ts x (λ k l. h (suc k) (omega arith))))

-- ---- one more entry
module _ (s : Style) (d : ℕ) (es : List (List ℕ × Value)) (ps : List ℕ) (o : IsOrder (length es) ps) where
  pub members_none : ArePrintedMembers s d es (take 0 ps) []
  members_none = (replicate (length es) [], length-replicate (length es) [], λ k h. absurd (omega arith), refl)

  push_each : (i : ℕ) (ts : List (List ℕ)) (x : List ℕ) → i < length ps → length ts ≡ length es
      → IsEntry s d (pair_at es (get_or ps i 0)) x
      → ((k : ℕ) → k < length (take i ps) → IsEntry s d (pair_at es (get_or (take i ps) k 0))
      (text_at ts (get_or (take i ps) k 0)))
      → (k : ℕ) → k < length (take (suc i) ps) → IsEntry s d (pair_at es (get_or (take (suc i) ps) k 0))
      (text_at (set ts (get_or ps i 0) x) (get_or (take (suc i) ps) k 0))
  push_each i ts x h l e each k g =
      let short : k < suc i = omega (arith, length-take (suc i) ps) in
      rw (get_or-take (suc i) ps k 0 short) (elim (cases_lt k i) [
        | inl f ↦ rw
            (get_or-set_other ts (get_or ps i 0) (get_or ps k 0) x [] (order_differs (length es) ps o k i f h))
            (rw (get_or-take i ps k 0 f) at (each k (omega (arith, length-take-le i ps (omega arith)))))
        | inr f ↦
            let same : k ≡ i = omega arith in
            rw (same, get_or-set_same ts (get_or ps i 0) x [] (omega (arith, order_within (length es) ps o i h))) e
      ])

  pub members_push : (i : ℕ) (u w x : List ℕ) → i < length ps → ArePrintedMembers s d es (take i ps) u
      → IsBetween s d (nat_lt 0 i) w → IsEntry s d (pair_at es (get_or ps i 0)) x
      → ArePrintedMembers s d es (take (suc i) ps) (u ++ (w ++ x))
  members_push i u w x h (ts, l, each, items) hw hx =
      let p = get_or ps i 0 in
      let kept : map (text_at (set ts p x)) (take i ps) ≡ map (text_at ts) (take i ps) =
      arranged-set (take i ps) p ts x (λ k g. rw (get_or-take i ps k 0 (omega (arith, length-take i ps)))
      (order_differs (length es) ps o k i (omega (arith, length-take i ps)) h)) in
      let all : map (text_at (set ts p x)) (take (suc i) ps) ≡ map (text_at ts) (take i ps) ++ x ∷ [] =
      ap (map (text_at (set ts p x))) (take-suc ps i 0 h) ∙ map-append (text_at (set ts p x)) (take i ps) (p ∷ [])
      ∙ rw (kept, get_or-set_same ts p x [] (omega (arith, order_within (length es) ps o i h))) refl in
      let comma : needs_comma false (map (text_at ts) (take i ps)) ≡ nat_lt 0 i =
      needs_comma-after (map (text_at ts) (take i ps)) ∙ ap (λ n. nat_lt 0 n)
      (length-map (take i ps) (text_at ts) ∙ length-take-le i ps (omega arith)) in (
        set ts p x,
        length-set ts p x ∙ l,
        push_each i ts x h l hx each,
        rw all
            (rw (append-nil x) at (Items-append s d false (map (text_at ts) (take i ps)) (x ∷ []) u (w ++ (x ++ []))
            items
            (w, [], rw comma hw, refl, refl))),
      )

  -- ---- the prefixes of a text of all entries
  module _ (lawful : IsStyle s) (keyed : ArePairs (pairs_of es)) where
    pub some_entry : (fs : List (List ℕ × Value)) (p : ℕ) → ArePairs (pairs_of fs) → p < length fs → (x : List ℕ)
        × IsEntry s d (pair_at fs p) x
    some_entry [] p k h = absurd (omega arith)
    some_entry (f ∷ fs) zero k h =
        let x : (b : List ℕ) × Writes s d f.1 b = some_writing s lawful d f.1 k.1 in
        (quoted f.0 ++ (colon_text lawful.colon.0 ++ x.0), (lawful.colon.0, x.0, lawful.colon.1, x.1, refl))
    some_entry (f ∷ fs) (suc p) k h = some_entry fs p k.2 (omega arith)

    fill : (m i : ℕ) (u : List ℕ) → i + m ≡ length ps → ArePrintedMembers s d es (take i ps) u
        → Begins (ArePrintedMembers s d es ps) u
    fill zero i u e h = ([], rw (append-nil u) (rw (take_all i ps (omega arith)) at h))
    fill (suc m) i u e h =
        let w : (b : List ℕ) × IsBetween s d (nat_lt 0 i) b = some_between s lawful d (nat_lt 0 i) in
        let x : (b : List ℕ) × IsEntry s d (pair_at es (get_or ps i 0)) b = some_entry es (get_or ps i 0) keyed
        (order_within (length es) ps o i (omega arith)) in
        let r : Begins (ArePrintedMembers s d es ps) (u ++ (w.0 ++ x.0)) = fill m (suc i) (u ++ (w.0 ++ x.0)) (omega arith)
        (members_push i u w.0 x.0 (omega arith) h w.1 x.1) in
        ((w.0 ++ x.0) ++ r.0, rw (sym (append_assoc u (w.0 ++ x.0) r.0)) r.1)

    pub members_begin : (i : ℕ) (u : List ℕ) → i ≤ length ps → ArePrintedMembers s d es (take i ps) u
        → Begins (ArePrintedMembers s d es ps) u
    members_begin i u h = fill (length ps - i) i u (omega arith)

    pub some_members : (b : List ℕ) × ArePrintedMembers s d es ps b
    some_members = members_begin 0 [] (omega arith) members_none

-- ---- the brackets of an object that is not empty
each_pair : (s : Style) (d : ℕ) (es : List (List ℕ × Value)) (ts : List (List ℕ)) → length ts ≡ length es
    → ((p : ℕ) → p < length es → IsEntry s d (pair_at es p) (text_at ts p)) → WritesPairs s d (pairs_of es) ts
each_pair s d [] [] l h = tt
each_pair s d [] (t ∷ ts) l h = absurd (omega (arith, l))
each_pair s d (e ∷ es) [] l h = absurd (omega (arith, l))
each_pair s d (e ∷ es) (t ∷ ts) l h =
    (h 0 (omega arith), each_pair s d es ts (omega (arith, l)) (λ p g. h (suc p) (omega arith)))

named : (s : Style) (d : ℕ) (es : List (List ℕ × Value)) (ps : List ℕ) (ts : List (List ℕ)) → IsOrder (length es) ps
    → ((k : ℕ) → k < length ps → IsEntry s d (pair_at es (get_or ps k 0)) (text_at ts (get_or ps k 0)))
    → (p : ℕ) → p < length es → IsEntry s d (pair_at es p) (text_at ts p)
named s d es ps ts o each p h =
    let k : (k : ℕ) × (k < length ps) × (get_or ps k 0 ≡ p) = order_occurs (length es) ps o p h in
    subst (λ q. IsEntry s d (pair_at es q) (text_at ts q)) k.2 (each k.0 k.1)

pub object_closed : (s : Style) (d : ℕ) (es : List (List ℕ × Value)) (ps : List ℕ) → IsOrder (length es) ps
    → IsTrue (s.order (keys_of es) ps) → 0 < length es
    → (y z : List ℕ) → ArePrintedMembers s (suc d) es ps y → IsClosing s d 125 z
    → Writes s d (object (pairs_of es)) (123 ∷ (y ++ z))
object_closed s d [] ps o t n y z m c = absurd (omega arith)
object_closed s d (e ∷ es) [] o t n y z m c = absurd (omega (arith, o.as_many))
object_closed s d (e ∷ es) (p ∷ ps) o t n y z (ts, l, each, items) c =
    let texts = each_pair s (suc d) (e ∷ es) ts l (named s (suc d) (e ∷ es) (p ∷ ps) ts o each) in
    let enclosed = encloses s d 123 125 (text_at ts p) (map (text_at ts) ps) y z items c in
    (ts, p ∷ ps, texts, rw l o, rw (list_of_pairs-pairs_of es) t, enclosed)
