use Rattle.jzon_base.proofs.Common.{◌≡◌, ◌∙◌, ℕ, Bool, List, ◌<◌, ◌≤◌, ◌∷◌, [], not, ◌&&◌, length, slice_index_or, true, false, refl, arith, sym}
use Rattle.jzon_base.proofs.Common.{IsDistinct, bytes_eq}
use Rattle.std.proofs.lemmas.Bool.{and_from, and_parts, not-true, not_from_false}
use Rattle.jzon_base.proofs.keys.few.are_few_distinct.Goals as goal

-- a pair of keys, at their places in the list: whether they differ
no : (r : Bool) (x y a b : List ℕ) → r ≡ not (bytes_eq a b) → a ≡ x → b ≡ y → r ≡ true → bytes_eq x y ≡ false
no r x y a b e ea eb t = not-true _ (sym (e ∙ (λ i. not (bytes_eq (ea i) (eb i)))) ∙ t)

yes : (r : Bool) (x y a b : List ℕ) → r ≡ not (bytes_eq a b) → a ≡ x → b ≡ y → bytes_eq x y ≡ false → r ≡ true
yes r x y a b e ea eb f = e ∙ (λ i. not (bytes_eq (ea i) (eb i))) ∙ not_from_false _ f

at_most_one : (ks : List (List ℕ)) → length ks < 2 → IsDistinct bytes_eq ks
unfolding IsDistinct
at_most_one [] l = tt
at_most_one (k ∷ []) l = (tt, tt)
at_most_one (k ∷ j ∷ ks) l = absurd (omega (arith, l))

two : (ks : List (List ℕ)) (a b : List ℕ) (r : Bool) → 2 ≤ length ks → length ks < 3
    → a ≡ slice_index_or ks 0 a → b ≡ slice_index_or ks 1 b → r ≡ not (bytes_eq a b)
    → (r ≡ true → IsDistinct bytes_eq ks) × (IsDistinct bytes_eq ks → r ≡ true)
unfolding IsDistinct
two [] a b r l m ea eb e = absurd (omega (arith, l))
two (x ∷ []) a b r l m ea eb e = absurd (omega (arith, l))
two (x ∷ y ∷ []) a b r l m ea eb e = (
  λ t. ((no r x y a b e ea eb t, tt), (tt, tt)),
  λ d. yes r x y a b e ea eb d.0.0,
)
two (x ∷ y ∷ z ∷ ks) a b r l m ea eb e = absurd (omega (arith, m))

three : (ks : List (List ℕ)) (a b c : List ℕ) (ab ac bc : Bool) → 3 ≤ length ks → length ks < 4
    → a ≡ slice_index_or ks 0 a → b ≡ slice_index_or ks 1 b → c ≡ slice_index_or ks 2 c
    → ab ≡ not (bytes_eq a b) → ac ≡ not (bytes_eq a c) → bc ≡ not (bytes_eq b c)
    → (((ab && ac) && bc) ≡ true → IsDistinct bytes_eq ks) × (IsDistinct bytes_eq ks → ((ab && ac) && bc) ≡ true)
unfolding IsDistinct
three [] a b c ab ac bc l m ea eb ec e f g = absurd (omega (arith, l))
three (x ∷ []) a b c ab ac bc l m ea eb ec e f g = absurd (omega (arith, l))
three (x ∷ y ∷ []) a b c ab ac bc l m ea eb ec e f g = absurd (omega (arith, l))
three (x ∷ y ∷ z ∷ []) a b c ab ac bc l m ea eb ec e f g = (
  λ t.
      let (u, t3) = and_parts (ab && ac) bc t in
      let (t1, t2) = and_parts ab ac u in
      ((no ab x y a b e ea eb t1, (no ac x z a c f ea ec t2, tt)), ((no bc y z b c g eb ec t3, tt), (tt, tt))),
  λ d. and_from (ab && ac) bc
      (and_from ab ac (yes ab x y a b e ea eb d.0.0) (yes ac x z a c f ea ec d.0.1.0))
      (yes bc y z b c g eb ec d.1.0.0),
)
three (x ∷ y ∷ z ∷ w ∷ ks) a b c ab ac bc l m ea eb ec e f g = absurd (omega (arith, m))

four : (ks : List (List ℕ)) (a b c d : List ℕ) (ab ac bc ad bd cd : Bool) → 4 ≤ length ks → length ks < 5
    → a ≡ slice_index_or ks 0 a → b ≡ slice_index_or ks 1 b → c ≡ slice_index_or ks 2 c → d ≡ slice_index_or ks 3 d
    → ab ≡ not (bytes_eq a b) → ac ≡ not (bytes_eq a c) → bc ≡ not (bytes_eq b c)
    → ad ≡ not (bytes_eq a d) → bd ≡ not (bytes_eq b d) → cd ≡ not (bytes_eq c d)
    → ((((ab && ac) && bc) && ((ad && bd) && cd)) ≡ true → IsDistinct bytes_eq ks)
    × (IsDistinct bytes_eq ks → (((ab && ac) && bc) && ((ad && bd) && cd)) ≡ true)
unfolding IsDistinct
four [] a b c d ab ac bc ad bd cd l m ea eb ec ed e1 e2 e3 e4 e5 e6 = absurd (omega (arith, l))
four (x ∷ []) a b c d ab ac bc ad bd cd l m ea eb ec ed e1 e2 e3 e4 e5 e6 = absurd (omega (arith, l))
four (x ∷ y ∷ []) a b c d ab ac bc ad bd cd l m ea eb ec ed e1 e2 e3 e4 e5 e6 = absurd (omega (arith, l))
four (x ∷ y ∷ z ∷ []) a b c d ab ac bc ad bd cd l m ea eb ec ed e1 e2 e3 e4 e5 e6 = absurd (omega (arith, l))
four (x ∷ y ∷ z ∷ w ∷ []) a b c d ab ac bc ad bd cd l m ea eb ec ed e1 e2 e3 e4 e5 e6 = (
  λ t.
      let (u, v) = and_parts ((ab && ac) && bc) ((ad && bd) && cd) t in
      let (u2, t3) = and_parts (ab && ac) bc u in
      let (t1, t2) = and_parts ab ac u2 in
      let (v2, t6) = and_parts (ad && bd) cd v in
      let (t4, t5) = and_parts ad bd v2 in (
        (no ab x y a b e1 ea eb t1, (no ac x z a c e2 ea ec t2, (no ad x w a d e4 ea ed t4, tt))),
        ((no bc y z b c e3 eb ec t3, (no bd y w b d e5 eb ed t5, tt)), ((no cd z w c d e6 ec ed t6, tt), (tt, tt))),
      ),
  λ h. and_from ((ab && ac) && bc) ((ad && bd) && cd)
      (and_from (ab && ac) bc
      (and_from ab ac (yes ab x y a b e1 ea eb h.0.0) (yes ac x z a c e2 ea ec h.0.1.0))
      (yes bc y z b c e3 eb ec h.1.0.0))
      (and_from (ad && bd) cd
      (and_from ad bd (yes ad x w a d e4 ea ed h.0.1.1.0) (yes bd y w b d e5 eb ed h.1.0.1.0))
      (yes cd z w c d e6 ec ed h.1.1.0.0)),
)
four (x ∷ y ∷ z ∷ w ∷ v ∷ ks) a b c d ab ac bc ad bd cd l m ea eb ec ed e1 e2 e3 e4 e5 e6 = absurd (omega (arith, m))

pub returns-in-len2 : goal.returns-in-len2
returns-in-len2 c = two c.args.keys.now c.a-item.result c.b-item.result c.differ.result c.in-len2.len_at_least
    c.in-len2.len_below c.a-item.is c.b-item.is c.differ.ensures

pub returns-in-len3 : goal.returns-in-len3
returns-in-len3 c =
    let p = three c.args.keys.now c.a-item-then-keys-lt4.result c.b-item-then-keys-lt4.result c.c-item.result
    _ _ _ c.in-len3.len_at_least c.in-len3.len_below
    c.a-item-then-keys-lt4.is c.b-item-then-keys-lt4.is c.c-item.is refl refl refl in
    (λ t. p.0 (sym c.three_differ.ensures ∙ t), λ d. c.three_differ.ensures ∙ p.1 d)

pub returns-in-len4 : goal.returns-in-len4
returns-in-len4 c =
    let p = four c.args.keys.now c.a-item-then-keys-lt5.result c.b-item-then-keys-lt5.result
    c.c-item-then-keys-lt5.result c.d-item.result _ _ _ _ _ _
    c.in-len4.len_at_least c.in-len4.len_below
    c.a-item-then-keys-lt5.is c.b-item-then-keys-lt5.is c.c-item-then-keys-lt5.is c.d-item.is
    refl refl refl refl refl refl in
    (λ t. p.0 (sym c.four_differ.ensures ∙ t), λ d. c.four_differ.ensures ∙ p.1 d)

pub returns-in_default : goal.returns-in_default
returns-in_default c = (λ _. at_most_one c.args.keys.now c.in_default.len_below, λ _. refl)
