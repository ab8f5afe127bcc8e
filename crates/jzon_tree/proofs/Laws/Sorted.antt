-- Sorted positions are still an order.
use Rattle.jzon_base.proofs.Common.{◌≡◌, ℕ, zero, suc, ◌+◌, ◌<◌, false, IsTrue, List, [], ◌∷◌, ◌++◌, cond, length}
use Rattle.jzon_base.proofs.Common.{get_or, map, refl, ap, ◌∙◌, sym, add-one, add-zero, zero-add, arith, range_with_len}
use Rattle.jzon_base.proofs.Common.{◌==◌, IsPermutation, length_permutation}
use Rattle.std.proofs.lemmas.List.Sorted.{sum_by-IsPermutation}
use Rattle.jzon_tree.specs.Generator.{insertion}
use Rattle.jzon_tree.specs.SortedStyle.{is_before, ascend}
use Rattle.jzon_tree.specs.StyleLaws.{IsOrder-insertion}
use Rattle.jzon_tree.specs.Writing.{IsOrder, text_at}
use Rattle.jzon_tree.proofs.Printing.Orders.{order_within}

pub IsOrder_permuted : (n : ℕ) (ps qs : List ℕ) → ps ≡ insertion n → IsPermutation ps qs → IsOrder n qs
IsOrder_permuted n ps qs e same =
    let o : IsOrder n ps = rw e (IsOrder-insertion n) in
    record {
      as_many = length_permutation ps qs same ∙ o.as_many;
      once = λ i h. sum_by-IsPermutation
          (λ j. cond (j == i) 1 0) ps qs same ∙ o.once i h;
    }

range_more : (a n : ℕ) → range_with_len a (suc n) ≡ range_with_len a n ++ (a + n) ∷ []
range_more a zero = ap (λ (x : ℕ). x ∷ []) (sym (add-zero a))
range_more a (suc n) =
    ap (λ (xs : List ℕ). a ∷ xs) (range_more (a + 1) n ∙ ap (λ (x : ℕ). range_with_len (a + 1) n ++ x ∷ [])
    (omega arith))

pub insertion_more : (n : ℕ) → insertion (n + 1) ≡ insertion n ++ n ∷ []
insertion_more n = rw (add-one n) (range_more 0 n ∙ ap (λ (x : ℕ). insertion n ++ x ∷ []) (zero-add n))

-- keys ascend at positions where none is before its predecessor
ascend_from : (keys : List (List ℕ)) (ps : List ℕ)
    → ((k : ℕ) → suc k < length ps → is_before (text_at keys (get_or ps (suc k) 0)) (text_at keys (get_or ps k 0))
    ≡ false)
    → IsTrue (ascend (map (text_at keys) ps))
ascend_from keys [] h = refl
ascend_from keys (p ∷ []) h = refl
ascend_from keys (p ∷ q ∷ ps) h =
    let first : is_before (text_at keys q) (text_at keys p) ≡ false = h 0 (omega arith) in
    rw first (ascend_from keys (q ∷ ps) (λ k l. h (suc k) (omega arith)))

-- the same for an order, whose positions are all within range
pub ascend_in_order : (keys : List (List ℕ)) (ps : List ℕ) → IsOrder (length keys) ps
    → ((p q : ℕ) (k : ℕ) → k + 1 < length ps → get_or ps k 0 ≡ p → get_or ps (k + 1) 0 ≡ q → p < length keys
    → q < length keys
    → is_before (text_at keys q) (text_at keys p) ≡ false)
    → IsTrue (ascend (map (text_at keys) ps))
ascend_in_order keys ps order h =
    let within = order_within (length keys) ps order in
    ascend_from keys ps
    (λ k l. h (get_or ps k 0) (get_or ps (suc k) 0) k (omega arith) refl (ap (λ (j : ℕ). get_or ps j 0) (add-one k))
    (within k (omega arith)) (within (suc k) l))
