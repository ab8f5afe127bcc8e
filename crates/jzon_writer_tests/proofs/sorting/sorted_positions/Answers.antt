use Rattle.std.proofs.Common.{◌≡◌, ◌++◌, ◌∷◌, [], ◌∙◌, ap, sym, subst, arith, length, List, ℕ, IsTrue, map, rules}
use Rattle.std.proofs.lemmas.Fn.{always_returns_same}
use Rattle.std.proofs.lemmas.List.{length-map}
use Rattle.std.specs.Prelude.{slice_get}
use Rattle.jzon.specs.SortedStyle.{ascend}
use Rattle.jzon.specs.Writing.{IsOrder, text_at}
use Rattle.jzon.proofs.Sorted.{insertion_more, IsOrder_permuted}
use Rattle.jzon.proofs.KeyOrder.{in_key_order}
use Rattle.jzon_writer_tests.proofs.sorting.sorted_positions.Goals as goal

pub loop-position-preserved : goal.loop-position-preserved
loop-position-preserved c =
    c.in_ok-push.ensures.items ∙ ap (λ (ps : List ℕ). ps ++ c.loop-position.position ∷ []) c.loop-position.invariant
    ∙ sym (insertion_more c.loop-position.position)

pub returns : goal.returns
returns c =
    let keys = c.in_ok-keys.keys.items in
    let ps = c.sort_by_key.new.self.items in
    let count : c.loop-position.position ≡ length keys = omega
    (arith, c.len-position-end.ensures, c.in_ok-keys.keys.ok.0) in
    let order : IsOrder (length keys) ps =
    subst (λ (n : ℕ). IsOrder n ps) count
    (IsOrder_permuted c.loop-position.position c.loop-position.positions.items ps c.loop-position.invariant
    c.in_ok-sort_by_key.ensures.permutation) in
    let sorted = c.in_ok-sort_by_key.ensures.sorted (slice_get keys)
    (always_returns_same _ _ _ (λ a r f called. search rules)) in
    subst (λ (ts : List (List ℕ)). IsOrder (length ts) ps × IsTrue (ascend (map (text_at ts) ps))) c.in_ok-keys.ensures
    (rw (length-map keys (λ key. key.now)) order, in_key_order keys ps order sorted)
