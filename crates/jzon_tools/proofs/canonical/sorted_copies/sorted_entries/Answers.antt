use Rattle.std.proofs.Common.{◌≡◌, ◌++◌, ◌∙◌, sym, ap, subst, append-nil, map, rules, List, ℕ, IsPermutation}
use Rattle.std.proofs.lemmas.Fn.{always_returns_same}
use Rattle.std.proofs.lemmas.List.Sorted.{IsPermutation-map}
use Rattle.jzon.specs.Entries.{entries_of}
use Rattle.jzon.specs.JsonValue.{JsonValue}
use Rattle.jzon_tools.specs.Canonical.{pointed}
use Rattle.jzon_tools.proofs.SortedCopies.{distinct-permutation, strictly_sorted}
use Rattle.jzon_tools.proofs.canonical.sorted_copies.sorted_entries.Goals as goal

same : (c : goal.In_ok-sort_by_key)
    → IsPermutation (entries_of c.args.object.now) (map pointed c.sort_by_key.new.self.items)
same c =
    let items = c.loop-key.entries.items in
    let all : map pointed items ≡ entries_of c.args.object.now =
    sym (append-nil (map pointed items))
    ∙ ap (λ (rest : List (List ℕ × JsonValue)). map pointed items ++ rest) (sym c.in-None.ensures.steps.0)
    ∙ c.loop-key.invariant in
    subst (λ (ps : List (List ℕ × JsonValue)). IsPermutation ps (map pointed c.sort_by_key.new.self.items)) all
    (IsPermutation-map pointed items c.sort_by_key.new.self.items c.in_ok-sort_by_key.ensures.permutation)

pub returns-clause-same : goal.returns-clause-same
returns-clause-same c = same c

pub returns-clause-sorted : goal.returns-clause-sorted
returns-clause-sorted c =
    strictly_sorted c.sort_by_key.new.self.items
    (c.in_ok-sort_by_key.ensures.sorted (λ e. e.0) (always_returns_same _ _ _ (λ a r f called. search rules)))
    (distinct-permutation (entries_of c.args.object.now) (map pointed c.sort_by_key.new.self.items) (same c)
    c.len.ensures.distinct)
