use Rattle.std.proofs.Common.{◌≡◌, Some, option_map, slice_get, sym, ap, ◌∙◌}
use Rattle.std.proofs.lemmas.Option.{get_or_from_slice_get, slice_get_within}
use Rattle.std.proofs.lemmas.Slice.Eq.{bytes_eq-Decides}
use Rattle.jzon.specs.Entries.{entries_of}
use Rattle.jzon_tools.proofs.SortedCopies.{found_there}
use Rattle.jzon_tools.proofs.patch.changes.look.Goals as goal

-- the entry at the index is that of the key, since no key repeats
pub returns-then-eq : goal.returns-then-eq
returns-then-eq c =
    let es = entries_of c.args.object.now in
    let i = c.args.index in
    let k = c.args.key.now in
    let v = c.in-Some.value.now in
    let there : slice_get es i ≡ Some (c.in-Some.there.now, v) =
    sym c.get_index.ensures ∙ ap (option_map (λ p. (p.0.now, p.1.now))) c.in-Some.is in
    let named : c.in-Some.there.now ≡ k = (bytes_eq-Decides c.in-Some.there.now k).0 (sym c.eq.ensures ∙ c.if-eq.true) in
    let here : slice_get es i ≡ Some (k, v) = there ∙ ap (λ j. Some (j, v)) named in
    sym (found_there k v es i c.len-known.ensures.distinct (slice_get_within es i (k, v) here)
    (get_or_from_slice_get es i (k, v) (k, v) here))
