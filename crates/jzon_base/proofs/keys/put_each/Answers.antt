use Rattle.jzon_base.proofs.Common.{◌≡◌, ◌∙◌, ◌<◌, ◌≤◌, ◌++◌, ◌∷◌, [], get_or, length, take, ap, sym, arith, get_or_default}
use Rattle.jzon_base.proofs.Common.{length-zip, position, zip, result_ok, bytes_eq}
use Rattle.jzon_base.specs.Private.Runs.{all_entries, IsIndexed}
use Rattle.jzon_base.proofs.Entries.Merges.{merging_none, merging_old, merging_new, merging_all}
use Rattle.jzon_base.proofs.keys.put_each.Goals as goal
use Rattle.jzon_base.proofs.keys.put_each.Goals.{in-Ok, in-Err+in_ok-add_entry-in-Err}

pub loop-at-init : goal.loop-at-init
loop-at-init g c = merging_none c.args.keys.items c.args.values.items c.new-index.result c.requires
    (ap (λ rs. length (all_entries rs)) c.new-index.ensures)

pub loop-at-preserved : goal.loop-at-preserved
loop-at-preserved g c =
    let m = c.loop-at.invariant in
    let ks = c.loop-at.keys.items in
    let vs = c.loop-at.values.items in
    let at = c.loop-at.at in
    let l : at < length ks = omega (
      arith,
      m.counted,
      length-zip c.args.keys.items c.args.values.items,
      c.requires,
      c.len-at-end.ensures,
      c.args.keys.ok.0,
    ) in
    let own : c.as_str-name.result.now ≡ get_or ks at [] = c.as_str-name.ensures ∙ c.index.ensures ∙ get_or_default ks at _ [] l in
    let place : result_ok c.search.result ≡ position (λ k. bytes_eq k (get_or ks at [])) (take c.loop-at.kept ks) =
    c.search.ensures.position ∙ (λ i. position (λ k. bytes_eq k (own i)) (take c.loop-at.kept (c.deref.ensures.value i))) in
    elim c.match-search.branch [
      | in-Ok w ↦ rw (w.keys-is, w.values-is, w.index-is, w.kept-is, w.swap.ensures.items)
          (merging_old _ ks vs c.loop-at.index c.loop-at.kept at m l _ (ap result_ok (sym w.in-Ok.is) ∙ place))
      | in-Err+in_ok-add_entry-in-Err w ↦
          (let indexed : IsIndexed (take c.loop-at.kept ks ++ get_or ks at [] ∷ []) w.add_entry.new.index =
          rw (own, c.deref.ensures.value) at w.in_ok-add_entry-in-Err.ensures.ok in
          rw (w.keys-is, w.values-is, w.index-is, w.kept-is, w.swap-in-Err.ensures.items, w.swap-in-Err-2.ensures.items)
          (merging_new _ ks vs c.loop-at.index c.loop-at.kept at m l _ (ap result_ok (sym w.in-Err.is) ∙ place) indexed))
    ]

pub returns-clause-merged : goal.returns-clause-merged
returns-clause-merged g c =
    let m = c.loop-at.invariant in
    let all : length c.loop-at.keys.items ≤ c.loop-at.at = omega (
      arith,
      m.counted,
      length-zip c.args.keys.items c.args.values.items,
      c.requires,
      c.len-at-end.ensures,
      c.args.keys.ok.0,
      c.loop-at-test.false,
    ) in
    (λ i. zip ((c.in_ok-keys.ensures.tail ∙ c.truncate.ensures.items) i)
    ((c.in_ok-values.ensures.tail ∙ c.truncate-2.ensures.items) i))
    ∙ merging_all _ c.loop-at.keys.items c.loop-at.values.items c.loop-at.index c.loop-at.kept c.loop-at.at m all
