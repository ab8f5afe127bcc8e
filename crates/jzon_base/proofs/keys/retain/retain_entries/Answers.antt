use Rattle.jzon_base.proofs.Common.{◌∙◌, ap, arith, subst, CalledAtPair, TakesPair}
use Rattle.jzon_base.proofs.Entries.Retention.{asked, dropped, kept, sifted_all}
use Rattle.jzon_base.proofs.keys.retain.retain_entries.Goals as goal
use Rattle.jzon_base.proofs.keys.retain.retain_entries.Goals.{then-keeps, else-keeps}

pub keeps-requires : goal.keeps-requires
keeps-requires g c =
    rw c.as_str.ensures (asked (CalledAtPair g.F.FnMut) (TakesPair g.F.FnMut) c.loop-at.invariant c.index.result.now
    c.index_mut.result.now (omega arith) c.index.ensures c.index_mut.ensures.value)

pub loop-at-preserved : goal.loop-at-preserved
loop-at-preserved g c =
    let T = CalledAtPair g.F.FnMut in
    let at = c.loop-at in
    let k = c.index.result.now in
    let v = c.index_mut.result.now in
    let w = c.keeps.new.value in
    let f = c.keeps.new.keep in
    let called = rw c.as_str.ensures at c.keeps.ensures in
    elim c.if-keeps.branch [
      | then-keeps o ↦ kept T (TakesPair g.F.FnMut) at.invariant k v (omega arith) c.index.ensures
          c.index_mut.ensures.value w f c.if-keeps.keys.items c.if-keeps.values.items c.if-keeps.kept
          (subst (λ r. T at.keep k v r w f) o.if-keeps.true called)
          (ap (λ u. u.items) o.keys-is ∙ o.swap.ensures.items)
          (ap (λ u. u.items) o.values-is ∙ o.swap-then-keeps.ensures.items) o.kept-is
      | else-keeps o ↦ dropped T (TakesPair g.F.FnMut) at.invariant k v (omega arith) c.index.ensures
          c.index_mut.ensures.value w f c.if-keeps.keys.items c.if-keeps.values.items c.if-keeps.kept
          (subst (λ r. T at.keep k v r w f) o.if-keeps.false called) (ap (λ u. u.items) o.keys-is)
          (ap (λ u. u.items) o.values-is) o.kept-is
    ]

pub returns-clause-kept : goal.returns-clause-kept
returns-clause-kept g c = sifted_all (CalledAtPair g.F.FnMut) (TakesPair g.F.FnMut) c.loop-at.invariant
    (omega arith) _ _ c.truncate.ensures.items c.truncate-2.ensures.items
