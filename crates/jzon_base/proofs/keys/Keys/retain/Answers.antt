use Rattle.jzon_base.proofs.Common.{◌≡◌, ◌≤◌, ◌∙◌, length, sym, subst, ap, arith, eqb-false, CalledAtPair}
use Rattle.std.proofs.lemmas.Bool.{eqb-true}
use Rattle.jzon_base.specs.Private.Runs.{IsTable}
use Rattle.jzon_base.proofs.KeyIndex.Refills.{room_for_fewer}
use Rattle.jzon_base.proofs.Entries.Retention.{IsDistinct-retained, fewer_retained, same_retained}
use Rattle.jzon_base.proofs.KeyIndex.Tables.{IsIndexed-empty}
use Rattle.jzon_base.proofs.keys.Keys.retain.Goals as goal

pub refill-requires : goal.refill-requires
refill-requires g c =
    let ks = c.self.inside.keys.items in
    let ls = c.retain_entries.new.keys.items in
    let even : length c.args.values.now.items ≡ length ks = omega (arith, c.requires.even, ap length c.self.view_is) in
    let fewer = fewer_retained (CalledAtPair g.F.FnMut) c.args.keep ks ls c.args.values.now.items
    c.retain_entries.new.values.items even c.retain_entries.ensures.even c.retain_entries.ensures.kept in
    rw c.as_slice.ensures.value (room_for_fewer ks ls c.self.inside.index c.self.invariant.indexed fewer
    (eqb-false _ _ (sym c.is_empty.ensures ∙ c.if-not-is_empty.true)))

pub invariant_of-self : goal.invariant_of-self
invariant_of-self g c =
    let ks = c.self.inside.keys.items in
    let even : length c.args.values.now.items ≡ length ks = omega (arith, c.requires.even, ap length c.self.view_is) in
    record {
      indexed = record { index = λ _. rw c.as_slice.ensures.value at c.refill.ensures };
      distinct = IsDistinct-retained (CalledAtPair g.F.FnMut) c.args.keep ks c.retain_entries.new.keys.items
          c.args.values.now.items c.retain_entries.new.values.items even c.retain_entries.ensures.even
          c.retain_entries.ensures.kept c.self.invariant.distinct;
    }

pub invariant_of-self-else-not-is_empty : goal.invariant_of-self-else-not-is_empty
invariant_of-self-else-not-is_empty g c =
    let ks = c.self.inside.keys.items in
    let even : length c.args.values.now.items ≡ length ks = omega (arith, c.requires.even, ap length c.self.view_is) in
    record {
      indexed = IsIndexed-empty c.retain_entries.new.keys.items c.self.inside.index
          (eqb-true _ _ (sym c.is_empty.ensures ∙ c.if-not-is_empty.false));
      distinct = IsDistinct-retained (CalledAtPair g.F.FnMut) c.args.keep ks c.retain_entries.new.keys.items
          c.args.values.now.items c.retain_entries.new.values.items even c.retain_entries.ensures.even
          c.retain_entries.ensures.kept c.self.invariant.distinct;
    }

pub invariant_of-self-else-len-count : goal.invariant_of-self-else-len-count
invariant_of-self-else-len-count g c =
    let ks = c.self.inside.keys.items in
    let ls = c.retain_entries.new.keys.items in
    let even : length c.args.values.now.items ≡ length ks = omega (arith, c.requires.even, ap length c.self.view_is) in
    let all : length ks ≤ length ls = omega (
      arith,
      c.len.ensures,
      c.len-count.ensures,
      c.self.inside.keys.ok.0,
      c.retain_entries.new.keys.ok.0,
      c.if-len-count.false,
    ) in
    subst (λ us. IsTable us c.self.inside.index) (sym (same_retained (CalledAtPair g.F.FnMut) c.args.keep ks ls
    c.args.values.now.items c.retain_entries.new.values.items even c.retain_entries.ensures.even
    c.retain_entries.ensures.kept all)) c.self.invariant
