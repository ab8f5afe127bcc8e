use Rattle.jzon_base.proofs.Common.{◌+◌, ◌++◌, ◌∷◌, [], take, ap, arith, sym, false≢true, All-same}
use Rattle.jzon_base.proofs.Common.{take_more, IsDistinct, ◌∙◌}
use Rattle.jzon_base.specs.Private.Filter.{HasBit}
use Rattle.jzon_base.proofs.KeyIndex.Indexes.{IsDistinct-more, repeated}
use Rattle.jzon_base.proofs.keys.few.are_distinct_by_filter.Goals as goal

pub loop-at-init : goal.loop-at-init
unfolding IsDistinct
loop-at-init c = record { distinct = tt; bits = c.new-filter.ensures }

pub loop-at-preserved : goal.loop-at-preserved
loop-at-preserved c =
    let ks = c.args.keys.now in
    let at = c.loop-at.at in
    let k = c.index-keys-at.result in
    let name = c.as_str.result.now in
    record {
      distinct = IsDistinct-more ks at _ k name (omega arith) (omega arith) c.loop-at.invariant.distinct
          c.index-keys-at.is c.as_str.ensures (sym c.if-has_or_notes.false ∙ c.has_or_notes.ensures.known);
      bits = All-same (HasBit c.has_or_notes.new.self.words) (take (at + 1) ks) (take at ks ++ name ∷ [])
          (take_more ks at k (omega arith)
          ∙ ap (λ l. take at ks ++ l ∷ []) (sym c.index-keys-at.is ∙ sym c.as_str.ensures))
          c.has_or_notes.ensures.bits;
    }

pub returns-then-has_or_notes : goal.returns-then-has_or_notes
returns-then-has_or_notes c = (
  λ e. absurd (false≢true e),
  λ distinct. absurd
      (repeated c.args.keys.now c.loop-at.at _ c.index-keys-at.result c.as_str.result.now (omega arith) (omega arith)
      c.index-keys-at.is c.as_str.ensures (sym c.if-has_or_notes.true ∙ c.has_or_notes.ensures.known) distinct),
)
