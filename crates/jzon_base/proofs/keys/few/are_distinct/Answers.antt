use Rattle.jzon_base.proofs.Common.{◌≡◌, ◌∙◌, ◌+◌, ◌++◌, ◌∷◌, [], take, refl, ap, arith, subst, sym}
use Rattle.jzon_base.proofs.Common.{false, false≢true, All-nil, All-same, IsDistinct, bytes_eq, list_any, take_more}
use Rattle.std.specs.Int.{bit_at}
use Rattle.std.proofs.lemmas.Nat.Bits.{shr_and_one}
use Rattle.jzon_base.specs.Private.Filter.{HasWordBit}
use Rattle.jzon_base.proofs.KeyIndex.Filters.{HasWordBit-push, missing_by, word_with}
use Rattle.jzon_base.proofs.KeyIndex.Indexes.{IsDistinct-more, repeated}
use Rattle.jzon_base.proofs.keys.few.are_distinct.Goals.{else-word-bit-eq1-via-then-word-bit-eq1+else-has_name, else-word-bit-eq1-via-else-word-bit-eq1}
use Rattle.jzon_base.proofs.keys.few.are_distinct.Goals as goal

pub loop-at-init : goal.loop-at-init
unfolding IsDistinct
loop-at-init c = record { distinct = tt; bits = All-nil (HasWordBit 0) }

pub returns-then-has_name : goal.returns-then-has_name
returns-then-has_name c = (
  λ e. absurd (false≢true e),
  λ distinct. absurd
      (repeated c.args.keys.now c.loop-at.at _ c.index-keys-at.result c.as_str-name.result.now (omega arith)
      (omega arith) c.index-keys-at.is c.as_str-name.ensures (sym c.if-has_name.true ∙ c.has_name.ensures) distinct),
)

pub loop-at-preserved : goal.loop-at-preserved
loop-at-preserved c =
    let ks = c.args.keys.now in
    let at = c.loop-at.at in
    let w = c.loop-at.word in
    let s = c.bit_of-bit.result in
    let k = c.index-keys-at.result in
    let name = c.as_str-name.result.now in
    let missing : false ≡ list_any (λ x. bytes_eq x name) (take at ks) = elim c.else-word-bit-eq1.branch [
      | else-word-bit-eq1-via-then-word-bit-eq1+else-has_name p ↦ sym p.if-has_name.false ∙ p.has_name.ensures
      | else-word-bit-eq1-via-else-word-bit-eq1 p ↦
          sym (missing_by (HasWordBit w) (take at ks) name false c.loop-at.invariant.bits
          (λ has. absurd (p.if-word-bit-eq1.false (shr_and_one w s
          ∙ subst (λ n. bit_at w n ≡ 1) (sym c.bit_of-bit.ensures.bit) has))) refl)
    ] in
    record {
      distinct = IsDistinct-more ks at _ k name (omega arith) (omega arith) c.loop-at.invariant.distinct
          c.index-keys-at.is c.as_str-name.ensures missing;
      bits = All-same (HasWordBit (word_with w s)) (take (at + 1) ks) (take at ks ++ name ∷ [])
          (take_more ks at k (omega arith)
          ∙ ap (λ l. take at ks ++ l ∷ []) (sym c.index-keys-at.is ∙ sym c.as_str-name.ensures))
          (HasWordBit-push w s (take at ks) name c.bit_of-bit.ensures.within c.bit_of-bit.ensures.bit
          c.loop-at.invariant.bits);
    }
