use Rattle.std.proofs.Common.{◌≡◌, ◌∙◌, ℕ, arith, sym, subst}
use Rattle.jzon_pointer.proofs.LocateElements.{Reaches, reaches_first, reaches_next, reads_element, reads_no_element, reads_too_few}
use Rattle.jzon_pointer.proofs.locate.element_at.Goals as goal

pub loop-passed-init : goal.loop-passed-init
loop-passed-init c = record {
  within = (c.whitespace_end-at.ensures.after, c.whitespace_end-at.ensures.within);
  reaches = reaches_first c.args.bytes.now c.args.start c.in_ok-index.index c.whitespace_end-at.result
      c.whitespace_end-at.ensures.rest;
}

pub returns-then-byte_at-ne44-clause-element : goal.returns-then-byte_at-ne44-clause-element
returns-then-byte_at-ne44-clause-element c =
    reads_too_few c.args.bytes.now c.args.start c.args.token.now c.in_ok-index.index c.loop-passed._passed c.loop-passed.at
    c.item_end-comma.result (sym c.in_ok-index.ensures) c.loop-passed-test.true c.loop-passed.invariant.reaches
    c.item_end-comma.ensures.rest (λ e. c.if-byte_at-ne44.true (c.byte_at.ensures.byte ∙ e))

pub loop-passed-preserved : goal.loop-passed-preserved
loop-passed-preserved c =
    let next = c.whitespace_end-at-in-loop-passed in record {
      within = (
        omega (
          arith,
          c.loop-passed.invariant.within.0,
          c.item_end-comma.ensures.after,
          c.whitespace_end-at-in-loop-passed.ensures.after,
        ),
        c.whitespace_end-at-in-loop-passed.ensures.within,
      );
      reaches = reaches_next c.args.bytes.now c.args.start c.in_ok-index.index c.loop-passed._passed c.loop-passed.at
          c.item_end-comma.result c.whitespace_end-at-in-loop-passed.result c.loop-passed.invariant.reaches
          c.item_end-comma.ensures.rest (sym c.byte_at.ensures.byte ∙ c.if-byte_at-ne44.false)
          c.whitespace_end-at-in-loop-passed.ensures.rest;
    }

pub returns-in-0-clause-element : goal.returns-in-0-clause-element
returns-in-0-clause-element c =
    let done : c.loop-passed._passed ≡ c.in_ok-index.index =
    omega (arith, c.loop-passed-test.false, c.loop-passed.auto._passed-end) in
    let reaches = subst (λ (i : ℕ). Reaches c.args.bytes.now c.args.start c.in_ok-index.index i c.loop-passed.at) done
    c.loop-passed.invariant.reaches in
    reads_no_element c.args.bytes.now c.args.start c.args.token.now c.in_ok-index.index c.loop-passed.at reaches
    (λ z n. grind (arith, c.byte_at-2.ensures.byte, c.in-0.is))

pub returns-in_default-clause-element : goal.returns-in_default-clause-element
returns-in_default-clause-element c =
    let done : c.loop-passed._passed ≡ c.in_ok-index.index =
    omega (arith, c.loop-passed-test.false, c.loop-passed.auto._passed-end) in
    let reaches = subst (λ (i : ℕ). Reaches c.args.bytes.now c.args.start c.in_ok-index.index i c.loop-passed.at) done
    c.loop-passed.invariant.reaches in
    reads_element c.args.bytes.now c.args.start c.args.token.now c.in_ok-index.index c.loop-passed.at
    (sym c.in_ok-index.ensures) reaches (λ e. grind (arith, c.byte_at-2.ensures.byte, c.in_default))
