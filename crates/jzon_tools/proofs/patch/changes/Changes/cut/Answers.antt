use Rattle.std.proofs.Common.{◌∙◌, ◌+◌, ◌<◌, ℕ, suc, List, ap, arith, length, map, refl, string_bytes, subst}
use Rattle.std.proofs.lemmas.List.{length-map}
use Rattle.std.specs.Fmt.{decimal}
use Rattle.jzon.specs.View.{view}
use Rattle.jzon_tools.specs.Diff.{IsBelow, operations_of}
use Rattle.jzon_tools.proofs.DiffElements.{elements-both, elements-none, element-removed, seen-in, cut-to, to-is}
use Rattle.jzon_tools.proofs.patch.changes.Changes.cut.Goals as goal

pub loop-index-init : goal.loop-index-init
loop-index-init c = (
  elements-none (string_bytes c.args.self.now.path) (map view c.args.from.now) (map view c.args.to.now)
      (c.args.start, c.args.start) (operations_of c.args.self.now) (operations_of c.args.self.now) refl,
  refl,
)

pub loop-index-preserved : goal.loop-index-preserved
loop-index-preserved c =
    let path = string_bytes c.args.self.now.path in
    let place = string_bytes c.push_index.new.path in
    let us = map view c.args.from.now in
    let vs = map view c.args.to.now in
    let j = c.args.start in
    let k = c.loop-index.index in
    let before = operations_of c.args.self.now in
    let mid = operations_of c.loop-index.self in
    let after = map view c.remove.new.self.operations.items in
    let op = c.in_ok-remove.ensures.ok in
    let less : k < length us = omega (arith, c.loop-index-test.true, c.requires.range.1, length-map c.args.from.now view) in
    let shorter : length vs < length us =
    omega (
      arith,
      c.requires.shorter (omega (arith, c.loop-index-test.true, c.loop-index.auto.index)),
      length-map c.args.from.now view,
      length-map c.args.to.now view,
    ) in
    let there = seen-in us k less in
    let below : IsBelow path (decimal j) place =
    subst (λ (p : List ℕ). IsBelow p (decimal j) place) c.loop-index.invariant.1 c.in_ok-push_index.ensures.below in (
      elements-both path us vs (j, j) (j, k) (j, k + 1) before mid after c.loop-index.invariant.0
          (to-is path us vs (j, k) j (suc k) j (k + 1) mid after refl (omega arith)
          (element-removed path place us vs j k there.0 op.0 mid after (omega (arith, c.ranges.start.fits))
          (λ same. omega (arith, shorter, same)) there.1 below op.1 op.2)),
      c.truncate.ensures.bytes ∙ cut-to path place (string_bytes c.remove.new.self.path) (decimal j) c.len-length.result
          (c.len-length.ensures ∙ c.args.self.now.path.bytes.ok.0) below.0 (ap string_bytes c.in_ok-remove.ensures.path),
    )

pub returns-clause-ok : goal.returns-clause-ok
returns-clause-ok c =
    let j = c.args.start in
    to-is (string_bytes c.args.self.now.path) (map view c.args.from.now) (map view c.args.to.now) (j, j)
    j c.loop-index.index j c.args.end (operations_of c.args.self.now) (operations_of c.loop-index.self) refl
    (omega (arith, c.loop-index.auto.index-end, c.loop-index-test.false)) c.loop-index.invariant.0
