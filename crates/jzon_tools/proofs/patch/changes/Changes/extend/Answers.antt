use Rattle.std.proofs.Common.{◌∙◌, ◌+◌, ◌<◌, ℕ, suc, List, ap, arith, length, map, refl, string_bytes, subst}
use Rattle.std.proofs.lemmas.List.{length-map}
use Rattle.std.specs.Fmt.{decimal}
use Rattle.jzon.specs.View.{view}
use Rattle.jzon_tools.specs.Diff.{Adds, IsBelow, operations_of}
use Rattle.jzon_tools.proofs.DiffElements.{elements-both, elements-none, element-added, seen-at, cut-to, to-is}
use Rattle.jzon_tools.proofs.patch.changes.Changes.extend.Goals as goal

pub loop-index-init : goal.loop-index-init
loop-index-init c = (
  λ rest room. elements-none (string_bytes c.args.self.now.path) (map view c.args.from.now) (map view c.args.to.now)
      (c.args.start, rest) (operations_of c.args.self.now) (operations_of c.args.self.now) refl,
  refl,
)

pub loop-index-preserved : goal.loop-index-preserved
loop-index-preserved c =
    let path = string_bytes c.args.self.now.path in
    let place = string_bytes c.push_index.new.path in
    let us = map view c.args.from.now in
    let vs = map view c.args.to.now in
    let j = c.loop-index.index in
    let before = operations_of c.args.self.now in
    let mid = operations_of c.loop-index.self in
    let after = map view c.add.new.self.operations.items in
    let op = c.in_ok-add.ensures.ok in
    let v = c.index-to-index.result in
    let less : j < length c.args.to.now = omega (arith, c.loop-index-test.true, c.requires.range.1) in
    let longer : length us < length vs =
    omega (
      arith,
      c.requires.longer (omega (arith, c.loop-index-test.true, c.loop-index.auto.index)),
      length-map c.args.from.now view,
      length-map c.args.to.now view,
    ) in
    let below : IsBelow path (decimal j) place =
    subst (λ (p : List ℕ). IsBelow p (decimal j) place) c.loop-index.invariant.1 c.in_ok-push_index.ensures.below in
    let adds : Adds place (view v) op.0 = op.1 in (
      λ rest room. elements-both path us vs (c.args.start, rest) (j, rest) (j + 1, rest) before mid after
          (c.loop-index.invariant.0 rest room)
          (to-is path us vs (j, rest) (suc j) rest (j + 1) rest mid after (omega arith) refl
          (element-added path place us vs j rest (view v) op.0 mid after
          (omega (arith, c.loop-index-test.true, c.ranges.end.fits)) (λ same. omega (arith, longer, same))
          (seen-at c.args.to.now j v less c.index-to-index.is) below adds op.2)),
      c.truncate.ensures.bytes ∙ cut-to path place (string_bytes c.add.new.self.path) (decimal j) c.len-length.result
          (c.len-length.ensures ∙ c.args.self.now.path.bytes.ok.0) below.0 (ap string_bytes c.in_ok-add.ensures.path),
    )

pub returns-clause-ok : goal.returns-clause-ok
returns-clause-ok c = λ rest room.
    to-is (string_bytes c.args.self.now.path) (map view c.args.from.now) (map view c.args.to.now) (c.args.start, rest)
    c.loop-index.index rest c.args.end rest (operations_of c.args.self.now) (operations_of c.loop-index.self)
    (omega (arith, c.loop-index.auto.index-end, c.loop-index-test.false)) refl (c.loop-index.invariant.0 rest room)
