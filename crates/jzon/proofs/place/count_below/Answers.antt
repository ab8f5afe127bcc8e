use Rattle.jzon_base.proofs.Common.{◌+◌, ◌∙◌, ap, arith, cond, count_by, take_rest}
use Rattle.std.proofs.lemmas.List.Sums.{count_by-le-length, sum_by-take-le}
use Rattle.jzon.specs.Private.Lines.{is_below}
use Rattle.jzon.proofs.Texts.ByteCounts.{more, rest}
use Rattle.jzon.proofs.place.count_below.Goals as goal

pub loop-start-preserved : goal.loop-start-preserved
loop-start-preserved c =
    let p = is_below c.args.turn c.args.bound in
    (omega arith, omega (arith, c.loop-start.invariant.1, c.count_in_lanes-count.ensures, more p c.args.bytes.now c.loop-start.start))

pub overflow_add-count : goal.overflow_add-count
overflow_add-count c =
    let p = is_below c.args.turn c.args.bound in
    let d = c.args.bytes.now in
    omega (
      arith,
      c.loop-start.invariant.1,
      c.count_in_lanes-count.ensures,
      more p d c.loop-start.start,
      sum_by-take-le (λ x. cond (p x) 1 0) d (c.loop-start.start + 16),
      count_by-le-length p d,
    )

pub returns-clause-count : goal.returns-clause-count
returns-clause-count c =
    let p = is_below c.args.turn c.args.bound in
    let d = c.args.bytes.now in
    omega (
      arith,
      c.loop-start.invariant.1,
      c.count_by_bytes.ensures ∙ ap (count_by p) (take_rest d c.loop-start.start),
      rest p d c.loop-start.start,
    )
