use Rattle.std.proofs.Common.{◌≡◌, ◌<◌, ◌+◌, suc, drop, false, length, ap, ◌∙◌, arith, ◌==◌, add-one}
use Rattle.std.proofs.lemmas.Bool.Decides.{nat_tests}
use Rattle.jzon.specs.Value.{nest}
use Rattle.jzon.specs.View.{view, view_values}
use Rattle.jzon.proofs.ValueLaws.{view-Array}
use Rattle.jzon_tools.specs.Patch.{applied, applied_within, each_within, undone_at}
use Rattle.jzon_tools.proofs.PatchRuns.{left-seen, all-next, within-next, first-next, depth-next, done-all, done-within, backup-next, none-before}
use Rattle.jzon_tools.proofs.PatchWeight.{applied-weight}
use Rattle.jzon_tools.proofs.patch.apply_within.Goals as goal

pub loop-number-preserved : goal.loop-number-preserved
loop-number-preserved c =
    let i = c.loop-number.number in
    let ops = c.in-Array.operations.items in
    let op = view c.index-operation.result.now in
    let old = view c.args.value.now in
    let v = view c.loop-number.value in
    let w = view c.step-done.new.value in
    let l = c.loop-number.left in
    let rest = view_values (drop (i + 1) ops) in
    let here : i < length ops = omega arith in
    let cut = left-seen ops i c.index-operation.result.now here c.index-operation.ensures in
    let done = c.in_default-done.ensures.done in
    let within = c.in_default-done.ensures.within in
    let left = c.in_default-done.ensures.left in
    let backup = c.in_default-done.ensures.backup in
    let before = c.loop-number.invariant in
    record {
      all = all-next op v w rest (view_values (drop i ops)) cut done ∙ before.all;
      within = ap (λ m. each_within m rest w) left
          ∙ within-next l op v w rest (view_values (drop i ops)) cut within done ∙ before.within;
      first = ap (λ n. undone_at n c.step-done.new.left rest w) (add-one i)
          ∙ ap (λ m. undone_at (suc i) m rest w) left
          ∙ first-next i l op v w rest (view_values (drop i ops)) cut within done ∙ before.first;
      depth = (
        ap (λ m. m.depth) left ∙ before.depth.0,
        depth-next l c.args.limits.now.depth (nest old) op v w before.depth.0 within done before.depth.1,
      );
      backup = backup-next c.loop-number.backup c.step-done.new.backup v old backup before.backup
          (λ none. before.kept none here);
      kept = λ none more.
          let not_last : (i + 1 == c.len.result) ≡ false = grind (arith, nat_tests) in
          c.in_default-done.ensures.kept none not_last
          ∙ before.kept (none-before c.loop-number.backup c.step-done.new.backup v backup none) here;
    }

pub returns-clause-ok : goal.returns-clause-ok
returns-clause-ok c =
    let ops = c.in-Array.operations in
    ap (λ p. applied p (view c.args.value.now)) (ap view c.in-Array.is ∙ view-Array ops)
    ∙ done-all ops.items c.loop-number.number (view c.args.value.now) (view c.loop-number.value) (omega arith)
    c.loop-number.invariant.all

pub returns-clause-within : goal.returns-clause-within
returns-clause-within c =
    let ops = c.in-Array.operations in
    ap (λ p. applied_within c.args.limits.now p (view c.args.value.now)) (ap view c.in-Array.is ∙ view-Array ops)
    ∙ done-within c.args.limits.now c.loop-number.left ops.items c.loop-number.number (view c.args.value.now)
    (view c.loop-number.value) (omega arith) c.loop-number.invariant.within

pub returns-clause-weight : goal.returns-clause-weight
returns-clause-weight c =
    applied-weight c.args.limits.now (view c.args.patch.now) (view c.args.value.now) (view c.loop-number.value)
    (returns-clause-within c)
