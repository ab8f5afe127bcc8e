use Rattle.std.proofs.Common.{◌∷◌, [], map, rules, string_bytes, subst}
use Rattle.std.specs.Str.Iter.{lines_steps}
use Rattle.std.specs.Str.Lines.{lines}
use Rattle.std.proofs.lemmas.Iterator.Splits.{YieldsList-from_lines}
use Rattle.std.proofs.lemmas.List.{map-append}
use Rattle.jzon_examples.specs.Filter.{ArePrinted}
use Rattle.jzon_examples.proofs.FilterSteps.{ArePrinted-push, yielded-all}
use Rattle.jzon_examples.proofs.line_filter.compacted.Goals as goal

pub loop-line-preserved : goal.loop-line-preserved
loop-line-preserved c =
    let more = ArePrinted-push (map (λ x. x.now) c.loop-line.yielded) c.in-Some.line.now
    (string_bytes c.loop-line.printed) _
    c.loop-line.invariant c.in_ok-add_line.ensures.1 in
    rw (map-append (λ x. x.now) c.loop-line.yielded (c.in-Some.line ∷ []), c.in_ok-add_line.ensures.2) more

pub returns : goal.returns
returns c =
    let each = YieldsList-from_lines {s = c.into_iter-line-iterator.result} c.args.text.now (search rules) in
    let all = yielded-all lines_steps (λ x. x.now) c.into_iter-line-iterator.result c.loop-line.line-iterator
    c.next.new.self
    c.loop-line.yielded (lines c.args.text.now) each.runs c.loop-line.yielded_by c.in-None.ensures.steps in
    subst (λ ls. ArePrinted ls (string_bytes c.loop-line.printed)) all c.loop-line.invariant
