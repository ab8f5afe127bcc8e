use Rattle.jzon_base.proofs.Common.{◌∙◌, ◌*◌, Some, false, refl}
use Rattle.jzon_tree.specs.Generators.{text_meaning, same_emitted}
use Rattle.jzon_tree.specs.StyleLaws.{spaces_are_whitespace}
use Rattle.jzon_tree.specs.Styles.{LaysOut}
use Rattle.jzon_tree.specs.Text.{pretty_layout}
use Rattle.jzon_tree.specs.Writing.{IsAllowedWhitespace}
use Rattle.jzon_tree.proofs.Printing.Emissions.{Emits-counted}
use Rattle.jzon_tree.proofs.Printing.Appends.{adds_weaker}
use Rattle.jzon_tree.specs.Generator.{Just}
use Rattle.jzon_tree.proofs.codegen.text_generator.TextGeneratorGenerator.try_new_line.Goals as goal

pub returns-then-put-clause-bytes : goal.returns-then-put-clause-bytes
returns-then-put-clause-bytes g c =
    let s = c.args.self.now in
    let style = g.L.Layout.style s.layout in
    let n = c.in-Some.spaces in
    let laid : LaysOut style (Some n) = rw c.in-Some.is at c.spaces.ensures in
    record {
      bytes = adds_weaker (Just ((pretty_layout n).line s.dent)) (IsAllowedWhitespace style s.dent) _ _
          (λ x e. rw e (spaces_are_whitespace false (s.dent * n), laid.0 s.dent)) (c.put.ensures.done c.if-put.true);
      dent = refl;
      faults = refl;
      style = refl;
      lender = c.put.ensures.lender;
    }

pub returns-clause-bytes : goal.returns-clause-bytes
returns-clause-bytes g c =
    let s = c.args.self.now in
    let style = g.L.Layout.style s.layout in
    let n = c.in-Some.spaces in
    let laid : LaysOut style (Some n) = rw c.in-Some.is at c.spaces.ensures in
    let destination = c.put.new.self in
    let writer = c.send_line-step.new.writer in
    Emits-counted (IsAllowedWhitespace style s.dent) ((pretty_layout n).line s.dent)
    (text_meaning g.P.Destination.out g.P.Destination.lender g.L.Layout.style s) _ _ _ _ _ _
    (spaces_are_whitespace false (s.dent * n), laid.0 s.dent)
    (c.writer.ensures.bytes ∙ c.put.ensures.left c.if-put.false) c.send_line-step.ensures.bytes
    (same_emitted (g.met.P.Destination.out_law destination writer)
    (g.met.P.Destination.lender_law destination writer ∙ c.put.ensures.lender))
    c.count_fault.ensures.result c.count_fault.ensures.faults
