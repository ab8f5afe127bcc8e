use Rattle.jzon_base.proofs.Common.{refl, sym, subst}
use Rattle.jzon_tree.specs.View.{view_object}
use Rattle.jzon_tree.specs.Writing.{Writes}
use Rattle.jzon_tree.proofs.Printing.MemoryTexts.{laid_out}
use Rattle.jzon_tree.proofs.object.Object.lay_out.Goals as goal

pub into_text-requires : goal.into_text-requires
into_text-requires g c =
    (laid_out (g.L.Layout.style c.args.layout) (view_object c.args.self.now) _ _ _ c.in-Ok.ensures
    c.in-Ok-write_pairs.ensures.value c.in-Ok-write_pairs.ensures.written refl).0

pub returns-clause-writing : goal.returns-clause-writing
returns-clause-writing g c =
    subst (Writes (g.L.Layout.style c.args.layout) 0 (view_object c.args.self.now)) (sym c.into_text.ensures)
    (laid_out (g.L.Layout.style c.args.layout) (view_object c.args.self.now) _ _ _ c.in-Ok.ensures
    c.in-Ok-write_pairs.ensures.value c.in-Ok-write_pairs.ensures.written refl).1

pub returns-2-clause-memory : goal.returns-2-clause-memory
returns-2-clause-memory g c = c.printing_error.ensures.memory (view_object c.args.self.now) c.inspect_object.ensures

pub returns-2-clause-depth : goal.returns-2-clause-depth
returns-2-clause-depth g c = c.printing_error.ensures.depth (view_object c.args.self.now) c.inspect_object.ensures
