use Rattle.jzon_base.proofs.Common.{refl, sym, subst}
use Rattle.jzon_tree.specs.View.{view}
use Rattle.jzon_tree.specs.Writing.{Writes}
use Rattle.jzon_tree.proofs.Printing.MemoryTexts.{laid_out}
use Rattle.jzon_tree.proofs.value.JsonValue.lay_out.Goals as goal

pub into_text-requires : goal.into_text-requires
into_text-requires g c =
    (laid_out (g.L.Layout.style c.args.layout) (view c.args.self.now) _ _ _ c.in-Ok.ensures
    c.in-Ok-write_value.ensures.value c.in-Ok-write_value.ensures.written refl).0

pub returns-clause-writing : goal.returns-clause-writing
returns-clause-writing g c =
    subst (Writes (g.L.Layout.style c.args.layout) 0 (view c.args.self.now)) (sym c.into_text.ensures)
    (laid_out (g.L.Layout.style c.args.layout) (view c.args.self.now) _ _ _ c.in-Ok.ensures
    c.in-Ok-write_value.ensures.value c.in-Ok-write_value.ensures.written refl).1
