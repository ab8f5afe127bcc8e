use Rattle.jzon_base.proofs.Common.{[], ◌∷◌, refl}
use Rattle.jzon_tree.specs.Generator.{Just}
use Rattle.jzon_tree.proofs.Printing.Emissions.{Emits-handed}
use Rattle.jzon_tree.proofs.codegen.generator.Generator.write_char.Goals as goal

pub returns : goal.returns
returns g c =
    Emits-handed (Just (c.args.ch ∷ [])) (c.args.ch ∷ []) (g.Self.Generator.meaning c.args.self.now) _ _ _ _ _ _ _ refl
    c.get_writer.ensures.bytes c.send-step.ensures.bytes c.take_result.ensures.answer
    (g.met.Self.Generator.writer_law c.args.self.now c.send-step.new.writer) c.hand_on.ensures.result
    c.hand_on.ensures.faults
