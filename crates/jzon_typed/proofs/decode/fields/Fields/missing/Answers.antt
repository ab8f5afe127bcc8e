use Rattle.std.proofs.Common.{refl}
use Rattle.jzon_typed.specs.DecodeFields.{read_from}
use Rattle.jzon_typed.proofs.decode.fields.Fields.missing.Goals as goal

pub returns : goal.returns
returns c = c.missing.ensures (read_from c.args.self.now) refl c.requires
