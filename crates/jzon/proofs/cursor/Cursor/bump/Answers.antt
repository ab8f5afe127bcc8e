use Rattle.jzon_base.proofs.Common.{refl, arith, IsCharBoundary-after_ascii}
use Rattle.jzon.proofs.Texts.Cursors.{utf8_of}
use Rattle.jzon.proofs.Containers.FrameViews.{byte_within}
use Rattle.jzon.proofs.cursor.Cursor.bump.Goals as goal

pub overflow_add-self : goal.overflow_add-self
overflow_add-self c =
    let t = c.args.self.now in
    let within = byte_within t.source.now t.index _ refl c.requires.some in
    omega arith

pub go_to-requires : goal.go_to-requires
go_to-requires c =
    let t = c.args.self.now in
    IsCharBoundary-after_ascii t.source.now t.index (utf8_of t)
    (byte_within t.source.now t.index _ refl c.requires.some) c.requires.ascii
