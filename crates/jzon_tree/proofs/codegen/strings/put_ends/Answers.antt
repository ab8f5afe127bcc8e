use Rattle.jzon_base.proofs.Common.{true≢false}
use Rattle.jzon_tree.proofs.Printing.ByteEnds.{ends_put, ends_leave, ends_length}
use Rattle.jzon_tree.proofs.codegen.strings.put_ends.Goals as goal

pub returns : goal.returns
returns g c =
    let q = c.requires in record {
      plain = λ _. c.is_plain_by_ends.ensures c.if-not-is_plain_by_ends.false;
      text = λ _. ends_put c.args.bytes.now c.args.string.now c.args.at g.row.N q.within q.ends.0 q.ends.1;
      next = λ _. ends_leave c.args.bytes.now c.args.string.now c.args.at g.row.N q.within q.ends.0 q.ends.1;
      left = λ no. absurd (true≢false no);
      len = ends_length c.args.bytes.now c.args.string.now c.args.at g.row.N q.within q.ends.0 q.ends.1;
    }
