use Rattle.jzon_base.proofs.Numbers.NumberBytes.{point_put, length-point_put}
use Rattle.jzon_base.proofs.util.print_dec.put_point.Goals as goal

pub returns : goal.returns
returns c = record {
  text = point_put c.args.room.now c.args.point c.requires;
  len = length-point_put c.args.room.now c.args.point;
}
