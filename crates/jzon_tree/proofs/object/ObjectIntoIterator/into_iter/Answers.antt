use Rattle.jzon_base.proofs.Common.{◌∙◌, zip}
use Rattle.jzon_base.proofs.Entries.Zips.{zip-parts}
use Rattle.jzon_tree.specs.Entries.{entries_of}
use Rattle.jzon_tree.proofs.object.ObjectIntoIterator.into_iter.Goals as goal

pub returns : goal.returns
returns c = record {
  into_iter_gives =
      (λ i. zip ((c.into_iter-keys.ensures.rest ∙ c.into_vec.ensures.keys ∙ c.into_parts-keys.ensures.keys) i)
      ((c.into_iter-values.ensures.rest ∙ c.into_parts-keys.ensures.values) i))
      ∙ zip-parts (entries_of c.args.self);
}
