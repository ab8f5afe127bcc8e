use Rattle.jzon_base.proofs.Common.{◌∙◌, sym, ap, inl}
use Rattle.jzon_base.specs.PairList.{find}
use Rattle.jzon_base.proofs.Entries.PairPositions.{default_written, find_placed}
use Rattle.jzon_base.proofs.pairs.Pairs.at_mut.Goals as goal

pub returns : goal.returns
returns g c =
    let name = c.args.name.now in
    let at = c.in_ok-position.position in (
      λ j. inl (
        c.value_mut.result.ghost_name,
        λ w. default_written name c.args.value c.args.self.now c.place.new.self
            at c.in_ok-position.ensures.ok c.in_ok-position.ensures.position w j,
      ),
      (
        sym (find_placed name c.place.new.self at c.value_mut.result.now c.in_ok-position.ensures.position
            c.value_mut.ensures.value) ∙ ap (find name) c.in_ok-position.ensures.ok,
        tt,
      ),
    )
