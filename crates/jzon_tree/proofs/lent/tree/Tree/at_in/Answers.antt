use Rattle.jzon_base.proofs.Common.{◌≡◌, ◌∙◌, Some, ap, inl, sym}
use Rattle.jzon_base.specs.PairList.{find, keys_of, with_default}
use Rattle.std.specs.List.{position}
use Rattle.std.specs.Str.{bytes_eq}
use Rattle.jzon_base.proofs.Entries.PairPositions.{default_written, find_placed}
use Rattle.jzon_tree.proofs.lent.tree.Tree.at_in.Goals as goal

pub unreachable-requires : goal.unreachable-requires
unreachable-requires g c =
    let is = sym c.in-None.ensures.value ∙ ap g.Self.Tree.pairs c.in_ok-index.ensures.ok ∙ g.Self.Tree.pairs_of_object _ in
    let none = rw (sym is) at c.in_ok-index.ensures.position in absurd (cc none)

pub returns : goal.returns
returns g c =
    let k = c.args.key.now in
    let old = g.Self.Tree.pairs c.args.self.now in
    let at = c.in_ok-index.index in
    let now = c.in-Some.pairs.now in
    let is : now ≡ with_default k g.Self.Tree.null old =
    c.in-Some.ensures.value.0 ∙ ap g.Self.Tree.pairs c.in_ok-index.ensures.ok ∙ g.Self.Tree.pairs_of_object _ in
    let there : position (λ x. bytes_eq x k) (keys_of now) ≡ Some at = rw is c.in_ok-index.ensures.position in (
      λ j. inl (
        c.value_mut.result.ghost_name,
        λ w. g.Self.Tree.object (default_written k g.Self.Tree.null old now at is there w j),
      ),
      (sym (find_placed k now at c.value_mut.result.now there c.value_mut.ensures.value) ∙ ap (find k) is, (tt, tt)),
    )
