use Rattle.jzon_base.proofs.Common.{◌≡◌, ◌∙◌, ◌++◌, ◌∷◌, [], length, ap, sym, rules, None, zip, position, bytes_eq}
use Rattle.jzon_base.specs.PairList.{find}
use Rattle.jzon_base.proofs.Entries.PairPositions.{find_missing, zip-placed, zip-default}
use Rattle.jzon_base.proofs.Entries.Zips.{AreParts-zip}
use Rattle.jzon_base.proofs.pairs.contents.Contents.place.Goals as goal

pub returns-in_err-position-clause-present : goal.returns-in_err-position-clause-present
returns-in_err-position-clause-present g c =
    let parts = AreParts-zip _ _ _ c.self.view_is c.self.invariant in
    let missing : find c.args.name.now c.args.self.now ≡ None = find_missing c.args.name.now c.args.self.now
    (ap (position (λ k. bytes_eq k c.args.name.now)) (sym parts.keys) ∙ c.in_err-position.ensures.missing) in
    search (rules, missing)

pub returns-in-Some-clause-position : goal.returns-in-Some-clause-position
returns-in-Some-clause-position g c =
    let inside = c.self.inside in
    let kept : c.put.new.self ≡ inside.keys = rw c.in-Some.is at c.in_ok-position.ensures.ok in
    rw ((λ i. zip (kept i) (c.put.ensures.items i)) ∙ c.self.view_is) (zip-placed c.args.name.now c.args.value
    inside.keys inside.values.items c.args.self.now c.self.view_is c.self.invariant c.in-Some.position
    (sym c.in-Some.is ∙ c.in_ok-position.ensures.position)).0

pub returns-in-Some-clause-ok : goal.returns-in-Some-clause-ok
returns-in-Some-clause-ok g c =
    let inside = c.self.inside in
    let kept : c.put.new.self ≡ inside.keys = rw c.in-Some.is at c.in_ok-position.ensures.ok in
    (λ i. zip (kept i) (c.put.ensures.items i)) ∙ c.self.view_is ∙ (zip-placed c.args.name.now c.args.value
    inside.keys inside.values.items c.args.self.now c.self.view_is c.self.invariant c.in-Some.position
    (sym c.in-Some.is ∙ c.in_ok-position.ensures.position)).1

pub returns-in-None-clause-position : goal.returns-in-None-clause-position
returns-in-None-clause-position g c =
    let inside = c.self.inside in
    let added : c.put.new.self ≡ inside.keys ++ c.args.name.now ∷ [] = rw c.in-None.is at c.in_ok-position.ensures.ok in
    let both = zip-default c.args.name.now c.args.value inside.keys inside.values.items c.args.self.now c.self.view_is
    c.self.invariant (sym c.in-None.is ∙ c.in_ok-position.ensures.position) in
    rw (
      (λ i. zip (added i) ((c.push_reserved.ensures.items
          ∙ ap (λ vs. vs ++ c.args.value ∷ []) c.put.ensures.items) i)) ∙ both.0,
      c.len-position.ensures ∙ c.put.new.values.ok.0 ∙ ap length c.put.ensures.items,
    ) both.1

pub returns-in-None-clause-ok : goal.returns-in-None-clause-ok
returns-in-None-clause-ok g c =
    let inside = c.self.inside in
    let added : c.put.new.self ≡ inside.keys ++ c.args.name.now ∷ [] = rw c.in-None.is at c.in_ok-position.ensures.ok in
    (λ i. zip (added i) ((c.push_reserved.ensures.items
    ∙ ap (λ vs. vs ++ c.args.value ∷ []) c.put.ensures.items) i))
    ∙ (zip-default c.args.name.now c.args.value inside.keys inside.values.items c.args.self.now c.self.view_is
    c.self.invariant (sym c.in-None.is ∙ c.in_ok-position.ensures.position)).0
