-- `get_mut` returns the reference that the trait's `get_in` returns. The borrow checker produces no proof of a clause
-- from a type to itself.
use Rattle.jzon_tree.proofs.Values.LentSteps.{[], ◌∷◌, refl, proved, leaves, full_share, id⊢, emp, ftrue, flft, ◌⊑◌, fact}
use Rattle.jzon_tree.proofs.Values.LentSteps.{fact_i, tables, ‵, raw, ◌⊛◌, some, later, ◌$◌, ◌∵◌, !, qed, by, move, keep, drop}
use Rattle.jzon_tree.proofs.Values.LentSteps.{use0, use1, use2, split, join, fjoin, pick, await, enter, addr, stop, no_more}
use Rattle.jzon_tree.proofs.Values.LentSteps.{and_then, returns, alloc_all, pass_all, free_all, look_at, get, through, sets}
use Rattle.jzon_tree.proofs.Values.LentSteps.{lands_as, RefMutOf, StrRefOf, yes, no, RattleType, Valss, owns, MutRef, mut_vals}
use Rattle.jzon_tree.proofs.Values.LentSteps.{mut_Tells, row_lawful, lent_field, shr_slice_vals, plain, type_at, types_at}
use Rattle.jzon_tree.proofs.Values.LentSteps.{nothing, peeks, Is, shows, calls_at, lasts, Lasts, at_exit, triple_of, framed}
use Rattle.jzon_tree.proofs.Values.LentSteps.{Stays, walk_of, stay_dropped, Goes-dropped, Goes-spent_ref, named, Lfts, Shares}
use Rattle.jzon_tree.proofs.Values.LentSteps.{within_static}
use Rattle.std.specs.contracts.option.Option as option
use Rattle.jzon_tree.specs.contracts.value.JsonValue.{the_row as J}
use Rattle.jzon_tree.specs.contracts.value.JsonValue.get_mut as f
use Rattle.jzon_tree.proofs.value.JsonValue.get_mut.Statement.{statement}
use Rattle.jzon_tree.proofs.value.JsonValue.get_mut.Code as code
use Rattle.jzon_tree.proofs.value.JsonValue.get_mut.Lts as lts
use Rattle.jzon_tree.specs.contracts.lent.tree.Tree.get_in as g
use Rattle.jzon_tree.proofs.lent.tree.Tree.get_in.Met.{met}
use Rattle.jzon_tree.specs.contracts.lent.tree.JsonValueTree.TheImpl as impl
use Rattle.jzon_tree.proofs.lent.tree.JsonValueTree.TheImpl.Met as impl_met

pub get_mut_spec : {M : Type 1} → statement M
get_mut_spec {M} 𝓤 𝓛 𝓜 𝓡 wired =
    let c = f.clauses 𝓛 𝓜.mem 𝓡.returns in let 𝓣 = tables 𝓤 𝓛.H 𝓜 𝓡 𝓡.env in
    let hs : Stays f.ended.signature.params f.ended.kept = (
      stay_dropped
          (RefMutOf (0 ∷ []) tt (plain (λ _. J)) (λ _. tt)) no,
      (stay_dropped (StrRefOf (1 ∷ []) tt) yes, tt),
    ) in
    proved 𝓛 f.ended hs c 𝓜 𝓡 (
      Goes-spent_ref 𝓛 2 (0 ∷ []) tt (plain (λ _. J)),
      (Goes-dropped 𝓛 2 (StrRefOf (1 ∷ []) tt) yes (λ κs x w. refl), tt),
    )
    f.Key.name code.function (code.unfolded 𝓤 𝓛.H 𝓜 𝓡 wired)
    (λ κs. (mut_vals, (shr_slice_vals, tt))) (λ κs. (mut_Tells (named 0) κs.0 J, (λ x vs h. h.0.0.0, tt)))
    (λ κs qs bounds a _ are.
    let κ = κs.0 in let κ' = κs.1.0 in let q = qs.0 in let q' = qs.1.0 in
    let four : Lfts 4 = (κ, (κ', ([], ([], tt)))) in let shares : Shares 4 = (q, (q', (full_share, (full_share, tt))))
    in
    let A = lts.arg-0-0 four in let B = lts.arg-0-1 four in
    let En = g.ended A B impl.ghosts impl.dict in let T = En.signature in
    let G = triple_of 𝓛 T (g.spec A B impl.ghosts impl.dict 𝓛 𝓜.mem 𝓡.returns) in
    let vss : Valss (types_at f.ended.signature.params κs) = (mut_vals a.0, (shr_slice_vals a.1.0, tt)) in
    let y : (walk_of 𝓛 f.ended hs c).Ghost = ((κs, qs, bounds, a, vss), tt) in
    let z : G.Ghost = ((four, shares, (within_static κ, (within_static κ, tt)), a, vss), tt) in
    let toks = ‵ (flft κ q) ⊛ ‵ (flft κ' q') ⊛ ‵ ftrue in
    let owned = ‵ (owns (types_at f.ended.signature.params κs) a vss) in
    qed 𝓛 ((toks ⊛ owned) ∷ ‵ ftrue ∷ []) ∵ split ! $ move ! (2 ∷ []) $ drop ! $ split ! $ move ! (1 ∷ []) $ split ! $
    -- [the second token; nothing; the first token; the arguments]
    use0 𝓛 (‵ (flft [] full_share)) (𝓛.lfts.lft-nil full_share) $ use0 𝓛 (‵ (flft [] full_share))
    (𝓛.lfts.lft-nil full_share) $
    move ! (0 ∷ 3 ∷ []) $ join ! $ move ! (1 ∷ 0 ∷ []) $ join ! $ move ! (1 ∷ 0 ∷ []) $ join ! $ move ! (1 ∷ 0 ∷ []) $
    join ! $ join ! $
    nothing ! $ use0 𝓛 (raw (fact 𝓤 ([] ⊑ B.lives))) (fact_i 𝓤 ([] ⊑ B.lives) (emp 𝓤) (within_static [])) $ join ! $
    use0 𝓛 (raw (fact 𝓤 ([] ⊑ A.lives))) (fact_i 𝓤 ([] ⊑ A.lives) (emp 𝓤) (within_static [])) $ join ! $
    move ! (1 ∷ 0 ∷ []) $ use2 𝓛 (raw (G.pre z)) (id⊢ 𝓤 _) $
    enter ! _ _ _ _ _ $ alloc_all ! (λ l. pass_all ! refl (
      (tt, tt),
      ((tt, (tt, (record { fits = are.1.0.0.0.1.0 }, tt))), tt),
    ) $
    sets ! (addr ! (through ! refl (stop !))) refl (tt, tt) $
    calls_at ! (framed 𝓤 𝓛.H 𝓜 𝓣) G (met 𝓤 𝓛 𝓜 𝓡 (code.calls-jzon_tree::lent::tree::Tree::get_in 𝓡.env wired) A B
    (lts.laws-0-0 four) (lts.laws-0-1 four) impl.ghosts impl.dict
    (impl_met.passed 𝓡.env
    (code.calls-jzon_tree::lent::tree::JsonValueTree::pairs_mut 𝓡.env wired)
    (code.calls-jzon_tree::lent::tree::JsonValueTree::make_key 𝓡.env wired)
    (code.calls-jzon_tree::lent::tree::JsonValueTree::make_place 𝓡.env wired)
    (code.calls-jzon_tree::lent::tree::JsonValueTree::array_items 𝓡.env wired)
    M 𝓤 𝓛 𝓜 𝓡)) z
    (and_then ! (get ! refl) (and_then ! (get ! refl) (no_more !))) (λ v.
    let r-row : RattleType = type_at f.ended.signature.result κs in
    use1 𝓛 (later (some (λ (r : r-row.Denot). ((‵ (flft κ q) ⊛ ‵ (flft κ' q') ⊛ ‵ (flft [] full_share) ⊛ ‵
    (flft [] full_share) ⊛ ‵ ftrue) ⊛ ‵ (r-row.own_val r (v ∷ []))) ⊛
    some (λ (ws : Lasts En four a). ‵ (lasts En four a ws) ⊛ raw
    ((g.clauses A B impl.ghosts impl.dict 𝓛 𝓜.mem 𝓡.returns four a).ensures tt r (at_exit En four a ws))))))
    (id⊢ 𝓤 (G.post z v)) $
    await ! tt $ pick ! (λ r. split ! $ move ! (1 ∷ []) $ pick !
    (λ ws. split ! $ drop ! $ move ! (1 ∷ []) $ split ! $ move ! (1 ∷ []) $
    -- [the result; the tokens; what the callee ensures]
    peeks ! r-row (Is r-row) (shows 𝓛 r-row) r (v ∷ []) (λ is. lands_as ! refl refl
    ((row_lawful 𝓛 (option.the_type (MutRef (named 0) κ J)) (tt, ((lent_field κ, tt), tt)) tt).typed r (v ∷ []) is).0 $
    move ! (1 ∷ []) $ split ! $ move ! (1 ∷ []) $ split ! $ move ! (1 ∷ []) $ drop ! $ nothing ! $ move ! (1 ∷ 0 ∷ []) $
    join ! $ move ! (1 ∷ 0 ∷ []) $ join ! $
    nothing ! $ nothing ! $ fjoin ! $ nothing ! $ fjoin ! $
    -- [nothing of the parameters; the tokens; the result; what the callee ensures]
    returns ! (look_at ! 0 refl) $ free_all ! refl $ keep ! (1 ∷ 0 ∷ 2 ∷ 3 ∷ []) $ by !
    (leaves 𝓛 f.ended hs c y v r (tt, (tt, tt)) (tt, (tt, tt)))))))))
