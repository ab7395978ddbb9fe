-- `into_loose` hands back the box that is kept.
use Rattle.std.proofs.Common.{◌≡◌, List, [], ◌∷◌, ◌++◌, refl, sym, ap, ◌∙◌, subst}
use mathlib.Core.Bool.{true}
use mir.Raw.{raw as bare}
use mir.Val.{Val, vptr, vstruct, of_list}
use base.Logic.{SProp, ent, emp, id⊢, never, fst∗}
use base.Fml.{ftrue}
use prog.Wp.{WpFn}
use types.Logic.{sem}
use types.Kit.{‵, raw, ◌⊛◌, ◌$◌, ◌∵◌, !, qed, by, move, keep, drop, split, fsplit, fsplit3, fjoin, fpick, feq_l, rewrite, suffices, use0, use1}
use types.Run.{stop, fld, of_opd, no_more, and_then, returns, enter}
use types.ByLocal.{alloc_all, pass_all, free_all, look_at, get, get_in, sets}
use types.Part.{agg, sub, whole}
use contract.Monad.{fact, fact_i}
use contract.Running.{tables}
use denote.Exit.{yes}
use denote.Memory.{lone}
use denote.Param.{layout}
use denote.RattleType.{RattleType, owns}
use denote.Signature.{types_at, plain}
use denote.RawPtr.{Ptr, block_ptr, null_ptr, ptr_val, in_a_block}
use denote.Steps.{nothing, heard}
use denote.Triple.Walked.{Stays, stay_dropped, walk_of, Goes-dropped}
use Rattle.core.proofs.alloc.Calls.{Goes-blank}
use Rattle.core.proofs.cell.Inside.{one}
use Rattle.std.specs.Box.Ownership.{box_owns}
use Rattle.std.specs.declared.option.Option.{Option}
use Rattle.std.specs.declared.option.Option.TheVariants.{Some}
use Rattle.std_heap.specs.contracts.Global as heap
use Rattle.std_heap.proofs.Global.TheLaws as heap_laws
use Rattle.std_heap.specs.contracts.GlobalAllocator.TheImpl.{ghosts}
use Rattle.std.proofs.raw_atomic.Walks.{proved_at, leaves}
use Rattle.lovendak_c_box.proofs.Values.{both, loose_good, loose_in}
use Rattle.lovendak_c_trees.specs.contracts.trees.Trees as trees
use Rattle.lovendak_c.specs.Held.{token}
use Rattle.lovendak_c.specs.TreesHeld.{held, are_there}
use Rattle.lovendak_c.proofs.TreeRaws.{word, is_inside}
use Rattle.lovendak_c.specs.contracts.tree_raw.TreeRaw as raws
use Rattle.lovendak_c.specs.contracts.tree_raw.TreeRaw.into_loose.{ended, clauses}
use Rattle.lovendak_c.specs.contracts.tree_raw.TreeRaw.into_loose.Key.{name as #self}
use Rattle.lovendak_c.proofs.tree_raw.TreeRaw.into_loose.Statement.{statement}
use Rattle.lovendak_c.proofs.tree_raw.TreeRaw.into_loose.Code as code

pub into_loose_spec : {M : Type 1} → statement M
into_loose_spec 𝓤 𝓛 𝓜 𝓡 wired =
    let H = 𝓛.H in let 𝓣 = tables 𝓤 H 𝓜 𝓡 𝓡.env in let fn = code.function in let c = clauses 𝓛 𝓜.mem 𝓡.returns in
    let R : RattleType = trees.the_row in let Z : RattleType = heap.the_row in let LZ = heap_laws.the_row_laws in
    let hs : Stays ended.signature.params ended.kept = (stay_dropped (plain (λ _. raws.the_row)) yes, (stay_dropped (plain (λ _. Z)) yes, tt)) in
    proved_at 𝓛 ended hs c 𝓜 𝓡 (Goes-blank 𝓛 0 (plain (λ _. raws.the_row)) yes (λ κs x f. tt), (Goes-dropped 𝓛 0 (plain (λ _. Z)) yes (λ κs x f. refl), tt)) #self fn (code.unfolded 𝓤 H 𝓜 𝓡 wired) (λ z are.
    let κs = z.0.0 in let s = z.0.3.0 in let a = z.0.3.1.0 in let Post : Val → SProp 𝓤 = (walk_of 𝓛 ended hs c).post z in let Run : List Val → SProp 𝓤 = λ ws. WpFn 𝓤 H 𝓣.C 𝓣.Λ fn ws Post in
    let h = one (layout Z) z.0.4.1.0 ((LZ.lawful 𝓛).typed a z.0.4.1.0 are.1.0) in
    qed 𝓛 ((‵ ftrue ⊛ ‵ (owns (types_at ended.signature.params κs) z.0.3 z.0.4)) ∷ raw (fact 𝓤 (are_there s.trees ≡ true)) ∷ []) ∵ move ! (1 ∷ []) $ heard ! (are_there s.trees ≡ true) (λ there. let o = is_inside s.trees there in let x : trees.the_row.Denot = o.0 in let is : s.trees ≡ Some x = o.1 in split ! $ move ! (1 ∷ []) $ fsplit3 ! $ fsplit ! $ move ! (1 ∷ []) $
    rewrite ! 0 (λ (k : Option trees.the_row.Denot). ‵ (held s.at k)) is refl $ use1 𝓛 (‵ (box_owns token R s.at x)) (id⊢ 𝓤 _) $
    in_a_block ! s.at (λ p. box_owns token R p x) (fst∗ 𝓤 (never 𝓤) (sem 𝓛 (token (bare (lone R.mir)) null_ptr))) (λ b o e. move ! (1 ∷ []) $ fpick ! (λ vss. fsplit ! $ feq_l ! (λ ev. fsplit ! $ feq_l ! (λ ep. drop ! $
    -- [the box; the allocator; what ends the parameters; the tokens]
    let p = block_ptr b o in let w : Val = word p in let us : List Val = w ∷ h.0 ∷ [] in let same : Type 0 = s.trees ≡ Some x in
    let ew : z.0.4.0 ≡ w ∷ [] = ev ∙ (λ j. vstruct (of_list ((ep ∙ ap (λ (π : Ptr). ptr_val π ∷ []) e) j ++ [])) ∷ []) in
    rewrite ! 1 (λ (ws : List Val). ‵ (Z.own_val a ws)) h.1 refl $
    suffices ! (Run us) (subst (λ (ws : List Val). ent 𝓤 (Run us) (Run ws)) (sym (λ i. ew i ++ (h.1 i ++ []))) (id⊢ 𝓤 (Run us))) $ keep ! (0 ∷ 1 ∷ []) $
    enter ! 𝓣.C 𝓣.Λ fn us Post $ alloc_all ! (λ l. pass_all ! refl ((tt, (tt, tt)), (h.2, tt)) $
    sets ! (of_opd ! (get_in ! (fld ! refl (stop !)) (sub ! 0 refl (whole !)))) refl (tt, tt) $ sets ! (of_opd ! (get ! refl)) refl (tt, tt) $
    sets ! (agg ! (and_then ! (get ! refl) (and_then ! (get ! refl) (no_more !)))) refl (loose_good R Z LZ ghosts b o h.0 h.2) $ loose_in R Z LZ ghosts ! b o h.0 a x $
    use0 𝓛 (raw (fact 𝓤 same)) (fact_i 𝓤 same (emp 𝓤) is) $ move ! (1 ∷ []) $ nothing ! $ nothing ! $ nothing ! $ fjoin ! $ move ! (1 ∷ 0 ∷ []) $ fjoin ! $ nothing ! $
    returns ! (look_at ! 0 refl) $ free_all ! refl $ by ! (leaves 𝓛 ended hs c z (both (vptr b o) h.0) (record { at = p; alloc = a; value = x }) (tt, (tt, tt)) (tt, (tt, tt))))))))))
