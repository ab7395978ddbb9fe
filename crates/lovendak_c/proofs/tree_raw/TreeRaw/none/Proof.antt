-- `none` owns nothing.
use Rattle.std.proofs.Common.{◌≡◌, [], ◌∷◌, refl, lit<}
use base.Logic.{emp}
use types.Kit.{‵, raw, ◌$◌, ◌∵◌, !, qed, by, keep, use0}
use types.Run.{lit, no_more, and_then, returns, enter}
use types.ByLocal.{alloc_all, pass_all, free_all, look_at, sets}
use types.Part.{agg}
use contract.Monad.{fact, fact_i}
use denote.RawPtr.{null_ptr}
use denote.Steps.{nothing}
use denote.Triple.Entry.{on_entry}
use denote.Triple.Walked.{Stays}
use Rattle.std.specs.declared.option.Option.{Option}
use Rattle.std.specs.declared.option.Option.TheVariants.{None}
use Rattle.std.proofs.raw_atomic.Walks.{proved, leaves}
use Rattle.lovendak_c_trees.specs.contracts.trees.Trees as trees
use Rattle.lovendak_c.proofs.TreeRaws.{word, raw_in}
use Rattle.lovendak_c.specs.contracts.tree_raw.TreeRaw.none.{ended, clauses}
use Rattle.lovendak_c.specs.contracts.tree_raw.TreeRaw.none.Key.{name as #self}
use Rattle.lovendak_c.proofs.tree_raw.TreeRaw.none.Statement.{statement}
use Rattle.lovendak_c.proofs.tree_raw.TreeRaw.none.Code as code

abbrev stayed : Stays ended.signature.params ended.kept
stayed = tt

pub none_spec : {M : Type 1} → statement M
none_spec 𝓤 𝓛 𝓜 𝓡 wired =
    let c = clauses 𝓛 𝓜.mem 𝓡.returns in let n : Option trees.the_row.Denot = None in let same : Type 0 = n ≡ n in
    proved 𝓛 ended stayed c 𝓜 𝓡 tt #self code.function (code.unfolded 𝓤 𝓛.H 𝓜 𝓡 wired) (λ κs. tt) (λ κs. tt) (λ κs qs bounds a g are.
    qed 𝓛 (raw (on_entry 𝓛 ended.signature κs qs a tt) ∷ ‵ base.Fml.ftrue ∷ []) ∵ keep ! [] $ enter ! _ _ _ _ _ $
    alloc_all ! (λ l. pass_all ! refl tt $ sets ! (agg ! (and_then ! (lit ! tt) (no_more !))) refl (tt, (record { fits = lit< tt }, tt)) $
    use0 𝓛 (raw (fact 𝓤 same)) (fact_i 𝓤 same (emp 𝓤) refl) $ nothing ! $ raw_in ! null_ptr None $ nothing ! $ nothing ! $
    returns ! (look_at ! 0 refl) $ free_all ! refl $ by ! (leaves 𝓛 ended stayed c ((κs, qs, bounds, a, tt), g) (word null_ptr) (record { at = null_ptr; trees = None }) tt tt)))
