use Rattle.std.proofs.Common.{◌≡◌, ℕ, ◌+◌, Bool, true, ◌&&◌, List, [], ◌∷◌, ◌++◌, take, sym, ap, ◌∙◌, arith}
use Rattle.std.proofs.lemmas.List.{take_more}
use Rattle.std.specs.List.{list_all}
use Rattle.rpc_msg.specs.declared.parts.Descriptor.{Descriptor}
use Rattle.rpc_machine.specs.declared.node.Node.{Node}
use Rattle.rpc_machine.specs.Flags.{is_spared}
use Rattle.core_store.specs.Holding.{state_of}
use Rattle.core_step_collects.proofs.Getting.{got, got_by, one_got_fails, all_got, stands_passes_got}
use Rattle.core_step_collects.proofs.got.each_got_spared.Goals as goal

pub loop-at-preserved-then-stands_among : goal.loop-at-preserved-then-stands_among
loop-at-preserved-then-stands_among c =
    let xs : List (Descriptor × Node) = c.args.caps.now in
    let i = c.loop-at.at in
    let x = c.index-caps-at.result in
    let test = is_spared (state_of c.args.store.now) (got xs) in
    let taken : take i xs ++ x ∷ [] ≡ take (i + 1) xs = ap (λ n. take i xs ++ n ∷ []) c.index-caps-at.is ∙ sym (take_more xs i x c.loop-at-test.true) in
    let stands = c.stands_among.ensures c.if-stands_among.true in
    let cap : Descriptor × Node = stands.2.0 in
    let passes : list_all test (got_by cap.0) ≡ true = stands_passes_got test xs i stands.0 cap (omega (arith, c.loop-at-test.true)) stands.1 stands.2.1 c.loop-at.invariant in
    ap (λ (ys : List (Descriptor × Node)). list_all test (got ys)) (sym taken) ∙ all_got test (take i xs) x ∙ ap (λ (b : Bool). b && list_all test (got_by x.0)) c.loop-at.invariant
    ∙ ap (λ (y : Descriptor × Node). list_all test (got_by y.0)) c.index-caps-at.is ∙ ap (λ (es : List ℕ). list_all test es) (sym stands.2.2) ∙ passes

pub returns-then-not-is_got_spared : goal.returns-then-not-is_got_spared
returns-then-not-is_got_spared c =
    let xs : List (Descriptor × Node) = c.args.caps.now in
    let test = is_spared (state_of c.args.store.now) (got xs) in
    sym (one_got_fails test xs c.loop-at.at c.index-caps-at.result c.loop-at-test.true (sym c.if-not-is_got_spared.ensures))

pub loop-at-preserved : goal.loop-at-preserved
loop-at-preserved c =
    let xs : List (Descriptor × Node) = c.args.caps.now in
    let i = c.loop-at.at in
    let x = c.index-caps-at.result in
    let test = is_spared (state_of c.args.store.now) (got xs) in
    let taken : take i xs ++ x ∷ [] ≡ take (i + 1) xs = ap (λ n. take i xs ++ n ∷ []) c.index-caps-at.is ∙ sym (take_more xs i x c.loop-at-test.true) in
    ap (λ (ys : List (Descriptor × Node)). list_all test (got ys)) (sym taken) ∙ all_got test (take i xs) x ∙ ap (λ (b : Bool). b && list_all test (got_by x.0)) c.loop-at.invariant
    ∙ ap (λ (y : Descriptor × Node). list_all test (got_by y.0)) c.index-caps-at.is ∙ sym c.if-not-is_got_spared.ensures
