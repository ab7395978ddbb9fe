use Rattle.std.proofs.Common.{rules, ◌≡◌, ◌<◌, arith, List, ◌∷◌, ◌++◌, append_assoc, length, sym, ap, subst, ◌∙◌}
use Rattle.rpc_machine.specs.declared.node.Node.{Node}
use Rattle.rpc_machine.specs.Lists.{how_many}
use Rattle.rpc_machine.specs.Places.{places}
use Rattle.core_refcounts.specs.Names.{times_named}
use Rattle.core_store.specs.Holding.{state_of}
use Rattle.core_step_sweeps.specs.Thinking.{IsThought, any, left, gone_of, named_by_thing}
use Rattle.core_step_sweeps.proofs.Looking.{is_loose_now}
use Rattle.core_step_sweeps.proofs.Thoughts.{thought_marked, thought_gone, thought_held, thought_goes, work_goes, same_gone}
use Rattle.core_step_sweeps.proofs.candidates.consider.Goals as goal

pub returns-then-branch-clause-thought : goal.returns-then-branch-clause-thought
returns-then-branch-clause-thought c = λ rest h.
    let s = state_of c.args.store.now in
    let x = c.args.thought.now in
    let y = c.is_gone.new.self in
    let n = c.args.node in
    let e = c.in_ok-is_gone.ensures in
    let marked : IsThought s y (n ∷ (rest ++ y.pending.items)) =
    subst (λ (ns : List Node). IsThought s y (n ∷ (rest ++ ns))) (sym e.pending) (thought_marked s x y e.gone e.last e.marks e.over e.less (n ∷ (rest ++ x.pending.items)) h) in
    let some : 0 < times_named y.marks n = search rules in
    thought_gone s y n (rest ++ y.pending.items) e.last marked some

pub returns-then-not-is_loose-clause-thought : goal.returns-then-not-is_loose-clause-thought
returns-then-not-is_loose-clause-thought c = λ rest h.
    let store = c.args.store.now in
    let s = state_of store in
    let x = c.args.thought.now in
    let y = c.is_gone.new.self in
    let n = c.args.node in
    let e = c.in_ok-is_gone.ensures in
    let marked : IsThought s y (n ∷ (rest ++ y.pending.items)) =
    subst (λ (ns : List Node). IsThought s y (n ∷ (rest ++ ns))) (sym e.pending) (thought_marked s x y e.gone e.last e.marks e.over e.less (n ∷ (rest ++ x.pending.items)) h) in
    let none : times_named y.marks n ≡ 0 = search rules in
    thought_held store c.requires.counted c.requires.none_taken y n (rest ++ y.pending.items) e.last marked none c.if-not-is_loose.ensures

pub returns-clause-thought : goal.returns-clause-thought
returns-clause-thought c = λ rest h.
    let store = c.args.store.now in
    let s = state_of store in
    let x = c.args.thought.now in
    let y = c.is_gone.new.self in
    let z = c.let_go.new.thought in
    let n = c.args.node in
    let e = c.in_ok-is_gone.ensures in
    let f = c.in_ok-let_go.ensures in
    let marked : IsThought s y (n ∷ (rest ++ y.pending.items)) =
    subst (λ (ns : List Node). IsThought s y (n ∷ (rest ++ ns))) (sym e.pending) (thought_marked s x y e.gone e.last e.marks e.over e.less (n ∷ (rest ++ x.pending.items)) h) in
    let none : times_named y.marks n ≡ 0 = search rules in
    thought_goes store c.requires.counted c.requires.none_taken y n (rest ++ y.pending.items) e.last marked none z c.if-not-is_loose.ensures f.gone f.last f.marks f.over f.less
    (rest ++ z.pending.items) (ap (λ (ns : List Node). rest ++ ns) f.pending ∙ sym (append_assoc rest y.pending.items (named_by_thing s n)))

pub returns-clause-less_work : goal.returns-clause-less_work
returns-clause-less_work c = λ h.
    let store = c.args.store.now in
    let s = state_of store in
    let x = c.args.thought.now in
    let y = c.is_gone.new.self in
    let n = c.args.node in
    let e = c.in_ok-is_gone.ensures in
    let f = c.in_ok-let_go.ensures in
    let marked : IsThought s y (n ∷ y.pending.items) =
    subst (λ (ns : List Node). IsThought s y (n ∷ ns)) (sym e.pending) (thought_marked s x y e.gone e.last e.marks e.over e.less (n ∷ x.pending.items) h) in
    let none : times_named y.marks n ≡ 0 = search rules in
    let a = work_goes store c.requires.counted c.requires.none_taken y n y.pending.items e.last marked none c.let_go.new.thought c.if-not-is_loose.ensures f.gone f.last f.marks f.over f.less f.pending in
    let b : length y.pending.items ≡ length x.pending.items = ap (λ (ns : List Node). length ns) e.pending in
    let d : how_many any (places (left s (gone_of y))) ≡ how_many any (places (left s (gone_of x))) = ap (λ (g : List Node). how_many any (places (left s g))) (same_gone s x y e.gone e.last e.marks e.over e.less) in
    omega (arith, a, b, d)

pub returns-in_err-let_go-clause-never : goal.returns-in_err-let_go-clause-never
returns-in_err-let_go-clause-never c = λ quiet still.
    absurd (quiet c.args.node (is_loose_now c.args.store.now c.requires.counted c.requires.none_taken c.is_gone.new.self.less (c.in_ok-is_gone.ensures.less ∙ still.less) c.args.node c.if-not-is_loose.ensures))

pub returns-clause-still : goal.returns-clause-still
returns-clause-still c = λ quiet still.
    absurd (quiet c.args.node (is_loose_now c.args.store.now c.requires.counted c.requires.none_taken c.is_gone.new.self.less (c.in_ok-is_gone.ensures.less ∙ still.less) c.args.node c.if-not-is_loose.ensures))
