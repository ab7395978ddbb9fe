-- How a link is read after a change.
use Rattle.std.specs.FinMap as map
use Rattle.std.proofs.Common.{◌≡◌, ℕ, List, [], ◌∷◌, ◌++◌, Option, None, Some, refl, ap, ap₂, ◌∙◌}
use Rattle.finite_maps.specs.Tally.{Map}
use Rattle.rpc_msg.specs.declared.ids.Vat.{Vat}
use Rattle.rpc_msg.specs.declared.parts.Target.{Target}
use Rattle.rpc_msg.specs.declared.parts.Target.TheVariants.{ImportedCap, PromisedAnswer}
use Rattle.rpc_msg.specs.declared.message.DisembargoContext.{DisembargoContext}
use Rattle.rpc_msg.specs.declared.message.DisembargoContext.TheVariants.{SenderLoopback, ReceiverLoopback}
use Rattle.rpc_msg.specs.declared.message.PlainMessage.{PlainMessage}
use Rattle.rpc_msg.specs.declared.message.PlainMessage.TheVariants as plain
use Rattle.rpc_msg.specs.declared.message.Message.{Message}
use Rattle.rpc_msg.specs.declared.message.Message.TheVariants as message
use Rattle.rpc_journal.specs.History.{caller, in_front}
use Rattle.rpc_machine.specs.declared.entries.Export.{Export}
use Rattle.rpc_machine.specs.declared.entries.Embargo.{Embargo}
use Rattle.rpc_machine.specs.Descriptors.{export_node}
use Rattle.laws_order.specs.Machine.{Call, Disembargo, Echo}
use Rattle.laws_order.specs.Machine as routing
use Rattle.laws_routes.specs.Points.{routes}
use Rattle.laws_routes.specs.Ghosts.{Ghost, point, with_at}
use Rattle.laws_routes.specs.Views.{Shape, Reader, embargo_ref, target_point, past_plain, past_one, past, disembargo_shape, shape, shapes, shape_of, shapes_of}
use Rattle.laws_routes.specs.Premises.{LoopOf, EachLoop, OpenOf, EachOpen, OfCap, TargetCap, EachTargetCap}

-- ---- One more message

pub past_more : (g : Ghost) (now : ℕ → ℕ) (ms : List Message) (x : Message) → past g now (ms ++ x ∷ []) ≡ past_one g (past g now ms) x
past_more g now [] x = refl
past_more g now (m ∷ ms) x = past_more g (past_one g now m) ms x

in_front_more : (o : Option Shape) (xs ys : List Shape) → in_front o (xs ++ ys) ≡ in_front o xs ++ ys
in_front_more None xs ys = refl
in_front_more (Some o) xs ys = refl

pub shapes_more : (v u : Vat) (g : Ghost) (r : Reader) (now : ℕ → ℕ) (ms : List Message) (x : Message) → shapes v u g r now (ms ++ x ∷ []) ≡ shapes v u g r now ms ++ in_front (shape v u r (past g now ms) x) []
shapes_more v u g r now [] x = in_front_more (shape v u r now x) [] [] ∙ nil (in_front (shape v u r now x) [])
  where
    nil : (xs : List Shape) → xs ++ [] ≡ xs
    nil [] = refl
    nil (x ∷ xs) = ap (λ z. x ∷ z) (nil xs)
shapes_more v u g r now (m ∷ ms) x =
    ap (in_front (shape v u r now m)) (shapes_more v u g r (past_one g now m) ms x)
    ∙ in_front_more (shape v u r now m) (shapes v u g r (past_one g now m) ms) (in_front (shape v u r (past g now (m ∷ ms)) x) [])

pub shapes_of_more : (ms : List (routing.Message routes)) (x : routing.Message routes) → shapes_of (ms ++ x ∷ []) ≡ shapes_of ms ++ shape_of x ∷ []
shapes_of_more [] x = refl
shapes_of_more (m ∷ ms) x = ap (λ z. shape_of m ∷ z) (shapes_of_more ms x)

-- ---- Other sessions, of questions that no message opens

abbrev SameSession : Ghost → Ghost → ℕ → Type 0
SameSession g h k = h.session k ≡ g.session k

past_plain_same : (g h : Ghost) (now : ℕ → ℕ) (m : PlainMessage) → OpenOf (SameSession g h) (message.Plain m) → past_plain h now m ≡ past_plain g now m
past_plain_same g h now (plain.Abort exception) k = refl
past_plain_same g h now (plain.Bootstrap q) k = ap (with_at now q.0) k
past_plain_same g h now (plain.Call c) k = ap (with_at now c.question.0) k
past_plain_same g h now (plain.Return r) k = refl
past_plain_same g h now (plain.Finish x) k = refl
past_plain_same g h now (plain.Resolve r) k = refl
past_plain_same g h now (plain.Release r) k = refl
past_plain_same g h now (plain.Disembargo x) k = refl
past_plain_same g h now (plain.Other n) k = refl

pub past_one_same : (g h : Ghost) (now : ℕ → ℕ) (m : Message) → OpenOf (SameSession g h) m → past_one h now m ≡ past_one g now m
past_one_same g h now (message.Plain m) k = past_plain_same g h now m k
past_one_same g h now (message.Unimplemented m) k = refl

pub past_same : (g h : Ghost) (now : ℕ → ℕ) (ms : List Message) → EachOpen (SameSession g h) ms → past h now ms ≡ past g now ms
past_same g h now [] k = refl
past_same g h now (m ∷ ms) k = ap (λ z. past h z ms) (past_one_same g h now m k.0) ∙ past_same g h (past_one g now m) ms k.1

pub shapes_same : (v u : Vat) (g h : Ghost) (r : Reader) (now : ℕ → ℕ) (ms : List Message) → EachOpen (SameSession g h) ms → shapes v u h r now ms ≡ shapes v u g r now ms
shapes_same v u g h r now [] k = refl
shapes_same v u g h r now (m ∷ ms) k =
    ap (in_front (shape v u r now m)) (ap (λ z. shapes v u h r z ms) (past_one_same g h now m k.0) ∙ shapes_same v u g h r (past_one g now m) ms k.1)

pub open_map : (P Q : ℕ → Type 0) (ms : List Message) → ((k : ℕ) → P k → Q k) → EachOpen P ms → EachOpen Q ms
open_map P Q [] f h = tt
open_map P Q (m ∷ ms) f h = (one m h.0, open_map P Q ms f h.1)
  where
    one : (m : Message) → OpenOf P m → OpenOf Q m
    one (message.Plain (plain.Abort exception)) i = tt
    one (message.Plain (plain.Bootstrap q)) i = f q.0 i
    one (message.Plain (plain.Call c)) i = f c.question.0 i
    one (message.Plain (plain.Return r)) i = tt
    one (message.Plain (plain.Finish x)) i = tt
    one (message.Plain (plain.Resolve r)) i = tt
    one (message.Plain (plain.Release r)) i = tt
    one (message.Plain (plain.Disembargo x)) i = tt
    one (message.Plain (plain.Other n)) i = tt
    one (message.Unimplemented m) i = tt

pub all_opens : (P : ℕ → Type 0) (ms : List Message) → ((k : ℕ) → P k) → EachOpen P ms
all_opens P [] f = tt
all_opens P (m ∷ ms) f = (one m, all_opens P ms f)
  where
    one : (m : Message) → OpenOf P m
    one (message.Plain (plain.Abort exception)) = tt
    one (message.Plain (plain.Bootstrap q)) = f q.0
    one (message.Plain (plain.Call c)) = f c.question.0
    one (message.Plain (plain.Return r)) = tt
    one (message.Plain (plain.Finish x)) = tt
    one (message.Plain (plain.Resolve r)) = tt
    one (message.Plain (plain.Release r)) = tt
    one (message.Plain (plain.Disembargo x)) = tt
    one (message.Plain (plain.Other n)) = tt
    one (message.Unimplemented m) = tt

-- ---- Another reader, to whom the targets are the same

-- Its exports are others.
abbrev SamePoint : Vat → Reader → Reader → ℕ → Type 0
SamePoint u r x e = point u x.ghost (export_node (map.get x.exports e)) ≡ point u r.ghost (export_node (map.get r.exports e))

target_same : (u : Vat) (r x : Reader) (now : ℕ → ℕ) (t : Target) → OfCap (SamePoint u r x) t → target_point u x.exports x.ghost now t ≡ target_point u r.exports r.ghost now t
target_same u r x now (ImportedCap e) h = h
target_same u r x now (PromisedAnswer q path) h = refl

abbrev other_exports : Reader → Map Export → Ghost → Reader
other_exports r E f = record r { exports = E; ghost = f }

shape_same : (v u : Vat) (r : Reader) (E : Map Export) (f : Ghost) (now : ℕ → ℕ) (m : Message) → TargetCap (SamePoint u r (other_exports r E f)) m → shape v u (other_exports r E f) now m ≡ shape v u r now m
shape_same v u r E f now (message.Plain (plain.Abort exception)) h = refl
shape_same v u r E f now (message.Plain (plain.Bootstrap q)) h = refl
shape_same v u r E f now (message.Plain (plain.Call c)) h = ap (λ z. Some (record { target = Some z; ref = caller c.stamp; what = Call c.stamp.index })) (target_same u r (other_exports r E f) now c.target h)
shape_same v u r E f now (message.Plain (plain.Return y)) h = refl
shape_same v u r E f now (message.Plain (plain.Finish y)) h = refl
shape_same v u r E f now (message.Plain (plain.Resolve y)) h = refl
shape_same v u r E f now (message.Plain (plain.Release y)) h = refl
shape_same v u r E f now (message.Plain (plain.Disembargo y)) h = by y.context
  where
    by : (c : DisembargoContext) → Some (disembargo_shape v u (other_exports r E f) now y.target c) ≡ Some (disembargo_shape v u r now y.target c)
    by (SenderLoopback e) = ap (λ z. Some (record { target = Some z; ref = embargo_ref v (map.get r.sent e.0); what = Disembargo })) (target_same u r (other_exports r E f) now y.target h)
    by (ReceiverLoopback e) = refl
shape_same v u r E f now (message.Plain (plain.Other n)) h = refl
shape_same v u r E f now (message.Unimplemented m) h = refl

pub shapes_exports : (v u : Vat) (g : Ghost) (r : Reader) (E : Map Export) (f : Ghost) (now : ℕ → ℕ) (ms : List Message) → EachTargetCap (SamePoint u r (other_exports r E f)) ms → shapes v u g (other_exports r E f) now ms ≡ shapes v u g r now ms
shapes_exports v u g r E f now [] h = refl
shapes_exports v u g r E f now (m ∷ ms) h = ap₂ in_front (shape_same v u r E f now m h.0) (shapes_exports v u g r E f (past_one g now m) ms h.1)

pub cap_map : (P Q : ℕ → Type 0) (ms : List Message) → ((e : ℕ) → P e → Q e) → EachTargetCap P ms → EachTargetCap Q ms
cap_map P Q [] f h = tt
cap_map P Q (m ∷ ms) f h = (one m h.0, cap_map P Q ms f h.1)
  where
    cap : (t : Target) → OfCap P t → OfCap Q t
    cap (ImportedCap e) i = f e.0 i
    cap (PromisedAnswer q path) i = tt

    one : (m : Message) → TargetCap P m → TargetCap Q m
    one (message.Plain (plain.Abort exception)) i = tt
    one (message.Plain (plain.Bootstrap q)) i = tt
    one (message.Plain (plain.Call c)) i = cap c.target i
    one (message.Plain (plain.Return r)) i = tt
    one (message.Plain (plain.Finish x)) i = tt
    one (message.Plain (plain.Resolve r)) i = tt
    one (message.Plain (plain.Release r)) i = tt
    one (message.Plain (plain.Disembargo x)) i = cap x.target i
    one (message.Plain (plain.Other n)) i = tt
    one (message.Unimplemented m) i = tt

-- ---- Other embargoes, of ids that no message names

abbrev pub other_embargoes : Reader → Map Embargo → Map Embargo → Reader
other_embargoes r B S = record r { embargoes = B; sent = S }

loop_same : (v u : Vat) (r : Reader) (B S : Map Embargo) (now : ℕ → ℕ) (t : Target) (c : DisembargoContext) → LoopOf (λ e. map.get S e ≡ map.get r.sent e) (λ e. map.get B e ≡ map.get r.embargoes e) c
    → disembargo_shape v u (other_embargoes r B S) now t c ≡ disembargo_shape v u r now t c
loop_same v u r B S now t (SenderLoopback e) h = ap (λ o. record { target = Some (target_point u r.exports r.ghost now t); ref = embargo_ref v o; what = Disembargo }) h
loop_same v u r B S now t (ReceiverLoopback e) h = ap (λ o. record { target = None; ref = embargo_ref u o; what = Echo }) h

pub shapes_loops : (v u : Vat) (g : Ghost) (r : Reader) (B S : Map Embargo) (now : ℕ → ℕ) (ms : List Message) → EachLoop (λ e. map.get S e ≡ map.get r.sent e) (λ e. map.get B e ≡ map.get r.embargoes e) ms
    → shapes v u g (other_embargoes r B S) now ms ≡ shapes v u g r now ms
shapes_loops v u g r B S now [] h = refl
shapes_loops v u g r B S now (message.Plain (plain.Abort exception) ∷ ms) h = shapes_loops v u g r B S now ms h
shapes_loops v u g r B S now (message.Plain (plain.Bootstrap q) ∷ ms) h = shapes_loops v u g r B S (past_one g now (message.Plain (plain.Bootstrap q))) ms h
shapes_loops v u g r B S now (message.Plain (plain.Call c) ∷ ms) h = ap (in_front (shape v u r now (message.Plain (plain.Call c)))) (shapes_loops v u g r B S (past_one g now (message.Plain (plain.Call c))) ms h)
shapes_loops v u g r B S now (message.Plain (plain.Return y) ∷ ms) h = shapes_loops v u g r B S now ms h
shapes_loops v u g r B S now (message.Plain (plain.Finish y) ∷ ms) h = shapes_loops v u g r B S now ms h
shapes_loops v u g r B S now (message.Plain (plain.Resolve y) ∷ ms) h = shapes_loops v u g r B S now ms h
shapes_loops v u g r B S now (message.Plain (plain.Release y) ∷ ms) h = shapes_loops v u g r B S now ms h
shapes_loops v u g r B S now (message.Plain (plain.Disembargo y) ∷ ms) h = ap₂ (λ a b. a ∷ b) (loop_same v u r B S now y.target y.context h.0) (shapes_loops v u g r B S now ms h.1)
shapes_loops v u g r B S now (message.Plain (plain.Other n) ∷ ms) h = shapes_loops v u g r B S now ms h
shapes_loops v u g r B S now (message.Unimplemented m ∷ ms) h = shapes_loops v u g r B S now ms h

pub loops_map : (P Q R S : ℕ → Type 0) (ms : List Message) → ((e : ℕ) → P e → R e) → ((e : ℕ) → Q e → S e) → EachLoop P Q ms → EachLoop R S ms
loops_map P Q R S [] f g h = tt
loops_map P Q R S (message.Plain (plain.Abort exception) ∷ ms) f g h = loops_map P Q R S ms f g h
loops_map P Q R S (message.Plain (plain.Bootstrap q) ∷ ms) f g h = loops_map P Q R S ms f g h
loops_map P Q R S (message.Plain (plain.Call c) ∷ ms) f g h = loops_map P Q R S ms f g h
loops_map P Q R S (message.Plain (plain.Return y) ∷ ms) f g h = loops_map P Q R S ms f g h
loops_map P Q R S (message.Plain (plain.Finish y) ∷ ms) f g h = loops_map P Q R S ms f g h
loops_map P Q R S (message.Plain (plain.Resolve y) ∷ ms) f g h = loops_map P Q R S ms f g h
loops_map P Q R S (message.Plain (plain.Release y) ∷ ms) f g h = loops_map P Q R S ms f g h
loops_map P Q R S (message.Plain (plain.Disembargo y) ∷ ms) f g h = (by y.context h.0, loops_map P Q R S ms f g h.1)
  where
    by : (c : DisembargoContext) → LoopOf P Q c → LoopOf R S c
    by (SenderLoopback e) i = f e.0 i
    by (ReceiverLoopback e) i = g e.0 i
loops_map P Q R S (message.Plain (plain.Other n) ∷ ms) f g h = loops_map P Q R S ms f g h
loops_map P Q R S (message.Unimplemented m ∷ ms) f g h = loops_map P Q R S ms f g h
