-- Whether a Resolve of a promise may come: what the books keep of it, and what a vat sends.
use Rattle.std.proofs.Common.{◌≡◌, ℕ, Bool, true, false, IsSome, List, [], ◌∷◌, ◌++◌, Option, None, Some, refl, sym, subst, ◌∙◌}
use Rattle.std.specs.FinMap as map
use Rattle.finite_maps.specs.Tally.{Map}
use Rattle.rpc_machine.specs.declared.command.Effects.{Effects}
use Rattle.rpc_machine.specs.declared.node.Node.{Node}
use Rattle.rpc_machine.specs.declared.entries.Export.{Export}
use Rattle.rpc_machine.specs.State.{State}
use Rattle.rpc_machine.specs.Nodes.{link, is_object}
use Rattle.laws_runs.specs.Exports as export
use Rattle.laws_runs.specs.Exports.{Kind, Stage, Exporter, Out, Seen, Learns, LearnsAll, Fits}
use Rattle.laws_messages.specs.Kinds.{Stays}
use Rattle.laws_messages.specs.ExportViews.{stage_by, exporter_of, outs_in}
use Rattle.laws_look.proofs.Resolving.{Backed, later, Sends}

-- It may come of one that is open, or that is to be told.
abbrev pub MayCome : Bool → Exporter → Type 0
MayCome b export.Gone = Unit {0}
MayCome b (export.Has n export.IsObject) = Unit {0}
MayCome b (export.Has n export.IsOpen) = b ≡ true
MayCome b (export.Has n export.Owes) = b ≡ true
MayCome b (export.Has n export.HasTold) = Unit {0}

-- whether it may, behind these
abbrev pub owe_one : Bool → Out → Bool
owe_one b (export.Give export.Hosted) = b
owe_one b (export.Give export.Promised) = true
owe_one b export.Resolve = false

abbrev pub owe_all : Bool → List Out → Bool
owe_all b [] = b
owe_all b (m ∷ ms) = owe_all (owe_one b m) ms

-- One that comes may come.
abbrev pub Comes : Bool → Out → Type 0
Comes b (export.Give k) = Unit {0}
Comes b export.Resolve = b ≡ true

abbrev pub AllCome : Bool → List Out → Type 0
AllCome b [] = Unit {0}
AllCome b (m ∷ ms) = Comes b m × AllCome (owe_one b m) ms

pub owe-append : (b : Bool) (xs ys : List Out) → owe_all b (xs ++ ys) ≡ owe_all (owe_all b xs) ys
owe-append b [] ys = refl
owe-append b (x ∷ xs) ys = owe-append (owe_one b x) xs ys

pub come_then : (b : Bool) (xs ys : List Out) → AllCome b xs → AllCome (owe_all b xs) ys → AllCome b (xs ++ ys)
come_then b [] ys h g = g
come_then b (x ∷ xs) ys h g = (h.0, come_then (owe_one b x) xs ys h.1 g)

pub come_behind : (b : Bool) (xs ys : List Out) → AllCome b (xs ++ ys) → AllCome (owe_all b xs) ys
come_behind b [] ys h = h
come_behind b (x ∷ xs) ys h = come_behind (owe_one b x) xs ys h.1

-- ---- By what an importer learns

-- What these come to, for an importer that knows something.
record Due (b : Bool) (ms : List Out) (last : Seen) : Type 0 where
  come : AllCome b ms
  awaits : last ≡ export.Known export.Promised → owe_all b ms ≡ true
  known : last ≡ export.Unknown → ⊥

over : (b : Bool) (ms : List Out) (last : Seen) → LearnsAll export.Over ms last → Due b ms last
over b [] last h = record { come = tt; awaits = λ e. absurd (let bad : export.Over ≡ export.Known export.Promised = h ∙ e in cc); known = λ e. let bad : export.Over ≡ export.Unknown = h ∙ e in cc }
over b (m ∷ ms) last h = elim h.1 [ ]

hosted : (b : Bool) (ms : List Out) (last : Seen) → LearnsAll (export.Known export.Hosted) ms last → Due b ms last
hosted b [] last h = record { come = tt; awaits = λ e. absurd (let bad : export.Known export.Hosted ≡ export.Known export.Promised = h ∙ e in cc); known = λ e. let bad : export.Known export.Hosted ≡ export.Unknown = h ∙ e in cc }
hosted b (m ∷ ms) last h = step m h.0 h.1 (λ e. hosted b ms last (subst (λ (c : Seen). LearnsAll c ms last) e h.2))
  where
    step : (m : Out) (c : Seen) → Learns (export.Known export.Hosted) m c → (c ≡ export.Known export.Hosted → Due b ms last) → Due b (m ∷ ms) last
    step m c (export.Again k) f = let d = f refl in record { come = (tt, d.come); awaits = d.awaits; known = d.known }

promised : (ms : List Out) (last : Seen) → LearnsAll (export.Known export.Promised) ms last → Due true ms last
promised [] last h = record { come = tt; awaits = λ e. refl; known = λ e. let bad : export.Known export.Promised ≡ export.Unknown = h ∙ e in cc }
promised (m ∷ ms) last h = step m h.0 h.1 h.2 (λ e. promised ms last (subst (λ (c : Seen). LearnsAll c ms last) e h.2))
  where
    step : (m : Out) (c : Seen) → Learns (export.Known export.Promised) m c → LearnsAll c ms last → (c ≡ export.Known export.Promised → Due true ms last) → Due true (m ∷ ms) last
    step m c (export.Again k) l f = let d = f refl in record { come = (tt, d.come); awaits = d.awaits; known = d.known }
    step m c export.Last l f = let d = over false ms last l in record { come = (refl, d.come); awaits = d.awaits; known = d.known }

-- where it was not there before
fresh : (b : Bool) (m : Out) (ms : List Out) (last : Seen) → LearnsAll export.Unknown (m ∷ ms) last → Backed false (m ∷ ms) → Due b (m ∷ ms) last
fresh b m ms last h g = step m h.0 h.1 h.2 g
  where
    step : (m : Out) (c : Seen) → Learns export.Unknown m c → LearnsAll c ms last → Backed false (m ∷ ms) → Due b (m ∷ ms) last
    step m c (export.First export.Hosted) l g = let d = hosted b ms last l in record { come = (tt, d.come); awaits = d.awaits; known = d.known }
    step m c (export.First export.Promised) l g = let d = promised ms last l in record { come = (tt, d.come); awaits = d.awaits; known = d.known }
    step m c export.Late l g = absurd (let bad : false ≡ true = g.0 in cc)

fits : (b : Bool) (last : Seen) (y : Exporter) → Fits last y → (last ≡ export.Known export.Promised → b ≡ true) → (last ≡ export.Unknown → ⊥) → MayCome b y
fits b last y (export.Free x) f g = absurd (g refl)
fits b last y (export.Object n) f g = tt
fits b last y (export.Open n) f g = f refl
fits b last y (export.Owing n) f g = f refl
fits b last y (export.Done n) f g = tt

-- ---- A step

abbrev So : Bool → List Out → Exporter → Type 0
So b ms y = AllCome b ms × MayCome (owe_all b ms) y

so : (b : Bool) (ms : List Out) (last : Seen) (y : Exporter) → Due b ms last → Fits last y → So b ms y
so b ms last y d f = (d.come, fits (owe_all b ms) last y f d.awaits d.known)

abbrev Learned : Exporter → List Out → Exporter → Type 0
Learned x ms y = (a : Seen) → Fits a x → (c : Seen) × LearnsAll a ms c × Fits c y

-- by how far the export was that is left
from_left : (b : Bool) (x : Exporter) (ms : List Out) (t : State) (o : Option Export) → Learned x ms (exporter_of t o) → (x ≡ export.Gone → Backed false ms × (IsSome o → later false ms ≡ true)) → MayCome b x → So b ms (exporter_of t o)
from_left b (export.Has n export.IsObject) ms t o l g h = let k = l (export.Known export.Hosted) (export.Object n) in so b ms k.0 (exporter_of t o) (hosted b ms k.0 k.1) k.2
from_left b (export.Has n export.IsOpen) ms t o l g h = let k = l (export.Known export.Promised) (export.Open n) in subst (λ (c : Bool). So c ms (exporter_of t o)) (sym h) (so true ms k.0 (exporter_of t o) (promised ms k.0 k.1) k.2)
from_left b (export.Has n export.Owes) ms t o l g h = let k = l (export.Known export.Promised) (export.Owing n) in subst (λ (c : Bool). So c ms (exporter_of t o)) (sym h) (so true ms k.0 (exporter_of t o) (promised ms k.0 k.1) k.2)
from_left b (export.Has n export.HasTold) ms t o l g h = let k = l export.Over (export.Done n) in so b ms k.0 (exporter_of t o) (over b ms k.0 k.1) k.2
from_left b export.Gone [] t None l g h = (tt, tt)
from_left b export.Gone [] t (Some y) l g h = let k = (g refl).1 refl in absurd (let bad : false ≡ true = k in cc)
from_left b export.Gone (m ∷ ms) t o l g h = let k = l export.Unknown (export.Free export.Gone) in so b (m ∷ ms) k.0 (exporter_of t o) (fresh b m ms k.0 k.1 (g refl).0) k.2

-- a message may take it, or lower its count
stays_so : (s : State) (b : Bool) (o p : Option Export) → Stays o p → MayCome b (exporter_of s o) → MayCome b (exporter_of s p)
stays_so s b None p h k = subst (λ (q : Option Export). MayCome b (exporter_of s q)) (sym h) tt
stays_so s b (Some x) None h k = tt
stays_so s b (Some x) (Some y) h k = same (stage_by (is_object y.node) false (link s y.node)) (subst (λ (n : Node). MayCome b (export.Has x.count (stage_by (is_object n) false (link s n)))) (sym h) k)
  where
    same : (z : Stage) → MayCome b (export.Has x.count z) → MayCome b (export.Has y.count z)
    same export.IsObject k = tt
    same export.IsOpen k = k
    same export.Owes k = k
    same export.HasTold k = tt

not_there : (s : State) (o : Option Export) → exporter_of s o ≡ export.Gone → IsSome o → false ≡ true
not_there s None e h = h
not_there s (Some x) e h = absurd (let bad : exporter_of s (Some x) ≡ export.Gone = e in cc)

pub step_so : (s : State) (es : Map Export) (x : Effects) (t : State) → Sends s es x t → (e : ℕ) (b : Bool) → MayCome b (exporter_of s (map.get s.exports e)) → So b (outs_in e x.sends) (exporter_of t (map.get t.exports e))
step_so s es x t k e b h =
    from_left b (exporter_of s (map.get es e)) (outs_in e x.sends) t (map.get t.exports e) (k.fits e) (λ g. k.backed e false (not_there s (map.get es e) g))
    (stays_so s b (map.get s.exports e) (map.get es e) (k.stays e) h)
