-- What a step of the core does to what is hosted.
use Rattle.std.proofs.Common.{rules, ◌≡◌, ◌∙◌, ◌++◌, inl, ℕ, Bool, true, false, cond, is_some, IsSome, refl, List, Option, None, Some, Ok, Err, ap, subst, sym}
use Rattle.std.specs.FinMap as map
use Rattle.finite_maps.proofs.Gets.{insert_same, remove_inserted}
use Rattle.rpc_msg.specs.declared.ids.ObjectId.{ObjectId}
use Rattle.rpc_msg.specs.declared.message.Message.{Message}
use Rattle.rpc_msg.specs.declared.message.Message.TheVariants as message
use Rattle.rpc_msg.specs.declared.message.PlainMessage.TheVariants as plain
use Rattle.rpc_machine.specs.declared.command.Command.{Command}
use Rattle.rpc_machine.specs.declared.command.Effects.{Effects}
use Rattle.rpc_machine.specs.declared.command.Granted.{Granted}
use Rattle.rpc_machine.specs.declared.command.Refusal.{Refusal}
use Rattle.rpc_machine.specs.Down.{ShutsFrom}
use Rattle.rpc_machine.specs.Progress.{quiet}
use Rattle.rpc_machine.specs.State.{State}
use Rattle.rpc_machine.specs.Steps.{Obeys}
use Rattle.vat_host.specs.declared.event.DownNotice.{DownNotice}
use Rattle.vat_host.specs.declared.event.Event.{Event}
use Rattle.vat_host.specs.Hosting.{Hosted, Refuses, hosted_by, is_abort, stepped, stepped_so}
use Rattle.vat_host.specs.declared.watched.Watched.{Watched}
use Rattle.vat_host.specs.declared.watched.Watched.TheVariants as watched
use Rattle.vat_host.specs.Objects.{Objects, with_object}
use Rattle.vat_host.specs.Watching.{became, known_by, made_known, watched_by}
use Rattle.vat_host.specs.Queues.{told}
use Rattle.vat_host.specs.Unanswered.{Unanswered, followed, heard_at}

abbrev pub hosted : State → List Message → List Event → Objects → Unanswered → DownNotice → Hosted
hosted s ms es os us t = record { core = s; messages = ms; events = es; objects = os; unanswered = us; down_notice = t }

same : (s : State) (ms ns : List Message) (es fs : List Event) (os : Objects) (us : Unanswered) (t : DownNotice) → ms ≡ ns → es ≡ fs → hosted s ms es os us t ≡ hosted s ns fs os us t
same s ms ns es fs os us t m e = ap (λ x. hosted s x es os us t) m ∙ ap (λ x. hosted s ns x os us t) e

-- A place was made, and nothing was taken.
pub placed : (old : Hosted) (core : State) (ms ms1 : List Message) (es es1 : List Event) (os : Objects) (us : Unanswered) (t : DownNotice) → hosted core ms es os us t ≡ old → ms1 ≡ ms → es1 ≡ es → hosted core ms1 es1 os us t ≡ old
placed old core ms ms1 es es1 os us t v m e = same core ms1 ms es1 es os us t m e ∙ v

-- What a message says of calls of the peer is noted.
pub noted : (old : Hosted) (core : State) (m : Message) (ms : List Message) (es : List Event) (os : Objects) (us us1 : Unanswered) (t : DownNotice) → hosted core ms es os us t ≡ old → us1 ≡ heard_at core m us
    → hosted core ms es os us1 t ≡ record old { unanswered = heard_at old.core m old.unanswered }
noted old core m ms es os us us1 t v u =
    ap (λ (x : Unanswered). hosted core ms es os x t) u ∙ ap (λ (h : Hosted). record h { unanswered = heard_at h.core m h.unanswered }) v

-- It is kept behind what was there, from which nothing was taken as a place was made.
pub kept_so : (old : Hosted) (core new : State) (e : Effects) (known : Option Event) (ms ms1 ms2 : List Message) (es es1 es2 : List Event) (os : Objects) (us us1 : Unanswered) (t : DownNotice)
    → hosted core ms es os us t ≡ old → ms1 ≡ ms → es1 ≡ es
    → ms2 ≡ ms1 ++ e.sends → es2 ≡ es1 ++ told e known → us1 ≡ followed e new us
    → hosted new ms2 es2 os us1 t ≡ stepped_so old e known new
kept_so old core new e known ms ms1 ms2 es es1 es2 os us us1 t v m1 e1 m2 e2 u =
    subst (λ (o : Hosted). hosted new ms2 es2 os us1 t ≡ stepped_so o e known new) v
    (ap (λ (x : Unanswered). hosted new ms2 es2 os x t) u
    ∙ same new ms2 (ms ++ e.sends) es2 (es ++ told e known) os (followed e new us) t (m2 ∙ ap (λ l. l ++ e.sends) m1) (e2 ∙ ap (λ l. l ++ told e known) e1))

-- A message was heard, and what it made known is kept behind what follows.
pub heard : (old : Hosted) (core new : State) (m : Message) (e : Effects) (w : Watched) (known : Option Event) (ms ms1 ms2 : List Message) (es es1 es2 : List Event) (os : Objects) (us us1 : Unanswered) (t : DownNotice)
    → hosted core ms es os us t ≡ old → ms1 ≡ ms → es1 ≡ es
    → ms2 ≡ ms1 ++ e.sends → es2 ≡ es1 ++ told e known → us1 ≡ followed e new us → w ≡ watched_by m core → known ≡ made_known w new
    → hosted new ms2 es2 os us1 t ≡ stepped_so old e (known_by m old.core new) new
heard old core new m e w known ms ms1 ms2 es es1 es2 os us us1 t v m1 e1 m2 e2 u w_is is =
    kept_so old core new e known ms ms1 ms2 es es1 es2 os us us1 t v m1 e1 m2 e2 u
    ∙ ap (λ (k : Option Event). stepped_so old e k new) (is ∙ ap (λ (x : Watched). made_known x new) w_is ∙ ap (λ (h : Hosted). made_known (watched_by m h.core) new) v)

-- Nothing is made known by an Abort, nor of a vat that is down.
watches_none : (m : Message) (s : State) → is_abort m ≡ true → watched_by m s ≡ watched.Nothing
watches_none (message.Plain (plain.Abort x)) s a = refl
watches_none (message.Plain (plain.Bootstrap x)) s a = absurd (let k : ◌≡◌ {A = Bool} false true = a in cc)
watches_none (message.Plain (plain.Call x)) s a = absurd (let k : ◌≡◌ {A = Bool} false true = a in cc)
watches_none (message.Plain (plain.Return x)) s a = absurd (let k : ◌≡◌ {A = Bool} false true = a in cc)
watches_none (message.Plain (plain.Finish x)) s a = absurd (let k : ◌≡◌ {A = Bool} false true = a in cc)
watches_none (message.Plain (plain.Resolve x)) s a = absurd (let k : ◌≡◌ {A = Bool} false true = a in cc)
watches_none (message.Plain (plain.Release x)) s a = absurd (let k : ◌≡◌ {A = Bool} false true = a in cc)
watches_none (message.Plain (plain.Disembargo x)) s a = absurd (let k : ◌≡◌ {A = Bool} false true = a in cc)
watches_none (message.Plain (plain.Other x)) s a = absurd (let k : ◌≡◌ {A = Bool} false true = a in cc)
watches_none (message.Unimplemented x) s a = absurd (let k : ◌≡◌ {A = Bool} false true = a in cc)

nothing_known : (t : State) (b : Bool) → cond b None (became watched.Nothing t) ≡ None
nothing_known t true = refl
nothing_known t false = refl

pub abort_known : (m : Message) (s t : State) → is_abort m ≡ true → known_by m s t ≡ None
abort_known m s t a = ap (λ (w : Watched). made_known w t) (watches_none m s a) ∙ nothing_known t (is_some t.down)

down_shut : (s : State) (n : ℕ) (d : Option ℕ) (e : Effects) (t : State) → s.down ≡ d → ShutsFrom s n d e t → is_some t.down ≡ true
down_shut s n None e t is h = ap (λ (x : State). is_some x.down) h.new_is
down_shut s n (Some k) e t is h = ap (λ (x : State). is_some x.down) h.new_is ∙ ap (λ (o : Option ℕ). is_some o) is

pub shut_known : (m : Message) (s : State) (n : ℕ) (e : Effects) (t : State) → ShutsFrom s n s.down e t → known_by m s t ≡ None
shut_known m s n e t h = ap (λ (b : Bool). cond b None (became (watched_by m s) t)) (down_shut s n s.down e t refl h)

-- The same of a step that no message took.
pub kept : (old : Hosted) (core new : State) (e : Effects) (ms ms1 ms2 : List Message) (es es1 es2 : List Event) (os : Objects) (us us1 : Unanswered) (t : DownNotice)
    → hosted core ms es os us t ≡ old → ms1 ≡ ms → es1 ≡ es
    → ms2 ≡ ms1 ++ e.sends → es2 ≡ es1 ++ told e None → us1 ≡ followed e new us
    → hosted new ms2 es2 os us1 t ≡ stepped old e new
kept old core new e ms ms1 ms2 es es1 es2 os us us1 t v m1 e1 m2 e2 u = kept_so old core new e None ms ms1 ms2 es es1 es2 os us us1 t v m1 e1 m2 e2 u

-- The same of a command that hosts nothing.
pub kept_by : (old : Hosted) (core new : State) (c : Command) (e : Effects) (ms ms1 ms2 : List Message) (es es1 es2 : List Event) (os : Objects) (us us1 : Unanswered) (t : DownNotice)
    → hosted core ms es os us t ≡ old → ms1 ≡ ms → es1 ≡ es
    → ms2 ≡ ms1 ++ e.sends → es2 ≡ es1 ++ told e None → us1 ≡ followed e new us → hosted_by c ≡ None
    → hosted new ms2 es2 os us1 t ≡ record (stepped old e new) { objects = with_object (hosted_by c) old.objects }
kept_by old core new c e ms ms1 ms2 es es1 es2 os us us1 t v m1 e1 m2 e2 u none =
    subst (λ (o : Option ObjectId). hosted new ms2 es2 os us1 t ≡ record (stepped old e new) { objects = with_object o old.objects }) (sym none)
    (kept old core new e ms ms1 ms2 es es1 es2 os us us1 t v m1 e1 m2 e2 u)

pub obeyed : (old : Hosted) (core new : State) (c : Command) (g : Granted) (e : Effects) (ms : List Message) (es : List Event) (os : Objects) (us : Unanswered) (t : DownNotice)
    → hosted core ms es os us t ≡ old → Obeys core c (Ok g) e new → Obeys old.core c (Ok g) e new
obeyed old core new c g e ms es os us t v o = subst (λ (s : State). Obeys s c (Ok g) e new) (ap (λ (h : Hosted). h.core) v) o

-- Nothing follows of it.
pub silent : (old : Hosted) (core new : State) (ms : List Message) (es : List Event) (os : Objects) (us : Unanswered) (t : DownNotice) → hosted core ms es os us t ≡ old → hosted new ms es os us t ≡ stepped old quiet new
silent old core new ms es os us t v =
    subst (λ (o : Hosted). hosted new ms es os us t ≡ stepped o quiet new) v
    (same new ms (ms ++ quiet.sends) es (es ++ told quiet None) os us t (grind rules) (grind rules))

-- An object is hosted, which is known from then on, or was before.
pub hosts : (old : Hosted) (core new : State) (o : ObjectId) (ms : List Message) (es : List Event) (os os1 : Objects) (us : Unanswered) (t : DownNotice) → hosted core ms es os us t ≡ old → os1 ≡ map.insert os o.0 tt
    → hosted new ms es os1 us t ≡ record (stepped old quiet new) { objects = map.insert old.objects o.0 tt }
hosts old core new o ms es os os1 us t v e =
    subst (λ (h : Hosted). hosted new ms es os1 us t ≡ record (stepped h quiet new) { objects = map.insert h.objects o.0 tt }) v
    (ap (λ (x : Objects). hosted new ms es x us t) e ∙ same new ms (ms ++ quiet.sends) es (es ++ told quiet None) (map.insert os o.0 tt) us t (grind rules) (grind rules))

-- The core refuses it, and nothing was taken.
pub refuses : (old : Hosted) (core new : State) (c : Command) (r : Refusal) (ms ms1 : List Message) (es es1 : List Event) (os : Objects) (us : Unanswered) (t : DownNotice)
    → hosted core ms es os us t ≡ old → ms1 ≡ ms → es1 ≡ es
    → new ≡ core → Obeys core c (Err r) quiet new
    → Refuses old c r (hosted new ms1 es1 os us t)
refuses old core new c r ms ms1 es es1 os us t v m e u o =
    let s : core ≡ old.core = ap (λ (h : Hosted). h.core) v in
    let p : Obeys core c (Err r) quiet core = subst (λ (t : State). Obeys core c (Err r) quiet t) u o in (
      inl (subst (λ (t : State). Obeys t c (Err r) quiet t) s p),
      ap (λ (k : State). hosted k ms1 es1 os us t) u ∙ (same core ms1 ms es1 es os us t m e ∙ v),
    )

-- An object that is known already is no other one.
one_there : (o : Option (Unit {0})) → IsSome o → o ≡ Some tt
one_there None h = absurd (let e : ◌≡◌ {A = Bool} false true = h in cc)
one_there (Some u) h = refl

pub hosts_again : (old : Hosted) (o : ObjectId) (core : State) (ms : List Message) (es : List Event) (os : Objects) (us : Unanswered) (t : DownNotice) → hosted core ms es os us t ≡ old → IsSome (map.get old.objects o.0) → os ≡ map.insert os o.0 tt
hosts_again old o core ms es os us t v h =
    sym (insert_same os o.0 tt (one_there (map.get os o.0) (subst (λ (x : Hosted). IsSome (map.get x.objects o.0)) (sym v) h)))

none_there : (o : Option (Unit {0})) → is_some o ≡ false → o ≡ None
none_there None e = refl
none_there (Some u) e = absurd (let f : ◌≡◌ {A = Bool} true false = e in cc)

-- An object that was put in is taken out again.
pub taken_back : (os p t : Objects) (o : ObjectId) → is_some (map.get os o.0) ≡ false → p ≡ map.insert os o.0 tt → t ≡ map.remove p o.0 → t ≡ os
taken_back os p t o none put taken = taken ∙ ap (λ (m : Objects). map.remove m o.0) put ∙ remove_inserted os o.0 tt (none_there (map.get os o.0) none)

-- A command that hosts nothing leaves the objects.
pub hosts_nothing : (old : Hosted) (c : Command) (e : Effects) (new : State) → hosted_by c ≡ None → stepped old e new ≡ record (stepped old e new) { objects = with_object (hosted_by c) old.objects }
hosts_nothing old c e new none = ap (λ (o : Option ObjectId). record (stepped old e new) { objects = with_object o old.objects }) (sym none)
