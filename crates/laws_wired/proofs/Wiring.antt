-- What two vats do over wires they do in one world.
use Rattle.std.proofs.Common.{◌≡◌, ℕ, Bool, true, false, cond, List, [], ◌∷◌, ◌++◌, map, Option, None, Some, IsSome, Result, refl, sym, ap, subst, ◌∙◌}
use Rattle.std.specs.FinMap as finite
use Rattle.finite_maps.proofs.Values.{map_values-empty}
use Rattle.rpc_msg.specs.Payloads.{Contents}
use Rattle.rpc_msg.specs.declared.ids.ObjectId.{ObjectId}
use Rattle.rpc_msg.specs.declared.ids.QuestionId.{QuestionId}
use Rattle.rpc_msg.specs.declared.ids.Stamp.{Stamp}
use Rattle.rpc_msg.specs.declared.ids.Vat.{Vat}
use Rattle.rpc_msg.specs.declared.ids.Vat.TheVariants.{A, B}
use Rattle.rpc_msg.specs.declared.message.Return.{Return}
use Rattle.rpc_msg.specs.declared.message.ReturnBody.{ReturnBody}
use Rattle.rpc_msg.specs.declared.message.ReturnBody.TheVariants as body
use Rattle.rpc_msg.specs.declared.parts.Descriptor.{Descriptor}
use Rattle.rpc_msg.specs.declared.message.Call.{Call}
use Rattle.rpc_msg.specs.declared.message.ReturnBody.TheVariants as body
use Rattle.rpc_msg.specs.declared.message.PlainMessage.TheVariants as plain
use Rattle.rpc_msg.specs.declared.message.Message.{Message}
use Rattle.rpc_msg.specs.declared.message.Message.TheVariants as message
use Rattle.rpc_machine.specs.declared.command.Command.{Command}
use Rattle.rpc_machine.specs.declared.command.Granted.{Granted}
use Rattle.rpc_machine.specs.declared.command.Refusal.{Refusal}
use Rattle.rpc_machine.specs.declared.command.Effects.{Effects}
use Rattle.rpc_machine.specs.declared.command.Level.TheVariants.{One}
use Rattle.rpc_machine.specs.declared.event.Event.{Event}
use Rattle.rpc_machine.specs.declared.event.Event.TheVariants as event
use Rattle.rpc_machine.specs.Routing.{failed, reason_text}
use Rattle.rpc_machine.specs.State.{State, start}
use Rattle.rpc_machine.specs.Steps.{Obeys}
use Rattle.rpc_machine.specs.World.{World, core, inbox, put_inbox, StepAnswer, Answered, Handled, Empty, Happening, overflow_effects, overflown, Tells, CommandTold, MessageTold, after, CommandsUp, CommandsDown, CommandsAt, ReceivesUp, ReceivesAt, HappensBy, Run}
use Rattle.rpc_machine.proofs.StaysDown.{command_down}
use Rattle.laws_wired.specs.Contents.{SaysNone, IsHeardOf}
use Rattle.laws_wired.specs.Steps.{ComesAlike}
use Rattle.laws_wired.specs.Pairs.{TwoStates, TwoMessages, Same, Calls, Returns, ReturnsWhy, ResolvesWhy, SendsBack, import_at, reference_at, TwoEffects, question_at, promise_at, kept_at, embargo_at, state_at, message_at, effects_at, call_saying, return_saying}
use Rattle.laws_wired.specs.Wires.{IsHeard, AsSaid, OfCall, OfResults, HearsAt, WiredBy, WiredRun, named_world, TwoAnswers, Obeyed, Took, NoneThere, answer_at, TwoHappenings, happening_at, TwoSides, TwoWorlds, world_at, WiredRunsAreRuns}
use Rattle.laws_wired.proofs.Contents.{heard_contents, lost_again}
use Rattle.laws_wired.proofs.Settles.{map-append}
use Rattle.laws_wired.proofs.Stepping.{falling2, fallen2, falls_so, obeys, receives}

-- ---- what is heard over the wire is, in one world, the message itself

abbrev Heard2 : TwoMessages → Message → Type 0
Heard2 m x = (y : TwoMessages) × (x ≡ message_at false y) × (message_at true y ≡ message_at true m)

module _ (c : Call) (stamp : Stamp) (p : Contents) (k : IsHeardOf c.descriptors c.payload p) (x : Message) where
  of_call : (m : TwoMessages) → call_saying c c.stamp c.payload ≡ message_at false m → x ≡ call_saying c stamp p → Heard2 m x
  of_call (Same m) e h =
      (Calls c (λ b. cond b c.stamp stamp) (record { at = λ b. cond b c.payload p; lost = k.lost; like = k.like }) k.none, h, e)
  of_call (Calls d stamps y gone) e h =
      let other : Call = record d { stamp = stamps false; payload = y.at false } in
      let f : c ≡ other = cc in
      let g = subst (λ (z : Call). IsHeardOf z.descriptors z.payload p) f k in (
        Calls d (λ b. cond b (stamps true) stamp) (heard_contents y g.lost p g.like) (lost_again SaysNone d.descriptors g.lost y.lost g.none gone),
        h ∙ ap (λ (z : Call). call_saying z stamp p) f,
        refl,
      )
  of_call (Returns a flag y ds gone) e h = cc
  of_call (ReturnsWhy a flag why) e h = cc
  of_call (ResolvesWhy i why) e h = cc
  of_call (SendsBack i why) e h = cc

abbrev body_of : Message → ReturnBody
body_of (message.Plain (plain.Return r)) = r.body
body_of m = body.Canceled

module _ (a : QuestionId) (flag : Bool) (ds : List Descriptor) (q p : Contents) (k : IsHeardOf ds q p) (x : Message) where
  of_results : (m : TwoMessages) → return_saying a flag (body.Results q ds) ≡ message_at false m → x ≡ return_saying a flag (body.Results p ds) → Heard2 m x
  of_results (Same m) e h = (Returns a flag (record { at = λ b. cond b q p; lost = k.lost; like = k.like }) ds k.none, h, e)
  of_results (Calls d stamps y gone) e h = cc
  of_results (Returns b other y es gone) e h =
      let s : Return = record { answer = a; release_param_caps = flag; body = body.Results q ds } in
      let t : Return = record { answer = b; release_param_caps = other; body = body.Results (y.at false) es } in
      let f : s ≡ t = cc in
      let said : body.Results q ds ≡ body.Results (y.at false) es = ap (λ (z : Return). z.body) f in
      let eq : q ≡ y.at false = cc in
      let ed : ds ≡ es = cc in
      let g = subst (λ (z : Contents). IsHeardOf es z p) eq (subst (λ (zs : List Descriptor). IsHeardOf zs q p) ed k) in (
        Returns b other (heard_contents y g.lost p g.like) es (lost_again SaysNone es g.lost y.lost g.none gone),
        h ∙ (λ i. return_saying (f i).answer (f i).release_param_caps (body.Results p (ed i))),
        refl,
      )
  of_results (ReturnsWhy b other why) e h =
      let g : body.Results q ds ≡ body.Exception (failed (reason_text (why false))) = ap body_of e in
      cc
  of_results (ResolvesWhy i why) e h = cc
  of_results (SendsBack i why) e h = cc

heard : (m : TwoMessages) (s x : Message) → s ≡ message_at false m → IsHeard s x → Heard2 m x
heard m s x e (AsSaid h) = (m, h ∙ e, refl)
heard m s x e (OfCall c stamp p k said h) = of_call c stamp p k x m (sym said ∙ e) h
heard m s x e (OfResults a flag ds q p k said h) = of_results a flag ds q p k x m (sym said ∙ e) h

-- ---- one vat's step, as it is told

abbrev Told2 : TwoEffects → TwoStates → Bool → Effects → State → Type 0
Told2 e y room told new =
    (f : TwoEffects) × (x : TwoStates) × (told ≡ effects_at false f) × (new ≡ state_at false x) × Tells (effects_at true e) (state_at true y) room (effects_at true f) (state_at true x)

tells : (e : TwoEffects) (y : TwoStates) (room : Bool) (told : Effects) (new : State) → Tells (effects_at false e) (state_at false y) room told new → Told2 e y room told new
tells e y true told new h = (e, y, h.0, h.1, (refl, refl))
tells e y false told new h = by y.rest.down h.0 h.1
  where
    by : (o : Option ℕ) → told ≡ overflow_effects (effects_at false e) o → new ≡ overflown (state_at false y) o
        → (f : TwoEffects) × (x : TwoStates) × (told ≡ effects_at false f) × (new ≡ state_at false x) × ((effects_at true f ≡ overflow_effects (effects_at true e) o) × (state_at true x ≡ overflown (state_at true y) o))
    by None a b = (falling2 33, fallen2 y 33, a, b ∙ sym (falls_so false y 33), (refl, falls_so true y 33))
    by (Some k) a b = (e, y, a, b, (refl, refl))

command_told : (z : TwoStates) (c : Command) (answer : Result Granted Refusal) (told : Effects) (room : Bool) (new : State)
    → CommandTold (state_at false z) c answer told room new → ComesAlike told new (λ x t. CommandTold (state_at true z) c answer x room t)
command_told z c answer told room new h =
    let k = obeys z c h.0 h.1 h.2 h.3 in
    let r = tells k.0 k.1 room told new (subst (λ (s : State). Tells (effects_at false k.0) s room told new) k.3 (subst (λ (x : Effects). Tells x h.2 room told new) k.2 h.5)) in
    (r.0, r.1, r.2, r.3, (h.0, effects_at true k.0, state_at true k.1, k.4, h.4, r.4))

message_told : (z : TwoStates) (m : TwoMessages) (told : Effects) (room : Bool) (new : State)
    → MessageTold (state_at false z) (message_at false m) told room new → ComesAlike told new (λ x t. MessageTold (state_at true z) (message_at true m) x room t)
message_told z m told room new h =
    let k = receives z m h.0 h.1 h.2 in
    let r = tells k.0 k.1 room told new (subst (λ (s : State). Tells (effects_at false k.0) s room told new) k.3 (subst (λ (x : Effects). Tells x h.1 room told new) k.2 h.3)) in
    (r.0, r.1, r.2, r.3, (effects_at true k.0, state_at true k.1, k.4, r.4))

-- ---- events

abbrev core2 : TwoWorlds → Vat → TwoStates
core2 z A = z.a.core
core2 z B = z.b.core

abbrev inbox2 : TwoWorlds → Vat → List TwoMessages
inbox2 z A = z.a.inbox
inbox2 z B = z.b.inbox

abbrev after2 : TwoWorlds → Vat → TwoEffects → TwoStates → TwoWorlds
after2 z A e y = record { a = record (z.a) { core = y }; b = record (z.b) { inbox = z.b.inbox ++ e.sends } }
after2 z B e y = record { a = record (z.a) { inbox = z.a.inbox ++ e.sends }; b = record (z.b) { core = y } }

abbrev put_inbox2 : TwoWorlds → Vat → List TwoMessages → TwoWorlds
put_inbox2 z A ms = record z { a = record (z.a) { inbox = ms } }
put_inbox2 z B ms = record z { b = record (z.b) { inbox = ms } }

core_at : (b : Bool) (z : TwoWorlds) (v : Vat) → core (world_at b z) v ≡ state_at b (core2 z v)
core_at b z A = refl
core_at b z B = refl

inbox_at : (b : Bool) (z : TwoWorlds) (v : Vat) → inbox (world_at b z) v ≡ map (message_at b) (inbox2 z v)
inbox_at b z A = refl
inbox_at b z B = refl

after_at : (b : Bool) (z : TwoWorlds) (v : Vat) (e : TwoEffects) (y : TwoStates) → world_at b (after2 z v e y) ≡ after (world_at b z) v (effects_at b e) (state_at b y)
after_at b z A e y = ap (λ (ms : List Message). record { a = record { core = state_at b y; inbox = map (message_at b) z.a.inbox }; b = record { core = state_at b z.b.core; inbox = ms } }) (map-append (message_at b) z.b.inbox e.sends)
after_at b z B e y = ap (λ (ms : List Message). record { a = record { core = state_at b z.a.core; inbox = ms }; b = record { core = state_at b y; inbox = map (message_at b) z.b.inbox } }) (map-append (message_at b) z.a.inbox e.sends)

put_at : (b : Bool) (z : TwoWorlds) (v : Vat) (ms : List TwoMessages) → world_at b (put_inbox2 z v ms) ≡ put_inbox (world_at b z) v (map (message_at b) ms)
put_at b z A ms = refl
put_at b z B ms = refl

still_core : (z : TwoWorlds) (v : Vat) (ms : List TwoMessages) → core2 (put_inbox2 z v ms) v ≡ core2 z v
still_core z A ms = refl
still_core z B ms = refl

-- An event comes to this in both.
abbrev Event2 : World → StepAnswer → (StepAnswer → World → Type 0) → Type 0
Event2 new answer Q = (y : TwoWorlds) × (a : TwoAnswers) × (new ≡ world_at false y) × (answer ≡ answer_at false a) × Q (answer_at true a) (world_at true y)

commands_up : (z : TwoWorlds) (v : Vat) (c : Command) (answer : StepAnswer) (room : Bool) (new : World)
    → CommandsUp (world_at false z) v c answer room new → Event2 new answer (λ a w. CommandsUp (world_at true z) v c a room w)
commands_up z v c (Handled told) room new h = absurd h
commands_up z v c Empty room new h = absurd h
commands_up z v c (Answered answer told) room new h =
    let k = command_told (core2 z v) c answer told room h.0 (subst (λ (s : State). CommandTold s c answer told room h.0) (core_at false z v) h.1) in (
      after2 z v k.0 k.1,
      Obeyed answer k.0,
      h.2 ∙ (λ i. after (world_at false z) v (k.2 i) (k.3 i)) ∙ sym (after_at false z v k.0 k.1),
      ap (Answered answer) k.2,
      (state_at true k.1, subst (λ (s : State). CommandTold s c answer (effects_at true k.0) room (state_at true k.1)) (sym (core_at true z v)) k.4, after_at true z v k.0 k.1),
    )

commands_down : (z : TwoWorlds) (v : Vat) (c : Command) (answer : StepAnswer) (new : World) → IsSome (core2 z v).rest.down
    → CommandsDown (world_at false z) v c answer new → Event2 new answer (λ a w. CommandsDown (world_at true z) v c a w)
commands_down z v c (Handled told) new d h = absurd h
commands_down z v c Empty new d h = absurd h
commands_down z v c (Answered answer told) new d h =
    let s = core (world_at false z) v in
    let k = obeys (core2 z v) c answer told s (subst (λ (x : State). Obeys x c answer told s) (core_at false z v) h.0) in
    let u = command_down (state_at true (core2 z v)) c answer (effects_at true k.0) (state_at true k.1) d k.4 in (
      z,
      Obeyed answer k.0,
      h.1,
      ap (Answered answer) k.2,
      (
        subst (λ (x : State). Obeys x c answer (effects_at true k.0) x) (sym (core_at true z v))
            (subst (λ (x : State). Obeys (state_at true (core2 z v)) c answer (effects_at true k.0) x) u.new_is k.4),
        refl,
      ),
    )

commands : (z : TwoWorlds) (v : Vat) (c : Command) (o : Option ℕ) (answer : StepAnswer) (room : Bool) (new : World) → o ≡ (core2 z v).rest.down
    → CommandsAt (world_at false z) v c o answer room new → Event2 new answer (λ a w. CommandsAt (world_at true z) v c o a room w)
commands z v c None answer room new d h = commands_up z v c answer room new h
commands z v c (Some n) answer room new d h = commands_down z v c answer new (subst IsSome d (let e : IsSome (Some n) = refl in e)) h

hears_up : (z : TwoWorlds) (v : Vat) (m : TwoMessages) (answer : StepAnswer) (room : Bool) (new : World)
    → ReceivesUp (world_at false z) v (message_at false m) answer room new → Event2 new answer (λ a w. ReceivesUp (world_at true z) v (message_at true m) a room w)
hears_up z v m (Answered answer told) room new h = absurd h
hears_up z v m Empty room new h = absurd h
hears_up z v m (Handled told) room new h =
    let k = message_told (core2 z v) m told room h.0 (subst (λ (s : State). MessageTold s (message_at false m) told room h.0) (core_at false z v) h.1) in (
      after2 z v k.0 k.1,
      Took k.0,
      h.2 ∙ (λ i. after (world_at false z) v (k.2 i) (k.3 i)) ∙ sym (after_at false z v k.0 k.1),
      ap Handled k.2,
      (state_at true k.1, subst (λ (s : State). MessageTold s (message_at true m) (effects_at true k.0) room (state_at true k.1)) (sym (core_at true z v)) k.4, after_at true z v k.0 k.1),
    )

hears : (z : TwoWorlds) (v : Vat) (l : List TwoMessages) (o : Option ℕ) (answer : StepAnswer) (room : Bool) (new : World)
    → HearsAt (world_at false z) v (map (message_at false) l) o answer room new → Event2 new answer (λ a w. ReceivesAt (world_at true z) v (map (message_at true) l) o a room w)
hears z v [] o answer room new h = (z, NoneThere, h.1, h.0, (refl, refl))
hears z v (m ∷ ms) (Some n) answer room new h = (z, NoneThere, h.1, h.0, (refl, refl))
hears z v (m ∷ ms) None answer room new h =
    let y = heard m (message_at false m) h.0 refl h.1 in
    let z1 = put_inbox2 z v ms in
    let k = hears_up z1 v y.0 answer room new
    (subst (λ (x : Message). ReceivesUp (world_at false z1) v x answer room new) y.1
    (subst (λ (w : World). ReceivesUp w v h.0 answer room new) (sym (put_at false z v ms)) h.2)) in (
      k.0,
      k.1,
      k.2,
      k.3,
      subst (λ (x : Message). ReceivesUp (put_inbox (world_at true z) v (map (message_at true) ms)) v x (answer_at true k.1) room (world_at true k.0)) y.2
          (subst (λ (w : World). ReceivesUp w v (message_at true y.0) (answer_at true k.1) room (world_at true k.0)) (put_at true z v ms) k.4),
    )

happens_by : (z : TwoWorlds) (x : Event) (answer : StepAnswer) (room : Bool) (new : World) → WiredBy (world_at false z) x answer room new → Event2 new answer (λ a w. HappensBy (world_at true z) x a room w)
happens_by z (event.Command v c) answer room new h =
    let k = commands z v c (core2 z v).rest.down answer room new refl
    (subst (λ (o : Option ℕ). CommandsAt (world_at false z) v c o answer room new) (ap (λ (s : State). s.down) (core_at false z v)) h) in
    (k.0, k.1, k.2, k.3, subst (λ (o : Option ℕ). CommandsAt (world_at true z) v c o (answer_at true k.1) room (world_at true k.0)) (sym (ap (λ (s : State). s.down) (core_at true z v))) k.4)
happens_by z (event.Deliver v) answer room new h =
    let k = hears z v (inbox2 z v) (core2 z v).rest.down answer room new
    (subst (λ (o : Option ℕ). HearsAt (world_at false z) v (map (message_at false) (inbox2 z v)) o answer room new) (ap (λ (s : State). s.down) (core_at false z v))
    (subst (λ (ms : List Message). HearsAt (world_at false z) v ms (core (world_at false z) v).down answer room new) (inbox_at false z v) h)) in (
      k.0,
      k.1,
      k.2,
      k.3,
      subst (λ (ms : List Message). ReceivesAt (world_at true z) v ms (core (world_at true z) v).down (answer_at true k.1) room (world_at true k.0)) (sym (inbox_at true z v))
          (subst (λ (o : Option ℕ). ReceivesAt (world_at true z) v (map (message_at true) (inbox2 z v)) o (answer_at true k.1) room (world_at true k.0)) (sym (ap (λ (s : State). s.down) (core_at true z v))) k.4),
    )

-- ---- runs

record Ran (z : TwoWorlds) (xs : List Happening) (w : World) : Type 0 where
  happened : List TwoHappenings
  worlds : TwoWorlds
  is : xs ≡ map (happening_at false) happened
  leads : w ≡ world_at false worlds
  ran : Run (world_at true z) (map (happening_at true) happened) (world_at true worlds)

run : (z : TwoWorlds) (xs : List Happening) (w : World) → WiredRun (world_at false z) xs w → Ran z xs w
run z [] w h = record { happened = []; worlds = z; is = refl; leads = h; ran = refl }
run z (x ∷ xs) w h =
    let k = happens_by z x.event x.answer x.had_room h.0 h.1 in
    let r = run k.0 xs w (subst (λ (y : World). WiredRun y xs w) k.2 h.2) in
    let e = k.3 in
    let f = r.is in
    record {
      happened = record { event = x.event; answer = k.1; had_room = x.had_room } ∷ r.happened;
      worlds = r.worlds;
      is = λ i. record x { answer = e i } ∷ f i;
      leads = r.leads;
      ran = (world_at true k.0, k.4, r.ran);
    }

-- The first letter is that over wires, the second that in one world.
abbrev new2 : Vat → Vat → Option ObjectId → TwoSides
new2 letter v root =
    let core : TwoStates = record {
      rest = start v One root;
      vat = λ b. cond b v letter;
      questions = finite.empty;
      imports = finite.empty;
      refs = finite.empty;
      promises = finite.empty;
      outcomes = finite.empty;
      embargoes = finite.empty;
    } in
    record { core = core; inbox = [] }

new_state : (b : Bool) (letter v : Vat) (root : Option ObjectId) → state_at b (new2 letter v root).core ≡ start (cond b v letter) One root
new_state b letter v root =
    let q = map_values-empty (question_at b) in
    let m = map_values-empty (import_at b) in
    let r = map_values-empty (reference_at b) in
    let p = map_values-empty (promise_at b) in
    let o = map_values-empty (kept_at b) in
    let e = map_values-empty (embargo_at b) in
    λ i. record (start (cond b v letter) One root) { questions = q i; imports = m i; refs = r i; promises = p i; outcomes = o i; embargoes = e i }

abbrev both_new : (Vat → Vat) → Option ObjectId → Option ObjectId → TwoWorlds
both_new letters root_a root_b = record { a = new2 (letters A) A root_a; b = new2 (letters B) B root_b }

new_at : (b : Bool) (letters : Vat → Vat) (root_a root_b : Option ObjectId) → world_at b (both_new letters root_a root_b) ≡ named_world (λ v. cond b v (letters v)) root_a root_b
new_at b letters root_a root_b =
    let s = new_state b (letters A) A root_a in
    let t = new_state b (letters B) B root_b in
    λ i. record { a = record { core = s i; inbox = [] }; b = record { core = t i; inbox = [] } }

pub wired_runs_are_runs : WiredRunsAreRuns
wired_runs_are_runs letters root_a root_b xs w h =
    let r = run (both_new letters root_a root_b) xs w (subst (λ (y : World). WiredRun y xs w) (sym (new_at false letters root_a root_b)) h) in
    record {
      happened = r.happened;
      worlds = r.worlds;
      is = r.is;
      leads = r.leads;
      ran = subst (λ (y : World). Run y (map (happening_at true) r.happened) (world_at true r.worlds)) (new_at true letters root_a root_b) r.ran;
    }
