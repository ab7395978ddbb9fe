-- Each scene is reached by steps of the two vats in which all is so that the laws of whole steps take as known.
use Rattle.std.specs.FinMap as map
use Rattle.std.proofs.Common.{◌≡◌, ◌⊎◌, inl, inr, ℕ, true, false, List, [], ◌∷◌, ◌++◌, Option, None, Some, Ok, refl, sym, ap, subst, ◌∙◌}
use Rattle.rpc_msg.specs.declared.ids.Vat.{Vat}
use Rattle.rpc_msg.specs.declared.ids.Vat.TheVariants.{A, B}
use Rattle.rpc_msg.specs.declared.ids.ObjectId.{ObjectId}
use Rattle.rpc_msg.specs.declared.message.DisembargoContext.{DisembargoContext}
use Rattle.rpc_msg.specs.declared.message.DisembargoContext.TheVariants.{SenderLoopback, ReceiverLoopback}
use Rattle.rpc_msg.specs.declared.message.Message.{Message}
use Rattle.rpc_msg.specs.declared.message.Message.TheVariants as message
use Rattle.rpc_msg.specs.declared.message.PlainMessage.{PlainMessage}
use Rattle.rpc_msg.specs.declared.message.PlainMessage.TheVariants as plain
use Rattle.rpc_msg.specs.Vats.{other_vat}
use Rattle.rpc_journal.specs.declared.entry.JournalEntry.{JournalEntry}
use Rattle.rpc_journal.specs.History.{DeliveredAt, Ref}
use Rattle.rpc_machine.specs.declared.command.CallCommand.{CallCommand}
use Rattle.rpc_machine.specs.declared.command.Command.{Command}
use Rattle.rpc_machine.specs.declared.command.Command.TheVariants as command
use Rattle.rpc_machine.specs.declared.command.Effects.{Effects}
use Rattle.rpc_machine.specs.declared.command.Granted.{Granted}
use Rattle.rpc_machine.specs.declared.command.Granted.TheVariants as granted
use Rattle.rpc_machine.specs.declared.command.Level.TheVariants.{One}
use Rattle.rpc_machine.specs.declared.entries.Embargo.{Embargo}
use Rattle.rpc_machine.specs.State.{State}
use Rattle.rpc_machine.specs.Faults.{fault_of}
use Rattle.rpc_machine.specs.Nodes.{is_wire}
use Rattle.rpc_machine.specs.Refusals.{refused}
use Rattle.rpc_machine.specs.Steps.{Does, Handles}
use Rattle.rpc_machine.specs.World.{World, after, core, inbox, new_world, put_inbox, Answered, Handled}
use Rattle.rpc_machine.specs.Journal.{command_entries, deliver_entries, granted_entries}
use Rattle.laws_steps.specs.NodesThere.{IsWhole}
use Rattle.laws_runs.specs.Scenes.{Scene, IsScene, begins, stopped, Steps, Commanded, Received, GivesUp, Stops, LeadsTo, NoMore, Then}
use Rattle.laws_runs.proofs.MakesNone.{MakesNone, call_or_not, falls_no_call, granted_none}
use Rattle.laws_runs.proofs.KeptCounts as counts
use Rattle.laws_runs.proofs.QuietRuns.{acted}
use Rattle.laws_routes.specs.Between.{Across, Inside, JoinsFollow, NewVatsAreSo, SplitsFollow}
use Rattle.laws_routes.specs.ChainLaws as chain
use Rattle.laws_routes.specs.Embargoes.{CommandsKeepEmbargoes, EmbargoesAreRight, MessagesKeepEmbargoes, NewEmbargoesAreRight, RightEmbargoesAreOnly}
use Rattle.laws_routes.specs.FirstActs.{AllCommandsFollow, EmbargoesAreNamed}
use Rattle.laws_routes.specs.Midway.{Midway}
use Rattle.laws_routes.specs.PairLaws.{behind}
use Rattle.laws_routes.specs.Premises.{IsOnlyEmbargo}
use Rattle.laws_routes.specs.Received.{IsMet, MessagesFollow}
use Rattle.laws_routes.specs.StepLaws.{made_by}
use Rattle.laws_routes.specs.Ties.{Around, all_at}
use Rattle.laws_scenes.specs.Meeting.{IfThere, IsLeft, LoopIsLeft, OfBoth, OfOldest}
use Rattle.laws_scenes.specs.Canceled.{CancelsOnlyGivenUp}
use Rattle.laws_scenes.specs.Walked.{Counts, IsBetweenSteps, Leads, all_told, seen}
use Rattle.laws_routes.proofs.StepsFollow.{made_as}
use Rattle.laws_scenes.proofs.Histories.{TellsNone, commands_count, commands_tell, granted_tell, messages_count, messages_tell, none_behind_all, none_counts}

-- ---- What is known of each scene, and of each step

pub record Facts (w : World) : Type 0 where
  pub across : OfBoth Across w
  pub whole : (v : Vat) → IsWhole (core w v)
  pub level : (v : Vat) → (core w v).level ≡ One
  pub plain : (v : Vat) (m : Message) (ms : List Message) → inbox w v ≡ m ∷ ms → (x : PlainMessage) × (m ≡ message.Plain x)
  pub met : OfOldest (λ s other out rest x. IsLeft s x → IsMet s other out rest x) w
  pub given_up : OfOldest (λ s other out rest x. CancelsOnlyGivenUp s x) w

pub record Laws : Type 0 where
  pub joins : JoinsFollow
  pub splits : SplitsFollow
  pub new_vats : NewVatsAreSo
  pub commands : AllCommandsFollow
  pub messages : MessagesFollow
  pub new_right : NewEmbargoesAreRight
  pub commands_right : CommandsKeepEmbargoes
  pub messages_right : MessagesKeepEmbargoes
  pub only : RightEmbargoesAreOnly

more : {last : Around} {new : State} {mid : Around} {between : State} {w : Around} {s : State} → chain.Steps mid between w s → chain.Step mid between last new → chain.Steps last new w s
more chain.Done h = chain.Next h chain.Done
more (chain.Next k rest) h = chain.Next k (more rest h)

module _ (root_a root_b : Option ObjectId) where
  pub record Ready (w : World) (h : List JournalEntry) : Type 0 where
    pub inside : (v : Vat) → Inside (core w v)
    pub right : (v : Vat) → EmbargoesAreRight (core w v)
    pub vat : (v : Vat) → (core w v).vat ≡ v
    pub made : Ref → ℕ
    pub told : List DeliveredAt
    pub made_is : Counts made h
    pub told_is : told ≡ all_told h
    pub steps : (v : Vat) → Leads root_a root_b (seen w made told v) (core w v)

  -- ---- Of a scene

  module _ (l : Laws) (w : World) (facts : Facts w) (h : List JournalEntry) (ready : Ready w h) where
    pub midway : (v : Vat) → Midway (core w v) (core w (other_vat v)) (inbox w (other_vat v)) (inbox w v)
    midway v = l.joins (core w v) (core w (other_vat v)) (inbox w (other_vat v)) (inbox w v) (ready.inside v) (ready.inside (other_vat v)) (facts.across v)

    loop : (v : Vat) (c : DisembargoContext) → LoopIsLeft (core w v) c
    loop v (SenderLoopback e) = tt
    loop v (ReceiverLoopback e) = by (map.get (core w v).embargoes e.0) refl
      where
        by : (o : Option Embargo) → map.get (core w v).embargoes e.0 ≡ o → IfThere (λ (b : Embargo). IsOnlyEmbargo (core w v) e.0 b.reference.0 × (is_wire b.node ≡ false)) o
        by None f = tt
        by (Some b) f = let a = l.only (core w v) (ready.right v) in a.1 e.0 b f

    left : (v : Vat) (x : PlainMessage) → CancelsOnlyGivenUp (core w v) x → IsLeft (core w v) x
    left v (plain.Abort exception) i = tt
    left v (plain.Bootstrap q) i = tt
    left v (plain.Call c) i = tt
    left v (plain.Return r) i = i
    left v (plain.Finish f) i = tt
    left v (plain.Resolve r) i = tt
    left v (plain.Release r) i = tt
    left v (plain.Disembargo d) i = loop v d.context
    left v (plain.Other n) i = tt

    pub is_met : OfOldest (λ s other out rest x. IsMet s other out rest x) w
    is_met v x rest e = facts.met v x rest e (left v x (facts.given_up v x rest e))

    named : (v : Vat) → EmbargoesAreNamed (core w v)
    named v = let a = l.only (core w v) (ready.right v) in a.0

    -- What a step of v leaves.
    record Moved (v : Vat) (back : List Message) (x : Effects) (t : State) (k : List JournalEntry) : Type 0 where
      inside : Inside t
      right : EmbargoesAreRight t
      vat : t.vat ≡ v
      made : Ref → ℕ
      made_is : Counts made k
      told_is : ready.told ++ all_at v x.deliveries ≡ all_told k
      steps : Leads root_a root_b (record { vat = v; other = core w (other_vat v); out = inbox w (other_vat v) ++ x.sends; back = back; made = made; delivered = ready.told ++ all_at v x.deliveries }) t

    vat_stays : (s t : State) (c : Command) (g : Granted) (x : Effects) → Does s c g x t → t.vat ≡ s.vat
    vat_stays s t c g x d = by (call_or_not c)
      where
        by : (counts.IsNoCall c ⊎ ((y : CallCommand) × (c ≡ command.Call y))) → t.vat ≡ s.vat
        by (inl i) = (counts.does s c g x t i d).2
        by (inr y) = (counts.does_call s y.0 g x t (subst (λ b. Does s b g x t) y.1 d)).3.2

    commanded : (v : Vat) (c : Command) (g : Granted) (x : Effects) (t : State) → refused (core w v) c ≡ None → Does (core w v) c g x t → IsWhole t → Moved v (inbox w v) x t (h ++ command_entries h v c true (Answered (Ok g) x))
    commanded v c g x t f d whole =
        let s = core w v in
        let a = seen w ready.made ready.told v in
        let calls = (facts.whole v).callers.calls in
        let follows = l.commands a s c g x t (midway v) (named v) calls (ready.vat v) (facts.level v) f whole d in
        let last = behind (made_by a c) x in
        let same : made_by a c ≡ record a { made = (made_by a c).made } = made_as a c in
        record {
          inside = (l.splits t a.other (a.out ++ x.sends) a.back follows.2).0;
          right = l.commands_right s c g x t (ready.right v) d;
          vat = vat_stays s t c g x d ∙ ready.vat v;
          made = (made_by a c).made;
          made_is = commands_count h a s t c g x ready.made_is d;
          told_is = ap (λ (ds : List DeliveredAt). ds ++ all_at v x.deliveries) ready.told_is ∙ sym (commands_tell h v c g x);
          steps = more (ready.steps v) (chain.Commanded c g x d follows.0 follows.1 (sym (ap (λ (b : Around). behind b x) same)));
        }

    received : (v : Vat) (y : PlainMessage) (ms : List Message) (x : Effects) (t : State) → inbox w v ≡ message.Plain y ∷ ms → fault_of (core w v) (message.Plain y) ≡ None → Handles (core w v) (message.Plain y) x t → IsWhole t
        → Moved v ms x t (h ++ deliver_entries v (Handled x))
    received v y ms x t e f d whole =
        let s = core w v in
        let a = seen w ready.made ready.told v in
        let mid : Midway s a.other a.out (message.Plain y ∷ ms) = subst (λ (l : List Message). Midway s a.other a.out l) e (midway v) in
        let follows = l.messages a s y ms x t mid (facts.level v) f (is_met v y ms e) whole d in
        let inside_v = ready.inside v in
        record {
          inside = (l.splits t a.other (a.out ++ x.sends) ms follows.2).0;
          right = l.messages_right s (message.Plain y) x t (ready.right v) (λ k z g. (let b = inside_v.exports k z g in b.0)) f d;
          vat = (counts.handles s (message.Plain y) x t f d).2 ∙ ready.vat v;
          made = ready.made;
          made_is = messages_count h v ready.made x ready.made_is;
          told_is = ap (λ (ds : List DeliveredAt). ds ++ all_at v x.deliveries) ready.told_is ∙ sym (messages_tell h v x);
          steps = more (ready.steps v) (chain.Received (message.Plain y) ms x e d follows.0 follows.1 refl);
        }

    went_on : (v : Vat) (ms : List Message) (x : Effects) (t : State) (k : List JournalEntry) → Moved v ms x t k → Ready (after (put_inbox w v ms) v x t) k
    went_on A ms x t k m = record {
      inside = inside;
      right = right;
      vat = vat;
      made = m.made;
      told = ready.told ++ all_at A x.deliveries;
      made_is = m.made_is;
      told_is = m.told_is;
      steps = steps;
    }
      where
        new : World
        new = after (put_inbox w A ms) A x t

        inside : (v : Vat) → Inside (core new v)
        inside A = m.inside
        inside B = ready.inside B

        right : (v : Vat) → EmbargoesAreRight (core new v)
        right A = m.right
        right B = ready.right B

        vat : (v : Vat) → (core new v).vat ≡ v
        vat A = m.vat
        vat B = ready.vat B

        steps : (v : Vat) → Leads root_a root_b (seen new m.made (ready.told ++ all_at A x.deliveries) v) (core new v)
        steps A = m.steps
        steps B = more m.steps (chain.Turns refl refl)
    went_on B ms x t k m = record {
      inside = inside;
      right = right;
      vat = vat;
      made = m.made;
      told = ready.told ++ all_at B x.deliveries;
      made_is = m.made_is;
      told_is = m.told_is;
      steps = steps;
    }
      where
        new : World
        new = after (put_inbox w B ms) B x t

        inside : (v : Vat) → Inside (core new v)
        inside A = ready.inside A
        inside B = m.inside

        right : (v : Vat) → EmbargoesAreRight (core new v)
        right A = ready.right A
        right B = m.right

        vat : (v : Vat) → (core new v).vat ≡ v
        vat A = ready.vat A
        vat B = m.vat

        steps : (v : Vat) → Leads root_a root_b (seen new m.made (ready.told ++ all_at B x.deliveries) v) (core new v)
        steps A = more m.steps (chain.Turns refl refl)
        steps B = m.steps

  -- Words that make no call and tell no delivery.
  words : (w : World) (h es : List JournalEntry) → MakesNone es → TellsNone es → Ready w h → Ready w (h ++ es)
  words w h es n t k = record {
    inside = k.inside;
    right = k.right;
    vat = k.vat;
    made = k.made;
    told = k.told;
    made_is = none_counts k.made h es n k.made_is;
    told_is = k.told_is ∙ sym (none_behind_all h es t);
    steps = k.steps;
  }

  -- ---- Scenes

  abbrev pub IsReady : Scene → Type 0
  IsReady x = Ready x.world x.journal

  last_words : (x : Scene) (v : Vat) (es : List JournalEntry) → MakesNone es → TellsNone es → IsReady x → IsReady (stopped x v es)
  last_words x A es n t k = words x.world x.journal es n t k
  last_words x B es n t k = words x.world x.journal es n t k

  core_took : (w : World) (v : Vat) (ms : List Message) (x : Effects) (t : State) → core (after (put_inbox w v ms) v x t) v ≡ t
  core_took w A ms x t = refl
  core_took w B ms x t = refl

  same_inbox : (w : World) (v : Vat) (x : Effects) (t : State) → after (put_inbox w v (inbox w v)) v x t ≡ after w v x t
  same_inbox w A x t = refl
  same_inbox w B x t = refl

  module _ (l : Laws) (facts : (x : Scene) → IsScene root_a root_b x → Facts x.world) where
    stepped : (x y : Scene) → Facts x.world → Facts y.world → Steps x y → IsReady x → IsReady y
    stepped x y now then (Commanded v c g told t over up f d w e) k =
        let whole : IsWhole t = subst IsWhole (acted x.world v told t) (subst (λ (z : Scene). IsWhole (core z.world v)) e (then.whole v)) in
        subst (λ (z : Scene). IsReady z) (sym e)
        (subst (λ (z : World). Ready z (x.journal ++ command_entries x.journal v c true (Answered (Ok g) told))) (same_inbox x.world v told t)
        (went_on l x.world now x.journal k v (inbox x.world v) told t _ (commanded l x.world now x.journal k v c g told t f d whole)))
    stepped x y now then (Received v m ms told t over up i f d w e) k =
        let p = now.plain v m ms i in
        let whole : IsWhole t = subst IsWhole (core_took x.world v ms told t) (subst (λ (z : Scene). IsWhole (core z.world v)) e (then.whole v)) in
        subst (λ (z : Scene). IsReady z) (sym e)
        (went_on l x.world now x.journal k v ms told t _
        (received l x.world now x.journal k v p.0 ms told t (i ∙ ap (λ (z : Message). z ∷ ms) p.1) (subst (λ (z : Message). fault_of (core x.world v) z ≡ None) p.1 f) (subst (λ (z : Message). Handles (core x.world v) z told t) p.1 d) whole))
    stepped x y now then (GivesUp v c over f m e) k =
        subst (λ (z : Scene). IsReady z) (sym e) (last_words x v (granted_entries x.journal v c granted.Done) (granted_none x.journal v c granted.Done (falls_no_call c m)) (granted_tell x.journal v c granted.Done) k)
    stepped x y now then (Stops v over e) k = subst (λ (z : Scene). IsReady z) (sym e) (last_words x v [] (λ r. refl) refl k)

    one_more : {y : Scene} {x : Scene} {z : Scene} → LeadsTo x z → Steps x y → LeadsTo y z
    one_more NoMore h = Then h NoMore
    one_more (Then k rest) h = Then k (one_more rest h)

    walk : (last x : Scene) → IsScene root_a root_b x → IsReady x → LeadsTo last x → IsReady last
    walk last x i k NoMore = k
    walk last x i k (Then {mid = mid} h rest) = let j = one_more i h in walk last mid j (stepped x mid (facts x i) (facts mid j) h k) rest

    starts : IsReady (begins root_a root_b)
    starts = record {
      inside = inside;
      right = right;
      vat = vat;
      made = λ r. 0;
      told = [];
      made_is = λ r. refl;
      told_is = refl;
      steps = steps;
    }
      where
        w : World
        w = new_world root_a root_b

        inside : (v : Vat) → Inside (core w v)
        inside A = (l.new_vats A B One One root_a root_b).0
        inside B = (l.new_vats B A One One root_b root_a).0

        right : (v : Vat) → EmbargoesAreRight (core w v)
        right A = l.new_right A One root_a
        right B = l.new_right B One root_b

        vat : (v : Vat) → (core w v).vat ≡ v
        vat A = refl
        vat B = refl

        steps : (v : Vat) → Leads root_a root_b (seen w (λ r. 0) [] v) (core w v)
        steps A = chain.Done
        steps B = more chain.Done (chain.Turns refl refl)

    of_scene : (x : Scene) → IsScene root_a root_b x → IsReady x
    of_scene x i = walk x (begins root_a root_b) NoMore starts i

    pub between : (x : Scene) → IsScene root_a root_b x → IsBetweenSteps root_a root_b x
    between x i =
        let k = of_scene x i in
        let f = facts x i in
        record {
          inside = k.inside;
          right = k.right;
          midway = midway l x.world f x.journal k;
          met = is_met l x.world f x.journal k;
          made = k.made;
          counts = k.made_is;
          steps = λ v. subst (λ (ds : List DeliveredAt). Leads root_a root_b (seen x.world k.made ds v) (core x.world v)) k.told_is (k.steps v);
        }
