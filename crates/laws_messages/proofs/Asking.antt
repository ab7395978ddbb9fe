-- A vat names an answer only while its question is asked and not finished: act by act, what it sends of a question is what
-- the session allows, with the names of its answer.
use Rattle.finite_maps.specs.Tally.{Map}
use Rattle.rpc_msg.specs.declared.ids.QuestionId.{QuestionId}
use Rattle.rpc_msg.specs.declared.parts.Descriptor.{Descriptor}
use Rattle.rpc_msg.specs.declared.parts.Descriptor.TheVariants as descriptor
use Rattle.rpc_msg.specs.declared.parts.Target.{Target}
use Rattle.rpc_msg.specs.declared.parts.Target.TheVariants.{ImportedCap, PromisedAnswer}
use Rattle.rpc_msg.specs.declared.exception.Exception.{Exception}
use Rattle.rpc_msg.specs.Messages.{descriptors_of_body, descriptors_of_resolved, descriptors_of_plain}
use Rattle.rpc_machine.specs.declared.node.Node.{Node}
use Rattle.rpc_machine.specs.declared.calls.Request.{Request}
use Rattle.rpc_machine.specs.declared.calls.Value.{Value}
use Rattle.rpc_machine.specs.declared.calls.Caller.{Caller}
use Rattle.rpc_machine.specs.declared.calls.Caller.TheVariants as caller
use Rattle.rpc_machine.specs.declared.calls.OwnCall.TheVariants as own
use Rattle.rpc_machine.specs.declared.command.Granted.{Granted}
use Rattle.rpc_machine.specs.declared.entries.Role.{Role}
use Rattle.rpc_machine.specs.declared.entries.Role.TheVariants as role
use Rattle.rpc_machine.specs.declared.entries.Finishing.{Finishing}
use Rattle.rpc_machine.specs.declared.entries.Finishing.TheVariants as finishing
use Rattle.rpc_machine.specs.declared.entries.Question.{Question}
use Rattle.rpc_machine.specs.declared.entries.AnswerEntry.{AnswerEntry}
use Rattle.rpc_machine.specs.declared.entries.Reference.{Reference}
use Rattle.rpc_machine.specs.State.{State}
use Rattle.rpc_machine.specs.Nodes.{settle}
use Rattle.rpc_machine.specs.Progress.{Progress, with_state, caps_of, numbers}
use Rattle.rpc_machine.specs.Commands.{counted}
use Rattle.rpc_machine.specs.Routing.{Asks}
use Rattle.rpc_machine.specs.Settling.{known, TellsPeer, Tells, ResolvesBy}
use Rattle.rpc_machine.specs.Advancing.{Embargoes}
use Rattle.laws_steps.specs.NodesThere.{Stands}
use Rattle.laws_steps.specs.Callers.{IsAskedFor}
use Rattle.rpc_machine.specs.Sweeping.{IsNotSent}
use Rattle.laws_acts.specs.Acts.{Act, Makes, Drops, AsksRoot, CallsOut, Keeps, Joins, Promises, Unsettles, Answers, Finishes, Heads, Turns, Delivers, Waits, Holds, Relays, Fails, Fixes, Settles, Reports, Resolves, NextArisen, Gone, Ends, Releases, Acts, NoMore, Then}
use Rattle.laws_acts.specs.Sent.{Ids, Noted, resolved_to, asks_sent, turn_sent, resolve_sent, end_sent, peer_sent, told_sent, releases_sent, sent_by, all_sent}
use Rattle.laws_runs.specs.Views.{only, IsReady, IsUsual}
use Rattle.laws_runs.proofs.Acted.{act as kept_ready}
use Rattle.laws_runs.proofs.Same.{fits}
use Rattle.laws_messages.specs.Mentions.{AllStand, wire, TargetStands, Names, AllName, AreNamed}
use Rattle.laws_messages.proofs.Described.{describes_all, named_back, resolved_named}
use Rattle.std.proofs.Common.{◌≡◌, ℕ, nat_eq, Bool, true, false, List, [], ◌∷◌, ◌++◌, Option, None, Some, refl, sym, ap, subst, ◌∙◌, append_assoc}
use Rattle.std.specs.FinMap as map
use Rattle.finite_maps.proofs.Tested.{equal}
use Rattle.laws_runs.specs.Questions.{Asker, Out, Sends}
use Rattle.laws_runs.specs.Names as mark
use Rattle.laws_runs.specs.Names.{Mark, IsAsking}
use Rattle.laws_runs.specs.Views as views
use Rattle.laws_messages.specs.Named.{target_marks, targets_marks, each_marks, says, marks}

-- ---- Lists

-- One after the other.
abbrev pub Marked : Asker Ids Ids → List (Mark Ids Ids) → Asker Ids Ids → Type 0
Marked v [] w = v ≡ w
Marked v (mark.Says m ∷ ms) w = (u : Asker Ids Ids) × Sends v m u × Marked u ms w
Marked v (mark.Names ∷ ms) w = IsAsking v × Marked v ms w

pub marked_then : (v u w : Asker Ids Ids) (xs ys : List (Mark Ids Ids)) → Marked v xs u → Marked u ys w → Marked v (xs ++ ys) w
marked_then v u w [] ys h k = subst (λ (z : Asker Ids Ids). Marked z ys w) (sym h) k
marked_then v u w (mark.Says m ∷ xs) ys h k = (h.0, h.1, marked_then h.0 u w xs ys h.2 k)
marked_then v u w (mark.Names ∷ xs) ys h k = (h.0, marked_then v u w xs ys h.1 k)

pub marks-append : (q : ℕ) (xs ys : List Noted) → marks q (xs ++ ys) ≡ marks q xs ++ marks q ys
marks-append q [] ys = refl
marks-append q (x ∷ xs) ys =
    let a = targets_marks q x.message in
    let b = each_marks q (descriptors_of_plain x.message) in
    let c = says (views.out_of q x.message x.lets) in
    let f = marks q xs in
    let g = marks q ys in
    ap (λ (l : List (Mark Ids Ids)). a ++ (b ++ (c ++ l))) (marks-append q xs ys)
    ∙ sym (append_assoc a (b ++ (c ++ f)) g ∙ ap (λ (l : List (Mark Ids Ids)). a ++ l) (append_assoc b (c ++ f) g ∙ ap (λ (l : List (Mark Ids Ids)). b ++ l) (append_assoc c f g)))

-- Only names, where that holds.
abbrev AreAsked : Type 0 → List (Mark Ids Ids) → Type 0
AreAsked K [] = Unit {0}
AreAsked K (mark.Names ∷ ms) = K × AreAsked K ms
AreAsked K (mark.Says m ∷ ms) = ⊥

asked_then : (K : Type 0) (xs ys : List (Mark Ids Ids)) → AreAsked K xs → AreAsked K ys → AreAsked K (xs ++ ys)
asked_then K [] ys h g = g
asked_then K (mark.Names ∷ xs) ys h g = (h.0, asked_then K xs ys h.1 g)
asked_then K (mark.Says m ∷ xs) ys h g = absurd h

names_first : (v w : Asker Ids Ids) (xs ys : List (Mark Ids Ids)) → AreAsked (IsAsking v) xs → Marked v ys w → Marked v (xs ++ ys) w
names_first v w [] ys h g = g
names_first v w (mark.Names ∷ xs) ys h g = (h.0, names_first v w xs ys h.1 g)
names_first v w (mark.Says m ∷ xs) ys h g = absurd h

-- The first message may name it; those behind it do not.
abbrev Nameless : ℕ → List Noted → Type 0
Nameless q [] = Unit {0}
Nameless q (x ∷ xs) = (targets_marks q x.message ≡ []) × (each_marks q (descriptors_of_plain x.message) ≡ []) × Nameless q xs

abbrev pub Sound : ℕ → Type 0 → List Noted → Type 0
Sound q K [] = Unit {0}
Sound q K (x ∷ xs) = AreAsked K (targets_marks q x.message) × AreAsked K (each_marks q (descriptors_of_plain x.message)) × Nameless q xs

says_first : (v w : Asker Ids Ids) (os ps : List (Out Ids Ids)) (ys : List (Mark Ids Ids)) → views.SendsAll v (os ++ ps) w → ((u : Asker Ids Ids) → views.SendsAll u ps w → Marked u ys w) → Marked v (says os ++ ys) w
says_first v w [] ps ys h f = f v h
says_first v w (m ∷ os) ps ys h f = (h.0, h.1, says_first h.0 w os ps ys h.2 f)

nameless : (q : ℕ) (xs : List Noted) (v w : Asker Ids Ids) → Nameless q xs → views.SendsAll v (views.outs q xs) w → Marked v (marks q xs) w
nameless q [] v w n h = h
nameless q (x ∷ xs) v w n h =
    names_first v w (targets_marks q x.message) _ (subst (AreAsked (IsAsking v)) (sym n.0) tt)
    (names_first v w (each_marks q (descriptors_of_plain x.message)) _ (subst (AreAsked (IsAsking v)) (sym n.1) tt)
    (says_first v w (views.out_of q x.message x.lets) (views.outs q xs) (marks q xs) h (λ u k. nameless q xs u w n.2 k)))

pub marked : (q : ℕ) (xs : List Noted) (v w : Asker Ids Ids) → Sound q (IsAsking v) xs → views.SendsAll v (views.outs q xs) w → Marked v (marks q xs) w
marked q [] v w n h = h
marked q (x ∷ xs) v w n h =
    names_first v w (targets_marks q x.message) _ n.0
    (names_first v w (each_marks q (descriptors_of_plain x.message)) _ n.1
    (says_first v w (views.out_of q x.message x.lets) (views.outs q xs) (marks q xs) h (λ u k. nameless q xs u w n.2 k)))

-- ---- What stands is asked

is_asking : (c : ℕ) (o : Option Question) → IsUsual o → IsAskedFor c o → IsAsking (views.asker_of o)
is_asking c None u h = absurd h
is_asking c (Some x) u h = by x.finish x.returned h.1 u
  where
    by : (f : Finishing) (r : Option _) → IsNotSent f → views.IsNotWaived f → IsAsking (views.asked_by (numbers x.given) f r)
    by finishing.Owed None n u = tt
    by finishing.Owed (Some r) n u = tt
    by finishing.Sent r n u = absurd n
    by finishing.Waived r n u = absurd u

module _ (s : State) (ready : (k : ℕ) → IsUsual (map.get s.questions k)) (q : ℕ) where
  abbrev pub Here : Type 0
  Here = IsAsking (views.asker_of (map.get s.questions q))

  one : (k : ℕ) (b : Bool) → nat_eq q k ≡ b → (c : ℕ) → IsAskedFor c (map.get s.questions k) → AreAsked Here (only b mark.Names)
  one k false e c h = tt
  one k true e c h = (subst (λ (j : ℕ). IsAsking (views.asker_of (map.get s.questions j))) (sym (equal q k e)) (is_asking c (map.get s.questions k) (ready k) h), tt)

  pub target_asked : (t : Target) → Stands s (wire t) → AreAsked Here (target_marks q t)
  target_asked (ImportedCap i) h = tt
  target_asked (PromisedAnswer k path) h = one k.0 (nat_eq q k.0) refl h.0 h.1

  named_asked : (ds : List Descriptor) → AreNamed s ds → AreAsked Here (each_marks q ds)
  named_asked [] h = tt
  named_asked (descriptor.None ∷ ds) h = named_asked ds h.1
  named_asked (descriptor.SenderHosted i ∷ ds) h = named_asked ds h.1
  named_asked (descriptor.SenderPromise i ∷ ds) h = named_asked ds h.1
  named_asked (descriptor.ReceiverHosted i ∷ ds) h = named_asked ds h.1
  named_asked (descriptor.ReceiverAnswer k path ∷ ds) h = asked_then Here (only (nat_eq q k.0) mark.Names) (each_marks q ds) (let a = h.0 in one k.0 (nat_eq q k.0) refl a.0 a.1) (named_asked ds h.1)

-- ---- Acts

abbrev Usual : Progress → Type 0
Usual d = (k : ℕ) → IsUsual (map.get d.state.questions k)

module _ (q : ℕ) where
  abbrev At : Progress → Type 0
  At d = IsAsking (views.asker_of (map.get d.state.questions q))

  asks : (from new : Progress) (k : ℕ) (role : Role) (t : Target) (r : Request) → Usual from → Stands from.state (wire t) → AllStand from.state r.caps → (h : Asks from k role t r new) → Sound q (At from) (asks_sent from new k role t r h)
  asks from new k role t r u there all h =
      let g = h.1 in
      (target_asked from.state u q t there, named_asked from.state u q g.0 (describes_all from.state r.caps g.0 g.1 all g.2), tt)

  turns : (d new : Progress) (r : ℕ) (x : Reference) (t : Option Target) (n : Node) (g : Granted) → Usual d → TargetStands d.state t → (h : Embargoes d r x t n g new) → Sound q (At d) (turn_sent d new r x t n g h)
  turns d new r x None n g u k h = tt
  turns d new r x (Some t) n g u k h = (target_asked d.state u q t k, tt, tt)

  tells_peer : (from new : Progress) (p : QuestionId) (v : Value) (o : Option AnswerEntry) → Usual from → AllStand from.state (caps_of v) → (h : TellsPeer from p v o new) → Sound q (At from) (peer_sent from new p v o h)
  tells_peer from new p v None u k h = tt
  tells_peer from new p v (Some a) u k h = (tt, named_asked from.state u q (descriptors_of_body h.0) (named_back from.state a.finished v h.0 h.1 h.2 k h.3), tt)

  tells : (from new : Progress) (who : Caller) (v : Value) → Usual from → AllStand from.state (caps_of v) → (h : Tells from who v new) → Sound q (At from) (told_sent from new who v h)
  tells from new (caller.Application c) v u all h = tt
  tells from new (caller.Peer p) v u all h = tells_peer from new p v (map.get from.state.answers p.0) u all h

  resolves : (d new : Progress) (i : ℕ) (x : Option Exception) (n : Node) → Usual d → Stands d.state (settle d.state n) → (h : ResolvesBy d i x n new) → Sound q (At d) (resolve_sent d new i x n h)
  resolves d new i x n u k h = (tt, named_asked d.state u q (descriptors_of_resolved (resolved_to d new i x n h)) (resolved_named d new i x n k h), tt)

  ends : (K : Type 0) (d : Progress) (k : ℕ) (x : Question) (f : Finishing) → Sound q K (end_sent d k x f)
  ends K d k x finishing.Owed = (tt, tt, tt)
  ends K d k x finishing.Sent = tt
  ends K d k x finishing.Waived = tt

  no_names : (xs : List (ℕ × ℕ)) → Nameless q (releases_sent xs)
  no_names [] = tt
  no_names (x ∷ xs) = (refl, refl, no_names xs)

  releases : (K : Type 0) (xs : List (ℕ × ℕ)) → Sound q K (releases_sent xs)
  releases K [] = tt
  releases K (x ∷ xs) = (tt, tt, no_names xs)

  sound : (d new : Progress) (a : Act d new) → Names a → Usual d → Sound q (At d) (sent_by a)
  sound d new (Makes n h) k u = tt
  sound d new (Drops r x there h) k u = tt
  sound d new (AsksRoot g h) k u = (tt, tt, tt)
  sound d new (CallsOut r x i p t there h) k u = asks (with_state d (record (counted d.state r x) { calls = map.insert (counted d.state r x).calls i (own.Direct (record { 0 = h.0 })) })) new h.0 (role.Direct (record { 0 = i })) t p u k.0 k.1 h.1
  sound d new (Keeps r x i o there free h) k u = tt
  sound d new (Joins w i b there h) k u = tt
  sound d new (Promises p free h) k u = tt
  sound d new (Unsettles p h) k u = tt
  sound d new (Answers t h) k u = tt
  sound d new (Finishes i h) k u = tt
  sound d new (Heads r x n there free h) k u = tt
  sound d new (Turns r x t n g there free h) k u = turns d new r x t n g u k h
  sound d new (Delivers w o h) k u = tt
  sound d new (Waits p calls w there h) k u = tt
  sound d new (Holds o x w there h) k u = tt
  sound d new (Relays p o t r h) k u = asks d new p (role.Relay o) t r u k.0 k.1 h
  sound d new (Fails o v h) k u = tt
  sound d new (Fixes p calls to there h) k u = tt
  sound d new (Settles o x v fit mid told there unknown f t h) k u =
      let same = fits d.state o x.caller x.waiting v fit mid f in
      let from : Progress = with_state d (known mid o x.caller x.waiting fit) in
      let still : Usual from = λ j. subst (λ (m : Map Question). IsUsual (map.get m j)) (sym same.ids.tables.questions) (u j) in
      subst (λ (m : Map Question). Sound q (IsAsking (views.asker_of (map.get m q))) (told_sent from told x.caller fit t)) same.ids.tables.questions (tells from told x.caller fit still k t)
  sound d new (Reports i v from there h) k u = tt
  sound d new (Resolves i told n h) k u = resolves d new i told (settle d.state n) u k h
  sound d new (NextArisen o v rest f h) k u = tt
  sound d new (Gone h) k u = tt
  sound d new (Ends p x there due h) k u = ends (At d) d p x x.finish
  sound d new (Releases h) k u = releases (At d) (map.entries d.released)

  pub acts : (last d : Progress) (list : Acts last d) → AllName list → IsReady d.state → Marked (views.asker_of (map.get d.state.questions q)) (marks q (all_sent list)) (views.asker_of (map.get last.state.questions q))
  acts last d NoMore n r = refl
  acts last d (Then {mid = mid} first rest) n r =
      let k = kept_ready d mid r first in
      let here = marked q (sent_by first) (views.asker_of (map.get d.state.questions q)) (views.asker_of (map.get mid.state.questions q)) (sound d mid first n.0 r.usual) (k.moves.asks q) in
      subst (λ (ms : List (Mark Ids Ids)). Marked (views.asker_of (map.get d.state.questions q)) ms (views.asker_of (map.get last.state.questions q))) (sym (marks-append q (sent_by first) (all_sent rest)))
      (marked_then _ (views.asker_of (map.get mid.state.questions q)) _ (marks q (sent_by first)) (marks q (all_sent rest)) here (acts last mid rest n.1 k.moves.ready))
