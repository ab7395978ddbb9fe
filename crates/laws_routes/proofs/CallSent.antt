-- A call is sent over a wire.
use Rattle.std.specs.FinMap as map
use Rattle.std.proofs.Common.{◌≡◌, ℕ, ◌+◌, Bool, nat_eq, false, List, [], ◌∷◌, ◌++◌, append_assoc, Option, None, Some, IsSome, refl, sym, ap, ap₂, subst, ◌∙◌, arith, true}
use Rattle.finite_maps.specs.Tally.{Map}
use Rattle.finite_maps.proofs.Tested.{at_put}
use Rattle.rpc_msg.specs.declared.ids.Vat.{Vat}
use Rattle.rpc_msg.specs.declared.parts.Target.{Target}
use Rattle.rpc_msg.specs.declared.parts.Descriptor.{Descriptor}
use Rattle.rpc_msg.specs.declared.message.PlainMessage.TheVariants as plain
use Rattle.rpc_msg.specs.declared.message.Message.TheVariants as message
use Rattle.rpc_msg.specs.declared.message.Message as rpc
use Rattle.rpc_msg.specs.Messages.{given}
use Rattle.rpc_msg.specs.Vats.{other_vat}
use Rattle.rpc_journal.specs.History.{caller}
use Rattle.rpc_machine.specs.declared.node.Node.{Node}
use Rattle.rpc_machine.specs.declared.node.Node.TheVariants as node
use Rattle.rpc_machine.specs.declared.calls.Request.{Request}
use Rattle.rpc_machine.specs.declared.calls.KeptOutcome.{KeptOutcome}
use Rattle.rpc_machine.specs.declared.calls.Promise.{Promise}
use Rattle.rpc_machine.specs.declared.entries.Role.{Role}
use Rattle.rpc_machine.specs.declared.entries.Finishing.TheVariants as finishing
use Rattle.rpc_machine.specs.declared.entries.Reference.{Reference}
use Rattle.rpc_machine.specs.declared.entries.Embargo.{Embargo}
use Rattle.rpc_machine.specs.declared.entries.Export.{Export}
use Rattle.rpc_machine.specs.declared.entries.Import.{Import}
use Rattle.rpc_machine.specs.declared.entries.Question.{Question}
use Rattle.rpc_machine.specs.State.{State}
use Rattle.rpc_machine.specs.Nodes.{link, is_wire, is_pipe}
use Rattle.rpc_machine.specs.Progress.{Progress, export_ids}
use Rattle.rpc_machine.specs.Descriptors.{export_node}
use Rattle.rpc_machine.specs.Routing.{Asks}
use Rattle.laws_steps.specs.Settled.{IsThere}
use Rattle.laws_order.specs.Machine.{Kind, Message, Net, Call, changed, same_vat}
use Rattle.laws_order.specs.Machine as routing
use Rattle.laws_order.specs.Routing as route
use Rattle.laws_order.proofs.Choices.{changed_here, changed_other}
use Rattle.laws_routes.specs.Points.{Point, vat_of, end, routes}
use Rattle.laws_routes.specs.Ghosts.{Ghost, point, far, with_at, ref_at, asked}
use Rattle.laws_routes.specs.Sides.{Side, IsLinked, HasHead, IsRef, HasEmbargo, Ids}
use Rattle.laws_routes.specs.Views.{View, Reader, reader, IsExportAs, IsImportOf, IsSession, past, shapes, shapes_of, target_point, sessions_at}
use Rattle.laws_routes.specs.Ties.{Around, Ghosts, Tied, TiedBy}
use Rattle.laws_routes.specs.Premises.{Unnamed, MayAsk, EachOpen}
use Rattle.laws_routes.proofs.Differing.{ends_differ, with_here, with_other}
use Rattle.laws_routes.proofs.ExportsGrown.{Grown, described_all}
use Rattle.laws_routes.proofs.LinkShapes.{past_more, shapes_more, shapes_of_more, past_same, shapes_same, open_map, shapes_exports, cap_map}
use Rattle.laws_routes.proofs.NewPoints.{asked_own, asked_point}
use Rattle.laws_routes.proofs.UnbornKept.{unborn_asked, unborn_later}
use Rattle.laws_routes.specs.Named.{EachReturn, LinksMet}
use Rattle.laws_routes.specs.KnownLaws.{StillThere}
use Rattle.laws_routes.specs.Sayings.{AllSaid, Has, bare, has_of, is_waiting}
use Rattle.laws_routes.proofs.KnownKept.{known_as_asked}
use Rattle.laws_routes.proofs.LinkShapes.{all_opens}
use Rattle.laws_routes.proofs.SayingsCarried.{all_there, each_return, return_map, said_as_exported, said_as_given, said_is_sent, said_of_fewer}
use Rattle.finite_maps.proofs.Tested.{get_other}

-- ---- A new session, of a question that nothing names

same_far : (v : Vat) (g : Ghost) (q i : ℕ) (n : Node) → is_pipe q n ≡ false → far v (asked g q i) n ≡ far v g n
same_far v g q i (node.Object o) h = refl
same_far v g q i (node.Promise p) h = refl
same_far v g q i (node.Field o path) h = refl
same_far v g q i (node.Import e) h = refl
same_far v g q i (node.Pipe k path) h = ap (λ (z : ℕ). far v (record g { session = λ j. z }) (node.Pipe k path)) (with_other g.session q i k.0 h)
same_far v g q i (node.Broken reason) h = refl

same_head : (v : Vat) (g : Ghost) (q i : ℕ) (n : Node) (dead : Bool) (head : Point) → is_pipe q n ≡ false → HasHead v g n dead head → HasHead v (asked g q i) n dead head
same_head v g q i (node.Object o) dead head h k = k
same_head v g q i (node.Promise p) dead head h k = k
same_head v g q i (node.Field o path) dead head h k = k
same_head v g q i (node.Import e) dead head h k = k
same_head v g q i (node.Pipe j path) dead head h k = (k.0, k.1 ∙ sym (asked_point v g q i (node.Pipe j path) h))
same_head v g q i (node.Broken reason) dead head h k = k

pub ids_up : (v : Vat) (ps : Map Promise) (os : Map KeptOutcome) (pi oi : ℕ → ℕ) (stop : Point → Point) (kind : Point → Kind routes) (next : ℕ) → Ids v ps os pi oi stop kind next → Ids v ps os pi oi stop kind (next + 1)
ids_up v ps os pi oi stop kind next h = record {
  of_promises = λ p i. (let a = h.of_promises p i in omega arith);
  of_outcomes = λ o i. (let a = h.of_outcomes o i in omega arith);
  promises_differ = h.promises_differ;
  outcomes_differ = h.outcomes_differ;
  new_promises = λ i l. h.new_promises i (omega (arith, l));
  new_outcomes = λ i path l. h.new_outcomes i path (omega (arith, l));
}

-- More on the links, and other exports and questions, are of no account to a side.
pub asked_side : (v : Vat) (s : State) (g : Ghost) (next q : ℕ) (m : routing.State routes) (E : Map Export) (Q : Map Question) (links : Bool → List (Message routes)) → Unnamed s (is_pipe q) → Side v s g next m
    → Side v (record s { exports = E; questions = Q }) (asked g q next) (next + 1) (record m { net = record (m.net) { links = links } })
asked_side v s g next q m E Q links un h = record {
  stops = λ k w i. linked k w (link s k) (un.links k) i refl (h.stops k w i);
  refs = λ r. ref r (map.get s.refs r) refl (h.refs r);
  embargoes = λ e. embargo e (map.get s.embargoes e) refl (h.embargoes e);
  no_other_embargoes = h.no_other_embargoes;
  lists = h.lists;
  ids = ids_up v s.promises s.outcomes g.promise g.outcome m.net.stop m.net.kind next h.ids;
}
  where
    linked : (k : Node) → is_wire k ≡ false → (o : Option Node) → ((j : Node) → IsThere s k → link s k ≡ Some j → is_pipe q j ≡ false) → IsThere s k → link s k ≡ o → IsLinked v g m.net k o → IsLinked v (asked g q next) m.net k o
    linked k w None f i e a = rw (asked_own v g q next k w) a
    linked k w (Some j) f i e a = rw (asked_own v g q next k w) (rw (asked_point v g q next j (f j i e)) (rw (same_far v g q next j (f j i e)) a))

    ref : (r : ℕ) (o : Option Reference) → map.get s.refs r ≡ o → IsRef v g s.next_ref r o (m.refs (ref_at v r)) → IsRef v (asked g q next) s.next_ref r o (m.refs (ref_at v r))
    ref r None e a = a
    ref r (Some x) e a = (a.0, a.1, a.2, same_head v g q next x.head _ _ (un.heads r x e) a.3, a.4)

    embargo : (e : ℕ) (o : Option Embargo) → map.get s.embargoes e ≡ o → HasEmbargo v g m o → HasEmbargo v (asked g q next) m o
    embargo e None f a = tt
    embargo e (Some b) f a = (a.0, a.1, a.2, a.3, a.4, a.5 ∙ sym (asked_point v g q next b.node (un.embargoes e b f)))

pub linked_side : (u : Vat) (t : State) (f : Ghost) (next : ℕ) (m : routing.State routes) (links : Bool → List (Message routes)) → Side u t f next m → Side u t f (next + 1) (record m { net = record (m.net) { links = links } })
linked_side u t f next m links h = record {
  stops = h.stops;
  refs = h.refs;
  embargoes = h.embargoes;
  no_other_embargoes = h.no_other_embargoes;
  lists = h.lists;
  ids = ids_up u t.promises t.outcomes f.promise f.outcome m.net.stop m.net.kind next h.ids;
}

-- ---- The link gets one more call

abbrev IsSomeExport : Option Export → Type 0
IsSomeExport o = IsSome o

-- An import stands for what it stood for where exports only grow.
pub import_still : (v : Vat) (g : Ghost) (q i : ℕ) (E F : Map Export) (e : ℕ) (x : Point) (o : Option Import) → Grown E F → ((y : Export) → map.get E e ≡ Some y → is_wire y.node ≡ false) → IsImportOf v g x (map.get E e) o → IsImportOf v (asked g q i) x (map.get F e) o
import_still v g q i E F e x None grown own h = tt
import_still v g q i E F e x (Some j) grown own h = by (map.get E e) refl h
  where
    by : (o : Option Export) → map.get E e ≡ o → IsExportAs v g x o → IsExportAs v (asked g q i) x (map.get F e)
    by None f k = absurd k
    by (Some y) f k =
        let z = grown.still e y f in
        subst (IsExportAs v (asked g q i) x) (sym z.1) (k ∙ (sym (asked_own v g q i y.node (own y f)) ∙ ap (point v (asked g q i)) (sym z.2)))

pub point_still : (v : Vat) (g : Ghost) (q i : ℕ) (E F : Map Export) (e : ℕ) → Grown E F → ((y : Export) → map.get E e ≡ Some y → is_wire y.node ≡ false) → IsSome (map.get E e)
    → point v (asked g q i) (export_node (map.get F e)) ≡ point v g (export_node (map.get E e))
point_still v g q i E F e grown own h = by (map.get E e) refl h
  where
    by : (o : Option Export) → map.get E e ≡ o → IsSomeExport o → point v (asked g q i) (export_node (map.get F e)) ≡ point v g (export_node o)
    by None f k = cc
    by (Some y) f k =
        let z = grown.still e y f in
        ap (λ o. point v (asked g q i) (export_node o)) z.1 ∙ (ap (point v (asked g q i)) z.2 ∙ asked_own v g q i y.node (own y f))

module _ (w : Around) (s : State) (sends : List rpc.Message) (g : Ghosts) (m : routing.State routes) (q : ℕ) (r : Request) (to : Point) (target : Target) (ids : List Descriptor) (x : Question) (E : Map Export) where
  abbrev now : ℕ → ℕ
  now = sessions_at g.theirs.outcome (w.other).answers

  abbrev out : List rpc.Message
  out = w.out ++ sends

  abbrev call : rpc.Message
  call = message.Plain (plain.Call (record { question = record { 0 = q }; target = target; interface = r.interface; method = r.method; payload = r.payload; descriptors = ids; stamp = r.stamp }))

  abbrev then : Ghost
  then = asked g.own q g.next

  abbrev msg : Message routes
  msg = record { target = to; ref = caller r.stamp; what = Call r.stamp.index }

  abbrev after : State
  after = record s { exports = E; questions = map.insert s.questions q x }

  abbrev sent : routing.State routes
  sent = record m { net = route.onto_link m.net msg }

  asks_view : View w.vat (other_vat w.vat) s g.own w.other g.theirs out m → MayAsk s out w.back q → vat_of to ≡ other_vat w.vat
      → target_point (other_vat w.vat) (w.other).exports g.theirs (past g.own now out) target ≡ to
      → View w.vat (other_vat w.vat) after then w.other g.theirs (w.out ++ (sends ++ call ∷ [])) sent
  asks_view h may at reads = record {
    imports = h.imports;
    sessions = λ k. subst (λ (z : ℕ → ℕ). IsSession (then.session k) (z k) (map.get (map.insert s.questions q x) k)) (sym known)
        (at_put (λ k o. IsSession (then.session k) (with_at (past g.own now out) q (then.session q) k) o) s.questions q x (λ z. with_here (past g.own now out) q (then.session q))
        (λ k n. subst (λ (a : ℕ). IsSession a (with_at (past g.own now out) q (then.session q) k) (map.get s.questions k)) (sym (with_other g.own.session q g.next k n))
        (subst (λ (a : ℕ). IsSession (g.own.session k) a (map.get s.questions k)) (sym (with_other (past g.own now out) q (then.session q) k n)) (h.sessions k))) k);
    link =
        ap (shapes w.vat u then reads_by now) assoc
        ∙ (shapes_more w.vat u then reads_by now out call
        ∙ (ap₂ (λ a b. a ++ b) (shapes_same w.vat u g.own then reads_by now out none ∙ h.link)
        (ap (λ z. record { target = Some z; ref = caller r.stamp; what = Call r.stamp.index } ∷ []) (ap (λ z. target_point u (w.other).exports g.theirs z target) same ∙ reads))
        ∙ (sym (shapes_of_more (m.net.links (end u)) msg) ∙ ap shapes_of (sym onto))));
  }
    where
      u : Vat
      u = other_vat w.vat

      reads_by : Reader
      reads_by = reader s w.other g.theirs

      assoc : w.out ++ (sends ++ call ∷ []) ≡ out ++ call ∷ []
      assoc = sym (append_assoc w.out sends (call ∷ []))

      none : EachOpen (λ k. then.session k ≡ g.own.session k) out
      none = open_map (λ k. nat_eq k q ≡ false) (λ k. then.session k ≡ g.own.session k) out (λ k n. with_other g.own.session q g.next k n) may.not_open

      same : past then now out ≡ past g.own now out
      same = past_same g.own then now out none

      known : past then now (w.out ++ (sends ++ call ∷ [])) ≡ with_at (past g.own now out) q (then.session q)
      known = ap (past then now) assoc ∙ (past_more then now out call ∙ ap (λ z. with_at z q (then.session q)) same)

      onto : sent.net.links (end u) ≡ m.net.links (end u) ++ msg ∷ []
      onto = ap (λ a. changed same_vat m.net.links (end a) (m.net.links (end a) ++ msg ∷ []) (end u)) at ∙ changed_here same_vat m.net.links (end u) (m.net.links (end u) ++ msg ∷ [])

  asks_back : View (other_vat w.vat) w.vat w.other g.theirs s g.own w.back m → MayAsk s out w.back q → vat_of to ≡ other_vat w.vat → Grown s.exports E
      → View (other_vat w.vat) w.vat w.other g.theirs after then w.back sent
  asks_back h may at grown = record {
    imports = λ e. import_still w.vat g.own q g.next s.exports E e (g.theirs.import e) (map.get (w.other).imports e) grown (may.own e) (h.imports e);
    sessions = h.sessions;
    link =
        shapes_exports u w.vat g.theirs (reader w.other s g.own) E then (sessions_at g.own.outcome s.answers) w.back
        (cap_map (λ e. IsSome (map.get s.exports e)) _ w.back (λ e i. point_still w.vat g.own q g.next s.exports E e grown (may.own e) i) may.met)
        ∙ (h.link ∙ ap shapes_of (sym other));
  }
    where
      u : Vat
      u = other_vat w.vat

      other : sent.net.links (end w.vat) ≡ m.net.links (end w.vat)
      other = changed_other same_vat m.net.links (end (vat_of to)) (m.net.links (end (vat_of to)) ++ msg ∷ []) (end w.vat) (λ e. ends_differ w.vat (sym (e ∙ ap end at)))

-- ---- What is said on the way

module _ (v u : Vat) (s other : State) (g f : Ghost) (n : Net routes) (q i : ℕ) (own : (e : ℕ) (x : Export) → map.get s.exports e ≡ Some x → is_wire x.node ≡ false) where
  own_same : (e : ℕ) → point v (asked g q i) (export_node (map.get s.exports e)) ≡ point v g (export_node (map.get s.exports e))
  own_same e = by (map.get s.exports e) refl
    where
      by : (o : Option Export) → map.get s.exports e ≡ o → point v (asked g q i) (export_node o) ≡ point v g (export_node o)
      by None k = refl
      by (Some x) k = asked_own v g q i x.node (own e x k)

  pub said_asked : (has : Has) (now : ℕ → ℕ) (out : List rpc.Message) → EachOpen (λ k. nat_eq k q ≡ false) out → AllSaid n v s.exports g u other.exports f has now out → AllSaid n v s.exports (asked g q i) u other.exports f has now out
  said_asked has now out free h = said_as_given n v s.exports g (asked g q i) u other.exports f f has now out own_same (λ e. refl) (open_map _ _ out (λ k a. with_other g.session q i k a) free) (each_return _ out (λ k. refl)) h

  pub said_back_asked : (has : Has) (now : ℕ → ℕ) (back : List rpc.Message) → EachReturn (λ k. nat_eq k q ≡ false) back → AllSaid n u other.exports f v s.exports g has now back → AllSaid n u other.exports f v s.exports (asked g q i) has now back
  said_back_asked has now back free h = said_as_given n u other.exports f f v s.exports g (asked g q i) has now back (λ e. refl) own_same (all_opens _ back (λ k. refl)) (return_map _ _ back (λ k a. with_other g.session q i k a) free) h

-- The new question counts for nothing that is on its way.
pub said_to_asker : (n : Net routes) (u : Vat) (F : Map Export) (f : Ghost) (v : Vat) (E : Map Export) (g : Ghost) (imports : Map Import) (questions : Map Question) (q : ℕ) (x : Question) (now : ℕ → ℕ) (back : List rpc.Message)
    → EachReturn (λ k. nat_eq k q ≡ false) back → AllSaid n u F f v E g (has_of [] imports questions) now back → AllSaid n u F f v E g (has_of [] imports (map.insert questions q x)) now back
said_to_asker n u F f v E g imports questions q x now back free h =
    said_of_fewer n u F f v E g (has_of [] imports questions) (has_of [] imports (map.insert questions q x)) now back (λ e a. a) (return_map _ _ back (λ k a b. subst (λ (o : Option Question). is_waiting o ≡ true) (get_other questions q x k a) b) free) h

-- The Call goes out, and the machine's call goes onto the link.
pub asks : (w : Around) (d : Progress) (g : Ghosts) (m : routing.State routes) (q : ℕ) (role : Role) (target : Target) (r : Request) (to : Point) (new : Progress) → Tied w d g m
    → MayAsk d.state (w.out ++ d.effects.sends) w.back q → LinksMet d.state w.other (w.out ++ d.effects.sends) w.back
    → vat_of to ≡ other_vat w.vat → target_point (other_vat w.vat) (w.other).exports g.theirs (past g.own (sessions_at g.theirs.outcome (w.other).answers) (w.out ++ d.effects.sends)) target ≡ to
    → Asks d q role target r new
    → (f : Ghosts) × Tied w new f (record m { net = route.onto_link m.net (record { target = to; ref = caller r.stamp; what = Call r.stamp.index }) })
    × ((f.own.promise ≡ g.own.promise) × (f.own.outcome ≡ g.own.outcome))
asks w d g m q role target r to new h may links at reads a =
    let b = a.1 in
    let s = d.state in
    let ids = b.0 in
    let mid = b.1 in
    let x : Question = record { role = role; given = export_ids (given ids); returned = None; finish = finishing.Owed } in
    let grown = described_all s r.caps ids mid b.2 in
    let E = grown.0 in
    let msg : Message routes = record { target = to; ref = caller r.stamp; what = Call r.stamp.index } in
    let m' : routing.State routes = record m { net = route.onto_link m.net msg } in
    let f : Ghosts = record { own = asked g.own q g.next; theirs = g.theirs; next = g.next + 1 } in
    let sends = d.effects.sends ++ call w s d.effects.sends g m q r to target ids x E ∷ [] in
    let v = w.vat in
    let u = other_vat v in
    let t = w.other in
    let n = bare m.net in
    let out = w.out ++ d.effects.sends in
    let has = has_of [] t.imports t.questions in
    let has_back = has_of [] s.imports s.questions in
    let now = sessions_at g.theirs.outcome t.answers in
    let now_back = sessions_at g.own.outcome s.answers in
    let grows = grown.2 in
    let still : StillThere s.exports E = grows.still in
    let same : StillThere t.exports t.exports = all_there t.exports in
    let goes = said_as_exported n v s.exports E f.own u t.exports t.exports g.theirs has now out still same links.0 (said_asked v u s t g.own g.theirs n q g.next may.own has now out may.not_open h.goes) in
    let comes = said_as_exported n u t.exports t.exports g.theirs v s.exports E f.own has_back now_back w.back same still links.1 (said_back_asked v u s t g.own g.theirs n q g.next may.own has_back now_back w.back may.not_returned h.comes) in
    let tied : TiedBy w [] (record s { exports = E; questions = map.insert s.questions q x }) sends d.effects.deliveries f m' = record {
      own = asked_side w.vat s g.own g.next q m E (map.insert s.questions q x) m'.net.links may.unnamed h.own;
      theirs = linked_side (other_vat w.vat) w.other g.theirs g.next m m'.net.links h.theirs;
      view = asks_view w s d.effects.sends g m q r to target ids x E h.view may at reads;
      back = asks_back w s d.effects.sends g m q r to target ids x E h.back may at grown.2;
      told = h.told;
      unborn = unborn_asked g.own.session q w.out d.effects.sends (call w s d.effects.sends g m q r to target ids x E) (other_vat w.vat) w.other g.theirs g.next m may.not_open refl h.theirs h.unborn;
      unborn_back = unborn_later h.unborn_back;
      known = λ l. known_as_asked v s g.own n q g.next E x a.0 refl may.unsaid (h.known l);
      known_there = h.known_there;
      goes = subst (AllSaid n v E f.own u t.exports g.theirs has now) (append_assoc w.out d.effects.sends (call w s d.effects.sends g m q r to target ids x E ∷ [])) (said_is_sent n v E f.own u t.exports g.theirs has now out (plain.Call (record { question = record { 0 = q }; target = target; interface = r.interface; method = r.method; payload = r.payload; descriptors = ids; stamp = r.stamp })) goes tt);
      comes = said_to_asker n u t.exports g.theirs v E f.own s.imports s.questions q x now_back w.back may.not_returned comes;
    } in
    rw b.3 (f, subst (λ (z : State). TiedBy w [] (record z { questions = map.insert z.questions q x }) sends d.effects.deliveries f m') (sym grown.1) tied, (refl, refl))
