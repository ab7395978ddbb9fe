-- Each act gives exports by their nodes; a message gives none, and leaves each entry its node.
use Rattle.std.proofs.Common.{◌≡◌, ℕ, ◌-◌, nat_le, Bool, true, false, cond, nat_eq, List, [], ◌∷◌, ◌++◌, Option, None, Some, refl, sym, ap, subst, ◌∙◌, append_assoc}
use Rattle.std.specs.FinMap as map
use Rattle.finite_maps.specs.Tally.{Map}
use Rattle.rpc_msg.specs.declared.ids.QuestionId.{QuestionId}
use Rattle.rpc_msg.specs.declared.parts.Descriptor.{Descriptor}
use Rattle.rpc_msg.specs.declared.parts.Target.{Target}
use Rattle.rpc_msg.specs.declared.exception.Exception.{Exception}
use Rattle.rpc_msg.specs.declared.message.Return.{Return}
use Rattle.rpc_msg.specs.declared.message.ReturnBody.{ReturnBody}
use Rattle.rpc_msg.specs.declared.message.DisembargoContext.{DisembargoContext}
use Rattle.rpc_msg.specs.declared.message.DisembargoContext.TheVariants.{SenderLoopback, ReceiverLoopback}
use Rattle.rpc_msg.specs.declared.message.PlainMessage.{PlainMessage}
use Rattle.rpc_msg.specs.declared.message.PlainMessage.TheVariants as plain
use Rattle.rpc_msg.specs.Messages.{descriptors_of_body, descriptors_of_resolved, descriptors_of_plain}
use Rattle.rpc_machine.specs.declared.node.Node.{Node}
use Rattle.rpc_machine.specs.declared.node.Node.TheVariants as node
use Rattle.rpc_machine.specs.declared.calls.Request.{Request}
use Rattle.rpc_machine.specs.declared.calls.Value.{Value}
use Rattle.rpc_machine.specs.declared.calls.Value.TheVariants as value
use Rattle.rpc_machine.specs.declared.calls.Caller.{Caller}
use Rattle.rpc_machine.specs.declared.calls.Caller.TheVariants as caller
use Rattle.rpc_machine.specs.declared.entries.Role.{Role}
use Rattle.rpc_machine.specs.declared.entries.Finishing.{Finishing}
use Rattle.rpc_machine.specs.declared.entries.Finishing.TheVariants as finishing
use Rattle.rpc_machine.specs.declared.entries.Question.{Question}
use Rattle.rpc_machine.specs.declared.entries.AnswerEntry.{AnswerEntry}
use Rattle.rpc_machine.specs.declared.entries.Export.{Export}
use Rattle.rpc_machine.specs.State.{State}
use Rattle.rpc_machine.specs.Nodes.{settle}
use Rattle.rpc_machine.specs.Progress.{Progress, with_state, numbers}
use Rattle.rpc_machine.specs.Descriptors.{ExportedAs, Described, DescribesAll, take_all}
use Rattle.rpc_machine.specs.Flags.{give_back, lowered, lower_by, lower_each, obey}
use Rattle.rpc_machine.specs.Faults.{gave}
use Rattle.rpc_machine.specs.Routing.{Asks}
use Rattle.rpc_machine.specs.Collecting.{Goes, PromiseGoes, OutcomeGoes, ImportGoes, Collects, Tight, Loose}
use Rattle.laws_acts.proofs.Alone.{back_alone, all_alone, resolve_alone}
use Rattle.laws_runs.proofs.Same.{fits, tells_call}
use Rattle.laws_runs.proofs.EachAct.{OfActs, by_act}
use Rattle.laws_runs.proofs.Paid.{release_state}
use Rattle.rpc_machine.specs.declared.calls.KeptOutcome.{KeptOutcome}
use Rattle.rpc_machine.specs.Settling.{known, Fits, SaysBack, TellsPeer, Tells, ResolvesTo, ResolvesBy}
use Rattle.rpc_machine.specs.Sweeping.{got_of, finished_by, releases}
use Rattle.finite_maps.proofs.Tested.{equal, get_put, get_cut}
use Rattle.laws_acts.specs.Acts.{came, ComesTo, TurnsBy, Consumes, Acts, NoMore, Then}
use Rattle.laws_acts.specs.Sent.{Noted, resolved_to, asks_sent, resolve_sent, end_sent, peer_sent, told_sent, releases_sent, sent_by, all_sent, turned_sent, sent_at_once}
use Rattle.laws_runs.specs.Exports as export
use Rattle.laws_runs.specs.Exports.{Kind, Out}
use Rattle.laws_runs.specs.Views.{only}
use Rattle.laws_messages.specs.Views.{gives_in, resolves_in, outs_for}
use Rattle.laws_messages.specs.Kinds.{kind_given, IsOf, one_more, Grows, Stays}

-- ---- One after the other

grown : (x y z : Option Export) (ms ns : List Out) → Grows x ms y → Grows y ns z → Grows x (ms ++ ns) z
grown x y z [] ns h k = subst (λ (o : Option Export). Grows o ns z) (sym h) k
grown x y z (export.Give j ∷ ms) ns h k = (h.0, h.1, h.2, grown (Some (one_more h.0 x)) y z ms ns h.3 k)
grown x y z (export.Resolve ∷ ms) ns h k = grown x y z ms ns h k

pub outs-append : (e : ℕ) (xs ys : List Noted) → outs_for e (xs ++ ys) ≡ outs_for e xs ++ outs_for e ys
outs-append e [] ys = refl
outs-append e (x ∷ xs) ys =
    let a = resolves_in e x.message in
    let b = gives_in e (descriptors_of_plain x.message) in
    ap (λ (l : List Out). a ++ (b ++ l)) (outs-append e xs ys) ∙ sym (append_assoc a (b ++ outs_for e xs) (outs_for e ys) ∙ ap (λ (l : List Out). a ++ l) (append_assoc b (outs_for e xs) (outs_for e ys)))

-- ---- Descriptors

-- The entry of a node that is given once more.
as_one : (s : State) (n : Node) (i : ℕ) (o : Option Export) (new : State) → ExportedAs s n i o new → (new.exports ≡ map.insert s.exports i (one_more n o)) × IsOf n o
as_one s n i None new h = (ap (λ (t : State). t.exports) h.1, tt)
as_one s n i (Some x) new h = (ap (λ (t : State). t.exports) h.1, h.0)

exported : (e i : ℕ) (k : Kind) (s : State) (n : Node) (new : State) (ms : List Out) (last : Option Export) → kind_given n ≡ Some k → ExportedAs s n i (map.get s.exports i) new → Grows (map.get new.exports e) ms last → Grows (map.get s.exports e) (only (nat_eq e i) (export.Give k) ++ ms) last
exported e i k s n new ms last f h g = by (nat_eq e i) refl
  where
    one : (new.exports ≡ map.insert s.exports i (one_more n (map.get s.exports i))) × IsOf n (map.get s.exports i)
    one = as_one s n i (map.get s.exports i) new h

    is : map.get new.exports e ≡ cond (nat_eq e i) (Some (one_more n (map.get s.exports i))) (map.get s.exports e)
    is = ap (λ (m : Map Export). map.get m e) one.0 ∙ get_put s.exports i (one_more n (map.get s.exports i)) e

    by : (b : Bool) → nat_eq e i ≡ b → Grows (map.get s.exports e) (only b (export.Give k) ++ ms) last
    by false c = subst (λ (o : Option Export). Grows o ms last) (is ∙ ap (λ b. cond b (Some (one_more n (map.get s.exports i))) (map.get s.exports e)) c) g
    by true c =
        let j : map.get s.exports i ≡ map.get s.exports e = ap (map.get s.exports) (sym (equal e i c)) in
        let at : map.get new.exports e ≡ Some (one_more n (map.get s.exports e)) = is ∙ ap (λ b. cond b (Some (one_more n (map.get s.exports i))) (map.get s.exports e)) c ∙ ap (λ (o : Option Export). Some (one_more n o)) j in
        (n, f, subst (λ (o : Option Export). IsOf n o) j one.1, subst (λ (o : Option Export). Grows o ms last) at g)

again : (e i : ℕ) (k : Kind) (ds : List Descriptor) (ms : List Out) (x last : Option Export) → Grows x (only (nat_eq e i) (export.Give k) ++ (gives_in e ds ++ ms)) last → Grows x ((only (nat_eq e i) (export.Give k) ++ gives_in e ds) ++ ms) last
again e i k ds ms x last h = subst (λ (l : List Out). Grows x l last) (sym (append_assoc (only (nat_eq e i) (export.Give k)) (gives_in e ds) ms)) h

described : (e : ℕ) (s : State) (n : Node) (d : Descriptor) (new : State) (ds : List Descriptor) (ms : List Out) (last : Option Export) → Described s n d new → Grows (map.get new.exports e) (gives_in e ds ++ ms) last → Grows (map.get s.exports e) (gives_in e (d ∷ ds) ++ ms) last
described e s (node.Object o) d new ds ms last h g = rw h.1 (again e h.0 export.Hosted ds ms (map.get s.exports e) last (exported e h.0 export.Hosted s (node.Object o) new (gives_in e ds ++ ms) last refl h.2 g))
described e s (node.Promise p) d new ds ms last h g = rw h.1 (again e h.0 export.Promised ds ms (map.get s.exports e) last (exported e h.0 export.Promised s (node.Promise p) new (gives_in e ds ++ ms) last refl h.2 g))
described e s (node.Field o path) d new ds ms last h g = rw h.1 (again e h.0 export.Promised ds ms (map.get s.exports e) last (exported e h.0 export.Promised s (node.Field o path) new (gives_in e ds ++ ms) last refl h.2 g))
described e s (node.Import i) d new ds ms last h g = rw h.0 (subst (λ (t : State). Grows (map.get t.exports e) (gives_in e ds ++ ms) last) h.1 g)
described e s (node.Pipe q path) d new ds ms last h g = rw h.0 (subst (λ (t : State). Grows (map.get t.exports e) (gives_in e ds ++ ms) last) h.1 g)
described e s (node.Broken reason) d new ds ms last h g = rw h.0 (subst (λ (t : State). Grows (map.get t.exports e) (gives_in e ds ++ ms) last) h.1 g)

describes_all : (e : ℕ) (s : State) (ns : List Node) (ds : List Descriptor) (new : State) (ms : List Out) (last : Option Export) → DescribesAll s ns ds new → Grows (map.get new.exports e) ms last → Grows (map.get s.exports e) (gives_in e ds ++ ms) last
describes_all e s [] [] new ms last h g = subst (λ (t : State). Grows (map.get t.exports e) ms last) h g
describes_all e s [] (d ∷ ds) new ms last h g = absurd h
describes_all e s (n ∷ ns) [] new ms last h g = absurd h
describes_all e s (n ∷ ns) (d ∷ ds) new ms last h g = described e s (settle s n) d h.0 ds ms last h.1 (describes_all e h.0 ns ds new ms last h.2 g)

says : (e : ℕ) (s : State) (b : Bool) (v : Value) (said : ReturnBody) (ds : List Descriptor) (new : State) (ms : List Out) (last : Option Export) → SaysBack s b v said ds new → Grows (map.get new.exports e) ms last → Grows (map.get s.exports e) (gives_in e (descriptors_of_body said) ++ ms) last
says e s true v said ds new ms last h g = rw h.0 (subst (λ (t : State). Grows (map.get t.exports e) ms last) h.2 g)
says e s false (value.Exception x) said ds new ms last h g = rw h.0 (subst (λ (t : State). Grows (map.get t.exports e) ms last) h.2 g)
says e s false (value.Results payload caps) said ds new ms last h g = rw h.0 (describes_all e s caps ds new ms last h.1 g)

-- ---- Acts

goes : (d new : Progress) → Goes d new → new.state.exports ≡ d.state.exports
goes d new (PromiseGoes p l h) = rw h refl
goes d new (OutcomeGoes o l h) = rw h refl
goes d new (ImportGoes o l h) = rw h refl

collects : (new d : Progress) → Collects new d → new.state.exports ≡ d.state.exports
collects new d (Tight h) = refl
collects new d (Loose {mid = mid} g rest) = collects new mid rest ∙ goes d mid g

gives : (s : State) (ids : List ℕ) → (give_back s ids).exports ≡ s.exports
gives s ids = ap (λ (t : State). t.exports) (back_alone s ids)

module _ (e : ℕ) where
  abbrev Gave : Progress → Progress → List Noted → Type 0
  Gave d new sent = Grows (map.get d.state.exports e) (outs_for e sent) (map.get new.state.exports e)

  quiet : (d new : Progress) → new.state.exports ≡ d.state.exports → Gave d new []
  quiet d new h = ap (λ (m : Map Export). map.get m e) (sym h)

  asks : (d from new : Progress) (k : ℕ) (role : Role) (t : Target) (r : Request) → from.state.exports ≡ d.state.exports → (h : Asks from k role t r new) → Gave d new (asks_sent from new k role t r h)
  asks d from new k role t r same h =
      let g = h.1 in
      subst (λ (m : Map Export). Grows (map.get m e) (outs_for e (asks_sent from new k role t r h)) (map.get new.state.exports e)) same (describes_all e from.state r.caps g.0 g.1 [] (map.get new.state.exports e) g.2 (ap (λ (p : Progress). map.get p.state.exports e) (sym g.3)))

  skip : (b : Bool) (x last : Option Export) (ms : List Out) → Grows x ms last → Grows x (only b export.Resolve ++ ms) last
  skip true x last ms h = h
  skip false x last ms h = h

  tells_one : (d new : Progress) (i : ℕ) (n : Node) (h : ResolvesTo d i n new) → Grows (map.get d.state.exports e) (gives_in e (h.0 ∷ []) ++ []) (map.get new.state.exports e)
  tells_one d new i n h = described e d.state (settle d.state n) h.0 h.1 [] [] (map.get new.state.exports e) h.2 (ap (λ (p : Progress). map.get p.state.exports e) (sym h.3))

  resolves : (d new : Progress) (i : ℕ) (x : Option Exception) (n : Node) → (h : ResolvesBy d i x n new) → Gave d new (resolve_sent d new i x n h)
  resolves d new i x n h = skip (nat_eq e i) (map.get d.state.exports e) (map.get new.state.exports e) _ (by n h)
    where
      by : (n : Node) (h : ResolvesBy d i x n new) → Grows (map.get d.state.exports e) (gives_in e (descriptors_of_resolved (resolved_to d new i x n h)) ++ []) (map.get new.state.exports e)
      by (node.Object o) h = tells_one d new i (node.Object o) h
      by (node.Promise p) h = tells_one d new i (node.Promise p) h
      by (node.Field o path) h = tells_one d new i (node.Field o path) h
      by (node.Import k) h = tells_one d new i (node.Import k) h
      by (node.Pipe q path) h = tells_one d new i (node.Pipe q path) h
      by (node.Broken reason) h = ap (λ (p : Progress). map.get p.state.exports e) (sym h)

  tells_peer : (d new : Progress) (q : QuestionId) (v : Value) (o : Option AnswerEntry) → (h : TellsPeer d q v o new) → Gave d new (peer_sent d new q v o h)
  tells_peer d new q v None h = absurd h
  tells_peer d new q v (Some a) h =
      let g = h.4 in
      let left : (give_back g.0.state (numbers a.taken)).exports ≡ h.2.exports = gives g.0.state (numbers a.taken) ∙ collects g.0 (with_state d h.2) g.1 in
      says e d.state a.finished v h.0 h.1 h.2 [] (map.get new.state.exports e) h.3 (ap (λ (m : Map Export). map.get m e) (sym left) ∙ ap (λ (p : Progress). map.get p.state.exports e) (sym g.2))

  tells : (d new : Progress) (who : Caller) (v : Value) → (h : Tells d who v new) → Gave d new (told_sent d new who v h)
  tells d new (caller.Application c) v h = let same = tells_call d c.0 v (map.get d.state.calls c.0) new h in quiet d new same.0.exports
  tells d new (caller.Peer q) v h = tells_peer d new q v (map.get d.state.answers q.0) h

  settles : (d new told : Progress) (o : ℕ) (x : KeptOutcome) (v fit : Value) (mid : State) → Fits d.state o x.caller x.waiting v fit mid → (t : Tells (with_state d (known mid o x.caller x.waiting fit)) x.caller fit told) → new ≡ with_state told (known told.state o x.caller [] fit) → Gave d new (told_sent (with_state d (known mid o x.caller x.waiting fit)) told x.caller fit t)
  settles d new told o x v fit mid f t h =
      let from = with_state d (known mid o x.caller x.waiting fit) in
      let same = fits d.state o x.caller x.waiting v fit mid f in
      let k = tells from told x.caller fit t in
      let one = subst (λ (m : Map Export). Grows (map.get m e) (outs_for e (told_sent from told x.caller fit t)) (map.get told.state.exports e)) same.exports k in
      subst (λ (p : Progress). Grows (map.get d.state.exports e) (outs_for e (told_sent from told x.caller fit t)) (map.get p.state.exports e)) (sym h) one

  ends : (d new : Progress) (k : ℕ) (x : Question) (f : Finishing) → new ≡ finished_by d k x f → Gave d new (end_sent d k x f)
  ends d new k x f h = subst (λ (p : Progress). Gave d p (end_sent d k x f)) (sym h) (by f)
    where
      by : (f : Finishing) → Gave d (finished_by d k x f) (end_sent d k x f)
      by finishing.Owed = quiet d (with_state d (give_back d.state (got_of x.returned))) (gives d.state (got_of x.returned))
      by finishing.Sent = refl
      by finishing.Waived = refl

  all_released : (xs : List (ℕ × ℕ)) → outs_for e (releases_sent xs) ≡ []
  all_released [] = refl
  all_released (x ∷ xs) = all_released xs

  released : (d new : Progress) → new ≡ releases d → Gave d new (releases_sent (map.entries d.released))
  released d new h = subst (λ (ms : List Out). Grows (map.get d.state.exports e) ms (map.get new.state.exports e)) (sym (all_released (map.entries d.released)))
      (quiet d new (ap (λ (p : Progress). p.state.exports) h ∙ ap (λ (s : State). s.exports) (release_state d (map.entries d.released))))

  law : OfActs Gave
  law = record {
    quiet = λ d new same r s. quiet d new same.exports;
    asks = λ d from new k role t r same f s h. asks d from new k role t r same.exports h;
    asks_root = λ d new g h. ap (λ (p : Progress). map.get p.state.exports e) (sym h.3);
    turns = λ d new x same r s. quiet d new same.exports;
    settles = λ d new told o x v fit mid there unknown f t h. settles d new told o x v fit mid f t h;
    resolves = λ d new i x n h. resolves d new i x n h;
    goes = λ d new h. quiet d new (goes d new h);
    ends = λ d new q x there due h. ends d new q x x.finish h;
    releases = λ d new h. released d new h;
  }

pub acts : (last d : Progress) (list : Acts last d) (e : ℕ) → Grows (map.get d.state.exports e) (outs_for e (all_sent list)) (map.get last.state.exports e)
acts last d NoMore e = refl
acts last d (Then {mid = mid} one rest) e = subst (λ (ms : List Out). Grows (map.get d.state.exports e) ms (map.get last.state.exports e)) (sym (outs-append e (sent_by one) (all_sent rest)))
    (grown (map.get d.state.exports e) (map.get mid.state.exports e) (map.get last.state.exports e) (outs_for e (sent_by one)) (outs_for e (all_sent rest)) (by_act (law e) d mid one) (acts last mid rest e))

-- ---- Messages

pub stays_same : (o : Option Export) → Stays o o
stays_same None = refl
stays_same (Some x) = refl

stays_then : (x y z : Option Export) → Stays x y → Stays y z → Stays x z
stays_then None y z h k = subst (λ (o : Option Export). Stays o z) h k
stays_then (Some x) None None h k = tt
stays_then (Some x) None (Some z) h k = absurd (let bad : Some z ≡ None = k in cc)
stays_then (Some x) (Some y) None h k = tt
stays_then (Some x) (Some y) (Some z) h k = k ∙ h

pub lowers : (m : Map Export) (i n e : ℕ) → Stays (map.get m e) (map.get (lower_by m i n) e)
lowers m i n e = by (map.get m i) refl
  where
    by : (o : Option Export) → map.get m i ≡ o → Stays (map.get m e) (map.get (lowered m i n o) e)
    by None f = stays_same (map.get m e)
    by (Some x) f = at (nat_le x.count n)
      where
        goes_at : (b : Bool) → Stays (map.get m e) (cond b None (map.get m e))
        goes_at false = stays_same (map.get m e)
        goes_at true = gone (map.get m e)
          where
            gone : (o : Option Export) → Stays o None
            gone None = refl
            gone (Some y) = tt

        here : (b : Bool) → nat_eq e i ≡ b → Stays (map.get m e) (cond b (Some (record x { count = x.count - n })) (map.get m e))
        here false c = stays_same (map.get m e)
        here true c = subst (λ (o : Option Export). Stays o (Some (record x { count = x.count - n }))) (sym (ap (map.get m) (equal e i c) ∙ f)) refl

        at : (b : Bool) → Stays (map.get m e) (map.get (cond b (map.remove m i) (map.insert m i (record x { count = x.count - n }))) e)
        at true = subst (λ (o : Option Export). Stays (map.get m e) o) (sym (get_cut m i e)) (goes_at (nat_eq e i))
        at false = subst (λ (o : Option Export). Stays (map.get m e) o) (sym (get_put m i (record x { count = x.count - n }) e)) (here (nat_eq e i) refl)

lowers_each : (m : Map Export) (ids : List ℕ) (e : ℕ) → Stays (map.get m e) (map.get (lower_each m ids) e)
lowers_each m [] e = stays_same (map.get m e)
lowers_each m (i ∷ ids) e = stays_then (map.get m e) (map.get (lower_by m i 1) e) (map.get (lower_each (lower_by m i 1) ids) e) (lowers m i 1 e) (lowers_each (lower_by m i 1) ids e)

pub obeys : (s : State) (b : Bool) (ids : List ℕ) (e : ℕ) → Stays (map.get s.exports e) (map.get (obey s b ids).exports e)
obeys s true ids e = lowers_each s.exports ids e
obeys s false ids e = stays_same (map.get s.exports e)

pub takes : (s : State) (ds : List Descriptor) → (take_all s ds).exports ≡ s.exports
takes s ds = ap (λ (t : State). t.exports) (all_alone s ds)

-- The exports are the same afterwards.
stay : (d first : Progress) (e : ℕ) → first.state.exports ≡ d.state.exports → Stays (map.get d.state.exports e) (map.get first.state.exports e)
stay d first e h = subst (λ (m : Map Export). Stays (map.get d.state.exports e) (map.get m e)) (sym h) (stays_same (map.get d.state.exports e))

comes : (d new : Progress) (r : Return) (x : Question) (f : Finishing) (e : ℕ) → ComesTo d r x f new → Stays (map.get d.state.exports e) (map.get new.state.exports e)
comes d new r x f e h = subst (λ (m : Map Export). Stays (map.get d.state.exports e) (map.get m e)) (sym (by f h)) c
  where
    c : Stays (map.get d.state.exports e) (map.get (came d.state r x).exports e)
    c = subst (λ (m : Map Export). Stays (map.get m e) (map.get (came d.state r x).exports e)) (takes d.state (descriptors_of_body r.body)) (obeys (take_all d.state (descriptors_of_body r.body)) r.release_param_caps (numbers x.given) e)

    by : (f : Finishing) → ComesTo d r x f new → new.state.exports ≡ (came d.state r x).exports
    by finishing.Sent h = rw h refl
    by finishing.Owed h = rw h refl
    by finishing.Waived h = rw h refl

turned : (d new : Progress) (c : DisembargoContext) (e : ℕ) (h : TurnsBy d c new) → Stays (map.get d.state.exports e) (map.get new.state.exports e) × (outs_for e (turned_sent d new c h) ≡ [])
turned d new (SenderLoopback x) e h = (stay d new e (rw h.1 refl), refl)
turned d new (ReceiverLoopback x) e h = (stay d new e (rw h.2 refl), refl)

pub consumes : (d first : Progress) (m : PlainMessage) (h : Consumes m d first) (e : ℕ) → Stays (map.get d.state.exports e) (map.get first.state.exports e) × (outs_for e (sent_at_once d first m h) ≡ [])
consumes d first (plain.Abort x) h e = absurd h
consumes d first (plain.Bootstrap q) h e = (stay d first e (rw h.3 refl), refl)
consumes d first (plain.Call c) h e = (stay d first e (ap (λ (p : Progress). p.state.exports) h.3 ∙ takes d.state c.descriptors), refl)
consumes d first (plain.Return r) h e = let x = h.0 in (comes d first r x x.finish e h.3, refl)
consumes d first (plain.Finish f) h e = let a = h.0 in (subst (λ (p : Progress). Stays (map.get d.state.exports e) (map.get p.state.exports e)) (sym h.3) (obeys d.state f.release_result_caps (gave a.returned) e), refl)
consumes d first (plain.Resolve r) h e = (stay d first e (ap (λ (p : Progress). p.state.exports) h ∙ ap (λ (t : State). t.exports) (resolve_alone d.state r.promise.0 r.to)), refl)
consumes d first (plain.Release r) h e = (subst (λ (p : Progress). Stays (map.get d.state.exports e) (map.get p.state.exports e)) (sym h) (lowers d.state.exports r.export.0 r.count e), refl)
consumes d first (plain.Disembargo x) h e = turned d first x.context e h
consumes d first (plain.Other n) h e = (stay d first e (rw h refl), refl)
