-- What is on its way keeps meaning what it should.
use Rattle.std.specs.FinMap as map
use Rattle.std.proofs.Common.{◌≡◌, ◌⊎◌, inl, inr, ℕ, nat_eq, zero, suc, Bool, true, false, cond, arith, List, [], ◌∷◌, ◌++◌, Option, None, Some, IsSome, refl, sym, subst, ap, ◌∙◌, slice_get}
use Rattle.rpc_msg.specs.Op.{Op}
use Rattle.rpc_msg.specs.CapAt.{CapAt}
use Rattle.rpc_msg.specs.CapAt.TheVariants.{Cap, Null, NotCap}
use Rattle.finite_maps.specs.Tally.{Map}
use Rattle.rpc_msg.specs.declared.ids.Vat.{Vat}
use Rattle.rpc_msg.specs.declared.ids.Stamp.{Stamp}
use Rattle.rpc_msg.specs.declared.parts.Descriptor.{Descriptor}
use Rattle.rpc_msg.specs.declared.parts.Descriptor.TheVariants as descriptor
use Rattle.rpc_msg.specs.declared.parts.Target.{Target}
use Rattle.rpc_msg.specs.declared.parts.Target.TheVariants.{ImportedCap, PromisedAnswer}
use Rattle.rpc_msg.specs.declared.message.ResolvedTo.{ResolvedTo}
use Rattle.rpc_msg.specs.declared.message.ResolvedTo.TheVariants as resolved
use Rattle.rpc_msg.specs.declared.message.ReturnBody.{ReturnBody}
use Rattle.rpc_msg.specs.declared.message.ReturnBody.TheVariants as body
use Rattle.rpc_msg.specs.declared.message.PlainMessage.{PlainMessage}
use Rattle.rpc_msg.specs.declared.message.PlainMessage.TheVariants as plain
use Rattle.rpc_msg.specs.declared.message.Message.{Message}
use Rattle.rpc_msg.specs.declared.message.Message.TheVariants as message
use Rattle.rpc_msg.specs.Messages.{descriptors_of, descriptors_of_body, descriptors_of_resolved, given}
use Rattle.rpc_msg.specs.Paths.{fields}
use Rattle.rpc_journal.specs.declared.entry.JournalEntry.{JournalEntry}
use Rattle.rpc_journal.specs.History.{caller}
use Rattle.rpc_journal.specs.Sources.{Asking, OfBootstrap, OfCall}
use Rattle.rpc_journal.specs.Meaning.{History, Meaning, Broken, root_field}
use Rattle.rpc_machine.specs.Payloads.{cap_at}
use Rattle.rpc_machine.specs.declared.entries.Export.{Export}
use Rattle.laws_runs.specs.Meanings.{with_more}
use Rattle.laws_runs.proofs.Extends.{extends}
use Rattle.laws_runs.proofs.Grows.{same_bootstrap}
use Rattle.laws_routes.specs.Named.{AllMet, EachMet, EachReturn, NamesMet, ResolveMet, ReturnOf}
use Rattle.laws_routes.specs.Premises.{EachTargetCap, OfCap, TargetCap}
use Rattle.laws_routes.specs.QuietLaws.{AimsElsewhere, EachOff, IsOffAnswer, IsAsked, IsOffDescriptor, NoneAims, NoneNames, Unless, opens}
use Rattle.laws_routes.specs.Sayings.{Has, IsSilentPlain, SaidIfThere, has_behind, is_among}
use Rattle.laws_routes.proofs.SayingsCarried.{if_fewer, if_said, or_fewer}
use Rattle.laws_meanings.specs.NodeMeanings.{Meant, Itself, OfRef, field_meant, ByEnd, Leads}
use Rattle.laws_meanings.specs.NodeLabels.{LeadsTo, IsAnsweredOrBroken, field_label}
use Rattle.laws_meanings.specs.ReadMessages.{cap_read, place_read}
use Rattle.laws_meanings.proofs.Links.{links_last}
use Rattle.laws_wires.specs.Wires.{Session, Reader, read_label, target_label, resolved_label, CallMeans, ReturnMeans, ResolveMeans, MessageMeans, LinkMeans, has_past, past, past_one}
use Rattle.laws_wires.specs.WireLaws.{IsAlike, LinksAreClosed, LinksAreFewer, LinksAreJoined, LinksAreMet, LinksAreSent, LinksAreSentBack, LinksLive}

pub if_asked : (P Q : Type 0) (b : Bool) → (b ≡ true → P → Q) → SaidIfThere b P → SaidIfThere b Q
if_asked P Q true f h = f refl h
if_asked P Q false f h = tt

-- ---- One more message

module _ (h : History) (v : Vat) (x : Reader) where
  sent : (has : Has) (now : ℕ → Session) (ms : List Message) (m : PlainMessage) → LinkMeans h v x has now ms → MessageMeans h v x (has_past has ms) (past v now ms) m → LinkMeans h v x has now (ms ++ message.Plain m ∷ [])
  sent has now [] m l k = (k, tt)
  sent has now (message.Plain y ∷ ms) m l k = (l.0, sent (has_behind has (descriptors_of (message.Plain y))) (past_one v now (message.Plain y)) ms m l.1 k)
  sent has now (message.Unimplemented y ∷ ms) m l k = (l.0, sent has now ms m l.1 k)

  sent_back : (has : Has) (now : ℕ → Session) (ms : List Message) (m : PlainMessage) → LinkMeans h v x has now ms → IsSilentPlain m → LinkMeans h v x has now (ms ++ message.Unimplemented m ∷ [])
  sent_back has now [] m l k = (k, tt)
  sent_back has now (message.Plain y ∷ ms) m l k = (l.0, sent_back (has_behind has (descriptors_of (message.Plain y))) (past_one v now (message.Plain y)) ms m l.1 k)
  sent_back has now (message.Unimplemented y ∷ ms) m l k = (l.0, sent_back has now ms m l.1 k)

  -- ---- Fewer imports, fewer questions

  one_fewer : (has left : Has) (now : ℕ → Session) (m : PlainMessage) → ((e : ℕ) → left.import e ≡ true → has.import e ≡ true) → ReturnOf (λ q. left.question q ≡ true → has.question q ≡ true) m → MessageMeans h v x has now m → MessageMeans h v x left now m
  one_fewer has left now (plain.Abort exception) a r l = tt
  one_fewer has left now (plain.Bootstrap q) a r l = tt
  one_fewer has left now (plain.Call c) a r l = l
  one_fewer has left now (plain.Return y) a r l = if_fewer _ (has.question y.answer.0) (left.question y.answer.0) r l
  one_fewer has left now (plain.Finish y) a r l = tt
  one_fewer has left now (plain.Resolve y) a r l = if_fewer _ (has.import y.promise.0) (left.import y.promise.0) (a y.promise.0) l
  one_fewer has left now (plain.Release y) a r l = tt
  one_fewer has left now (plain.Disembargo y) a r l = tt
  one_fewer has left now (plain.Other k) a r l = tt

  fewer : (has left : Has) (now : ℕ → Session) (ms : List Message) → ((e : ℕ) → left.import e ≡ true → has.import e ≡ true) → EachReturn (λ q. left.question q ≡ true → has.question q ≡ true) ms → LinkMeans h v x has now ms → LinkMeans h v x left now ms
  fewer has left now [] a r l = tt
  fewer has left now (message.Plain m ∷ ms) a r l =
      let ds = descriptors_of (message.Plain m) in
      (one_fewer has left now m a r.0 l.0, fewer (has_behind has ds) (has_behind left ds) (past_one v now (message.Plain m)) ms (λ e. or_fewer (is_among e (given ds)) (has.import e) (left.import e) (a e)) r.1 l.1)
  fewer has left now (message.Unimplemented m ∷ ms) a r l = (l.0, fewer has left now ms a r l.1)

pub links_are_sent : LinksAreSent
links_are_sent h v x has now ms m l k = sent h v x has now ms m l k

pub links_are_sent_back : LinksAreSentBack
links_are_sent_back h v x has now ms m l k = sent_back h v x has now ms m l k

pub links_are_fewer : LinksAreFewer
links_are_fewer h v x has left now ms a r l = fewer h v x has left now ms a r l

-- ---- Descriptors that are read alike

module _ (h : History) (read then : Descriptor → Option Meant) where
  abbrev pub EachAlike : List Descriptor → Type 0
  EachAlike ds = (i : ℕ) (d : Descriptor) → slice_get ds i ≡ Some d → then d ≡ read d

  index_alike : (ds : List Descriptor) (i : ℕ) → EachAlike ds → place_read then ds i ≡ place_read read ds i
  index_alike [] i f = refl
  index_alike (d ∷ ds) zero f = f 0 d refl
  index_alike (d ∷ ds) (suc i) f = index_alike ds i (λ j c e. f (suc j) c e)

  cap_alike : (ds : List Descriptor) (c : CapAt) → EachAlike ds → cap_read then ds c ≡ cap_read read ds c
  cap_alike ds (Cap i) f = index_alike ds i f
  cap_alike ds Null f = refl
  cap_alike ds NotCap f = refl

  pub call_alike : (v : Vat) (s : Stamp) (from to : Option Meant) (ds : List Descriptor) → to ≡ from → EachAlike ds → CallMeans h v read s from ds → CallMeans h v then s to ds
  call_alike v s from to ds e f k = (
    subst (LeadsTo h (OfRef (caller s))) (sym e) k.0,
    λ i d g. (let y = k.1 i d g in (y.0, y.1, subst (LeadsTo h y.0) (sym (f i d g)) y.2)),
  )

  pub return_alike : (a : Vat × Asking) (b : ReturnBody) → EachAlike (descriptors_of_body b) → ReturnMeans h read a b → ReturnMeans h then a b
  return_alike a (body.Results payload ds) f k = (
    λ path. subst (LeadsTo h (field_meant h a.0 a.1 path)) (sym (cap_alike ds (cap_at payload path) f)) (k.0 path),
    λ i d g. (let y = k.1 i d g in (y.0, y.1, subst (LeadsTo h y.0) (sym (f i d g)) y.2)),
    k.2,
  )
  return_alike a (body.Exception exception) f k = k
  return_alike a body.Canceled f k = tt

  pub resolve_alike : (x y : Option Meant) (to : ResolvedTo) → y ≡ x → EachAlike (descriptors_of_resolved to) → ResolveMeans h read x to → ResolveMeans h then y to
  resolve_alike x y (resolved.Cap d) e f k = (k.0, e ∙ k.1, subst (LeadsTo h k.0) (sym (f 0 d refl)) k.2)
  resolve_alike x y (resolved.Exception exception) e f k = (k.0, e ∙ k.1, k.2)

-- ---- Exports that are named

module _ (h : History) (v : Vat) (E F : Map Export) (x y : Reader) (same : IsAlike E F x y) where
  met_one : (now : ℕ → Session) (d : Descriptor) → NamesMet E F d → read_label h y now d ≡ read_label h x now d
  met_one now descriptor.None met = refl
  met_one now (descriptor.SenderHosted e) met = same.sender e.0 met
  met_one now (descriptor.SenderPromise e) met = same.sender e.0 met
  met_one now (descriptor.ReceiverHosted e) met = same.receiver e.0 met
  met_one now (descriptor.ReceiverAnswer q path) met = refl

  each_met : (now : ℕ → Session) (ds : List Descriptor) → EachMet E F ds → EachAlike h (read_label h x now) (read_label h y now) ds
  each_met now [] met i d e = cc
  each_met now (c ∷ ds) met zero d e = let is : c ≡ d = cc in subst (λ z. read_label h y now z ≡ read_label h x now z) is (met_one now c met.0)
  each_met now (c ∷ ds) met (suc i) d e = each_met now ds met.1 i d e

  met_target : (now : ℕ → Session) (t : Target) → OfCap (λ e. IsSome (map.get F e)) t → target_label h y now t ≡ target_label h x now t
  met_target now (ImportedCap e) met = same.receiver e.0 met
  met_target now (PromisedAnswer q path) met = refl

  met_message : (has : Has) (now : ℕ → Session) (m : PlainMessage) → EachMet E F (descriptors_of (message.Plain m)) → ResolveMet E has m → TargetCap (λ e. IsSome (map.get F e)) (message.Plain m)
      → ReturnOf (λ q. has.question q ≡ true → y.question q ≡ x.question q) m → MessageMeans h v x has now m → MessageMeans h v y has now m
  met_message has now (plain.Abort exception) met r t q l = tt
  met_message has now (plain.Bootstrap k) met r t q l = tt
  met_message has now (plain.Call c) met r t q l =
      call_alike h (read_label h x now) (read_label h y now) v c.stamp (target_label h x now c.target) (target_label h y now c.target) c.descriptors (met_target now c.target t) (each_met now c.descriptors met) l
  met_message has now (plain.Return z) met r t q l =
      if_asked _ _ (has.question z.answer.0) (λ a k. (k.0, q a ∙ k.1, return_alike h (read_label h x now) (read_label h y now) k.0 z.body (each_met now (descriptors_of_body z.body) met) k.2)) l
  met_message has now (plain.Finish z) met r t q l = tt
  met_message has now (plain.Resolve z) met r t q l =
      if_asked _ _ (has.import z.promise.0)
      (λ a k. resolve_alike h (read_label h x now) (read_label h y now) (x.sender z.promise.0) (y.sender z.promise.0) z.to (same.sender z.promise.0 (r a)) (each_met now (descriptors_of_resolved z.to) met) k) l
  met_message has now (plain.Release z) met r t q l = tt
  met_message has now (plain.Disembargo z) met r t q l = tt
  met_message has now (plain.Other k) met r t q l = tt

  all_met : (has : Has) (now : ℕ → Session) (ms : List Message) → AllMet E F has ms → EachTargetCap (λ e. IsSome (map.get F e)) ms → EachReturn (λ q. has.question q ≡ true → y.question q ≡ x.question q) ms → LinkMeans h v x has now ms → LinkMeans h v y has now ms
  all_met has now [] met t q l = tt
  all_met has now (message.Plain m ∷ ms) met t q l = (
    met_message has now m met.0 met.1 t.0 q.0 l.0,
    all_met (has_behind has (descriptors_of (message.Plain m))) (past_one v now (message.Plain m)) ms met.2 t.1 q.1 l.1,
  )
  all_met has now (message.Unimplemented m ∷ ms) met t q l = (l.0, all_met has now ms met t.1 q l.1)

pub links_are_met : LinksAreMet
links_are_met h v E F x y has now ms same met t q l = all_met h v E F x y same has now ms met t q l

-- ---- Answers that closed

same_past : (v : Vat) (q : ℕ) (now then : ℕ → Session) (m : Message) → then q ≡ now q → past_one v then m q ≡ past_one v now m q
same_past v q now then (message.Plain (plain.Abort exception)) h = h
same_past v q now then (message.Plain (plain.Bootstrap k)) h = ap (λ z. cond (nat_eq q k.0) (Some (v, OfBootstrap)) z) h
same_past v q now then (message.Plain (plain.Call c)) h = ap (λ z. cond (nat_eq q c.question.0) (Some (v, OfCall c.stamp)) z) h
same_past v q now then (message.Plain (plain.Return r)) h = h
same_past v q now then (message.Plain (plain.Finish x)) h = h
same_past v q now then (message.Plain (plain.Resolve r)) h = h
same_past v q now then (message.Plain (plain.Release r)) h = h
same_past v q now then (message.Plain (plain.Disembargo x)) h = h
same_past v q now then (message.Plain (plain.Other n)) h = h
same_past v q now then (message.Unimplemented m) h = h

flipped : (j k : ℕ) → nat_eq j k ≡ true → nat_eq k j ≡ true
flipped j k e = grind (arith, e)

opened_past : (v : Vat) (q : ℕ) (now then : ℕ → Session) (m : Message) → opens q m ≡ true → past_one v then m q ≡ past_one v now m q
opened_past v q now then (message.Plain (plain.Abort exception)) e = cc
opened_past v q now then (message.Plain (plain.Bootstrap k)) e =
    let f = flipped k.0 q e in ap (λ b. cond b (Some (v, OfBootstrap)) (then q)) f ∙ sym (ap (λ b. cond b (Some (v, OfBootstrap)) (now q)) f)
opened_past v q now then (message.Plain (plain.Call c)) e =
    let f = flipped c.question.0 q e in ap (λ b. cond b (Some (v, OfCall c.stamp)) (then q)) f ∙ sym (ap (λ b. cond b (Some (v, OfCall c.stamp)) (now q)) f)
opened_past v q now then (message.Plain (plain.Return r)) e = cc
opened_past v q now then (message.Plain (plain.Finish x)) e = cc
opened_past v q now then (message.Plain (plain.Resolve r)) e = cc
opened_past v q now then (message.Plain (plain.Release r)) e = cc
opened_past v q now then (message.Plain (plain.Disembargo x)) e = cc
opened_past v q now then (message.Plain (plain.Other n)) e = cc
opened_past v q now then (message.Unimplemented m) e = cc

pub all_past : (v : Vat) (q : ℕ) (now then : ℕ → Session) (ms : List Message) → then q ≡ now q → past v then ms q ≡ past v now ms q
all_past v q now then [] h = h
all_past v q now then (m ∷ ms) h = all_past v q (past_one v now m) (past_one v then m) ms (same_past v q now then m h)

-- Behind where q is asked both are the same.
pub asked_past : (v : Vat) (q : ℕ) (now then : ℕ → Session) (ms : List Message) → IsAsked q ms → past v then ms q ≡ past v now ms q
asked_past v q now then [] k = absurd k
asked_past v q now then (m ∷ ms) (inl e) = all_past v q (past_one v now m) (past_one v then m) ms (opened_past v q now then m e)
asked_past v q now then (m ∷ ms) (inr k) = asked_past v q (past_one v now m) (past_one v then m) ms k

abbrev pub MayDiffer : (ℕ → Session) → (ℕ → Session) → List Message → Type 0
MayDiffer now then ms = (q : ℕ) → (then q ≡ now q) ⊎ (NoneAims q ms × NoneNames q ms)

differ_behind : (v : Vat) (now then : ℕ → Session) (m : PlainMessage) (ms : List Message) → MayDiffer now then (message.Plain m ∷ ms) → MayDiffer (past_one v now (message.Plain m)) (past_one v then (message.Plain m)) ms
differ_behind v now then m ms f q = go (f q)
  where
    by : (b : Bool) → opens q (message.Plain m) ≡ b → Unless b (NoneAims q ms) → Unless b (NoneNames q ms)
        → (past_one v then (message.Plain m) q ≡ past_one v now (message.Plain m) q) ⊎ (NoneAims q ms × NoneNames q ms)
    by true e a n = inl (opened_past v q now then (message.Plain m) e)
    by false e a n = inr (a, n)

    go : (then q ≡ now q) ⊎ (NoneAims q (message.Plain m ∷ ms) × NoneNames q (message.Plain m ∷ ms)) → (past_one v then (message.Plain m) q ≡ past_one v now (message.Plain m) q) ⊎ (NoneAims q ms × NoneNames q ms)
    go (inl e) = inl (same_past v q now then (message.Plain m) e)
    go (inr k) = by (opens q (message.Plain m)) refl k.0.1 k.1.1

differ_echo : (now then : ℕ → Session) (m : PlainMessage) (ms : List Message) → MayDiffer now then (message.Unimplemented m ∷ ms) → MayDiffer now then ms
differ_echo now then m ms f q = go (f q)
  where
    go : (then q ≡ now q) ⊎ (NoneAims q (message.Unimplemented m ∷ ms) × NoneNames q (message.Unimplemented m ∷ ms)) → (then q ≡ now q) ⊎ (NoneAims q ms × NoneNames q ms)
    go (inl e) = inl e
    go (inr k) = inr (k.0.1, k.1)

not_itself : {P : Type 0} (q : ℕ) → nat_eq q q ≡ false → P
not_itself q e = let f : nat_eq q q ≡ true = grind (arith) in let g : true ≡ false = sym f ∙ e in cc

module _ (h : History) (v : Vat) (x : Reader) (now then : ℕ → Session) where
  off_session : (q : ℕ) (path : List Op) → (then q ≡ now q) ⊎ (nat_eq q q ≡ false) → field_label h (then q) path ≡ field_label h (now q) path
  off_session q path (inl e) = ap (λ (i : Session). field_label h i path) e
  off_session q path (inr e) = not_itself q e

  off_one : (d : Descriptor) → ((q : ℕ) → (then q ≡ now q) ⊎ IsOffDescriptor q d) → read_label h x then d ≡ read_label h x now d
  off_one descriptor.None f = refl
  off_one (descriptor.SenderHosted e) f = refl
  off_one (descriptor.SenderPromise e) f = refl
  off_one (descriptor.ReceiverHosted e) f = refl
  off_one (descriptor.ReceiverAnswer k path) f = off_session k.0 (fields path) (f k.0)

  head_off : (d : Descriptor) (ds : List Descriptor) (q : ℕ) → (then q ≡ now q) ⊎ EachOff q (d ∷ ds) → (then q ≡ now q) ⊎ IsOffDescriptor q d
  head_off d ds q (inl e) = inl e
  head_off d ds q (inr k) = inr k.0

  tail_off : (d : Descriptor) (ds : List Descriptor) (q : ℕ) → (then q ≡ now q) ⊎ EachOff q (d ∷ ds) → (then q ≡ now q) ⊎ EachOff q ds
  tail_off d ds q (inl e) = inl e
  tail_off d ds q (inr k) = inr k.1

  each_off : (ds : List Descriptor) → ((q : ℕ) → (then q ≡ now q) ⊎ EachOff q ds) → EachAlike h (read_label h x now) (read_label h x then) ds
  each_off [] f i d e = cc
  each_off (c ∷ ds) f zero d e = let is : c ≡ d = cc in subst (λ z. read_label h x then z ≡ read_label h x now z) is (off_one c (λ q. head_off c ds q (f q)))
  each_off (c ∷ ds) f (suc i) d e = each_off ds (λ q. tail_off c ds q (f q)) i d e

  off_target : (t : Target) → ((q : ℕ) → (then q ≡ now q) ⊎ IsOffAnswer q t) → target_label h x then t ≡ target_label h x now t
  off_target (ImportedCap e) f = refl
  off_target (PromisedAnswer k path) f = off_session k.0 (fields path) (f k.0)

  off_message : (has : Has) (m : PlainMessage) → ((q : ℕ) → (then q ≡ now q) ⊎ AimsElsewhere q (message.Plain m)) → ((q : ℕ) → (then q ≡ now q) ⊎ EachOff q (descriptors_of (message.Plain m)))
      → MessageMeans h v x has now m → MessageMeans h v x has then m
  off_message has (plain.Abort exception) a off l = tt
  off_message has (plain.Bootstrap k) a off l = tt
  off_message has (plain.Call c) a off l =
      call_alike h (read_label h x now) (read_label h x then) v c.stamp (target_label h x now c.target) (target_label h x then c.target) c.descriptors (off_target c.target a) (each_off c.descriptors off) l
  off_message has (plain.Return z) a off l =
      if_said _ _ (has.question z.answer.0) (λ k. (k.0, k.1, return_alike h (read_label h x now) (read_label h x then) k.0 z.body (each_off (descriptors_of_body z.body) off) k.2)) l
  off_message has (plain.Finish z) a off l = tt
  off_message has (plain.Resolve z) a off l =
      if_said _ _ (has.import z.promise.0)
      (λ k. resolve_alike h (read_label h x now) (read_label h x then) (x.sender z.promise.0) (x.sender z.promise.0) z.to refl (each_off (descriptors_of_resolved z.to) off) k) l
  off_message has (plain.Release z) a off l = tt
  off_message has (plain.Disembargo z) a off l = tt
  off_message has (plain.Other k) a off l = tt

aims_first : (q : ℕ) (now then : ℕ → Session) (m : Message) (ms : List Message) → (then q ≡ now q) ⊎ (NoneAims q (m ∷ ms) × NoneNames q (m ∷ ms)) → (then q ≡ now q) ⊎ AimsElsewhere q m
aims_first q now then m ms (inl e) = inl e
aims_first q now then m ms (inr k) = inr k.0.0

names_first : (q : ℕ) (now then : ℕ → Session) (m : PlainMessage) (ms : List Message) → (then q ≡ now q) ⊎ (NoneAims q (message.Plain m ∷ ms) × NoneNames q (message.Plain m ∷ ms)) → (then q ≡ now q) ⊎ EachOff q (descriptors_of (message.Plain m))
names_first q now then m ms (inl e) = inl e
names_first q now then m ms (inr k) = inr k.1.0

pub links_are_closed : LinksAreClosed
links_are_closed h v x has now then [] f l = tt
links_are_closed h v x has now then (message.Plain m ∷ ms) f l = (
  off_message h v x now then has m (λ q. aims_first q now then (message.Plain m) ms (f q)) (λ q. names_first q now then m ms (f q)) l.0,
  links_are_closed h v x (has_behind has (descriptors_of (message.Plain m))) (past_one v now (message.Plain m)) (past_one v then (message.Plain m)) ms (differ_behind v now then m ms f) l.1,
)
links_are_closed h v x has now then (message.Unimplemented m ∷ ms) f l = (l.0, links_are_closed h v x has now then ms (differ_echo now then m ms f) l.1)

-- ---- More messages

pub links_are_joined : LinksAreJoined
links_are_joined h v x has now [] more l k = k
links_are_joined h v x has now (message.Plain m ∷ ms) more l k = (l.0, links_are_joined h v x (has_behind has (descriptors_of (message.Plain m))) (past_one v now (message.Plain m)) ms more l.1 k)
links_are_joined h v x has now (message.Unimplemented m ∷ ms) more l k = (l.0, links_are_joined h v x has now ms more l.1 k)

-- ---- A longer history

module _ (h : History) (more : List JournalEntry) where
  abbrev on : History
  on = with_more h more

  field_on : (v : Vat) (a : Asking) (path : List Op) → field_meant on v a path ≡ field_meant h v a path
  field_on v OfBootstrap path = ap (λ (m : Meaning). Itself (root_field m (fields path))) (same_bootstrap h on (extends h more) v)
  field_on v (OfCall s) path = refl

  pub label_on : (a : Session) (path : List Op) → field_label on a path ≡ field_label h a path
  label_on None path = refl
  label_on (Some a) path = ap (λ (y : Meant). Some y) (field_on a.0 a.1 path)

  pub leads_on : (y : Meant) (o : Option Meant) → LeadsTo h y o → LeadsTo on y o
  leads_on y None l = tt
  leads_on y (Some z) l = links_last h more z y l

  end_on : (v : Vat) (i : ℕ) (a : Asking) (y : Meant) → ByEnd h v i a y → ByEnd on v i a y
  end_on v i OfBootstrap y l = l ∙ ap (λ (m : Meaning). Itself m) (sym (same_bootstrap h on (extends h more) v))
  end_on v i (OfCall s) y l = (l.0, (extends h more).answer s l.0 l.1, l.2)

  answered_on : (a : Asking) → IsAnsweredOrBroken h a → IsAnsweredOrBroken on a
  answered_on OfBootstrap k = tt
  answered_on (OfCall s) (inl k) = inl (k.0, (extends h more).answer s k.0 k.1)
  answered_on (OfCall s) (inr k) = inr (links_last h more (Itself Broken) (OfRef (caller s)) k)

  read_on : (x : Reader) (now : ℕ → Session) (d : Descriptor) → read_label on x now d ≡ read_label h x now d
  read_on x now descriptor.None = refl
  read_on x now (descriptor.SenderHosted e) = refl
  read_on x now (descriptor.SenderPromise e) = refl
  read_on x now (descriptor.ReceiverHosted e) = refl
  read_on x now (descriptor.ReceiverAnswer q path) = label_on (now q.0) (fields path)

  target_on : (x : Reader) (now : ℕ → Session) (t : Target) → target_label on x now t ≡ target_label h x now t
  target_on x now (ImportedCap e) = refl
  target_on x now (PromisedAnswer q path) = label_on (now q.0) (fields path)

  call_on : (v : Vat) (read : Descriptor → Option Meant) (s : Stamp) (to : Option Meant) (ds : List Descriptor) → CallMeans h v read s to ds → CallMeans on v read s to ds
  call_on v read s to ds k = (
    leads_on (OfRef (caller s)) to k.0,
    λ i d g. (let y = k.1 i d g in (y.0, (y.1.0, (extends h more).made s y.1.0 y.1.1, y.1.2), leads_on y.0 (read d) y.2)),
  )

  return_on : (read : Descriptor → Option Meant) (a : Vat × Asking) (b : ReturnBody) → ReturnMeans h read a b → ReturnMeans on read a b
  return_on read a (body.Results payload ds) k = (
    λ path. subst (λ (y : Meant). LeadsTo on y (cap_read read ds (cap_at payload path))) (sym (field_on a.0 a.1 path)) (leads_on (field_meant h a.0 a.1 path) (cap_read read ds (cap_at payload path)) (k.0 path)),
    λ i d g. (let y = k.1 i d g in (y.0, end_on a.0 i a.1 y.0 y.1, leads_on y.0 (read d) y.2)),
    answered_on a.1 k.2,
  )
  return_on read a (body.Exception exception) k = (
    λ path. subst (λ (y : Meant). Leads on (Itself Broken) y) (sym (field_on a.0 a.1 path)) (links_last h more (Itself Broken) (field_meant h a.0 a.1 path) (k.0 path)),
    answered_on a.1 k.1,
  )
  return_on read a body.Canceled k = tt

  resolve_on : (read : Descriptor → Option Meant) (x : Option Meant) (to : ResolvedTo) → ResolveMeans h read x to → ResolveMeans on read x to
  resolve_on read x to k = (k.0, k.1, leads_on k.0 (resolved_label read to) k.2)

  module _ (v : Vat) (x : Reader) where
    message_on : (has : Has) (now : ℕ → Session) (m : PlainMessage) → MessageMeans h v x has now m → MessageMeans on v x has now m
    message_on has now (plain.Abort exception) l = tt
    message_on has now (plain.Bootstrap k) l = tt
    message_on has now (plain.Call c) l =
        call_alike on (read_label h x now) (read_label on x now) v c.stamp (target_label h x now c.target) (target_label on x now c.target) c.descriptors (target_on x now c.target) (λ i d e. read_on x now d)
        (call_on v (read_label h x now) c.stamp (target_label h x now c.target) c.descriptors l)
    message_on has now (plain.Return z) l =
        if_said _ _ (has.question z.answer.0) (λ k. (k.0, k.1, return_alike on (read_label h x now) (read_label on x now) k.0 z.body (λ i d e. read_on x now d) (return_on (read_label h x now) k.0 z.body k.2))) l
    message_on has now (plain.Finish z) l = tt
    message_on has now (plain.Resolve z) l =
        if_said _ _ (has.import z.promise.0)
        (λ k. resolve_alike on (read_label h x now) (read_label on x now) (x.sender z.promise.0) (x.sender z.promise.0) z.to refl (λ i d e. read_on x now d) (resolve_on (read_label h x now) (x.sender z.promise.0) z.to k)) l
    message_on has now (plain.Release z) l = tt
    message_on has now (plain.Disembargo z) l = tt
    message_on has now (plain.Other k) l = tt

    all_on : (has : Has) (now : ℕ → Session) (ms : List Message) → LinkMeans h v x has now ms → LinkMeans on v x has now ms
    all_on has now [] l = tt
    all_on has now (message.Plain m ∷ ms) l = (message_on has now m l.0, all_on (has_behind has (descriptors_of (message.Plain m))) (past_one v now (message.Plain m)) ms l.1)
    all_on has now (message.Unimplemented m ∷ ms) l = (l.0, all_on has now ms l.1)

pub links_live : LinksLive
links_live h more v x has now ms l = all_on h more v x has now ms l
