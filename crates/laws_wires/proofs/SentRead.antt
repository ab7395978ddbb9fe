-- What is sent is read as it was meant.
use Rattle.std.proofs.Common.{◌≡◌, inl, inr, ℕ, zero, suc, Bool, true, false, List, [], ◌∷◌, None, Some, refl, sym, subst, ap, ◌∙◌}
use Rattle.rpc_msg.specs.Op.{Op}
use Rattle.finite_maps.specs.Tally.{Map}
use Rattle.rpc_msg.specs.declared.ids.Vat.{Vat}
use Rattle.rpc_msg.specs.declared.ids.Stamp.{Stamp}
use Rattle.rpc_msg.specs.declared.parts.Descriptor.{Descriptor}
use Rattle.rpc_msg.specs.declared.parts.Descriptor.TheVariants as descriptor
use Rattle.rpc_msg.specs.declared.parts.Target.{Target}
use Rattle.rpc_msg.specs.declared.parts.Target.TheVariants.{ImportedCap, PromisedAnswer}
use Rattle.rpc_msg.specs.declared.message.ReturnBody.{ReturnBody}
use Rattle.rpc_msg.specs.declared.message.ReturnBody.TheVariants as body
use Rattle.rpc_msg.specs.declared.message.PlainMessage.{PlainMessage}
use Rattle.rpc_msg.specs.declared.message.PlainMessage.TheVariants as plain
use Rattle.rpc_msg.specs.declared.message.Message.TheVariants as message
use Rattle.rpc_msg.specs.Messages.{descriptors_of, descriptors_of_body, descriptors_of_resolved}
use Rattle.rpc_msg.specs.Paths.{fields}
use Rattle.rpc_journal.specs.Sources.{Asking, OfBootstrap, OfCall}
use Rattle.rpc_journal.specs.Meaning.{History, bootstrap_meaning, root_field}
use Rattle.rpc_machine.specs.declared.entries.Export.{Export}
use Rattle.laws_routes.specs.Sayings.{Has, SaidIfThere}
use Rattle.laws_routes.proofs.FirstCommands.{fields_again}
use Rattle.laws_meanings.specs.NodeMeanings.{Meant, Itself, OfField, field_meant}
use Rattle.laws_meanings.specs.NodeLabels.{Labels, field_label}
use Rattle.laws_wires.specs.Wires.{Session, Reader, MessageMeans, ReturnMeans, export_label, read_label, target_label}
use Rattle.laws_wires.specs.SentWires.{AreOfOne, EachRead, IsAimed, IsRead, IsReadTarget, OwnMeans, SentIsRead, own_label, own_target}
use Rattle.laws_wires.proofs.LinksKept.{EachAlike, call_alike, resolve_alike, return_alike}

meant_again : (h : History) (v : Vat) (a : Asking) (path : List Op) → field_meant h v a (fields path) ≡ field_meant h v a path
meant_again h v OfBootstrap path = ap (λ (p : List Op). Itself (root_field (bootstrap_meaning h v) p)) (fields_again path)
meant_again h v (OfCall s) path = ap (λ (p : List Op). OfField s p) (fields_again path)

label_again : (h : History) (a : Session) (path : List Op) → field_label h a (fields path) ≡ field_label h a path
label_again h None path = refl
label_again h (Some a) path = ap (λ (y : Meant). Some y) (meant_again h a.0 a.1 path)

if_there : (P Q : Type 0) (b : Bool) → (b ≡ true → P → Q) → P → SaidIfThere b Q
if_there P Q true f k = f refl k
if_there P Q false f k = tt

module _ (h : History) (v : Vat) (l : Labels) (E : Map Export) (x : Reader) (now : ℕ → Session) (own : (e : ℕ) → x.sender e ≡ export_label h v l E e) where
  one_read : (d : Descriptor) → IsRead l x now d → read_label h x now d ≡ own_label h v l E d
  one_read descriptor.None r = refl
  one_read (descriptor.SenderHosted e) r = own e.0
  one_read (descriptor.SenderPromise e) r = own e.0
  one_read (descriptor.ReceiverHosted e) r = r
  one_read (descriptor.ReceiverAnswer q path) r = label_again h (now q.0) path ∙ ap (λ (i : Session). field_label h i path) r

  each_read : (ds : List Descriptor) → EachRead l x now ds → EachAlike h (own_label h v l E) (read_label h x now) ds
  each_read [] r i d e = cc
  each_read (c ∷ ds) r zero d e = let is : c ≡ d = cc in subst (λ z. read_label h x now z ≡ own_label h v l E z) is (one_read c r.0)
  each_read (c ∷ ds) r (suc i) d e = each_read ds r.1 i d e

  target_read : (t : Target) → IsReadTarget l x now t → target_label h x now t ≡ own_target h v l E t
  target_read (ImportedCap e) r = r
  target_read (PromisedAnswer q path) r = label_again h (now q.0) path ∙ ap (λ (i : Session). field_label h i path) r

  -- Of one call it is said by whichever vat.
  of_one_call : (s : Stamp) (c d : Vat) (b : ReturnBody) → ReturnMeans h (read_label h x now) (c, OfCall s) b → ReturnMeans h (read_label h x now) (d, OfCall s) b
  of_one_call s c d (body.Results payload ds) k = k
  of_one_call s c d (body.Exception exception) k = k
  of_one_call s c d body.Canceled k = tt

  abbrev Said : Session → ReturnBody → Type 0
  Said o b = (a : Vat × Asking) × (o ≡ Some a) × ReturnMeans h (read_label h x now) a b

  of_one : (o p : Session) (b : ReturnBody) → AreOfOne o p → Said o b → Said p b
  of_one o p b (inl e) k = (k.0, sym e ∙ k.1, k.2)
  of_one o p b (inr i) k =
      let same : k.0 ≡ (i.1, OfCall i.0) = (let f : Some k.0 ≡ Some (i.1, OfCall i.0) = sym k.1 ∙ i.3 in cc) in
      ((i.2, OfCall i.0), i.4, of_one_call i.0 i.1 i.2 b (subst (λ (a : Vat × Asking). ReturnMeans h (read_label h x now) a b) same k.2))

  read_so : (has : Has) (said : ℕ → Session) (m : PlainMessage) → EachRead l x now (descriptors_of (message.Plain m)) → IsAimed l x now has said m → OwnMeans h v l E said m → MessageMeans h v x has now m
  read_so has said (plain.Abort exception) r a k = tt
  read_so has said (plain.Bootstrap q) r a k = tt
  read_so has said (plain.Call c) r a k =
      call_alike h (own_label h v l E) (read_label h x now) v c.stamp (own_target h v l E c.target) (target_label h x now c.target) c.descriptors (target_read c.target a) (each_read c.descriptors r) k
  read_so has said (plain.Return z) r a k =
      if_there _ _ (has.question z.answer.0)
      (λ e (y : Said (said z.answer.0) z.body). of_one (said z.answer.0) (x.question z.answer.0) z.body (a e) y)
      (k.0, k.1, return_alike h (own_label h v l E) (read_label h x now) k.0 z.body (each_read (descriptors_of_body z.body) r) k.2)
  read_so has said (plain.Finish z) r a k = tt
  read_so has said (plain.Resolve z) r a k =
      if_there _ _ (has.import z.promise.0) (λ e y. y)
      (resolve_alike h (own_label h v l E) (read_label h x now) (export_label h v l E z.promise.0) (x.sender z.promise.0) z.to (own z.promise.0) (each_read (descriptors_of_resolved z.to) r) k)
  read_so has said (plain.Release z) r a k = tt
  read_so has said (plain.Disembargo z) r a k = tt
  read_so has said (plain.Other n) r a k = tt

pub sent_is_read : SentIsRead
sent_is_read h v l E x has now said m own r a k = read_so h v l E x now own has said m r a k
