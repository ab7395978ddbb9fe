-- A Finish goes behind what came, and what a message of the vat comes to, where its Finish may be held back.
use Rattle.std.proofs.Common.{◌≡◌, Some, Ok, Err, refl, sym, ap, ◌∙◌}
use Rattle.std.specs.FinMap as finite
use Rattle.rpc_msg.specs.declared.ids.QuestionId.{QuestionId}
use Rattle.rpc_msg.specs.declared.message.Finish.{Finish}
use Rattle.rpc_msg.specs.declared.message.Message.{Message}
use Rattle.rpc_msg.specs.declared.message.Message.TheVariants as message
use Rattle.rpc_msg.specs.declared.message.PlainMessage.{PlainMessage}
use Rattle.rpc_msg.specs.declared.message.PlainMessage.TheVariants as plain
use Rattle.rpc_codec.specs.Envelopes.{What}
use Rattle.peer_finishes.specs.Finishing.{Finishing, asked}
use Rattle.peer_finishes.specs.Finishing as finishes
use Rattle.peer_finishes.specs.Laws.{asked_by}
use Rattle.peer_tail_calls.specs.declared.heard.Heard.{Heard}
use Rattle.peer_tail_calls.specs.Adapting.{messages_in}
use Rattle.peer_adapter.specs.declared.errors.PeerError.{PeerError}
use Rattle.peer_adapter.specs.declared.errors.PeerError.TheVariants as error
use Rattle.peer_adapter.specs.declared.told.Inbound.{Inbound}
use Rattle.peer_adapter.specs.declared.told.Outbound.{Outbound}
use Rattle.peer_adapter.specs.Peering.{Besides, Comes, Going, Peering, Tables, besides_with, comes, comes_by, finished_by, goes, goes_by, hears, passes, seen_aside, seen_outbound}

module _ (t : Tables) (s : Peering) (w : What) (c : finishes.Coming) (is : finishes.comes s.finishes w ≡ c) where
  pub behind_ok : (i r : Inbound) (new : Peering) → Comes (hears t (record s { finishes = c.state }) w) (Ok i) new → seen_aside r.aside ≡ besides_with c.told (seen_aside i.aside) → r.heard ≡ i.heard
      → Comes (comes t s w) (Ok r) new
  behind_ok i r new came aside heard =
      ap (comes_by t s w) is
      ∙ ap (finished_by c.told) came
      ∙ ap (λ (b : Besides). Ok (record { state = new; besides = b; heard = messages_in i.heard })) (sym aside)
      ∙ ap (λ (h : Heard). Ok (record { state = new; besides = seen_aside r.aside; heard = messages_in h })) (sym heard)

  pub behind_err : (e : PeerError) (new : Peering) → Comes (hears t (record s { finishes = c.state }) w) (Err e) new → Comes (comes t s w) (Err e) new
  behind_err error.Memory new came = tt
  behind_err (error.Fault f) new came = ap (comes_by t s w) is ∙ ap (finished_by c.told) came

module _ (s : Peering) where
  -- the same, with a question that is open
  abbrev asking : QuestionId → Going → Going
  asking q g = record g { state = record (g.state) { finishes = asked s.finishes q } }

  asks_plain : (m : PlainMessage) (q : QuestionId) → asked_by (message.Plain m) ≡ Some q → goes s (message.Plain m) ≡ asking q (passes s (Some (message.Plain m)))
  asks_plain (plain.Bootstrap p) q is = let e : p ≡ q = cc in ap (λ (r : QuestionId). asking r (passes s (Some (message.Plain (plain.Bootstrap p))))) e
  asks_plain (plain.Call c) q is = let e : c.question ≡ q = cc in ap (λ (r : QuestionId). asking r (passes s (Some (message.Plain (plain.Call c))))) e
  asks_plain (plain.Finish f) q is = absurd cc
  asks_plain (plain.Abort x) q is = absurd cc
  asks_plain (plain.Return r) q is = absurd cc
  asks_plain (plain.Resolve r) q is = absurd cc
  asks_plain (plain.Release r) q is = absurd cc
  asks_plain (plain.Disembargo d) q is = absurd cc
  asks_plain (plain.Other n) q is = absurd cc

  asks : (m : Message) (q : QuestionId) → asked_by m ≡ Some q → goes s m ≡ asking q (passes s (Some m))
  asks (message.Plain m) q is = asks_plain m q is
  asks (message.Unimplemented m) q is = absurd cc

  stays_plain : (m : PlainMessage) (q : QuestionId) → asked_by (message.Plain m) ≡ Some q → (passes s (Some (message.Plain m))).state ≡ s
  stays_plain (plain.Bootstrap p) q is = refl
  stays_plain (plain.Call c) q is = refl
  stays_plain (plain.Finish f) q is = absurd cc
  stays_plain (plain.Abort x) q is = absurd cc
  stays_plain (plain.Return r) q is = absurd cc
  stays_plain (plain.Resolve r) q is = absurd cc
  stays_plain (plain.Release r) q is = absurd cc
  stays_plain (plain.Disembargo d) q is = absurd cc
  stays_plain (plain.Other n) q is = absurd cc

  stays : (m : Message) (q : QuestionId) → asked_by m ≡ Some q → (passes s (Some m)).state ≡ s
  stays (message.Plain m) q is = stays_plain m q is
  stays (message.Unimplemented m) q is = absurd cc

  -- A question that is asked is open then.
  pub asked_ok : (m : Message) (q : QuestionId) (o : Outbound) (mid new : Peering) → asked_by m ≡ Some q → passes s (Some m) ≡ seen_outbound mid o → new ≡ record mid { finishes = asked mid.finishes q }
      → goes s m ≡ seen_outbound new o
  asked_ok m q o mid new is passed becomes =
      asks m q is ∙ ap (λ (g : Going). asking q g) passed
      ∙ ap (λ (x : Finishing). seen_outbound (record mid { finishes = asked x q }) o) (ap (λ (g : Going). g.state.finishes) passed)
      ∙ ap (λ (p : Peering). seen_outbound p o) (sym becomes)

  pub asked_err : (m : Message) (q : QuestionId) (o : Outbound) (mid : Peering) → asked_by m ≡ Some q → passes s (Some m) ≡ seen_outbound mid o → mid ≡ s
  asked_err m q o mid is passed = sym (ap (λ (g : Going). g.state) passed) ∙ stays m q is

  -- What a Finish comes to.
  pub finish_goes : (f : Finish) (g : finishes.Going) → finishes.finishes s.finishes f (finite.get s.finishes.awaited f.question.0) ≡ g → goes s (message.Plain (plain.Finish f)) ≡ goes_by s g
  finish_goes f g is = ap (λ (g : finishes.Going). goes_by s g) is
