-- The oldest message on its way to a vat of a scene: all that is known of it together.
use Rattle.std.proofs.Common.{◌≡◌, List, [], ◌∷◌, sym, ap, subst, ◌∙◌}
use Rattle.rpc_msg.specs.declared.ids.Vat.{Vat}
use Rattle.rpc_msg.specs.declared.message.DisembargoContext.{DisembargoContext}
use Rattle.rpc_msg.specs.declared.message.DisembargoContext.TheVariants.{SenderLoopback, ReceiverLoopback}
use Rattle.rpc_msg.specs.declared.parts.Target.{Target}
use Rattle.rpc_msg.specs.declared.message.PlainMessage.{PlainMessage}
use Rattle.rpc_msg.specs.declared.message.PlainMessage.TheVariants as plain
use Rattle.rpc_msg.specs.declared.message.Message.{Message}
use Rattle.rpc_msg.specs.declared.message.Message.TheVariants as message
use Rattle.rpc_msg.specs.Messages.{descriptors_of_plain}
use Rattle.rpc_machine.specs.Faults.{fault_of}
use Rattle.rpc_machine.specs.World.{World, core, inbox}
use Rattle.laws_runs.specs.Between.{HoldsIn}
use Rattle.laws_runs.specs.Worlds.{Stand}
use Rattle.laws_runs.specs.Agreed.{IsMet}
use Rattle.laws_runs.specs.SceneSessions.{InScenes, OldestAreMet, CountsOfScenes}
use Rattle.laws_messages.specs.Found.{FindsExports, OldestFind}
use Rattle.laws_messages.specs.Loopbacks.{ComesBackWell, DisembargosAreMet}
use Rattle.laws_messages.specs.Named.{FindsTargets, FindsEach, FindsAnswers, NamedAnswersAreThere}
use Rattle.laws_messages.specs.PayloadCaps.{AllFit, PayloadsFit}
use Rattle.laws_messages.proofs.About.{levels}
use Rattle.laws_messages.specs.Left.{OldestAreLeft, FewChecksAreLeft}
use Rattle.laws_messages.specs.Oldest.{IsFirstResolve, NoneClashes, OldestFit}
use Rattle.laws_messages.proofs.Messages.{ComesBack, Known, left, is_useful}

-- What holds of a world, as the laws of its oldest messages say it.
pub record Facts (w : World) : Type 0 where
  pub stand : HoldsIn Stand w
  pub met : OldestAreMet w
  pub finds : OldestFind w
  pub fit : OldestFit w
  pub answers : FindsAnswers w
  pub fits : (v : Vat) → AllFit (inbox w v)
  pub back : ComesBackWell w

pub same_plain : (P : PlainMessage → Type 0) (p q : PlainMessage) → message.Plain p ≡ message.Plain q → P q → P p
same_plain P p q e h = let f : p ≡ q = cc in subst P (sym f) h

comes_back : (w : World) → ComesBackWell w → (v : Vat) (p : PlainMessage) (ms : List Message) → inbox w v ≡ message.Plain p ∷ ms → ComesBack (core w v) p
comes_back w k v (plain.Abort x) ms h = tt
comes_back w k v (plain.Bootstrap q) ms h = tt
comes_back w k v (plain.Call c) ms h = tt
comes_back w k v (plain.Return r) ms h = tt
comes_back w k v (plain.Finish f) ms h = tt
comes_back w k v (plain.Resolve r) ms h = tt
comes_back w k v (plain.Release r) ms h = tt
comes_back w k v (plain.Disembargo d) ms h = by d.target d.context h
  where
    by : (t : Target) (x : DisembargoContext) → inbox w v ≡ message.Plain (plain.Disembargo (record { target = t; context = x })) ∷ ms → ComesBack (core w v) (plain.Disembargo (record { target = t; context = x }))
    by t (SenderLoopback x) h = tt
    by t (ReceiverLoopback x) h = k v x t ms h
comes_back w k v (plain.Other n) ms h = tt

known : (w : World) → Facts w → (v : Vat) (p : PlainMessage) (ms : List Message) → inbox w v ≡ message.Plain p ∷ ms → IsMet (core w v) p → Known (core w v) p
known w k v p ms h met =
    let m = message.Plain p in
    let s = core w v in
    let f = k.finds v m ms h in
    let a = k.answers v m ms h in
    let r = k.fit v m ms h in
    let all : AllFit (m ∷ ms) = subst AllFit h (k.fits v) in
    record {
      one = levels w k.stand v;
      met = met;
      finds = same_plain (λ (q : PlainMessage). FindsExports s q) p f.0 f.1 f.2;
      targets = same_plain (λ (q : PlainMessage). FindsTargets s q) p a.0 a.1 a.2;
      answers = same_plain (λ (q : PlainMessage). FindsEach s (descriptors_of_plain q)) p a.0 a.1 a.3;
      fits = all.0;
      first = same_plain (λ (q : PlainMessage). IsFirstResolve s q) p r.0 r.1 r.2;
      kinds = same_plain (λ (q : PlainMessage). NoneClashes s [] (descriptors_of_plain q)) p r.0 r.1 r.3;
      back = comes_back w k.back v p ms h;
    }

oldest_left : (w : World) → Facts w → OldestAreLeft w
oldest_left w k v m ms h =
    let met = k.met v m ms h in
    let p : PlainMessage = met.0 in
    let e : m ≡ message.Plain p = met.1 in
    let i : inbox w v ≡ message.Plain p ∷ ms = h ∙ ap (λ (n : Message). n ∷ ms) e in
    let l = left (core w v) p (known w k v p ms i met.2) in
    (p, e, is_useful (core w v) p met.2, ap (fault_of (core w v)) e ∙ l)

pub all_left : CountsOfScenes → InScenes OldestFind → InScenes OldestFit → NamedAnswersAreThere → PayloadsFit → DisembargosAreMet → FewChecksAreLeft
all_left counts finds fit answers fits back a b x h = oldest_left x.world (record {
  stand = counts.sessions a b x h;
  met = counts.oldest a b x h;
  finds = finds a b x h;
  fit = fit a b x h;
  answers = answers a b x h;
  fits = fits a b x h;
  back = back a b x h;
})
