-- A call ends as it was answered, or broken: so what is left to show is that the reference of such a call stands for broken.
use Rattle.std.proofs.Common.{◌≡◌, inl, inr, suc, Option, None, List, [], ◌∷◌, length, refl, sym, subst}
use Rattle.rpc_msg.specs.declared.ids.RefId.{RefId}
use Rattle.rpc_msg.specs.declared.ids.Stamp.{Stamp}
use Rattle.rpc_journal.specs.declared.report.Outcome.{Outcome}
use Rattle.rpc_journal.specs.declared.entry.JournalEntry.{JournalEntry}
use Rattle.rpc_journal.specs.declared.entry.JournalEntry.TheVariants as entry
use Rattle.rpc_journal.specs.History.{Reply, caller, answer_of}
use Rattle.rpc_journal.specs.Sources.{OfCall}
use Rattle.rpc_journal.specs.Meaning.{History, Broken, StandsFor}
use Rattle.rpc_machine.specs.Claims.{EndsCall, history}
use Rattle.laws_meanings.specs.AnsweredEnds.{AnsweredOrBroken, IfCallEnds, CallsEndAsAnswered}
use Rattle.laws_meanings.specs.WhatIsLeft.{IfCallAnswered, CallsAreLeft, IfBroken, BrokenCallsAreLeft}

no_refs : (rs : List RefId) → length rs ≡ 0 → rs ≡ []
no_refs [] e = refl
no_refs (r ∷ rs) e = absurd (let bad : suc (length rs) ≡ 0 = e in cc)

as_answered : (h : History) (s : Stamp) (x : Outcome) (rs : List RefId) → (answer_of h.journal s ≡ None → StandsFor h (caller s) Broken) → AnsweredOrBroken h.journal (OfCall s) x (length rs) → EndsCall h s (answer_of h.journal s) x rs
as_answered h s x rs b (inl i) = subst (λ (o : Option Reply). EndsCall h s o x rs) (sym i.1) (i.2, i.3)
as_answered h s x rs b (inr i) = let k = i.1 in subst (λ (o : Option Reply). EndsCall h s o x rs) (sym i.0) (b i.0, k.0, k.1, no_refs rs k.2)

if_answered : (h : History) (e : JournalEntry) → IfCallEnds h e → IfBroken h e → IfCallAnswered h e
if_answered h (entry.Ended v x) i b = λ s e. as_answered h s x.outcome x.refs (λ n. b s e n) (i (OfCall s) e)
if_answered h e i b = tt

pub broken_left : CallsEndAsAnswered → CallsAreLeft → BrokenCallsAreLeft
broken_left ends left r s x k u = left r s x k (λ before behind e f. if_answered (history r s before) e (ends r s x k before behind e f) (u before behind e f))
