-- What ends is a Bootstrap's, or a call's: so what is left to show is how calls end.
use Rattle.std.proofs.Common.{Option, sym, subst}
use Rattle.rpc_journal.specs.declared.entry.JournalEntry.{JournalEntry}
use Rattle.rpc_journal.specs.declared.entry.JournalEntry.TheVariants as entry
use Rattle.rpc_journal.specs.Sources.{Asking, OfBootstrap, OfCall}
use Rattle.rpc_journal.specs.Meaning.{History}
use Rattle.rpc_machine.specs.Claims.{EndsAsked, history}
use Rattle.laws_meanings.specs.AskedCalls.{IfAsked, EndsWereAsked}
use Rattle.laws_meanings.specs.Bootstraps.{IfRoot, BootstrapsEnd}
use Rattle.laws_meanings.specs.WhatIsLeft.{IfAnswered, AnswersAreLeft, IfCallAnswered, CallsAreLeft}

if_answered : (h : History) (e : JournalEntry) → IfAsked h e → IfRoot h e → IfCallAnswered h e → IfAnswered h e
if_answered h (entry.Ended v x) (OfBootstrap, e) r c = subst (λ (o : Option Asking). EndsAsked h v o x.outcome x.refs) (sym e) (r e)
if_answered h (entry.Ended v x) (OfCall s, e) r c = subst (λ (o : Option Asking). EndsAsked h v o x.outcome x.refs) (sym e) (c s e)
if_answered h e i r c = tt

pub calls_left : EndsWereAsked → BootstrapsEnd → AnswersAreLeft → CallsAreLeft
calls_left w b l r s x k u = l r s x k (λ before behind e f. if_answered (history r s before) e (w r s x k before behind e f) (b r s x k before behind e f) (u before behind e f))
