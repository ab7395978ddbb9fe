use Rattle.std.proofs.Common.{List, ◌∷◌, sym, ap, subst, ◌∙◌}
use Rattle.rpc_journal.specs.declared.entry.JournalEntry.{JournalEntry}
use Rattle.rpc_machine.specs.Claims.{AreNumbered, EndsAreSo, IsInFull, IsInOrder, IsInTime, IsSound, IsToOne, MeansOne}
use Rattle.laws_sound.specs.Promised.{AreEachAtOne, MeansForGood, history_of}
use Rattle.laws_verdicts.specs.Good.{IsGood}
use Rattle.rpc_journal.specs.declared.entry.JournalEntry.TheVariants as entry
use Rattle.vat_world.specs.World.{Seen}
use Rattle.vat_world.proofs.world.World.journal.Goals as goal

pub returns-clause-in_order : goal.returns-clause-in_order
returns-clause-in_order c = subst (λ (h : List JournalEntry). IsInOrder h) (sym (c.entries.ensures ∙ ap (λ (w : Seen). w.journal) c.self.view_is)) c.promises.ensures.in_order

pub returns-clause-numbered : goal.returns-clause-numbered
returns-clause-numbered c = subst (λ (h : List JournalEntry). AreNumbered h) (sym (c.entries.ensures ∙ ap (λ (w : Seen). w.journal) c.self.view_is)) c.promises.ensures.numbered

pub returns-clause-at_one : goal.returns-clause-at_one
returns-clause-at_one c = subst (λ (h : List JournalEntry). AreEachAtOne h) (sym (c.entries.ensures ∙ ap (λ (w : Seen). w.journal) c.self.view_is)) c.promises.ensures.at_one

pub returns-clause-to_object : goal.returns-clause-to_object
returns-clause-to_object c = subst (λ (h : List JournalEntry). IsToOne (history_of h c.args.self.now.world)) (sym (c.entries.ensures ∙ ap (λ (w : Seen). w.journal) c.self.view_is)) c.promises.ensures.to_one

pub returns-clause-means_one : goal.returns-clause-means_one
returns-clause-means_one c = subst (λ (h : List JournalEntry). MeansOne (history_of h c.args.self.now.world)) (sym (c.entries.ensures ∙ ap (λ (w : Seen). w.journal) c.self.view_is)) c.promises.ensures.means_one

pub returns-clause-none_lost : goal.returns-clause-none_lost
returns-clause-none_lost c = subst (λ (h : List JournalEntry). IsInFull (history_of h c.args.self.now.world) c.args.self.now.world) (sym (c.entries.ensures ∙ ap (λ (w : Seen). w.journal) c.self.view_is)) c.promises.ensures.none_lost

pub returns-clause-as_made : goal.returns-clause-as_made
returns-clause-as_made c = subst (λ (h : List JournalEntry). IsInTime (history_of h c.args.self.now.world)) (sym (c.entries.ensures ∙ ap (λ (w : Seen). w.journal) c.self.view_is)) c.promises.ensures.as_made

pub returns-clause-ends : goal.returns-clause-ends
returns-clause-ends c = subst (λ (h : List JournalEntry). EndsAreSo (history_of h c.args.self.now.world)) (sym (c.entries.ensures ∙ ap (λ (w : Seen). w.journal) c.self.view_is)) c.promises.ensures.ends

pub returns-clause-is_good : goal.returns-clause-is_good
returns-clause-is_good c = subst (λ (h : List JournalEntry). IsGood h) (sym (c.entries.ensures ∙ ap (λ (w : Seen). w.journal) c.self.view_is)) c.passes_the_check.ensures.alone

pub returns-clause-headed : goal.returns-clause-headed
returns-clause-headed c = subst (λ (h : List JournalEntry). IsGood (entry.Head ∷ h)) (sym (c.entries.ensures ∙ ap (λ (w : Seen). w.journal) c.self.view_is)) c.passes_the_check.ensures.headed

pub returns-clause-lasting : goal.returns-clause-lasting
returns-clause-lasting c = subst (λ (h : List JournalEntry). MeansForGood (history_of h c.args.self.now.world)) (sym (c.entries.ensures ∙ ap (λ (w : Seen). w.journal) c.self.view_is)) c.promises.ensures.lasting

pub returns-clause-sound : goal.returns-clause-sound
returns-clause-sound c r = subst (λ (h : List JournalEntry). IsSound (history_of h c.args.self.now.world) r.run.happened c.args.self.now.world) (sym (c.entries.ensures ∙ ap (λ (w : Seen). w.journal) c.self.view_is)) (c.is_sound.ensures r)
