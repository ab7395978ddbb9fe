use Rattle.std.proofs.Common.{List, ◌∷◌, sym, subst}
use Rattle.rpc_journal.specs.declared.entry.JournalEntry.{JournalEntry}
use Rattle.rpc_journal.specs.declared.entry.JournalEntry.TheVariants as entry
use Rattle.rpc_machine.specs.Claims.{AreNumbered, EndsAreSo, IsInFull, IsInOrder, IsInTime, IsQuietWhenDown, IsSound, IsToOne, MeansOne}
use Rattle.laws_sound.specs.Promised.{AreEachAtOne, AreInFull, DownsAreKnown, DownsAreTold, MeansForGood, history_of}
use Rattle.laws_verdicts.specs.Good.{IsGood}
use Rattle.link_logs.specs.Promises.{IsTold, happened_in, shut, world_of}
use Rattle.link_ends.proofs.gathered.Gathered.journal.Goals as goal

pub returns-in-Ok-clause-reached : goal.returns-in-Ok-clause-reached
returns-in-Ok-clause-reached c = subst (λ (h : List JournalEntry). IsTold c.args.self.now.both h) (sym c.in-Ok.ensures) c.promises.ensures.told

pub returns-in-Ok-clause-in_order : goal.returns-in-Ok-clause-in_order
returns-in-Ok-clause-in_order c = subst (λ (h : List JournalEntry). IsInOrder h) (sym c.in-Ok.ensures) c.promises.ensures.told.promised.in_order

pub returns-in-Ok-clause-numbered : goal.returns-in-Ok-clause-numbered
returns-in-Ok-clause-numbered c = subst (λ (h : List JournalEntry). AreNumbered h) (sym c.in-Ok.ensures) c.promises.ensures.told.promised.numbered

pub returns-in-Ok-clause-at_one : goal.returns-in-Ok-clause-at_one
returns-in-Ok-clause-at_one c = subst (λ (h : List JournalEntry). AreEachAtOne h) (sym c.in-Ok.ensures) c.promises.ensures.told.promised.at_one

pub returns-in-Ok-clause-to_object : goal.returns-in-Ok-clause-to_object
returns-in-Ok-clause-to_object c = subst (λ (h : List JournalEntry). IsToOne (history_of h (world_of c.args.self.now.both))) (sym c.in-Ok.ensures) c.promises.ensures.told.promised.to_one

pub returns-in-Ok-clause-means_one : goal.returns-in-Ok-clause-means_one
returns-in-Ok-clause-means_one c = subst (λ (h : List JournalEntry). MeansOne (history_of h (world_of c.args.self.now.both))) (sym c.in-Ok.ensures) c.promises.ensures.told.promised.means_one

pub returns-in-Ok-clause-lasting : goal.returns-in-Ok-clause-lasting
returns-in-Ok-clause-lasting c = subst (λ (h : List JournalEntry). MeansForGood (history_of h (world_of c.args.self.now.both))) (sym c.in-Ok.ensures) c.promises.ensures.told.promised.lasting

pub returns-in-Ok-clause-in_full : goal.returns-in-Ok-clause-in_full
returns-in-Ok-clause-in_full c = subst (λ (h : List JournalEntry). AreInFull h (world_of c.args.self.now.both)) (sym c.in-Ok.ensures) c.promises.ensures.told.promised.in_full

pub returns-in-Ok-clause-none_lost : goal.returns-in-Ok-clause-none_lost
returns-in-Ok-clause-none_lost c = subst (λ (h : List JournalEntry). IsInFull (history_of h (world_of c.args.self.now.both)) (world_of c.args.self.now.both)) (sym c.in-Ok.ensures) c.promises.ensures.told.promised.none_lost

pub returns-in-Ok-clause-as_made : goal.returns-in-Ok-clause-as_made
returns-in-Ok-clause-as_made c = subst (λ (h : List JournalEntry). IsInTime (history_of h (world_of c.args.self.now.both))) (sym c.in-Ok.ensures) c.promises.ensures.told.promised.as_made

pub returns-in-Ok-clause-ends : goal.returns-in-Ok-clause-ends
returns-in-Ok-clause-ends c = subst (λ (h : List JournalEntry). EndsAreSo (history_of h (world_of c.args.self.now.both))) (sym c.in-Ok.ensures) c.promises.ensures.told.promised.ends

pub returns-in-Ok-clause-quiet : goal.returns-in-Ok-clause-quiet
returns-in-Ok-clause-quiet c = subst (λ (h : List JournalEntry). IsQuietWhenDown h) (sym c.in-Ok.ensures) c.promises.ensures.told.promised.quiet

pub returns-in-Ok-clause-downs : goal.returns-in-Ok-clause-downs
returns-in-Ok-clause-downs c = subst (λ (h : List JournalEntry). DownsAreKnown (shut c.args.self.now.both) h) (sym c.in-Ok.ensures) c.promises.ensures.told.promised.downs

pub returns-in-Ok-clause-told : goal.returns-in-Ok-clause-told
returns-in-Ok-clause-told c = subst (λ (h : List JournalEntry). DownsAreTold h (world_of c.args.self.now.both)) (sym c.in-Ok.ensures) c.promises.ensures.told.promised.told

pub returns-in-Ok-clause-sound : goal.returns-in-Ok-clause-sound
returns-in-Ok-clause-sound c = subst (λ (h : List JournalEntry). IsSound (history_of h (world_of c.args.self.now.both)) (happened_in c.args.self.now.both) (world_of c.args.self.now.both)) (sym c.in-Ok.ensures) c.promises.ensures.sound

pub returns-in-Ok-clause-is_good : goal.returns-in-Ok-clause-is_good
returns-in-Ok-clause-is_good c = subst (λ (h : List JournalEntry). IsGood h) (sym c.in-Ok.ensures) c.promises.ensures.good

pub returns-in-Ok-clause-headed : goal.returns-in-Ok-clause-headed
returns-in-Ok-clause-headed c = subst (λ (h : List JournalEntry). IsGood (entry.Head ∷ h)) (sym c.in-Ok.ensures) c.promises.ensures.headed
