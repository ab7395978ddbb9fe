-- What is promised of deliveries and ends in scenes, but for what references stand for and how calls were answered.
use Rattle.std.specs.Prelude.{◌≡◌, Option, None, Some}
use Rattle.rpc_msg.specs.declared.ids.ObjectId.{ObjectId}
use Rattle.rpc_journal.specs.declared.entry.JournalEntry.{JournalEntry}
use Rattle.rpc_journal.specs.declared.entry.JournalEntry.TheVariants as entry
use Rattle.rpc_journal.specs.History.{caller}
use Rattle.rpc_msg.specs.declared.ids.Stamp.{Stamp}
use Rattle.rpc_journal.specs.Sources.{OfCall, asking}
use Rattle.rpc_journal.specs.Meaning.{History, Broken, StandsFor}
use Rattle.rpc_journal.specs.History.{answer_of}
use Rattle.rpc_machine.specs.Claims.{IsTo, EndsCall, EndsAsked, Upto, IsInTime, EndsAreSo, history}
use Rattle.laws_runs.specs.Scenes.{Scene, IsScene}

-- A delivery is to the object that its call's reference stands for.
abbrev pub IfToObject : History → JournalEntry → Type 0
IfToObject h (entry.Delivered v d) = IsTo h (caller d.stamp) (record { vat = v; delivery = d })
IfToObject h e = Unit {0}

-- An end is as the call was asked and answered.
abbrev pub IfAnswered : History → JournalEntry → Type 0
IfAnswered h (entry.Ended v x) = EndsAsked h v (asking h.journal v x.call.0) x.outcome x.refs
IfAnswered h e = Unit {0}

-- If that is so in a scene, the rest is.
abbrev pub ObjectsAreLeft : Type 0
ObjectsAreLeft =
    (root_a root_b : Option ObjectId) (x : Scene)
    → IsScene root_a root_b x → Upto IfToObject (history root_a root_b x.journal) → IsInTime (history root_a root_b x.journal)

abbrev pub AnswersAreLeft : Type 0
AnswersAreLeft =
    (root_a root_b : Option ObjectId) (x : Scene)
    → IsScene root_a root_b x → Upto IfAnswered (history root_a root_b x.journal) → EndsAreSo (history root_a root_b x.journal)

-- Of these what is not known is how calls end: each as it was answered.
abbrev pub IfCallAnswered : History → JournalEntry → Type 0
IfCallAnswered h (entry.Ended v x) = (s : Stamp) → asking h.journal v x.call.0 ≡ Some (OfCall s) → EndsCall h s (answer_of h.journal s) x.outcome x.refs
IfCallAnswered h e = Unit {0}

abbrev pub CallsAreLeft : Type 0
CallsAreLeft =
    (root_a root_b : Option ObjectId) (x : Scene)
    → IsScene root_a root_b x → Upto IfCallAnswered (history root_a root_b x.journal) → EndsAreSo (history root_a root_b x.journal)

-- And of these, where the call was not answered, that its reference stands for broken.
abbrev pub IfBroken : History → JournalEntry → Type 0
IfBroken h (entry.Ended v x) = (s : Stamp) → asking h.journal v x.call.0 ≡ Some (OfCall s) → answer_of h.journal s ≡ None → StandsFor h (caller s) Broken
IfBroken h e = Unit {0}

abbrev pub BrokenCallsAreLeft : Type 0
BrokenCallsAreLeft =
    (root_a root_b : Option ObjectId) (x : Scene)
    → IsScene root_a root_b x → Upto IfBroken (history root_a root_b x.journal) → EndsAreSo (history root_a root_b x.journal)
