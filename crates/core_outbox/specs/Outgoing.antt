-- The effects of a step in the making.
use Rattle.std.specs.Prelude.{◌≡◌, ℕ, ◌-◌, Bool, true, List, [], ◌∷◌, ◌++◌, refl}
use Rattle.std.specs.FinMap as map
use Rattle.std.specs.Coded.{Coded, code_by, coded×, coded_ℕ, coded_bool}
use Rattle.finite_maps.specs.Tally.{Map}
use Rattle.rpc_msg.specs.declared.message.PlainMessage.TheVariants as plain
use Rattle.rpc_msg.specs.declared.message.Message.{Message}
use Rattle.rpc_msg.specs.declared.message.Message.TheVariants as message
use Rattle.rpc_journal.specs.declared.report.Delivery.{Delivery}
use Rattle.rpc_journal.specs.declared.report.Ended.{Ended}
use Rattle.rpc_machine.specs.contracts.command.Effects as effects_row
use Rattle.rpc_machine.specs.declared.command.Effects.{Effects}
use Rattle.rpc_machine.specs.State.{map_code}
use Rattle.rpc_machine.specs.Progress.{Progress, quiet, export_id}
use Rattle.rpc_machine.specs.Sweeping.{releases}

-- What was said so far but for Finishes and Releases; the flag of each Finish, by question id, and the count of each
-- Release, by export id; whether the room of an Abort is still kept; and how many more fit without memory: messages,
-- deliveries and ended calls, of each kind so many, Finishes, and Releases.
pub record Outgoing : Type 0 where
  pub said : Effects
  pub finishes : Map Bool
  pub releases : Map ℕ
  pub can_abort : Bool
  pub room : ℕ
  pub finish_room : ℕ
  pub release_room : ℕ

abbrev pub outgoing_code : Coded Outgoing
outgoing_code =
    code_by ((Effects × (Map Bool × Map ℕ)) × ((Bool × ℕ) × (ℕ × ℕ)))
    (coded×
    (coded× effects_row.the_row.coded (coded× (map_code coded_bool) (map_code coded_ℕ)))
    (coded× (coded× coded_bool coded_ℕ) (coded× coded_ℕ coded_ℕ)))
    (λ o. ((o.said, (o.finishes, o.releases)), ((o.can_abort, o.room), (o.finish_room, o.release_room))))
    (λ p. record { said = p.0.0; finishes = p.0.1.0; releases = p.0.1.1; can_abort = p.1.0.0; room = p.1.0.1; finish_room = p.1.1.0; release_room = p.1.1.1 })
    (λ o. refl)

-- Nothing was said, and there is no room but the Abort's.
abbrev pub nothing_said : Outgoing
nothing_said = record { said = quiet; finishes = map.empty; releases = map.empty; can_abort = true; room = 0; finish_room = 0; release_room = 0 }

-- One message more.
abbrev pub with_message : Outgoing → Message → Outgoing
with_message o m = record o { said = record (o.said) { sends = o.said.sends ++ m ∷ [] }; room = o.room - 1 }

abbrev pub with_delivery : Outgoing → Delivery → Outgoing
with_delivery o d = record o { said = record (o.said) { deliveries = o.said.deliveries ++ d ∷ [] }; room = o.room - 1 }

abbrev pub with_ended : Outgoing → Ended → Outgoing
with_ended o e = record o { said = record (o.said) { answers = o.said.answers ++ e ∷ [] }; room = o.room - 1 }

-- A Finish of the question q, and a Release of the export e. A later one of the same id takes the place of the first.
abbrev pub with_finish : Outgoing → ℕ → Bool → Outgoing
with_finish o q flag = record o { finishes = map.insert o.finishes q flag; finish_room = o.finish_room - 1 }

abbrev pub with_release : Outgoing → ℕ → ℕ → Outgoing
with_release o e count = record o { releases = map.insert o.releases e count; release_room = o.release_room - 1 }

-- The messages of Finishes and of Releases.
abbrev pub finish_message : ℕ × Bool → Message
finish_message x = message.Plain (plain.Finish (record { question = record { 0 = x.0 }; release_result_caps = x.1 }))

abbrev pub release_message : ℕ × ℕ → Message
release_message x = message.Plain (plain.Release (record { export = export_id x.0; count = x.1 }))

abbrev pub finish_messages : List (ℕ × Bool) → List Message
finish_messages [] = []
finish_messages (x ∷ xs) = finish_message x ∷ finish_messages xs

abbrev pub release_messages : List (ℕ × ℕ) → List Message
release_messages [] = []
release_messages (x ∷ xs) = release_message x ∷ release_messages xs

-- What was said, and behind it the Finishes by rising question id.
abbrev pub with_finishes : Outgoing → Effects
with_finishes o = record (o.said) { sends = o.said.sends ++ finish_messages (map.entries o.finishes) }

-- The whole: what was said, then the Finishes by rising question id, then the Releases by rising export id.
abbrev pub effects_of : Outgoing → Effects
effects_of o = record (o.said) { sends = o.said.sends ++ (finish_messages (map.entries o.finishes) ++ release_messages (map.entries o.releases)) }

-- These effects with a Finish behind them.
abbrev pub finishing : Effects → ℕ → Bool → Effects
finishing effects q flag = record effects { sends = effects.sends ++ finish_message (q, flag) ∷ [] }

-- These are the effects of each step in progress that said so and let those imports go, once its Releases are made.
abbrev pub AreReleasesOf : Effects → Outgoing → Type 0
AreReleasesOf effects o = (d : Progress) → d.effects ≡ with_finishes o → d.released ≡ o.releases → (releases d).effects ≡ effects

-- All of it was taken, and its memory with it.
abbrev pub emptied : Outgoing → Outgoing
emptied o = record o { said = quiet; finishes = map.empty; releases = map.empty; room = 0; finish_room = 0; release_room = 0 }
