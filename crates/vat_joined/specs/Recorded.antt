-- Two connections and the bytes on their way between them, with the journal of what the two applications did and were told.
use Rattle.std.specs.Prelude.{◌≡◌, ℕ, cond, List, [], ◌∷◌, ◌++◌, flat_map, Option, Some, Ok, refl}
use Rattle.std.specs.Coded.{Coded, code_by, coded×, coded_ℕ, coded_list}
use Rattle.rpc_msg.specs.declared.ids.ObjectId.{ObjectId}
use Rattle.rpc_msg.specs.declared.ids.Vat.{Vat}
use Rattle.rpc_machine.specs.declared.command.Command.{Command}
use Rattle.rpc_machine.specs.declared.command.Granted.{Granted}
use Rattle.rpc_machine.specs.Refusals.{is_shut}
use Rattle.vat_connection.specs.Connecting.{connected_code}
use Rattle.vat_connections.specs.OneConnection.{Act}
use Rattle.vat_connections.specs.OneConnection.Act.{Commands, Asks}
use Rattle.laws_in_bytes.specs.Joined.{Doing, Does, FinishAtOnce, Joined, JoinedRun, new_joined}
use Rattle.vat_joined.specs.contracts.entry.JoinedEntry as entry_row
use Rattle.vat_joined.specs.declared.entry.JoinedEntry.{JoinedEntry}
use Rattle.vat_joined.specs.declared.entry.JoinedEntry.TheVariants as entry

-- The two connections with the bytes on their way to each, and the journal, the oldest entry first.
pub record Recorded : Type 0 where
  pub joined : Joined
  pub journal : List JoinedEntry

abbrev pub joined_code : Coded Joined
joined_code =
    code_by ((_ × _) × (List ℕ × List ℕ))
    (coded× (coded× connected_code connected_code) (coded× (coded_list coded_ℕ) (coded_list coded_ℕ)))
    (λ j. ((j.a, j.b), (j.to_a, j.to_b)))
    (λ p. record { a = p.0.0; b = p.0.1; to_a = p.1.0; to_b = p.1.1 })
    (λ _. refl)

abbrev pub recorded_code : Coded Recorded
recorded_code =
    code_by (Joined × List JoinedEntry)
    (coded× joined_code (coded_list entry_row.the_row.coded))
    (λ w. (w.joined, w.journal))
    (λ p. record { joined = p.0; journal = p.1 })
    (λ _. refl)

-- Two new connections of level 1 with the letters A and B and these bootstrap objects: no byte is on its way, and nothing was done.
abbrev pub new_recorded : Option ObjectId → Option ObjectId → Recorded
new_recorded root_a root_b = record { joined = new_joined (λ v. v) root_a root_b; journal = [] }

-- The bytes on their way: those that were gathered, and those that were put behind them.
abbrev pub on_way : List ℕ × List ℕ → List ℕ
on_way s = s.0 ++ s.1

-- ---- what is noted

-- A command that was done has its entry, except for a shut: a vat also goes down by itself.
abbrev pub commanded : Vat → Command → Granted → List JoinedEntry
commanded v c granted = cond (is_shut c) [] (entry.Commanded v c granted ∷ [])

-- So has what the application was told.
abbrev pub entries_by_act : Vat → Act → List JoinedEntry
entries_by_act v (Commands c (Ok granted)) = commanded v c granted
entries_by_act v (Asks (Some e)) = entry.Told v e ∷ []
entries_by_act v x = []

abbrev pub entries_by : Doing → List JoinedEntry
entries_by x = entries_by_act x.vat x.act

-- ---- what may be done

-- An act of one of the two, with its entries.
pub record DoesNoted (old : Recorded) (x : Doing) (new : Recorded) : Type 0 where
  pub does : Does old.joined x new.joined
  pub noted : new.journal ≡ old.journal ++ entries_by x

-- Acts in order lead to this from two new connections with any letters, and the journal has what they note. Finishes go at once.
pub record IsReached (w : Recorded) : Type 0 where
  pub letters : Vat → Vat
  pub root_a : Option ObjectId
  pub root_b : Option ObjectId
  pub done : List Doing
  pub ran : JoinedRun (new_joined letters root_a root_b) done w.joined
  pub at_once : FinishAtOnce done
  pub noted : w.journal ≡ flat_map entries_by done
