-- What an event writes to the journal: no entry but those of its effects is of a message.
use Rattle.std.proofs.Common.{ℕ, Option, None, Some, Result, Ok, Err, List, [], ◌∷◌, ◌++◌, All, map}
use Rattle.std.proofs.lemmas.List.Elements.{All-nil, All-cons, All-append, All-map}
use Rattle.rpc_msg.specs.declared.ids.Vat.{Vat}
use Rattle.rpc_msg.specs.declared.ids.RefId.{RefId}
use Rattle.rpc_journal.specs.declared.entry.Origin.{Origin}
use Rattle.rpc_journal.specs.declared.entry.Origin.TheVariants as origin
use Rattle.rpc_journal.specs.declared.entry.JournalEntry.{JournalEntry}
use Rattle.rpc_journal.specs.declared.entry.JournalEntry.TheVariants as entry
use Rattle.rpc_machine.specs.declared.command.CallCommand.{CallCommand}
use Rattle.rpc_machine.specs.declared.command.Command.{Command}
use Rattle.rpc_machine.specs.declared.command.Command.TheVariants as command
use Rattle.rpc_machine.specs.declared.command.Granted.{Granted}
use Rattle.rpc_machine.specs.declared.command.Granted.TheVariants as granted
use Rattle.rpc_machine.specs.declared.command.Refusal.{Refusal}
use Rattle.rpc_machine.specs.declared.command.Refusal.TheVariants as refusal
use Rattle.rpc_machine.specs.declared.command.Effects.{Effects}
use Rattle.rpc_machine.specs.Journal.{went_down, effect_entries, refused_entries, born, born_promise, asked_entries, made_entries, advanced_entries, granted_entries, own_entries}
use Rattle.laws_understood.specs.Understood.{AllUnderstood, IfSends}

abbrev pub AllFine : List JournalEntry → Type 0
AllFine es = All IfSends es

pub none : AllFine []
none = All-nil IfSends

one : (e : JournalEntry) → IfSends e → AllFine (e ∷ [])
one e i = All-cons IfSends e [] i none

pub both : (xs ys : List JournalEntry) → AllFine xs → AllFine ys → AllFine (xs ++ ys)
both xs ys h k = All-append IfSends xs ys h k

-- ---- Effects

module _ (v : Vat) where
  pub got : AllFine (entry.Got v ∷ [])
  got = one (entry.Got v) tt

  fell : (o : Option ℕ) → AllFine (went_down v o)
  fell None = none
  fell (Some n) = one (entry.Down v n) tt

  pub effects : (x : Effects) → AllUnderstood x.sends → AllFine (effect_entries v x)
  effects x h =
      let ms = map (entry.Sent v) x.sends in
      let ds = map (entry.Delivered v) x.deliveries in
      let es = map (entry.Ended v) x.answers in
      let sent : AllFine ms = All-map IfSends (entry.Sent v) x.sends h in
      let told : AllFine (ms ++ ds) = both ms ds sent (All-map IfSends (entry.Delivered v) x.deliveries (λ k d lt. tt)) in
      let ended : AllFine (ms ++ ds ++ es) = both (ms ++ ds) es told (All-map IfSends (entry.Ended v) x.answers (λ k d lt. tt)) in
      both (ms ++ ds ++ es) (went_down v x.down) ended (fell x.down)

  -- ---- A command's own entry

  is_born : (o : Origin) (g : Granted) → AllFine (born v o g)
  is_born o (granted.Reference r) = one (entry.Born v r o) tt
  is_born o g = none

  is_promised : (g : Granted) → AllFine (born_promise v g)
  is_promised (granted.Promise p r) = one _ tt
  is_promised g = none

  is_asked : (g : Granted) → AllFine (asked_entries v g)
  is_asked (granted.Call c) = one (entry.Asked v c) tt
  is_asked g = none

  is_made : (before : List JournalEntry) (c : CallCommand) (g : Granted) → AllFine (made_entries before v c g)
  is_made before c (granted.Call id) = one _ tt
  is_made before c g = none

  is_advanced : (r : RefId) (g : Granted) → AllFine (advanced_entries v r g)
  is_advanced r (granted.Advanced a) = one (entry.Advanced v r a) tt
  is_advanced r g = none

  is_refused : (r : Refusal) → AllFine (refused_entries v r)
  is_refused refusal.Down = none
  is_refused r = one (entry.Refused v _) tt

  is_granted : (before : List JournalEntry) (c : Command) (g : Granted) → AllFine (granted_entries before v c g)
  is_granted before (command.Host o) g = is_born (origin.Object o) g
  is_granted before (command.CloneRef r) g = is_born (origin.Clone r) g
  is_granted before (command.DropRef r) g = one (entry.Dropped v r) tt
  is_granted before command.Bootstrap g = is_asked g
  is_granted before (command.Call c) g = is_made before c g
  is_granted before (command.Field c path) g = is_born (origin.Field c path) g
  is_granted before command.Promise g = is_promised g
  is_granted before (command.Resolve p r) g = one (entry.Resolved v p r) tt
  is_granted before (command.Reject p why) g = one (entry.Rejected v p why) tt
  is_granted before (command.Answer t payload refs) g = one _ tt
  is_granted before (command.Fail t why) g = one _ tt
  is_granted before (command.Finish c) g = one (entry.Finished v c) tt
  is_granted before (command.Advance r) g = is_advanced r g
  is_granted before (command.Shut n) g = none

  pub own : (before : List JournalEntry) (c : Command) (a : Result Granted Refusal) → AllFine (own_entries before v c a)
  own before c (Ok g) = is_granted before c g
  own before c (Err r) = is_refused r
