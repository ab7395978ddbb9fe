-- The stamp that the next call gets is one under which no call was made; so the call is found under it.
use Rattle.std.proofs.Common.{◌≡◌, ℕ, ◌+◌, ◌<◌, Bool, true, false, ◌&&◌, nat_eq, Option, None, Some, List, [], ◌∷◌, ◌++◌, length, refl, ap, subst, ◌∙◌, arith}
use Rattle.finite_maps.proofs.Tested.{itself}
use Rattle.rpc_msg.specs.declared.ids.Vat.{Vat}
use Rattle.rpc_msg.specs.declared.ids.CallId.{CallId}
use Rattle.rpc_msg.specs.declared.ids.Stamp.{Stamp}
use Rattle.rpc_msg.specs.declared.ids.ObjectId.{ObjectId}
use Rattle.rpc_journal.specs.declared.entry.MadeCall.{MadeCall}
use Rattle.rpc_journal.specs.declared.entry.JournalEntry.{JournalEntry}
use Rattle.rpc_journal.specs.declared.entry.JournalEntry.TheVariants as entry
use Rattle.rpc_journal.specs.History.{same_vat, same_stamp, caller, stamp_of, or_rest, in_front, if_so, made, made_one, made_with}
use Rattle.rpc_machine.specs.declared.command.CallCommand.{CallCommand}
use Rattle.rpc_machine.specs.declared.command.Granted.TheVariants as granted
use Rattle.rpc_machine.specs.Journal.{index_in, made_entries}
use Rattle.rpc_machine.specs.Claims.{IsNumbered, AreNumbered}
use Rattle.laws_runs.specs.Scenes.{Scene, IsScene}
use Rattle.laws_runs.proofs.Reading as reading
use Rattle.laws_runs.proofs.ToldAlike.{same_made}
use Rattle.laws_runs.proofs.Numbered.{numbered}
use Rattle.laws_runs.proofs.Running.{scenes_show_runs}
use Rattle.rpc_machine.specs.Journal.{journal}
use Rattle.laws_meanings.specs.AsMade.{WasMade}
use Rattle.laws_meanings.proofs.Entries.{nothing_before}

-- A call that was made is among the numbered ones.
below : (h : List JournalEntry) (s : Stamp) (i : ℕ) (m : MadeCall) → IsNumbered (caller s) i (made h (caller s)) → made_with h s ≡ Some m → s.index < i + length (made h (caller s))
below [] s i m n e = cc
below (entry.Made v x ∷ es) s i m n e = by (same_vat s.vat v) (nat_eq s.reference.0 x.reference.0) (nat_eq s.index x.index) refl (λ j. below es s j m) n e
  where
    by : (a b c : Bool) → nat_eq s.index x.index ≡ c → ((j : ℕ) → IsNumbered (caller s) j (made es (caller s)) → made_with es s ≡ Some m → s.index < j + length (made es (caller s)))
        → IsNumbered (caller s) i (in_front (if_so (a && b) (stamp_of v x)) (made es (caller s))) → or_rest (if_so (a && b && c) x) (made_with es s) ≡ Some m → s.index < i + length (in_front (if_so (a && b) (stamp_of v x)) (made es (caller s)))
    by true true true f r n e = let k : x.index ≡ i = ap (λ (t : Stamp). t.index) n.0 in let j : s.index ≡ x.index = grind arith in omega arith
    by true true false f r n e = let k = r (i + 1) n.1 e in omega arith
    by true false c f r n e = r i n e
    by false b c f r n e = r i n e
below (e ∷ es) s i m n f = below es s i m n f

pub is_unused : (h : List JournalEntry) (v : Vat) (k : CallCommand) → AreNumbered h → made_with h (record { vat = v; reference = k.reference; index = index_in h v k.reference }) ≡ None
is_unused h v k n = by (made_with h s) refl
  where
    s : Stamp
    s = record { vat = v; reference = k.reference; index = index_in h v k.reference }

    by : (o : Option MadeCall) → made_with h s ≡ o → o ≡ None
    by None e = refl
    by (Some m) e = let b = below h s 0 m (n (caller s)) e in absurd (omega arith)

pub same_itself : (s : Stamp) → same_stamp s s ≡ true
same_itself s = by (same_vat s.vat s.vat) (nat_eq s.reference.0 s.reference.0) (nat_eq s.index s.index) (reading.itself s.vat) (itself s.reference.0) (itself s.index)
  where
    by : (a b c : Bool) → a ≡ true → b ≡ true → c ≡ true → (a && b && c) ≡ true
    by a b c e f g = rw (e, f, g) refl

-- What a call writes of itself.
pub call_made : (h : List JournalEntry) (v : Vat) (k : CallCommand) (id : CallId) (s : Stamp) (count : ℕ) → AreNumbered h → s ≡ record { vat = v; reference = k.reference; index = index_in h v k.reference } → count ≡ length k.refs
    → WasMade (h ++ made_entries h v k (granted.Call id)) s k.interface k.method k.payload count
call_made h v k id s count n e l = record { call = m; was_made = found; interface_is = refl; method_is = refl; payload_is = refl; refs = l }
  where
    m : MadeCall
    m = record { reference = k.reference; index = index_in h v k.reference; call = id; interface = k.interface; method = k.method; payload = k.payload; refs = k.refs }

    found : made_with (h ++ made_entries h v k (granted.Call id)) s ≡ Some m
    found =
        ap (made_with (h ++ made_entries h v k (granted.Call id))) e
        ∙ nothing_before (made_one (stamp_of v m)) h (made_entries h v k (granted.Call id)) (is_unused h v k n)
        ∙ ap (λ (b : Bool). or_rest (if_so b m) None) (same_itself (stamp_of v m))

-- In each scene the calls made through a reference are numbered.
pub numbered_in : (a b : Option ObjectId) (x : Scene) → IsScene a b x → AreNumbered x.journal
numbered_in a b x k r =
    let s = scenes_show_runs a b x k in
    subst (λ (l : List Stamp). IsNumbered r 0 l) (same_made (journal s.0) x.journal s.3.history r) (numbered s.0 r)
