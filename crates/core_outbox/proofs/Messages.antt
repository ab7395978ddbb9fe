-- The messages of Finishes and Releases, one by one.
use Rattle.std.proofs.Common.{◌≡◌, ℕ, zero, suc, ◌+◌, ◌<◌, Bool, List, [], ◌∷◌, ◌++◌, length, take, get_or, append_assoc, append-nil, refl, sym, ap, ◌∙◌, arith}
use Rattle.std.specs.Cmp.{nat_cmp_total}
use Rattle.std.specs.FinMap as map
use Rattle.finite_maps.specs.Tally.{Map}
use Rattle.rpc_msg.specs.declared.message.Message.{Message}
use Rattle.std.specs.FinMap.{entries-insert}
use Rattle.rpc_msg.specs.declared.message.PlainMessage.TheVariants as plain
use Rattle.rpc_machine.specs.declared.command.Effects.{Effects}
use Rattle.rpc_machine.specs.Progress.{Progress, send, export_id}
use Rattle.rpc_machine.specs.Sweeping.{release_each}
use Rattle.core_outbox.specs.Rising.{AllBelow}
use Rattle.core_outbox.specs.Outgoing.{Outgoing, finish_message, release_message, finish_messages, release_messages, with_finishes, finishing, effects_of, AreReleasesOf}
use Rattle.core_outbox.proofs.Search.{put_last, none_left}

finish_more : (xs : List (ℕ × Bool)) (i : ℕ) (d : ℕ × Bool) → i < length xs → finish_messages (take (suc i) xs) ≡ finish_messages (take i xs) ++ finish_message (get_or xs i d) ∷ []
finish_more [] i d lt = absurd (omega (arith, lt))
finish_more (x ∷ xs) zero d lt = refl
finish_more (x ∷ xs) (suc i) d lt = ap (λ (ms : List Message). finish_message x ∷ ms) (finish_more xs i d (omega (arith, lt)))

-- A loop's step: the next message goes to the end.
pub finish_next : (sent new old : List Message) (xs : List (ℕ × Bool)) (i : ℕ) (d : ℕ × Bool) → i < length xs → new ≡ sent ++ finish_message (get_or xs i d) ∷ [] → sent ≡ old ++ finish_messages (take i xs)
    → new ≡ old ++ finish_messages (take (i + 1) xs)
finish_next sent new old xs i d lt is before =
    let more : suc i ≡ i + 1 = omega arith in
    is
    ∙ ap (λ (ms : List Message). ms ++ finish_message (get_or xs i d) ∷ []) before
    ∙ append_assoc old (finish_messages (take i xs)) (finish_message (get_or xs i d) ∷ [])
    ∙ ap (λ (ms : List Message). old ++ ms) (sym (finish_more xs i d lt))
    ∙ ap (λ (n : ℕ). old ++ finish_messages (take n xs)) more

release_more : (xs : List (ℕ × ℕ)) (i : ℕ) (d : ℕ × ℕ) → i < length xs → release_messages (take (suc i) xs) ≡ release_messages (take i xs) ++ release_message (get_or xs i d) ∷ []
release_more [] i d lt = absurd (omega (arith, lt))
release_more (x ∷ xs) zero d lt = refl
release_more (x ∷ xs) (suc i) d lt = ap (λ (ms : List Message). release_message x ∷ ms) (release_more xs i d (omega (arith, lt)))

-- A loop's step: the next message goes to the end.
pub release_next : (sent new old : List Message) (xs : List (ℕ × ℕ)) (i : ℕ) (d : ℕ × ℕ) → i < length xs → new ≡ sent ++ release_message (get_or xs i d) ∷ [] → sent ≡ old ++ release_messages (take i xs)
    → new ≡ old ++ release_messages (take (i + 1) xs)
release_next sent new old xs i d lt is before =
    let more : suc i ≡ i + 1 = omega arith in
    is
    ∙ ap (λ (ms : List Message). ms ++ release_message (get_or xs i d) ∷ []) before
    ∙ append_assoc old (release_messages (take i xs)) (release_message (get_or xs i d) ∷ [])
    ∙ ap (λ (ms : List Message). old ++ ms) (sym (release_more xs i d lt))
    ∙ ap (λ (n : ℕ). old ++ release_messages (take n xs)) more

finish_messages_append : (xs ys : List (ℕ × Bool)) → finish_messages (xs ++ ys) ≡ finish_messages xs ++ finish_messages ys
finish_messages_append [] ys = refl
finish_messages_append (x ∷ xs) ys = ap (λ (ms : List Message). finish_message x ∷ ms) (finish_messages_append xs ys)

-- A Finish with the greatest id is the last.
pub finish_last : (o : Outgoing) (m : Map Bool) (q : ℕ) (flag : Bool) → m ≡ map.insert o.finishes q flag → AllBelow q (map.entries o.finishes) → with_finishes (record o { finishes = m }) ≡ finishing (with_finishes o) q flag
finish_last o m q flag is below =
    let entries : map.entries m ≡ map.entries o.finishes ++ (q, flag) ∷ [] = ap map.entries is ∙ entries-insert nat_cmp_total o.finishes q flag ∙ put_last q flag (map.entries o.finishes) below in
    ap (λ (es : List (ℕ × Bool)). record (o.said) { sends = o.said.sends ++ finish_messages es }) entries
    ∙ ap (λ (ms : List Message). record (o.said) { sends = o.said.sends ++ ms }) (finish_messages_append (map.entries o.finishes) ((q, flag) ∷ []))
    ∙ ap (λ (ms : List Message). record (o.said) { sends = ms }) (sym (append_assoc o.said.sends (finish_messages (map.entries o.finishes)) (finish_message (q, flag) ∷ [])))

released_each : (d : Progress) (xs : List (ℕ × ℕ)) → (release_each d xs).effects ≡ record (d.effects) { sends = d.effects.sends ++ release_messages xs }
released_each d [] = ap (λ (ms : List Message). record (d.effects) { sends = ms }) (sym (append-nil d.effects.sends))
released_each d (x ∷ xs) =
    released_each (send d (plain.Release (record { export = export_id x.0; count = x.1 }))) xs
    ∙ ap (λ (ms : List Message). record (d.effects) { sends = ms }) (append_assoc d.effects.sends (release_message x ∷ []) (release_messages xs))

-- What the machine says when its Releases are made.
pub releases_said : (o : Outgoing) → AreReleasesOf (effects_of o) o
releases_said o d effects released =
    released_each d (map.entries d.released)
    ∙ ap (λ (m : Map ℕ). record (d.effects) { sends = d.effects.sends ++ release_messages (map.entries m) }) released
    ∙ ap (λ (e : Effects). record e { sends = e.sends ++ release_messages (map.entries o.releases) }) effects
    ∙ ap (λ (ms : List Message). record (o.said) { sends = ms }) (append_assoc o.said.sends (finish_messages (map.entries o.finishes)) (release_messages (map.entries o.releases)))

-- Where there is nothing more to say, all is said.
pub all_said : (o : Outgoing) → o.finishes ≡ map.empty → o.releases ≡ map.empty → o ≡ record o { said = effects_of o; finishes = map.empty; releases = map.empty }
all_said o finishes releases =
    ap (λ (ms : List Message). record o { said = record (o.said) { sends = ms } }) (sym (append-nil o.said.sends))
    ∙ ap (λ (es : List (ℕ × Bool)). record o { said = record (o.said) { sends = o.said.sends ++ (finish_messages es ++ []) } }) (sym (none_left o.finishes finishes))
    ∙ ap (λ (es : List (ℕ × ℕ)). record o { said = record (o.said) { sends = o.said.sends ++ (finish_messages (map.entries o.finishes) ++ release_messages es) } }) (sym (none_left o.releases releases))
    ∙ ap (λ (m : Map Bool). record o { said = effects_of o; finishes = m }) finishes
    ∙ ap (λ (m : Map ℕ). record o { said = effects_of o; finishes = map.empty; releases = m }) releases
