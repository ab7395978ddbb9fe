-- Of two ends holds what holds of the world to which their run leads.
use Rattle.std.proofs.Common.{◌≡◌, List, [], ◌∷◌, ◌++◌, length, drop, refl, sym, ap, subst, ◌∙◌}
use Rattle.rpc_machine.specs.World.{World, Run, new_world}
use Rattle.rpc_machine.specs.Journal.{journal}
use Rattle.laws_sound.specs.Promised.{events_of, WorldsKeepPromises}
use Rattle.link_logs.specs.Orders.{IsWhereTheyEnd, OrdersAreRuns}
use Rattle.link_logs.specs.Promises.{Pair, world_of, happened_in, journal_of, shut, IsTold, OrdersKeepPromises}
use Rattle.link_logs.proofs.Counting.{no_counts}

behind : {X : Type 0} (xs ys zs : List X) → xs ++ ys ≡ zs → ys ≡ drop (length xs) zs
behind [] ys zs e = e
behind (x ∷ xs) ys [] e = absurd (cc)
behind (x ∷ xs) ys (z ∷ zs) e = behind xs ys zs (ap (λ l. drop 1 l) e)

same_world : (p : Pair) (w : World) → IsWhereTheyEnd p.side_a p.side_b p.log_a p.log_b w → w ≡ world_of p
same_world p w e = by e.core_a (behind _ _ _ e.inbox_a) e.core_b (behind _ _ _ e.inbox_b)
  where
    by : w.a.core ≡ (world_of p).a.core → w.a.inbox ≡ (world_of p).a.inbox → w.b.core ≡ (world_of p).b.core → w.b.inbox ≡ (world_of p).b.inbox → w ≡ world_of p
    by a i b j =
        ap (λ s. record { a = record { core = s; inbox = w.a.inbox }; b = w.b }) a
        ∙ ap (λ ms. record { a = record { core = (p.side_a).core; inbox = ms }; b = w.b }) i
        ∙ ap (λ s. record { a = (world_of p).a; b = record { core = s; inbox = w.b.inbox } }) b
        ∙ ap (λ ms. record { a = (world_of p).a; b = record { core = (p.side_b).core; inbox = ms } }) j

pub orders_keep_promises : OrdersAreRuns → WorldsKeepPromises → OrdersKeepPromises
orders_keep_promises runs worlds p begun_a begun_b g =
    let a = (p.start_a.core).bootstrap in
    let b = (p.start_b.core).bootstrap in
    let r = runs a b p.start_a p.start_b p.side_a p.side_b p.log_a p.log_b begun_a begun_b g in
    let ran : Run (new_world a b) (happened_in p) (world_of p) = subst (λ (w : World). Run (new_world a b) (happened_in p) w) (same_world p r.world r.ends) r.ran in
    let counts = no_counts [] (happened_in p) refl in record {
      ran = ran;
      told = r.written;
      promised =
          worlds (journal_of p) (shut p) (world_of p)
          (record { root_a = a; root_b = b; happened = happened_in p; ran = ran; told = ap (λ h. events_of h) r.written ∙ counts })
          (λ v. refl);
    }
