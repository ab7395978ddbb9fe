-- What a connection told as released is not served until it is hosted.
use Rattle.std.proofs.Common.{◌≡◌, ◌≢◌, List, [], ◌∷◌, ◌++◌, append-nil, flat_map, Option, Some, Result, Ok, Err, ◌⊎◌, inl, inr, refl, sym, ap, subst, ◌∙◌}
use Rattle.rpc_msg.specs.declared.ids.ObjectId.{ObjectId}
use Rattle.rpc_msg.specs.declared.ids.Vat.{Vat}
use Rattle.rpc_journal.specs.declared.report.Delivery.{Delivery}
use Rattle.rpc_machine.specs.declared.command.Command.{Command}
use Rattle.rpc_machine.specs.declared.command.Command.TheVariants as command
use Rattle.rpc_machine.specs.declared.command.Level.{Level}
use Rattle.laws_authority.specs.Reach.{IsIn}
use Rattle.vat_host.specs.declared.event.Event.TheVariants as event
use Rattle.vat_host.specs.Hosting.{Tells as HostTells}
use Rattle.vat_hosts.specs.OneHost.{Act as HostAct, happened_by}
use Rattle.vat_hosts.specs.OneHost.Act.{Commands as HostCommands, Takes, Receives as HostReceives, Asks as HostAsks}
use Rattle.vat_hosts.specs.Released.{IsHostedIn as IsHostedByHost, ReleasedAreNotServed as HostsServeNoReleased}
use Rattle.vat_hosts.specs.Served.{HostsServeWhatIsGiven}
use Rattle.vat_hosts.proofs.Served.{in_either}
use Rattle.vat_connection.specs.Connecting.{Connected, TellsNext, fresh}
use Rattle.vat_connections.specs.OneConnection.{Act, ActsAll, but_shut, command_of, commanded_by}
use Rattle.vat_connections.specs.OneConnection.Act.{Commands, Receives, Ends, Shuts, Gives, Asks, SetsLimits, SetsFinishes}
use Rattle.vat_connections.specs.Released.{IsHostedIn, ReleasedAreNotServed}
use Rattle.vat_connections.proofs.Moving.{in_left, in_right}
use Rattle.vat_connections.proofs.OneConnection.{So, Leads, leads_all, so_all, so_new}
use Rattle.vat_connections.proofs.Working.{Works, acts_on, commands-append, works_on}

-- ---- a Host among commands

abbrev commanded : List HostAct → List Command
commanded xs = flat_map command_of (flat_map happened_by xs)

host_among : (o : ObjectId) (xs : List HostAct) → IsHostedByHost o xs → IsIn (command.Host o) (commanded xs)
host_among o [] none = absurd none
host_among o (HostCommands c (Ok g) ∷ xs) (inl is) =
    subst (λ (d : Command). IsIn (command.Host o) (but_shut d ++ commanded xs)) (sym is) (inl refl)
host_among o (HostCommands c (Ok g) ∷ xs) (inr hosted) = in_right (command.Host o) (but_shut c) (commanded xs) (host_among o xs hosted)
host_among o (HostCommands c (Err r) ∷ xs) (inl none) = absurd none
host_among o (HostCommands c (Err r) ∷ xs) (inr hosted) = host_among o xs hosted
host_among o (Takes ms ∷ xs) hosted = host_among o xs hosted
host_among o (HostReceives m ∷ xs) hosted = host_among o xs hosted
host_among o (HostAsks e ∷ xs) hosted = host_among o xs hosted

alone : (c d : Command) → IsIn c (d ∷ []) → d ≡ c
alone c d (inl is) = is
alone c d (inr none) = absurd none

is_host : (o : ObjectId) (c : Command) → IsIn (command.Host o) (but_shut c) → c ≡ command.Host o
is_host o (command.Host p) i = alone (command.Host o) (command.Host p) i
is_host o (command.CloneRef r) i = alone (command.Host o) (command.CloneRef r) i
is_host o (command.DropRef r) i = alone (command.Host o) (command.DropRef r) i
is_host o command.Bootstrap i = alone (command.Host o) command.Bootstrap i
is_host o (command.Call call) i = alone (command.Host o) (command.Call call) i
is_host o (command.Field call path) i = alone (command.Host o) (command.Field call path) i
is_host o command.Promise i = alone (command.Host o) command.Promise i
is_host o (command.Resolve p r) i = alone (command.Host o) (command.Resolve p r) i
is_host o (command.Reject p e) i = alone (command.Host o) (command.Reject p e) i
is_host o (command.Answer t p refs) i = alone (command.Host o) (command.Answer t p refs) i
is_host o (command.Fail t e) i = alone (command.Host o) (command.Fail t e) i
is_host o (command.Finish call) i = alone (command.Host o) (command.Finish call) i
is_host o (command.Advance r) i = alone (command.Host o) (command.Advance r) i
is_host o (command.Shut n) i = absurd i

hosted_by : (o : ObjectId) (xs : List Act) → IsIn (command.Host o) (flat_map commanded_by xs) → IsHostedIn o xs
hosted_by o [] i = absurd i
hosted_by o (Commands c (Ok g) ∷ xs) i = by (λ j. hosted_by o xs j) (in_either (command.Host o) (but_shut c) (flat_map commanded_by xs) i)
  where
    by : (IsIn (command.Host o) (flat_map commanded_by xs) → IsHostedIn o xs) → IsIn (command.Host o) (but_shut c) ⊎ IsIn (command.Host o) (flat_map commanded_by xs)
        → (c ≡ command.Host o) ⊎ IsHostedIn o xs
    by rest (inl j) = inl (is_host o c j)
    by rest (inr j) = inr (rest j)
hosted_by o (Commands c (Err r) ∷ xs) i = inr (hosted_by o xs i)
hosted_by o (Receives bytes ∷ xs) i = hosted_by o xs i
hosted_by o (Ends ∷ xs) i = hosted_by o xs i
hosted_by o (Shuts n ∷ xs) i = hosted_by o xs i
hosted_by o (Gives bytes ∷ xs) i = hosted_by o xs i
hosted_by o (Asks e ∷ xs) i = hosted_by o xs i
hosted_by o (SetsLimits limits ∷ xs) i = hosted_by o xs i
hosted_by o (SetsFinishes finishes ∷ xs) i = hosted_by o xs i

-- ---- what is told is told by the host

released_by_host : (c d : Connected) (o : ObjectId) → TellsNext c (Some (event.Released o)) d → HostTells c.speaker.host (Some (event.Released o)) d.speaker.host
released_by_host c d o (inl (tells, is)) = inl tells
released_by_host c d o (inr (inl (tells, is))) = inr (inl tells)
released_by_host c d o (inr (inr (inl cuts))) = absurd cuts
released_by_host c d o (inr (inr (inr (tells, none, is)))) = absurd tells

served_by_host : (c d : Connected) (y : Delivery) → TellsNext c (Some (event.Served y)) d → HostTells c.speaker.host (Some (event.Served y)) d.speaker.host
served_by_host c d y (inl (tells, is)) = inl tells
served_by_host c d y (inr (inl (tells, is))) = absurd tells
served_by_host c d y (inr (inr (inl cuts))) = absurd cuts
served_by_host c d y (inr (inr (inr (tells, none, is)))) = absurd tells

-- ---- the law

pub not_served : HostsServeWhatIsGiven → HostsServeNoReleased → ReleasedAreNotServed
not_served hosts law vat level root xs old before o released (work, worked, told) ys mid acts not y new (later, goes_on, serves) =
    law vat level root (so.acts ++ first.acts) work.speaker.host
    (acts_on _ so.acts old.speaker.host first.acts work.speaker.host so.lead first.lead)
    o released.speaker.host (released_by_host work released o told)
    (leads.acts ++ second.acts) later.speaker.host
    (acts_on released.speaker.host leads.acts mid.speaker.host second.acts later.speaker.host leads.lead second.lead)
    (λ hosted. not (hosted_by o ys (subst (λ (cs : List Command). IsIn (command.Host o) cs) commands (host_among o (leads.acts ++ second.acts) hosted))))
    y new.speaker.host (served_by_host later new y serves)
  where
    so : So hosts vat level root xs old
    so = so_all hosts vat level root [] xs (fresh vat level root) old (so_new hosts vat level root) before

    so_then : So hosts vat level root (xs ++ Asks (Some (event.Released o)) ∷ []) released
    so_then = so_all hosts vat level root xs (Asks (Some (event.Released o)) ∷ []) old released so (released, (work, worked, told), refl)

    first : Works old.speaker.host work.speaker.host
    first = works_on old work worked

    second : Works mid.speaker.host later.speaker.host
    second = works_on mid later goes_on

    leads : Leads released ys mid
    leads = leads_all hosts vat level root (xs ++ Asks (Some (event.Released o)) ∷ []) ys released mid so_then acts

    commands : commanded (leads.acts ++ second.acts) ≡ flat_map commanded_by ys
    commands =
        commands-append leads.acts second.acts
        ∙ ap (λ (cs : List Command). cs ++ commanded second.acts) leads.commanded
        ∙ ap (λ (cs : List Command). flat_map commanded_by ys ++ cs) second.commands
        ∙ append-nil (flat_map commanded_by ys)
