-- To exchange messages is to hand them over, one by one.
use Rattle.std.proofs.Common.{◌≡◌, ℕ, zero, suc, List, [], ◌∷◌, ◌++◌, refl, sym, ap, subst, ◌∙◌}
use Rattle.rpc_msg.specs.declared.ids.Vat.TheVariants.{A, B}
use Rattle.rpc_msg.specs.declared.message.Message.{Message}
use Rattle.vat_host.specs.Hosting.{Hosted}
use Rattle.vat_host.specs.Exchanging.{Carries, Exchanges, HearsAll}
use Rattle.vat_hosts.specs.Exchanges.{between}
use Rattle.vat_hosts.specs.Hosts.{Act, ActsAll, Hosts, without}
use Rattle.vat_hosts.specs.Hosts.Act.{Takes, Hands}

-- Acts lead from the one to the other.
abbrev Leads : Hosts → Hosts → Type 0
Leads p q = (xs : List Act) × ActsAll p xs q

acts_on : (p : Hosts) (xs : List Act) (q : Hosts) (ys : List Act) (r : Hosts) → ActsAll p xs q → ActsAll q ys r → ActsAll p (xs ++ ys) r
acts_on p [] q ys r same more = subst (λ (p : Hosts). ActsAll p ys r) same more
acts_on p (x ∷ xs) q ys r (mid, first, rest) more = (mid, first, acts_on mid xs q ys r rest more)

leads_on : (p q r : Hosts) → Leads p q → Leads q r → Leads p r
leads_on p q r (xs, first) (ys, then) = (xs ++ ys, acts_on p xs q ys r first then)

carried_a : (ms : List Message) (a b b_new : Hosted) → a.messages ≡ ms → HearsAll b ms b_new → Leads (between a b) (between (without a []) b_new)
carried_a [] a b b_new none same = ([], ap (λ (h : Hosted). between (without a []) h) same ∙ ap (λ (l : List Message). between (without a l) b) (sym none))
carried_a (m ∷ ms) a b b_new is (mid, hears, more) =
    let rest = carried_a ms (without a ms) mid b_new refl more in (
      Takes A ∷ Hands B ∷ rest.0,
      (
        record { a = record { host = without a ms; in_hand = [] }; b = record { host = b; in_hand = m ∷ [] } },
        (m, ms, is, refl),
        (between (without a ms) mid, (m, [], refl, (mid, hears, refl)), rest.1),
      ),
    )

carried_b : (ms : List Message) (a b a_new : Hosted) → b.messages ≡ ms → HearsAll a ms a_new → Leads (between a b) (between a_new (without b []))
carried_b [] a b a_new none same = ([], ap (λ (h : Hosted). between h (without b [])) same ∙ ap (λ (l : List Message). between a (without b l)) (sym none))
carried_b (m ∷ ms) a b a_new is (mid, hears, more) =
    let rest = carried_b ms mid (without b ms) a_new refl more in (
      Takes B ∷ Hands A ∷ rest.0,
      (
        record { a = record { host = a; in_hand = m ∷ [] }; b = record { host = without b ms; in_hand = [] } },
        (m, ms, is, refl),
        (between mid (without b ms), (m, [], refl, (mid, hears, refl)), rest.1),
      ),
    )

carries_a : (a b a_new b_new : Hosted) → Carries a b a_new b_new → Leads (between a b) (between a_new b_new)
carries_a a b a_new b_new (sent, heard) = subst (λ (h : Hosted). Leads (between a b) (between h b_new)) (sym sent) (carried_a a.messages a b b_new refl heard)

carries_b : (a b a_new b_new : Hosted) → Carries b a b_new a_new → Leads (between a b) (between a_new b_new)
carries_b a b a_new b_new (sent, heard) = subst (λ (h : Hosted). Leads (between a b) (between a_new h)) (sym sent) (carried_b b.messages a b a_new refl heard)

pub exchanged : (n : ℕ) (a b a_new b_new : Hosted) → Exchanges n a b a_new b_new → Leads (between a b) (between a_new b_new)
exchanged zero a b a_new b_new (same_a, same_b) = ([], ap (λ (h : Hosted). between h b_new) same_a ∙ ap (λ (h : Hosted). between a h) same_b)
exchanged (suc n) a b a_new b_new (a_sent, b_heard, b_sent, a_heard, first, second, more) =
    leads_on (between a b) (between a_sent b_heard) (between a_new b_new) (carries_a a b a_sent b_heard first)
    (leads_on (between a_sent b_heard) (between a_heard b_sent) (between a_new b_new) (carries_b a_sent b_heard a_heard b_sent second) (exchanged n a_heard b_sent a_new b_new more))
