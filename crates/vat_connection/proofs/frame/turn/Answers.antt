use Rattle.std.proofs.Common.{◌≡◌, Result, Err, inl, sym, subst, rules}
use Rattle.peer_adapter.specs.declared.errors.PeerError.{PeerError}
use Rattle.peer_adapter.specs.declared.errors.PeerFault.{PeerFault}
use Rattle.peer_large.specs.Opening.{seen}
use Rattle.peer_large.specs.Sparing.{Coming, Comes, comes}
use Rattle.vat_connection.specs.Speaking.{tables_of}
use Rattle.vat_connection.specs.Framing.{IsRefused}
use Rattle.vat_connection.proofs.frame.turn.Goals as goal

pub returns-in-Ok : goal.returns-in-Ok
returns-in-Ok c = c.in-Ok.ensures (tables_of c.args.core.now) c.has_all_answers.ensures (λ e r told. search rules) (λ e r told. search rules) (λ q r told. search rules)

pub returns-in-Err-Fault : goal.returns-in-Err-Fault
returns-in-Err-Fault c =
    let coming = comes (tables_of c.args.core.now) c.args.adapter.now (seen c.args.came) in
    let refused : coming ≡ Err c.in-Err-Fault.fault =
    subst (λ (e : PeerError). Comes coming (Err e) c.inbound.new.self) c.in-Err-Fault.field-0-is (c.in-Err-Fault.ensures (tables_of c.args.core.now) c.has_all_answers.ensures (λ e r told. search rules) (λ e r told. search rules) (λ q r told. search rules)) in
    inl (subst (λ (r : Result Coming PeerFault). IsRefused r c.code-in-Err-Fault.result) (sym refused) c.code-in-Err-Fault.ensures)
