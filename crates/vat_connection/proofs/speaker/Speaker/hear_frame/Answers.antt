use Rattle.std.proofs.Common.{◌≡◌, ◌/◌, ℕ, List, length, Ok, Err, sym, ap, subst, ◌∙◌}
use Rattle.rpc_msg.specs.declared.ids.Stamp.{Stamp}
use Rattle.peer_large.specs.Opening.{seen}
use Rattle.vat_connection.specs.Load.{held_words}
use Rattle.vat_connection.specs.Speaking.{Speaking, HearsUp, came_of, stamp_of}
use Rattle.vat_connection.specs.Framing.{HearsOpened, Opens}
use Rattle.vat_connection.proofs.Saying.{speaking}
use Rattle.vat_connection.proofs.Framed.{not_opened, opened}
use Rattle.vat_connection.proofs.speaker.Speaker.hear_frame.Goals as goal

pub returns-in-Err : goal.returns-in-Err
returns-in-Err c =
    let start : Speaking = speaking c.self.inside.host c.self.inside.out c.self.inside.adapter c.self.inside.heard in
    let stamped : c.next_stamp-stamp.result ≡ stamp_of start = c.next_stamp-stamp.ensures ∙ ap stamp_of (sym c.self.view_is) in
    subst (λ (s : Speaking). HearsUp s c.args.frame.now (speaking c.shut.new.self c.self.inside.out c.self.inside.adapter c.self.inside.heard)) c.self.view_is
    (not_opened c.self.inside.host c.self.inside.out c.self.inside.adapter c.self.inside.heard c.args.frame.now c.in-Err.number c.shut.new.self (subst (λ (st : Stamp). Opens (came_of st c.args.frame.now) (Err c.in-Err.number)) stamped c.in-Err.ensures) c.shut.ensures)

pub returns : goal.returns
returns c =
    let held : c.held_words-words.result ≡ held_words (length c.args.frame.now.kept / 8) (seen c.in-Ok.came) =
    c.held_words-words.ensures ∙ ap (λ (b : List ℕ). held_words (length b / 8) (seen c.in-Ok.came)) c.bytes.ensures.bytes in
    opened c.args.self.now.host c.args.self.now.out c.args.self.now.adapter c.args.self.now.heard c.args.frame.now c.in-Ok.came c.hear_opened.new.self
    (subst (λ (st : Stamp). Opens (came_of st c.args.frame.now) (Ok c.in-Ok.came)) c.next_stamp-stamp.ensures c.in-Ok.ensures)
    (subst (λ (n : ℕ). HearsOpened c.args.self.now n c.in-Ok.came c.hear_opened.new.self) held c.hear_opened.ensures)
