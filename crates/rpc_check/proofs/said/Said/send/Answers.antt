use Rattle.std.proofs.Common.{refl, sym, ap, ◌∙◌, ◌≡◌, None, Some, cond, nat_eq}
use Rattle.rpc_msg.specs.declared.message.PlainMessage.TheVariants as plain
use Rattle.rpc_msg.specs.declared.message.Message.TheVariants as message
use Rattle.rpc_check.specs.declared.said.Lasts.{Lasts}
use Rattle.rpc_check.specs.Kept.{last_of}
use Rattle.rpc_check.specs.Counts.{CountsById, is_question, is_answer, handed_on}
use Rattle.rpc_check.proofs.Saying.{says_nothing, says_question, says_answer, no_question, no_answer}
use Rattle.rpc_check.proofs.said.Said.send.Goals as goal

pub returns-in_default-clause-said : goal.returns-in_default-clause-said
returns-in_default-clause-said c = λ ms was.
    let is = c.in_default.is in
    says_nothing c.args.self.now _ ms c.args.message.now was (λ q. ap (is_question q) is) (λ q. ap (is_answer q) is) refl

pub returns-in_ok-set-in-Bootstrap-clause-said : goal.returns-in_ok-set-in-Bootstrap-clause-said
returns-in_ok-set-in-Bootstrap-clause-said c = λ ms was.
    let is : c.args.message.now ≡ message.Plain (plain.Bootstrap c.in-Bootstrap.id) = c.in-Plain.is ∙ ap (λ p. message.Plain p) c.in-Bootstrap.is in
    says_question c.args.self.now _ ms c.args.message.now was c.in-Bootstrap.id.0 None
    (λ q. ap (is_question q) is) (λ q. ap (is_answer q) is) (λ n ids at. at) (ap (λ (x : CountsById). Some x) (ap handed_on (sym is))) c.in_ok-set-in-Bootstrap.ensures refl

pub returns-in_ok-set-in-Call-clause-said : goal.returns-in_ok-set-in-Call-clause-said
returns-in_ok-set-in-Call-clause-said c = λ ms was.
    let is : c.args.message.now ≡ message.Plain (plain.Call c.in-Call.call) = c.in-Plain.is ∙ ap (λ p. message.Plain p) c.in-Call.is in
    says_question c.args.self.now _ ms c.args.message.now was c.in-Call.call.question.0 c.in_ok-list-in-Call.list
    (λ q. ap (is_question q) is) (λ q. ap (is_answer q) is) c.in_ok-list-in-Call.ensures.grows (c.in_ok-list-in-Call.ensures.kept ∙ ap (λ (x : CountsById). Some x) c.in_ok-ids-in-Call.ensures)
    (λ q. c.in_ok-set-in-Call.ensures q ∙ ap (λ (l : Lasts). cond (nat_eq q c.in-Call.call.question.0) c.in_ok-list-in-Call.list (last_of l q)) c.keep.ensures.questions) c.keep.ensures.answers

pub returns-in_ok-set-in-Return-clause-said : goal.returns-in_ok-set-in-Return-clause-said
returns-in_ok-set-in-Return-clause-said c = λ ms was.
    let is : c.args.message.now ≡ message.Plain (plain.Return c.in-Return.said) = c.in-Plain.is ∙ ap (λ p. message.Plain p) c.in-Return.is in
    says_answer c.args.self.now _ ms c.args.message.now was c.in-Return.said.answer.0 c.in_ok-list-in-Return.list
    (λ q. ap (is_question q) is) (λ q. ap (is_answer q) is) c.in_ok-list-in-Return.ensures.grows (c.in_ok-list-in-Return.ensures.kept ∙ ap (λ (x : CountsById). Some x) c.in_ok-ids-in-Return.ensures)
    (λ q. c.in_ok-set-in-Return.ensures q ∙ ap (λ (l : Lasts). cond (nat_eq q c.in-Return.said.answer.0) c.in_ok-list-in-Return.list (last_of l q)) c.keep-in-Return.ensures.answers) c.keep-in-Return.ensures.questions

pub returns-in_default-plain-clause-said : goal.returns-in_default-plain-clause-said
returns-in_default-plain-clause-said c = λ ms was.
    let is = c.in-Plain.is in
    let other = c.in_default-plain in
    says_nothing c.args.self.now _ ms c.args.message.now was
    (λ q. ap (is_question q) is ∙ no_question c.in-Plain.plain other.not-Bootstrap other.not-Call q)
    (λ q. ap (is_answer q) is ∙ no_answer c.in-Plain.plain other.not-Return q)
    refl
