-- What stands on the wires behind a step of one vat.
use Rattle.std.specs.Prelude.{◌≡◌, ◌⊎◌, ℕ, nat_eq, false, true, Option, None, Some, IsSome, List, [], ◌++◌}
use Rattle.std.specs.FinMap as map
use Rattle.finite_maps.specs.Tally.{Map}
use Rattle.rpc_msg.specs.declared.ids.Vat.{Vat}
use Rattle.rpc_msg.specs.declared.message.Message.{Message}
use Rattle.rpc_journal.specs.declared.entry.JournalEntry.{JournalEntry}
use Rattle.rpc_journal.specs.Meaning.{History}
use Rattle.rpc_machine.specs.declared.entries.Export.{Export}
use Rattle.rpc_machine.specs.declared.entries.Import.{Import}
use Rattle.rpc_machine.specs.declared.entries.Question.{Question}
use Rattle.rpc_machine.specs.State.{State}
use Rattle.rpc_machine.specs.Sweeping.{IsNotSent}
use Rattle.laws_runs.specs.Meanings.{with_more}
use Rattle.laws_routes.specs.KnownLaws.{StillThere}
use Rattle.laws_routes.specs.Named.{AllMet, EachReturn}
use Rattle.laws_routes.specs.Premises.{EachOpen, EachTargetCap}
use Rattle.laws_routes.specs.QuietLaws.{MayClose}
use Rattle.laws_routes.specs.Sayings.{Has, has_of}
use Rattle.laws_meanings.specs.NodeLabels.{Labels, asked_label, label}
use Rattle.laws_wires.specs.Wires.{Session, LinkMeans, WiresMean, ImportAgrees, QuestionAgrees, IsSession, asked_at, export_label, has_past, past, reader, sessions_at}

-- In a longer history the wires mean the same.
abbrev pub WiresLive : Type 0
WiresLive =
    (h : History) (more : List JournalEntry) (v : Vat) (s : State) (l : Labels) (u : Vat) (t : State) (k : Labels) (ms : List Message)
    → WiresMean h v s l u t k ms → WiresMean (with_more h more) v s l u t k ms

-- ---- Behind a step

-- The vat v, with these labels, was in the state s, and then is in the state t; the other vat u is as it was, in the state z.
pub record Around : Type 0 where
  pub v : Vat
  pub s : State
  pub l : Labels
  pub t : State
  pub m : Labels
  pub u : Vat
  pub z : State
  pub k : Labels

-- What is on its way to u, before the step, and to v, behind the message that the step takes: what v has then, and what its
-- answers stand for.
pub record OnTheWay : Type 0 where
  pub out : List Message
  pub back : List Message
  pub has : Has
  pub now : ℕ → Session

abbrev pub left : Around → Has
left w = has_of [] w.t.imports w.t.questions

abbrev pub then : Around → ℕ → Session
then w = sessions_at w.m w.t.answers

-- What is named on the way is left as it was: these exports were there, are there, and mean what they did; and each that is
-- named is among them.
pub record NamedAreKept (h : History) (w : Around) (x : OnTheWay) (kept : Map Export) : Type 0 where
  pub was : StillThere kept w.s.exports
  pub is : StillThere kept w.t.exports
  pub means : (e : ℕ) (y : Export) → map.get kept e ≡ Some y → label h w.v w.m y.node ≡ label h w.v w.l y.node
  pub named : AllMet kept w.z.exports (has_of [] w.z.imports w.z.questions) x.out
  pub aimed : EachTargetCap (λ e. IsSome (map.get w.z.exports e)) x.out
  pub named_back : AllMet w.z.exports kept x.has x.back
  pub aimed_back : EachTargetCap (λ e. IsSome (map.get kept e)) x.back
  pub imported : (e : ℕ) → IsSome (map.get w.z.imports e) → IsSome (map.get kept e)

-- The vat has no more imports and questions than it was to have, as far as the way back names them; an answer that changes
-- may close.
pub record BackIsMet (w : Around) (x : OnTheWay) : Type 0 where
  pub imports : (e : ℕ) → (left w).import e ≡ true → x.has.import e ≡ true
  pub questions : EachReturn (λ q. (left w).question q ≡ true → x.has.question q ≡ true) x.back
  pub asked : EachReturn (λ q. x.has.question q ≡ true → asked_at w.m q (map.get w.t.questions q) ≡ asked_at w.l q (map.get w.s.questions q)) x.back
  pub sessions : (q : ℕ) → (then w q ≡ x.now q) ⊎ MayClose w.z x.back q

-- What u knows of v, and what is on its way to v.
pub record BackMeans (h : History) (w : Around) (x : OnTheWay) : Type 0 where
  pub imports : (e : ℕ) → ImportAgrees (w.k.import e) (export_label h w.v w.l w.s.exports e) (map.get w.z.imports e)
  pub questions : (q : ℕ) → QuestionAgrees w.k q (past w.u x.now x.back q) (map.get w.z.questions q)
  pub link : LinkMeans h w.u (reader h w.u w.z w.k w.v w.s w.l) x.has x.now x.back

-- Then it means the same behind the step.
abbrev pub BackIsLeft : Type 0
BackIsLeft =
    (h : History) (w : Around) (x : OnTheWay) (kept : Map Export) → NamedAreKept h w x kept → BackIsMet w x → BackMeans h w x
    → WiresMean h w.u w.z w.k w.v w.t w.m x.back

-- ---- What v knows of u

-- An import was there, with that label; or it means what u exports.
abbrev pub ImportStays : History → Around → ℕ → Option Import → Type 0
ImportStays h w e None = Unit {0}
ImportStays h w e (Some y) = (IsSome (map.get w.s.imports e) × (w.m.import e ≡ w.l.import e)) ⊎ (w.m.import e ≡ export_label h w.u w.k w.z.exports e)

-- A question was there, of the same, and nothing is sent that asks it again; or what is sent asks it.
abbrev pub WasAsked : Around → List Message → ℕ → Question → Type 0
WasAsked w sends q x =
    EachOpen (λ i. nat_eq i q ≡ false) sends
    × ((y : Question) × (map.get w.s.questions q ≡ Some y) × IsNotSent y.finish × (y.role ≡ x.role) × (asked_label w.m q x.role ≡ asked_label w.l q x.role))

abbrev pub QuestionStays : Around → List Message → List Message → ℕ → Option Question → Type 0
QuestionStays w out sends q None = Unit {0}
QuestionStays w out sends q (Some x) =
    IsNotSent x.finish
    → WasAsked w sends q x ⊎ IsSession w.m q (past w.v (past w.v (sessions_at w.k w.z.answers) out) sends q) x.role

pub record OutIsMet (h : History) (w : Around) (out sends : List Message) : Type 0 where
  pub imports : (e : ℕ) → ImportStays h w e (map.get w.t.imports e)
  pub questions : (q : ℕ) → QuestionStays w out sends q (map.get w.t.questions q)
  -- what is sent means what it should, read behind what was on its way
  pub sent : LinkMeans h w.v (reader h w.v w.t w.m w.u w.z w.k) (has_past (has_of [] w.z.imports w.z.questions) out) (past w.v (sessions_at w.k w.z.answers) out) sends

-- Then what v knows of u is so behind the step, and what is on its way to u means what it should, with what was sent.
abbrev pub OutIsLeft : Type 0
OutIsLeft =
    (h : History) (w : Around) (x : OnTheWay) (sends : List Message) (kept : Map Export) → NamedAreKept h w x kept → OutIsMet h w x.out sends → WiresMean h w.v w.s w.l w.u w.z w.k x.out
    → WiresMean h w.v w.t w.m w.u w.z w.k (x.out ++ sends)
