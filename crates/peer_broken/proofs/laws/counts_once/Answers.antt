use Rattle.std.proofs.Common.{arith}
use Rattle.std.specs.Prelude.{Bool}
use Rattle.rpc_msg.specs.declared.ids.ExportId.{ExportId}
use Rattle.rpc_msg.specs.declared.ids.QuestionId.{QuestionId}
use Rattle.rpc_codec.specs.Envelopes.{What}
use Rattle.peer_broken.specs.Naming as naming
use Rattle.peer_broken.specs.Naming.{Naming, due_by, names_of, owed_under, unless_finished}
use Rattle.peer_broken.specs.Laws.{CameOnce, WentOnce}
use Rattle.peer_broken.proofs.Counting.{message_gives, once, owed_once, under}
use Rattle.peer_broken.proofs.laws.counts_once.Goals as goal

came : (broken : ExportId → Bool) (finished : QuestionId → Bool) (s : Naming) (w : What) (e : ExportId) → CameOnce e s w (naming.comes broken finished s w)
came broken finished s w e =
    let gave = message_gives e broken w in
    let owes = owed_once e s (unless_finished finished (due_by w)) (names_of broken w) in
    omega (arith, gave, owes)

returned : (s : Naming) (a : QuestionId) (flag : Bool) (e : ExportId) → WentOnce e s (naming.returns s a flag)
returned s a flag e =
    let was = under e s.by_answer a in
    let back = once e flag (owed_under s.by_answer a) in
    omega (arith, was, back)

finished : (s : Naming) (q : QuestionId) (flag : Bool) (e : ExportId) → WentOnce e s (naming.finishes s q flag)
finished s q flag e =
    let was = under e s.by_question q in
    let back = once e flag (owed_under s.by_question q) in
    omega (arith, was, back)

pub returns : goal.returns
returns c = record { came = came; returned = returned; finished = finished }
