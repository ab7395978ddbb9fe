-- Two ends that were put side by side: their one journal, and what is promised of it.
use Rattle.std.proofs.Common.{◌≡◌, List, [], ◌∷◌, ◌++◌, map, append-nil, append_assoc, refl, sym, ap, subst, ◌∙◌}
use Rattle.rpc_journal.specs.declared.entry.JournalEntry.{JournalEntry}
use Rattle.rpc_journal.specs.declared.entry.JournalEntry.TheVariants as entry
use Rattle.rpc_journal.specs.Meaning.{History}
use Rattle.rpc_machine.specs.Claims.{IsReached, IsSound}
use Rattle.laws_merge.specs.declared.merge.OneOf.{OneOf}
use Rattle.laws_sound.specs.Promised.{WorldsAreSound, BootstrapsStay, events_of, history_of}
use Rattle.laws_verdicts.specs.Recorded.{IsRecorded, RunsAreRecorded}
use Rattle.laws_verdicts.specs.Good.{EveryVerdictIsGood, EveryHeadedVerdictIsGood, IsGood}
use Rattle.link_rings.specs.declared.entry.Entry.{Entry}
use Rattle.link_rings.specs.Gather.{ReadsAll, order}
use Rattle.link_logs.specs.declared.note.Note.{Note}
use Rattle.link_logs.specs.declared.pieces.Pieces.{Pieces}
use Rattle.link_logs.specs.declared.pieces.Piece.{Piece}
use Rattle.link_logs.specs.Pieces.{piece_of, pieced}
use Rattle.link_logs.specs.Steps.{input_of, sends_of}
use Rattle.link_logs.specs.Promises.{Pair, IsTold, world_of, happened_in, journal_of}
use Rattle.link_logs.proofs.Counting.{no_counts}

-- Whoever reads entries one after another has a piece for each.
pub read_pieces : (old new : Pieces) (es : List (OneOf (Entry Note) (Entry Note))) → ReadsAll (λ (a : Pieces) (e : OneOf (Entry Note) (Entry Note)) (b : Pieces). b.list.items ≡ a.list.items ++ piece_of e ∷ []) old es new → new.list.items ≡ old.list.items ++ map piece_of es
read_pieces old new [] h = ap (λ (p : Pieces). p.list.items) h ∙ sym (append-nil old.list.items)
read_pieces old new (e ∷ es) h =
    read_pieces h.0 new es h.2 ∙ ap (λ (l : List Piece). l ++ map piece_of es) h.1 ∙ append_assoc old.list.items (piece_of e ∷ []) (map piece_of es)

pub merged : (p : Pair) (old new : Pieces) (xs ys js : List JournalEntry) → old.list.items ≡ [] → ReadsAll (λ (a : Pieces) (e : OneOf (Entry Note) (Entry Note)) (b : Pieces). b.list.items ≡ a.list.items ++ piece_of e ∷ []) old (order input_of sends_of p.log_a p.log_b) new → xs ≡ (p.side_a).journal → ys ≡ (p.side_b).journal → js ≡ pieced new.list.items xs ys → js ≡ journal_of p
merged p old new xs ys js none h e f g =
    let read = read_pieces old new (order input_of sends_of p.log_a p.log_b) h ∙ ap (λ (l : List Piece). l ++ map piece_of (order input_of sends_of p.log_a p.log_b)) none in
    g ∙ ap (λ (l : List Piece). pieced l xs ys) read
    ∙ ap (λ (l : List JournalEntry). pieced (map piece_of (order input_of sends_of p.log_a p.log_b)) l ys) e
    ∙ ap (λ (l : List JournalEntry). pieced (map piece_of (order input_of sends_of p.log_a p.log_b)) (p.side_a).journal l) f

-- ---- What is promised

abbrev reached : (p : Pair) → IsTold p (journal_of p) → IsReached (record { world = world_of p; journal = events_of (journal_of p) })
reached p t = record {
  root_a = (p.start_a.core).bootstrap;
  root_b = (p.start_b.core).bootstrap;
  happened = happened_in p;
  ran = t.ran;
  told = ap events_of t.told ∙ no_counts [] (happened_in p) refl;
}

pub sound : WorldsAreSound → BootstrapsStay → (p : Pair) → IsTold p (journal_of p) → IsSound (history_of (journal_of p) (world_of p)) (happened_in p) (world_of p)
sound law stay p t =
    let r = reached p t in
    subst (λ (h : History). IsSound h (happened_in p) (world_of p)) (stay (journal_of p) (world_of p) r) (law (journal_of p) (world_of p) r)

recorded : RunsAreRecorded → (p : Pair) → IsTold p (journal_of p) → IsRecorded (p.start_a.core).bootstrap (p.start_b.core).bootstrap (record { world = world_of p; journal = journal_of p })
recorded law p t =
    let a = (p.start_a.core).bootstrap in
    let b = (p.start_b.core).bootstrap in
    subst (λ (h : List JournalEntry). IsRecorded a b (record { world = world_of p; journal = h })) (sym t.told) (law a b (happened_in p) (world_of p) t.ran)

pub good : RunsAreRecorded → EveryVerdictIsGood → (p : Pair) → IsTold p (journal_of p) → IsGood (journal_of p)
good runs law p t = law (p.start_a.core).bootstrap (p.start_b.core).bootstrap (record { world = world_of p; journal = journal_of p }) (recorded runs p t)

pub headed : RunsAreRecorded → EveryHeadedVerdictIsGood → (p : Pair) → IsTold p (journal_of p) → IsGood (entry.Head ∷ journal_of p)
headed runs law p t = law (p.start_a.core).bootstrap (p.start_b.core).bootstrap (record { world = world_of p; journal = journal_of p }) (recorded runs p t)
