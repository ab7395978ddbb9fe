-- Two journals in pieces, put together.
use Rattle.std.specs.Prelude.{ℕ, List, [], ◌∷◌, ◌++◌, take, drop}
use Rattle.rpc_msg.specs.declared.ids.Vat.{Vat}
use Rattle.rpc_msg.specs.declared.ids.Vat.TheVariants.{A, B}
use Rattle.rpc_journal.specs.declared.entry.JournalEntry.{JournalEntry}
use Rattle.laws_merge.specs.declared.merge.OneOf.{OneOf}
use Rattle.laws_merge.specs.declared.merge.OneOf.TheVariants.{First, Second}
use Rattle.link_rings.specs.declared.entry.Entry.{Entry}
use Rattle.link_logs.specs.declared.note.Note.{Note}
use Rattle.link_logs.specs.declared.pieces.Piece.{Piece}

-- So many entries of the journal of that vat, and what is left then of each.
abbrev pub next_piece : Vat → ℕ → List JournalEntry → List JournalEntry → List JournalEntry
next_piece A n xs ys = take n xs
next_piece B n xs ys = take n ys

abbrev pub left_of_a : Vat → ℕ → List JournalEntry → List JournalEntry
left_of_a A n xs = drop n xs
left_of_a B n xs = xs

abbrev pub left_of_b : Vat → ℕ → List JournalEntry → List JournalEntry
left_of_b A n ys = ys
left_of_b B n ys = drop n ys

-- One piece after the other, each from where the last one of its journal ended.
abbrev pub pieced : List Piece → List JournalEntry → List JournalEntry → List JournalEntry
pieced [] xs ys = []
pieced (p ∷ ps) xs ys = next_piece p.vat p.entries xs ys ++ pieced ps (left_of_a p.vat p.entries xs) (left_of_b p.vat p.entries ys)

-- The piece that an entry of one of two logs stands for.
abbrev pub piece_of : OneOf (Entry Note) (Entry Note) → Piece
piece_of (First e) = record { vat = A; entries = e.note.entries }
piece_of (Second e) = record { vat = B; entries = e.note.entries }
