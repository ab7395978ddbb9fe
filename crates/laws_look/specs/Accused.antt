-- What is said of the messages that passed a point (docs/looking.md, "What is checked").
use Rattle.std.specs.Prelude.{◌≡◌, false, List, [], ◌∷◌}
use Rattle.rpc_msg.specs.declared.ids.Vat.{Vat}
use Rattle.rpc_msg.specs.declared.ids.Vat.TheVariants.{A, B}
use Rattle.rpc_msg.specs.declared.message.PlainMessage.{PlainMessage}
use Rattle.rpc_msg.specs.declared.message.PlainMessage.TheVariants as plain
use Rattle.rpc_msg.specs.declared.message.Message.{Message}
use Rattle.rpc_msg.specs.declared.message.Message.TheVariants as message
use Rattle.rpc_msg.specs.Vats.{other_vat}
use Rattle.rpc_codec.specs.declared.envelope.Envelope.TheVariants as envelope
use Rattle.rpc_codec.specs.declared.headings.Heading.{Heading}
use Rattle.rpc_codec.specs.declared.headings.Heading.TheVariants as heading
use Rattle.look_books.specs.declared.breach.Breach.{Breach}
use Rattle.look_books.specs.Acts.{Does, does}
use Rattle.look_books.specs.Ends.{Kept}
use Rattle.look_books.specs.After.{Ends, unsaid, after, results_in}
use Rattle.look_books.specs.Checks.{verdict}
use Rattle.laws_look.specs.Points.{Line}

-- The heading of a message of a vat, which waives nothing.
abbrev pub plain_heading : PlainMessage → Heading
plain_heading (plain.Abort e) = heading.Other
plain_heading (plain.Bootstrap q) = heading.Asks q false
plain_heading (plain.Call c) = heading.Asks c.question false
plain_heading (plain.Return r) = heading.Answers r.answer false
plain_heading (plain.Finish f) = heading.Other
plain_heading (plain.Resolve r) = heading.Other
plain_heading (plain.Release r) = heading.Other
plain_heading (plain.Disembargo d) = heading.Other
plain_heading (plain.Other n) = heading.Other

abbrev pub heading_of : Message → Heading
heading_of (message.Plain m) = plain_heading m
heading_of (message.Unimplemented m) = heading.Other

-- What it does to the books.
abbrev pub does_of : Message → Does
does_of m = does (envelope.Message m) (heading_of m)

-- What the books keep of both vats.
pub record Books : Type 0 where
  pub a : Kept
  pub b : Kept

-- Nothing passed.
abbrev pub empty : Books
empty = record { a = unsaid; b = unsaid }

-- what they keep of a vat
abbrev pub kept : Books → Vat → Kept
kept k A = k.a
kept k B = k.b

abbrev pub put_ends : Vat → Ends → Books
put_ends A e = record { a = e.0; b = e.1 }
put_ends B e = record { a = e.1; b = e.0 }

-- The books behind a message.
abbrev pub behind : Books → Line → Books
behind k l = put_ends l.from (after l.moment (does_of l.message) (results_in (envelope.Message l.message)) (kept k l.from) (kept k (other_vat l.from)))

-- Of what it is accused.
abbrev pub breaches_of : Books → Line → List Breach
breaches_of k l = (verdict (kept k l.from) (kept k (other_vat l.from)) (does_of l.message)).breaches

-- Of one message after the other none is accused of anything.
abbrev pub NoneAccused : Books → List Line → Type 0
NoneAccused k [] = Unit {0}
NoneAccused k (l ∷ ls) = (breaches_of k l ≡ []) × NoneAccused (behind k l) ls
