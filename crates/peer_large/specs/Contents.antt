-- How much a frame brings: the words of its contents, laid out by themselves (docs/embedding.md, "How much a peer makes a vat hold").
use Rattle.std.specs.Prelude.{ℕ, ◌/◌, length}
use Rattle.rpc_msg.specs.Payloads.{Contents}
use Rattle.rpc_msg.specs.declared.message.ReturnBody.{ReturnBody}
use Rattle.rpc_msg.specs.declared.message.ReturnBody.TheVariants as body
use Rattle.rpc_msg.specs.declared.message.PlainMessage.{PlainMessage}
use Rattle.rpc_msg.specs.declared.message.PlainMessage.TheVariants as plain
use Rattle.rpc_msg.specs.declared.message.Message.{Message}
use Rattle.rpc_msg.specs.declared.message.Message.TheVariants as message
use Rattle.rpc_codec.specs.Envelopes.{What, profile, tail_call, sent_elsewhere, taken_from_other, strange}
use Rattle.peer_large.specs.Opening.{Came, envelope, spared}

abbrev pub words_of : Contents → ℕ
words_of p = length p.bytes / 8

abbrev pub body_words : ReturnBody → ℕ
body_words (body.Results p ds) = words_of p
body_words (body.Exception e) = 0
body_words body.Canceled = 0

abbrev pub plain_words : PlainMessage → ℕ
plain_words (plain.Abort e) = 0
plain_words (plain.Bootstrap q) = 0
plain_words (plain.Call c) = words_of c.payload
plain_words (plain.Return r) = body_words r.body
plain_words (plain.Finish f) = 0
plain_words (plain.Resolve r) = 0
plain_words (plain.Release r) = 0
plain_words (plain.Disembargo d) = 0
plain_words (plain.Other n) = 0

abbrev pub message_words : Message → ℕ
message_words (message.Plain m) = plain_words m
message_words (message.Unimplemented m) = 0

abbrev pub what_words : What → ℕ
what_words (profile m) = message_words m
what_words (tail_call c) = words_of c.payload
what_words (sent_elsewhere s) = 0
what_words (taken_from_other s) = 0
what_words (strange n original) = 0

-- the words of the contents of a Call or of results; of everything else none
abbrev pub content_words : Came → ℕ
content_words (envelope w) = what_words w
content_words (spared l limit) = 0

-- the most words that contents take: the table of one segment, and as many words as a message may have
abbrev pub most_content_words : ℕ
most_content_words = 65537
