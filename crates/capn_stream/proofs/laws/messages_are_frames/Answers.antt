use Rattle.capn_reading.proofs.Framed.{framed_again}
use Rattle.capn_stream.proofs.Framed.{framed_whole}
use Rattle.capn_stream.proofs.laws.messages_are_frames.Goals as goal

pub returns : goal.returns
returns c bytes segments framed = framed_whole bytes segments (framed_again bytes segments framed)
