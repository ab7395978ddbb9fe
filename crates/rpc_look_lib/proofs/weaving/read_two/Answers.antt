use Rattle.std.proofs.Common.{ℕ, List, refl, subst}
use Rattle.rpc_look_lib.specs.Talking.{stand_of}
use Rattle.rpc_look_lib.specs.Weaving.{Cuts, Woven}
use Rattle.rpc_look_lib.proofs.weaving.read_two.Goals as goal

pub returns : goal.returns
returns g c =
    let start = stand_of c.new-talk.result in
    let first = stand_of c.cut_frames.new.talk in
    let second = stand_of c.cut_frames-2.new.talk in
    let new = stand_of c.weave.new.talk in
    let client = c.in_ok-client.client.items in
    let server = c.in_ok-server.server.items in
    let by_client = subst (λ (fs : List (List ℕ)). Woven c.args.at second (record { client = fs; server = c.as_slice-4.result.now }) new) c.as_slice-3.ensures.value c.in_ok-weave.ensures in (
      c.in_ok-sent.sent.items,
      c.in_ok-answered.answered.items,
      c.in_ok-sent.ensures,
      c.in_ok-answered.ensures,
      record {
        start = start;
        unspoken = c.new-talk.ensures;
        client = client;
        first = first;
        cut_client = subst (λ (bytes : List ℕ). Cuts bytes start client first) c.as_slice.ensures.value c.in_ok-client.ensures;
        server = server;
        second = second;
        cut_server = subst (λ (bytes : List ℕ). Cuts bytes first server second) c.as_slice-2.ensures.value c.in_ok-server.ensures;
        new = new;
        woven = subst (λ (fs : List (List ℕ)). Woven c.args.at second (record { client = client; server = fs }) new) c.as_slice-4.ensures.value by_client;
        verdict = refl;
      },
    )
