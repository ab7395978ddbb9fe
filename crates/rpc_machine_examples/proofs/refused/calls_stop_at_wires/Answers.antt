use Rattle.rpc_machine_examples.proofs.StoppingAtWires.{call_received, call_made}
use Rattle.rpc_machine_examples.proofs.refused.calls_stop_at_wires.Goals as goal

pub returns : goal.returns
returns c = record { received = call_received; made = call_made }
