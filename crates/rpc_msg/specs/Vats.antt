-- The two vats.
use Rattle.rpc_msg.specs.declared.ids.Vat.{Vat}
use Rattle.rpc_msg.specs.declared.ids.Vat.TheVariants.{A, B}

abbrev pub other_vat : Vat → Vat
other_vat A = B
other_vat B = A
