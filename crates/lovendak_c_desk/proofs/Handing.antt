-- The next event is told, or stays.
use Rattle.std.proofs.Common.{◌≡◌, Bool, true, false, Option, Some, None, Ok, Err, refl, sym, subst}
use Rattle.vat_host.specs.declared.event.Event.{Event}
use Rattle.lovendak_c_desk.specs.declared.desk.Desk.{Desk}
use Rattle.lovendak_c_desk.specs.declared.not_done.NotDone.TheVariants as not_done
use Rattle.lovendak_c_desk.specs.Desks.{Looks}
use Rattle.lovendak_c_desk.specs.Telling.{HandsOver, Places, TellsLooked, TellsNext}

pub none_told : {A : Type 0} (old mid : Desk) (room : Places) → Looks old mid → mid.event ≡ None → TellsNext {A = A} old room (Err not_done.Nothing) room mid
none_told {A} old mid room looks none = (mid, looks, subst (λ (o : Option Event). TellsLooked {A = A} o mid room (Err not_done.Nothing) room mid) (sym none) (refl, refl, refl))

pub event_stays : {A : Type 0} (old mid : Desk) (room out : Places) (e : Event) (whole : Bool) → Looks old mid → mid.event ≡ Some e → HandsOver e room whole out → whole ≡ false
    → TellsNext {A = A} old room (Err not_done.NoRoom) out mid
event_stays {A} old mid room out e whole looks some hands part =
    (mid, looks, subst (λ (o : Option Event). TellsLooked {A = A} o mid room (Err not_done.NoRoom) out mid) (sym some) (subst (λ (b : Bool). HandsOver e room b out) part hands, refl))

pub event_told : {A : Type 0} (old mid : Desk) (room out : Places) (e : Event) (whole : Bool) (u : A) → Looks old mid → mid.event ≡ Some e → HandsOver e room whole out → whole ≡ true
    → TellsNext {A = A} old room (Ok u) out (record mid { event = None })
event_told {A} old mid room out e whole u looks some hands all =
    (mid, looks, subst (λ (o : Option Event). TellsLooked {A = A} o mid room (Ok u) out (record mid { event = None })) (sym some) (subst (λ (b : Bool). HandsOver e room b out) all hands, refl))
