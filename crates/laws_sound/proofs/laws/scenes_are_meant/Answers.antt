use Rattle.laws_sound.proofs.Meant.{scenes_meant}
use Rattle.laws_sound.proofs.laws.scenes_are_meant.Goals as goal

pub returns : goal.returns
returns c = scenes_meant c.scenes_are_led.ensures.led c.scenes_are_led.ensures.begin c.links_are_left.ensures.objects c.links_are_left.ensures.broken c.meanings_last.ensures.in_time c.no_call_is_lost.ensures.objects
