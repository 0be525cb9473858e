-- Timelines as the definitions have them.
use Rattle.std.specs.Prelude.{map}
use Rattle.fx_anim.specs.Shown.{lines_of}
use Rattle.fx_plain_times.specs.Clocks.{Clock as Plain}
use Rattle.fx_play_times.specs.declared.clock.Clock.{Clock}

abbrev pub clock_of : Clock → Plain
clock_of clock = record { labels = clock.labels.items; lines = lines_of clock.timelines }
