-- What may be said to a machine: an image is a list of bytes. Assumes nothing.
use Rattle.std.specs.Prelude.{◌≡◌, true, ltb}
use Rattle.laws.specs.Lists.{all}
use Rattle.rules.specs.Calls.{Event, picks, loads, asks, clears}
use Rattle.rules.specs.History.{Happening, opens, says}

abbrev pub ByteEvent : Event → Type 0
ByteEvent (picks p) = Unit {0}
ByteEvent (loads image) = all (λ b. ltb b 256) image ≡ true
ByteEvent asks = Unit {0}
ByteEvent clears = Unit {0}

abbrev pub ByteHappening : Happening → Type 0
ByteHappening (opens ss) = Unit {0}
ByteHappening (says e) = ByteEvent e.says
