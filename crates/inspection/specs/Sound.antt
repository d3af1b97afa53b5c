-- Document 01: "A state is sound exactly if ..", of one seat's parts of the lent buffers. Assumes nothing.
use Rattle.std.specs.Prelude.{ℕ, Bool, ◌&&◌}
use Rattle.rules.specs.Sound.{seat_sound}
use Rattle.laying.specs.Laid.{Parts}
use Rattle.laying.specs.Back.{claim_in, well_laid}

-- the parts hold a claim and nothing else, and the claim is sound; its region starts at `start`
unfoldable pub sound_on : ℕ → Parts → Bool
sound_on start p = well_laid p && seat_sound (claim_in start p)
