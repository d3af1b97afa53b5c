-- Small images, worked out by hand from document 01, "Images": each way to be bad, and each kind accepted. Assumes nothing.
use Rattle.std.specs.Prelude.{ℕ, List, [], ◌∷◌}
use Rattle.std.specs.Prelude.{Ok, Err}
use Rattle.image.specs.declared.reader.Fault.TheVariants.{BadAt}
use Rattle.image.specs.Reading.{Verdict}

pub record Example : Type 0 where
  pub image : List ℕ
  pub verdict : Verdict

abbrev bad : List ℕ → ℕ → Example
bad l p = record { image = l; verdict = Err (BadAt p) }

-- with these slots, inputs and start of the code
abbrev good : List ℕ → ℕ → ℕ → ℕ → Example
good l r n code = record { image = l; verdict = Ok (record { slots = r; inputs = n; code = code }) }

unfoldable pub examples : List Example
examples =
    -- the first record
    bad [] 0
    ∷ bad (0x80 ∷ []) 0
    ∷ bad (0x80 ∷ 0 ∷ 0x85 ∷ 0 ∷ []) 0
    ∷ bad (0x85 ∷ 0 ∷ []) 0
    ∷ bad (0 ∷ []) 0
    ∷ bad (0x84 ∷ 0x80 ∷ 1 ∷ 0x85 ∷ 0 ∷ []) 0
    -- "the image's length where it ends before 85 or with no code"
    ∷ bad (0x80 ∷ 1 ∷ []) 2
    ∷ bad (0x80 ∷ 2 ∷ 0x84 ∷ []) 3
    ∷ bad (0x80 ∷ 1 ∷ 0x85 ∷ []) 3
    ∷ bad (0x80 ∷ 2 ∷ 0x81 ∷ 0 ∷ 0 ∷ 0 ∷ 0 ∷ 0 ∷ 0 ∷ 0 ∷ 0x85 ∷ []) 11
    -- "unknown, cut short or breaks a rule": inputs
    ∷ bad (0x80 ∷ 2 ∷ 0x86 ∷ 0x85 ∷ 0 ∷ []) 2
    ∷ bad (0x80 ∷ 2 ∷ 4 ∷ 0x85 ∷ 0 ∷ []) 2
    ∷ bad (0x80 ∷ 2 ∷ 0x80 ∷ 1 ∷ 0x85 ∷ 0 ∷ []) 2
    ∷ bad (0x80 ∷ 2 ∷ 0x81 ∷ 0 ∷ 0 ∷ 0 ∷ 0 ∷ 0 ∷ 0 ∷ 0 ∷ []) 2
    ∷ bad (0x80 ∷ 2 ∷ 0x82 ∷ 0 ∷ 0 ∷ 0 ∷ 0 ∷ 0 ∷ 0 ∷ 0 ∷ []) 2
    ∷ bad (0x80 ∷ 2 ∷ 0x83 ∷ []) 2
    ∷ bad (0x80 ∷ 3 ∷ 0x84 ∷ 0x83 ∷ []) 3
    ∷ bad (0x80 ∷ 2 ∷ 0x82 ∷ 0 ∷ 0 ∷ 0 ∷ 0 ∷ 0 ∷ 0 ∷ 0xF0 ∷ 0x7F ∷ 0x85 ∷ 0 ∷ []) 2
    ∷ bad (0x80 ∷ 2 ∷ 0x82 ∷ 0 ∷ 0 ∷ 0 ∷ 0 ∷ 0 ∷ 0 ∷ 0xF8 ∷ 0x7F ∷ 0x85 ∷ 0 ∷ []) 2
    ∷ bad (0x80 ∷ 2 ∷ 0x83 ∷ 2 ∷ 0x85 ∷ 0 ∷ []) 2
    -- "at most r-1 of them"
    ∷ bad (0x80 ∷ 1 ∷ 0x84 ∷ 0x85 ∷ 0 ∷ []) 2
    ∷ bad (0x80 ∷ 2 ∷ 0x84 ∷ 0x84 ∷ 0x85 ∷ 0 ∷ []) 3
    ∷ good (0x80 ∷ 3 ∷ 0x84 ∷ 0x84 ∷ 0x85 ∷ 0 ∷ []) 3 2 5
    ∷ good (0x80 ∷ 0xFF ∷ 0x83 ∷ 1 ∷ 0x85 ∷ 0 ∷ []) 255 1 5
    -- the same in the code
    ∷ bad (0x80 ∷ 1 ∷ 0x85 ∷ 0x1C ∷ []) 3
    ∷ bad (0x80 ∷ 1 ∷ 0x85 ∷ 4 ∷ 0xFF ∷ 0 ∷ []) 4
    ∷ bad (0x80 ∷ 1 ∷ 0x85 ∷ 0x81 ∷ 0 ∷ 0 ∷ 0 ∷ 0 ∷ 0 ∷ 0 ∷ 0 ∷ 0 ∷ 0 ∷ []) 3
    ∷ bad (0x80 ∷ 1 ∷ 0x85 ∷ 0x85 ∷ 0 ∷ []) 3
    ∷ bad (0x80 ∷ 1 ∷ 0x85 ∷ 1 ∷ 0 ∷ 0 ∷ 0 ∷ 0 ∷ 0 ∷ 0 ∷ 0 ∷ []) 3
    ∷ bad (0x80 ∷ 1 ∷ 0x85 ∷ 2 ∷ 0 ∷ 0 ∷ 0 ∷ 0 ∷ 0 ∷ 0 ∷ 0 ∷ []) 3
    ∷ bad (0x80 ∷ 1 ∷ 0x85 ∷ 3 ∷ []) 3
    ∷ bad (0x80 ∷ 1 ∷ 0x85 ∷ 5 ∷ []) 3
    ∷ bad (0x80 ∷ 1 ∷ 0x85 ∷ 0x0B ∷ 0 ∷ []) 3
    ∷ bad (0x80 ∷ 1 ∷ 0x85 ∷ 0x0E ∷ []) 3
    ∷ bad (0x80 ∷ 1 ∷ 0x85 ∷ 0x10 ∷ 0 ∷ []) 3
    ∷ bad (0x80 ∷ 1 ∷ 0x85 ∷ 0x17 ∷ 0 ∷ 0 ∷ 0 ∷ 0 ∷ []) 3
    ∷ bad (0x80 ∷ 1 ∷ 0x85 ∷ 0x18 ∷ 0 ∷ []) 3
    ∷ bad (0x80 ∷ 1 ∷ 0x85 ∷ 0x19 ∷ 0 ∷ 0 ∷ []) 3
    ∷ bad (0x80 ∷ 1 ∷ 0x85 ∷ 0 ∷ 0x1B ∷ 0 ∷ []) 4
    ∷ bad (0x80 ∷ 1 ∷ 0x85 ∷ 2 ∷ 0 ∷ 0 ∷ 0 ∷ 0 ∷ 0 ∷ 0 ∷ 0xF0 ∷ 0x7F ∷ 0 ∷ []) 3
    ∷ bad (0x80 ∷ 1 ∷ 0x85 ∷ 2 ∷ 0 ∷ 0 ∷ 0 ∷ 0 ∷ 0 ∷ 0 ∷ 0xF0 ∷ 0xFF ∷ 0 ∷ []) 3
    ∷ bad (0x80 ∷ 1 ∷ 0x85 ∷ 2 ∷ 0 ∷ 0 ∷ 0 ∷ 0 ∷ 0 ∷ 0 ∷ 0xF8 ∷ 0x7F ∷ 0 ∷ []) 3
    ∷ bad (0x80 ∷ 1 ∷ 0x85 ∷ 3 ∷ 2 ∷ 0 ∷ []) 3
    ∷ bad (0x80 ∷ 1 ∷ 0x85 ∷ 0x0E ∷ 0 ∷ 0 ∷ []) 3
    -- "the last instruction's offset if it is of the wrong kind"
    ∷ bad (0x80 ∷ 1 ∷ 0x85 ∷ 4 ∷ []) 3
    ∷ bad (0x80 ∷ 1 ∷ 0x85 ∷ 4 ∷ 7 ∷ 0 ∷ []) 4
    ∷ bad (0x80 ∷ 1 ∷ 0x85 ∷ 0 ∷ 0x18 ∷ 0 ∷ 0 ∷ []) 4
    ∷ good (0x80 ∷ 1 ∷ 0x85 ∷ 0x17 ∷ 0 ∷ 0 ∷ 0 ∷ 0 ∷ 0 ∷ []) 1 0 3
    -- "the first instruction with a bad target"
    ∷ bad (0x80 ∷ 1 ∷ 0x85 ∷ 0x17 ∷ 0 ∷ 1 ∷ 0 ∷ 0 ∷ 0 ∷ []) 3
    ∷ bad (0x80 ∷ 1 ∷ 0x85 ∷ 0x17 ∷ 0 ∷ 0 ∷ 0 ∷ 1 ∷ 0 ∷ []) 3
    ∷ bad (0x80 ∷ 1 ∷ 0x85 ∷ 0x18 ∷ 1 ∷ 0 ∷ 0 ∷ []) 3
    ∷ bad (0x80 ∷ 1 ∷ 0x85 ∷ 0x19 ∷ 2 ∷ 0 ∷ 0 ∷ 0 ∷ []) 3
    ∷ bad (0x80 ∷ 1 ∷ 0x85 ∷ 0x18 ∷ 4 ∷ 0 ∷ 0 ∷ []) 3
    ∷ bad (0x80 ∷ 1 ∷ 0x85 ∷ 0x18 ∷ 0xFF ∷ 0xFF ∷ 0 ∷ []) 3
    ∷ bad (0x80 ∷ 1 ∷ 0x85 ∷ 0x18 ∷ 0 ∷ 1 ∷ 0 ∷ []) 3
    ∷ bad (0x80 ∷ 1 ∷ 0x85 ∷ 4 ∷ 0x18 ∷ 2 ∷ 0 ∷ 0 ∷ []) 4
    ∷ bad (0x80 ∷ 1 ∷ 0x85 ∷ 0x18 ∷ 1 ∷ 0 ∷ 4 ∷ []) 6
    ∷ bad (0x80 ∷ 1 ∷ 0x85 ∷ 0x18 ∷ 1 ∷ 0 ∷ 0x1C ∷ []) 6
    ∷ good (0x80 ∷ 1 ∷ 0x85 ∷ 0x18 ∷ 3 ∷ 0 ∷ 0 ∷ []) 1 0 3
    -- every kind, each before an END
    ∷ good (0x80 ∷ 1 ∷ 0x85 ∷ 0 ∷ 0 ∷ []) 1 0 3
    ∷ good (0x80 ∷ 1 ∷ 0x85 ∷ 1 ∷ 0xFF ∷ 0xFF ∷ 0xFF ∷ 0xFF ∷ 0xFF ∷ 0xFF ∷ 0xFF ∷ 0xFF ∷ 0 ∷ []) 1 0 3
    ∷ good (0x80 ∷ 1 ∷ 0x85 ∷ 2 ∷ 0xFF ∷ 0xFF ∷ 0xFF ∷ 0xFF ∷ 0xFF ∷ 0xFF ∷ 0xEF ∷ 0x7F ∷ 0 ∷ []) 1 0 3
    ∷ good (0x80 ∷ 1 ∷ 0x85 ∷ 3 ∷ 1 ∷ 0 ∷ []) 1 0 3
    ∷ good (0x80 ∷ 1 ∷ 0x85 ∷ 4 ∷ 0 ∷ []) 1 0 3
    ∷ good (0x80 ∷ 1 ∷ 0x85 ∷ 5 ∷ 0xFF ∷ 0 ∷ []) 1 0 3
    ∷ good (0x80 ∷ 1 ∷ 0x85 ∷ 6 ∷ 0 ∷ 0 ∷ []) 1 0 3
    ∷ good (0x80 ∷ 1 ∷ 0x85 ∷ 7 ∷ 0 ∷ 0 ∷ []) 1 0 3
    ∷ good (0x80 ∷ 1 ∷ 0x85 ∷ 8 ∷ 1 ∷ 0 ∷ []) 1 0 3
    ∷ good (0x80 ∷ 1 ∷ 0x85 ∷ 9 ∷ 1 ∷ 0 ∷ []) 1 0 3
    ∷ good (0x80 ∷ 1 ∷ 0x85 ∷ 0x0A ∷ 0 ∷ 0 ∷ []) 1 0 3
    ∷ good (0x80 ∷ 1 ∷ 0x85 ∷ 0x0B ∷ 0 ∷ 1 ∷ 0 ∷ []) 1 0 3
    ∷ good (0x80 ∷ 1 ∷ 0x85 ∷ 0x0C ∷ 0 ∷ 0 ∷ []) 1 0 3
    ∷ good (0x80 ∷ 1 ∷ 0x85 ∷ 0x0D ∷ 0 ∷ 1 ∷ 0 ∷ []) 1 0 3
    ∷ good (0x80 ∷ 1 ∷ 0x85 ∷ 0x0E ∷ 0xFF ∷ 0 ∷ []) 1 0 3
    ∷ good (0x80 ∷ 1 ∷ 0x85 ∷ 0x0F ∷ 0 ∷ []) 1 0 3
    ∷ good (0x80 ∷ 1 ∷ 0x85 ∷ 0x10 ∷ 1 ∷ 2 ∷ 0 ∷ []) 1 0 3
    ∷ good (0x80 ∷ 1 ∷ 0x85 ∷ 0x11 ∷ 1 ∷ 2 ∷ 0 ∷ []) 1 0 3
    ∷ good (0x80 ∷ 1 ∷ 0x85 ∷ 0x12 ∷ 1 ∷ 2 ∷ 0 ∷ []) 1 0 3
    ∷ good (0x80 ∷ 1 ∷ 0x85 ∷ 0x13 ∷ 1 ∷ 2 ∷ 0 ∷ []) 1 0 3
    ∷ good (0x80 ∷ 1 ∷ 0x85 ∷ 0x14 ∷ 1 ∷ 2 ∷ 0 ∷ []) 1 0 3
    ∷ good (0x80 ∷ 1 ∷ 0x85 ∷ 0x15 ∷ 1 ∷ 2 ∷ 0 ∷ []) 1 0 3
    ∷ good (0x80 ∷ 1 ∷ 0x85 ∷ 0x16 ∷ 1 ∷ 2 ∷ 0 ∷ []) 1 0 3
    ∷ good (0x80 ∷ 1 ∷ 0x85 ∷ 0x17 ∷ 0 ∷ 0 ∷ 0 ∷ 6 ∷ 0 ∷ 0 ∷ []) 1 0 3
    ∷ good (0x80 ∷ 1 ∷ 0x85 ∷ 0x18 ∷ 3 ∷ 0 ∷ 0 ∷ []) 1 0 3
    ∷ good (0x80 ∷ 1 ∷ 0x85 ∷ 0x19 ∷ 4 ∷ 0 ∷ 0 ∷ 0 ∷ []) 1 0 3
    ∷ good (0x80 ∷ 1 ∷ 0x85 ∷ 0x1A ∷ 0 ∷ 0xFF ∷ 0 ∷ []) 1 0 3
    ∷ good (0x80 ∷ 1 ∷ 0x85 ∷ 0x1B ∷ 0 ∷ 0xFF ∷ 0 ∷ []) 1 0 3
    -- all of them in one image
    ∷ good (0x80 ∷ 1 ∷ 0x85 ∷ 0 ∷ 1 ∷ 0xFF ∷ 0xFF ∷ 0xFF ∷ 0xFF ∷ 0xFF ∷ 0xFF ∷ 0xFF ∷ 0xFF ∷ 2 ∷ 0xFF ∷ 0xFF ∷ 0xFF ∷ 0xFF ∷ 0xFF ∷ 0xFF ∷ 0xEF ∷ 0x7F ∷ 3 ∷ 1 ∷ 4 ∷ 5 ∷ 0xFF ∷ 6 ∷ 0 ∷ 7 ∷ 0 ∷ 8 ∷ 1 ∷ 9 ∷ 1 ∷ 0x0A ∷ 0 ∷ 0x0B ∷ 0 ∷ 1 ∷ 0x0C ∷ 0 ∷ 0x0D ∷ 0 ∷ 1 ∷ 0x0E ∷ 0xFF ∷ 0x0F ∷ 0x10 ∷ 1 ∷ 2 ∷ 0x11 ∷ 1 ∷ 2 ∷ 0x12 ∷ 1 ∷ 2 ∷ 0x13 ∷ 1 ∷ 2 ∷ 0x14 ∷ 1 ∷ 2 ∷ 0x15 ∷ 1 ∷ 2 ∷ 0x16 ∷ 1 ∷ 2 ∷ 0x17 ∷ 0 ∷ 0 ∷ 0 ∷ 1 ∷ 0 ∷ 0x18 ∷ 0x0A ∷ 0 ∷ 0x19 ∷ 0x13 ∷ 0 ∷ 0 ∷ 0x1A ∷ 0 ∷ 0xFF ∷ 0x1B ∷ 0 ∷ 0xFF ∷ 0 ∷ []) 1 0 3
    ∷ []
