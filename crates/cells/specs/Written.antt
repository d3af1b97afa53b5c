-- The tags and the words of a seat's cells after an effect. Assumes nothing.
use Rattle.std.specs.Prelude.{ℕ, ◌-◌, List, set, ltb}
use Rattle.std.specs.Prelude.{if◌then◌else◌}
use Rattle.value.specs.Coding.{word_of}
use Rattle.rules.specs.declared.Kind.TheVariants.{Mcell}
use Rattle.rules.specs.declared.Effect.{Effect}
use Rattle.rules.specs.declared.Effect.TheVariants.{Goes, Ends, Waits, Fills, Empties, Makes, Spawns, Refuses}
use Rattle.lent.specs.Runs.{filled_from}
use Rattle.cells.specs.Lent.{kind_bit, tag_for}

-- v at i, if i is below n
unfoldable pub set_below : ℕ → ℕ → ℕ → List ℕ → List ℕ
set_below n i v s = if ltb i n then set s i v else s

unfoldable pub tags_after : Effect → ℕ → ℕ → List ℕ → List ℕ
tags_after (Goes t) used start s = s
tags_after Ends used start s = s
tags_after (Waits t l) used start s = s
tags_after (Fills t k l v) used start s = set_below used (l - start) (tag_for k v) s
tags_after (Empties t l) used start s = set_below used (l - start) (kind_bit Mcell) s
tags_after (Makes t k n) used start s = filled_from used n (kind_bit k) s
tags_after (Spawns t new) used start s = s
tags_after (Refuses n) used start s = s

unfoldable pub words_after : Effect → ℕ → ℕ → List ℕ → List ℕ
words_after (Goes t) used start s = s
words_after Ends used start s = s
words_after (Waits t l) used start s = s
words_after (Fills t k l v) used start s = set_below used (l - start) (word_of v) s
words_after (Empties t l) used start s = set_below used (l - start) 0 s
words_after (Makes t k n) used start s = s
words_after (Spawns t new) used start s = s
words_after (Refuses n) used start s = s
