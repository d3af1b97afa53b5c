-- A thread record: a head of four fields of sixteen bits, place, position, frame and accumulator's tag from the low end, and the accumulator's word. Assumes nothing.
use Rattle.std.specs.Prelude.{ℕ, ◌+◌, ◌*◌, ◌/◌, ◌%◌, List, [], ◌∷◌, ltb}
use Rattle.std.specs.Prelude.{if◌then◌else◌}
use Rattle.std.specs.Option.{unwrap_or}
use Rattle.value.specs.declared.Value.TheVariants.{Nil}
use Rattle.value.specs.Coding.{tag_of, decoded}
use Rattle.rules.specs.declared.Thread.{Thread}

unfoldable pub packed : ℕ → ℕ → ℕ → ℕ → ℕ
packed place position frame tag = place + 65536 * (position + 65536 * (frame + 65536 * tag))

unfoldable pub head_of : ℕ → Thread → ℕ
head_of place t = packed place t.position t.frame (tag_of t.acc)

-- 1 is ready, l + 2 waits on location l; no record has the place 0
abbrev pub ready_place : ℕ
ready_place = 1

unfoldable pub wait_place : ℕ → ℕ
wait_place l = if ltb l 65534 then l + 2 else 0

abbrev pub place_in : ℕ → ℕ
place_in head = head % 65536

-- the four fields of a head, from the low end
abbrev pub fields_of : ℕ → List ℕ
fields_of head = place_in head ∷ head / 65536 % 65536 ∷ head / 4294967296 % 65536 ∷ head / 281474976710656 % 65536 ∷ []

-- the same head, ready
abbrev pub readied : ℕ → ℕ
readied head = head / 65536 * 65536 + 1

unfoldable pub thread_in : ℕ → ℕ → Thread
thread_in head word =
    record { position = head / 65536 % 65536; frame = head / 4294967296 % 65536; acc = unwrap_or (decoded (head / 281474976710656 % 65536) word) Nil }
