-- Every example reads as it was worked out, by computation. Assumes nothing.
use mathlib.Core.Path.{◌≡◌, refl}
use mathlib.Core.List.{map}
use lib.ListN.{replicate}
use lib.Ieee as Ieee
use Rattle.value.specs.Coding as Coding
use Rattle.kinds.specs.Bytes as Bytes
use Rattle.kinds.specs.Table as Table
use Rattle.kinds.specs.Flows as Flows
use Rattle.image.specs.Records as Records
use Rattle.image.specs.Reading as Reading
use Rattle.image.specs.Reading.{read_image}
use Rattle.image.specs.Examples.{examples}
use Rattle.std.specs.Prelude.{Err}
use Rattle.image.specs.declared.reader.Fault.TheVariants.{TooLong}

-- `unfolding compute` opens every definition of the reader
unfoldable pub compute : Unit {0}
unfolding Coding.decoded Coding.only Coding.float_in Bytes.number Bytes.word_in Table.float_means Table.truth_means Table.frame_means Table.switch_means Table.instructions Table.instruction_kind Table.slots_means Table.records Table.record_kind Flows.flow_of Flows.closes Flows.targets Records.placed Records.whole_by Records.whole_at Reading.ending Reading.walk Reading.start_from Reading.start Reading.all_start Reading.astray Reading.or_else Reading.judged Reading.read_code Reading.read_inputs Reading.read_first read_image Ieee.of_bits
compute = tt

pub examples-agree : map (λ e. read_image e.image) examples ≡ map (λ e. e.verdict) examples
unfolding compute examples
examples-agree = refl

pub over-long : read_image (replicate 4097 0) ≡ Err TooLong
unfolding compute
over-long = refl
