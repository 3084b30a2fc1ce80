-- The definitions agree with every row of the table.
use mathlib.Core.Path.{refl}
use Rattle.mbi.specs.Bytes.{mbi_bytes, groups}
use Rattle.mbi.specs.Read.{read_rest, read_byte}
use Rattle.ext.specs.Read.{read_fields, read_pairs, read_pair}
use Rattle.header.specs.Read.{read_header}
use Rattle.api.specs.Sniff.{sniffed, sniff_body, are_clear}
use Rattle.image.specs.Rows.{convert_format, convert_rows, convert_row, clear_padding}
use Rattle.rules.specs.Diffusion.{part, value, white, residual, value_from, handed, row_value, above, value_at}
use Rattle.rules.specs.Ordered.{number, numbers, bound}
use Rattle.rules.specs.Rule.{dot}
use Rattle.quantize.specs.Finished.{begun_bytes, count, frame, dot_of, finished}
use Rattle.rules.specs.Packed.{padded_bit, byte_at}
use Rattle.rules.specs.Bits.{upto, appended}
use Rattle.conformance.specs.Table.{table}
use Rattle.conformance.specs.Check.{AllAgree}

infixr 5 ◌&◌
◌&◌ : {A B : Type 0} → A → B → A × B
a & b = (a, b)

-- a line for each card
pub cards : AllAgree table
unfolding sniffed sniff_body are_clear mbi_bytes groups read_rest read_byte read_header read_fields read_pairs read_pair convert_format convert_rows
    convert_row clear_padding
    part value white residual value_from handed row_value above value_at number numbers bound dot begun_bytes count frame dot_of padded_bit byte_at
    finished upto appended
cards =
    (refl, refl, refl) & (refl, refl, refl) & (refl, refl, refl) & (refl, refl, refl)
    & (refl, refl, refl) & refl
    & refl & refl
    & refl & refl & refl
    & refl
    & refl & refl & refl
    & refl
    & refl
    & refl
    & refl & refl & refl & refl
    & refl & refl
    & refl
    & tt
