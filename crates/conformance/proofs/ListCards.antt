-- Examples of the plain machines, which make a card in two calls and read it in three, and of cuts: no session stands here. Lists on the
-- sessions themselves are those of the functions in src/lib.rt.
use Rattle.std.proofs.Common.{Some}
use Prim.Native.Nat.{ℕ}
use mathlib.Core.Path.{◌≡◌, refl}
use mathlib.Core.Bool.{true, false}
use mathlib.Core.List.{List, [], ◌∷◌, ◌++◌}
use native.Mathlib.Omega.{arith}
use lib.ListN.{replicate}
use Rattle.error.specs.Answer.{gives, refuses}
use Rattle.mbi.specs.Bytes.{mbi_bytes, groups}
use Rattle.mbi.specs.Read.{read_rest, read_byte}
use Rattle.ext.specs.Classes.{all, is_alpha_digit}
use Rattle.ext.specs.Read.{read_fields, read_pairs, read_pair}
use Rattle.ext_write.specs.Write.{fields_bytes, pairs_bytes, check_pair, lent_fields, cut_pairs, sum}
use Rattle.ext.specs.declared.ExtFieldType.TheVariants.{ParameterPairs11}
use Rattle.header.specs.Read.{read_header}
use Rattle.image.specs.declared.PixelFormat.TheVariants.{MonoWhite}
use Rattle.options.specs.Limits.{Decoding, absent, ceiling_of, check_limits}
use Rattle.options.specs.Limits as limits
use Rattle.options.specs.declared.Quantize.TheVariants.{Dither}
use Rattle.rules.specs.Bits.{upto, appended}
use Rattle.rules.specs.Diffusion.{part, value, white, residual, value_from, handed, row_value, above, value_at}
use Rattle.rules.specs.Rule.{dot}
use Rattle.quantize.specs.Finished.{begun_bytes, count, frame, dot_of, finished}
use Rattle.rules.specs.Packed.{padded_bit, byte_at}
use Rattle.quantize.specs.Finished as Finished
use Rattle.decoder.specs.Image.{test_body, read_image}
use Rattle.encode_session.specs.Model as Making
use Rattle.encode_session.specs.Trace as MakingTrace
use Rattle.header_pieces.specs.Extension.{field_bytes}
use Rattle.body_pieces.specs.InFormat.{body_from}
use Rattle.decode_session.specs.Sequence.{sequence, most}
use Rattle.decode_session.specs.Model as Reading
use Rattle.decode_session.specs.Trace as ReadingTrace
use Rattle.conformance.specs.Lists.{samples_of, was_closed}

-- two by one, dithered, with the pair k = 12
abbrev card : Making.Opening
card =
    record {
      options = record { quantize = Dither; ext = Some ParameterPairs11; strict = true };
      width = 2;
      height = 1;
      text = 0x6B ∷ 0x31 ∷ 0x32 ∷ [];
      lengths = 1 ∷ 2 ∷ [];
    }

abbrev header : List ℕ
header = 0x00 ∷ 0xE0 ∷ 0x12 ∷ 0x6B ∷ 0x31 ∷ 0x32 ∷ 0x02 ∷ 0x01 ∷ []

header_made : Making.header card 4 ≡ gives header
unfolding Making.header mbi_bytes groups lent_fields fields_bytes pairs_bytes check_pair cut_pairs sum all is_alpha_digit
header_made = refl

-- a sample a call, and closing
abbrev making : List Making.Call
making = Making.feed (127 ∷ []) (9 ∷ 9 ∷ []) 4 ∷ Making.feed (128 ∷ []) (9 ∷ 9 ∷ []) 4 ∷ Making.close ∷ []

abbrev made : List Making.Reply
made =
    record { answer = gives (Making.took 1 0); output = 9 ∷ 9 ∷ [] }
    ∷ record { answer = gives (Making.took 1 1); output = 0x40 ∷ 9 ∷ [] }
    ∷ record { answer = gives Making.closed; output = [] }
    ∷ []

made_so : Making.replies (Making.opened card) making ≡ made
unfolding Making.replies Making.outcome Making.taken Making.written upto appended part value white residual value_from handed row_value above
    value_at dot begun_bytes count frame dot_of padded_bit byte_at finished Finished.most Finished.takes
made_so = refl

made-whole : (was_closed made ≡ true) × (samples_of making made ≡ 127 ∷ 128 ∷ []) × (MakingTrace.joined made ≡ 0x40 ∷ [])
unfolding was_closed samples_of MakingTrace.joined
made-whole = (refl, refl, refl)

-- the card in pieces of four bytes, the rest without room for its body, and that: MonoWhite
abbrev file : List ℕ
file = header ++ (0x40 ∷ [])

abbrev lenient : Decoding
lenient = record { max_width = absent; max_height = absent; max_pixels = absent; max_bytes = absent; mode = limits.lenient; format = MonoWhite }

abbrev reading : List Reading.Call
reading =
    Reading.feed (0x00 ∷ 0xE0 ∷ 0x12 ∷ 0x6B ∷ []) [] (replicate 4118 0)
    ∷ Reading.feed (0x31 ∷ 0x32 ∷ 0x02 ∷ 0x01 ∷ 0x40 ∷ []) [] (0x12 ∷ 0x6B ∷ replicate 4116 0)
    ∷ Reading.feed (0x40 ∷ []) (9 ∷ 9 ∷ []) (0x12 ∷ 0x6B ∷ 0x31 ∷ 0x32 ∷ replicate 4114 0)
    ∷ Reading.close
    ∷ []

abbrev read : List Reading.Reply
read =
    record { answer = gives (Reading.took 4 0); output = []; extension = 0x12 ∷ 0x6B ∷ replicate 4116 0 }
    ∷ record { answer = gives (Reading.took 4 0); output = []; extension = 0x12 ∷ 0x6B ∷ 0x31 ∷ 0x32 ∷ replicate 4114 0 }
    ∷ record { answer = gives (Reading.took 1 1); output = 0x80 ∷ 9 ∷ []; extension = 0x12 ∷ 0x6B ∷ 0x31 ∷ 0x32 ∷ replicate 4114 0 }
    ∷ record { answer = gives (Reading.frames 1); output = []; extension = [] }
    ∷ []

read-so : Reading.replies (Reading.opened lenient) reading ≡ read
unfolding ceiling_of Reading.replies Reading.outcome Reading.grown Reading.written field_bytes body_from sequence most read_rest read_byte
    read_fields read_pairs read_pair read_header test_body read_image check_limits all is_alpha_digit
read-so = refl

read-cut : ReadingTrace.Cut file 0 false reading read (gives (Reading.frames 1))
read-cut = ReadingTrace.part 4 (ReadingTrace.part 5 (ReadingTrace.part 1 (ReadingTrace.taken {file = file} {at = 9} (omega arith))))

read-joined : ReadingTrace.joined read ≡ 0x80 ∷ []
unfolding ReadingTrace.joined
read-joined = refl

-- a width of 0 (8): met by the third call, after one with too short a buffer, and repeated
abbrev bad : List ℕ
bad = 0x00 ∷ 0x00 ∷ 0x00 ∷ 0x02 ∷ []

abbrev trying : List Reading.Call
trying =
    Reading.feed (0x00 ∷ 0x00 ∷ 0x00 ∷ []) [] (replicate 4118 0)
    ∷ Reading.feed (0x02 ∷ []) [] (7 ∷ [])
    ∷ Reading.feed (0x02 ∷ []) (9 ∷ []) (replicate 4118 0)
    ∷ Reading.feed (0x02 ∷ []) (9 ∷ []) []
    ∷ Reading.close
    ∷ []

abbrev refused : List Reading.Reply
refused =
    record { answer = gives (Reading.took 3 0); output = []; extension = replicate 4118 0 }
    ∷ record { answer = refuses 28 0; output = []; extension = 7 ∷ [] }
    ∷ record { answer = refuses 8 4; output = 9 ∷ []; extension = replicate 4118 0 }
    ∷ record { answer = refuses 8 4; output = 9 ∷ []; extension = [] }
    ∷ record { answer = refuses 8 4; output = []; extension = [] }
    ∷ []

refused-so : Reading.replies (Reading.opened lenient) trying ≡ refused
unfolding ceiling_of Reading.replies Reading.outcome Reading.grown Reading.written field_bytes body_from sequence most read_rest read_byte
    read_fields read_header test_body read_image check_limits
refused-so = refl

refused-cut : ReadingTrace.Cut bad 0 false trying refused (refuses 8 4)
refused-cut = ReadingTrace.part 3 (ReadingTrace.part 1 (ReadingTrace.part 1 (ReadingTrace.part 1 ReadingTrace.after_refusal)))
