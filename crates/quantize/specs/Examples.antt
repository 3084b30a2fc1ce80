-- Worked examples; document 01's P8 to P12 stand in the crate conformance.
use Rattle.std.specs.Prelude.{ℕ, ◌≡◌, refl, true, List, [], ◌∷◌, pos, negsuc, replicate}
use Rattle.rules.specs.Bits.{upto, appended}
use Rattle.rules.specs.Diffusion.{part, value, white, residual, value_from, handed, row_value, above, value_at, residual_at}
use Rattle.rules.specs.Ordered.{number, numbers}
use Rattle.rules.specs.Rule.{threshold, dither, rightwards, dot}
use Rattle.quantize.specs.Finished.{begun_bytes, count, frame, dot_of, finished, most, takes, setting}
use Rattle.rules.specs.Packed.{padded_bit, byte_at}

-- a begun row has finished its whole bytes only, and a full row all of them
begun : finished (setting (threshold 128) 9 2 1) (replicate 8 255) ≡ 0xff ∷ []
unfolding upto appended dot begun_bytes count frame dot_of padded_bit byte_at finished
begun = refl

-- without room seven samples of eight are taken, and of a narrow row all but the last
seven-of-eight : takes (setting (threshold 128) 9 2 1) 0 20 0 ≡ 7
unfolding begun_bytes count most takes
seven-of-eight = refl

none-of-one : takes (setting (threshold 128) 1 2 1) 0 20 0 ≡ 0
unfolding begun_bytes count most takes
none-of-one = refl

-- the second frame starts clean, and its rows are counted from 0
second-frame : finished (setting dither 1 1 2) (127 ∷ 127 ∷ []) ≡ 0x00 ∷ 0x00 ∷ []
unfolding upto appended part value white residual value_from handed row_value above value_at dot begun_bytes count frame dot_of padded_bit byte_at
    finished
second-frame = refl

-- the side 2: 0 and 2 above 3 and 1
side-two : numbers 1 ≡ 0 ∷ 2 ∷ 3 ∷ 1 ∷ []
unfolding upto number numbers
side-two = refl

-- ---- both ends of the range are reached

abbrev light : List ℕ
light = 0x7f ∷ 0x47 ∷ 0x47 ∷ 0x3f ∷ 0xff ∷ []

most-residual : residual_at rightwards 3 (frame 3 2 light 0) 1 1 ≡ pos 128
unfolding part value white residual value_from handed row_value above frame
most-residual = refl

least-residual : residual_at rightwards 3 (frame 3 2 (0x80 ∷ 0xb8 ∷ 0xb8 ∷ 0xc0 ∷ 0x00 ∷ []) 0) 1 1 ≡ negsuc 127
unfolding part value white residual value_from handed row_value above frame
least-residual = refl

-- what a dot receives makes gray 0 white
black-is-white : dot dither 3 (frame 3 2 (0x7f ∷ 0x47 ∷ 0x47 ∷ 0x3f ∷ 0x00 ∷ []) 0) 1 1 ≡ true
unfolding part value white residual value_from handed row_value above value_at dot frame
black-is-white = refl
