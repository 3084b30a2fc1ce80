-- An example: document 01's card P8 made in pieces by the plain machine.
-- Assumes nothing.
use mathlib.Core.Path.{◌≡◌, refl}
use mathlib.Core.Bool.{false}
use mathlib.Core.List.{[], ◌∷◌}
use Rattle.std.proofs.Common.{None}
use Rattle.error.specs.Answer.{gives, refuses}
use Rattle.options.specs.declared.Quantize.TheVariants.{Dither}
use Rattle.rules.specs.Bits.{upto, appended}
use Rattle.rules.specs.Diffusion.{part, value, white, residual, value_from, handed, row_value, above, value_at}
use Rattle.rules.specs.Rule.{dot}
use Rattle.quantize.specs.Finished.{begun_bytes, count, frame, dot_of, finished, most, takes}
use Rattle.rules.specs.Packed.{padded_bit, byte_at}
use Rattle.encode_session.specs.Model.{Opening, opening, opened, feed, close, took, closed, taken, written, outcome, replies}

-- a card of 2 by 1, dithered
abbrev card : Opening
card = opening (record { quantize = Dither; ext = None; strict = false }) 2 1 [] []

-- "P8 dither 127,128 in one row: 40", a sample a call; closing comes too early, then in time, and then nothing is open
in_pieces : replies (opened card)
    (feed (127 ∷ []) (9 ∷ 9 ∷ []) 4 ∷ close ∷ feed (128 ∷ []) (9 ∷ 9 ∷ []) 3 ∷ feed (128 ∷ []) (9 ∷ 9 ∷ []) 4 ∷ close
    ∷ feed (7 ∷ []) (9 ∷ []) 0 ∷ close ∷ [])
    ≡ record { answer = gives (took 1 0); output = 9 ∷ 9 ∷ [] }
    ∷ record { answer = refuses 22 0; output = [] }
    ∷ record { answer = refuses 28 0; output = 9 ∷ 9 ∷ [] }
    ∷ record { answer = gives (took 1 1); output = 0x40 ∷ 9 ∷ [] }
    ∷ record { answer = gives closed; output = [] }
    ∷ record { answer = refuses 30 0; output = 9 ∷ [] }
    ∷ record { answer = refuses 30 0; output = [] }
    ∷ []
unfolding replies outcome taken written upto appended part value white residual value_from handed row_value above value_at dot begun_bytes count
    frame dot_of padded_bit byte_at finished most takes
in_pieces = refl
