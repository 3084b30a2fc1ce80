-- The invariant of `run`'s loop: the turns so far are a turn, and its bytes stand at the output's front. A turn more keeps it.
-- Assumes nothing.
use Prim.Native.Nat.{ℕ, suc, ◌+◌, ◌%◌, ◌≤◌, ◌<◌}
use mathlib.Core.Path.{◌≡◌, refl, sym, ap, ◌∙◌, subst}
use mathlib.Core.List.{List, [], ◌∷◌, ◌++◌, append-nil}
use native.Mathlib.Nat.{lt_of_lt_of_le}
use native.Mathlib.Numerals.{add-one}
use native.Mathlib.Omega.{arith}
use lib.IntN.{ℤ}
use lib.Pow.{pow_mono}
use lib.ListN.{length, take, drop, set, length-append, length-drop, take-append-drop}
use lib.Seq.{append_snoc, length-take-le, drop-drop, set_split, take_at, drop_at}
use Rattle.quantize.specs.declared.engine.Quantizer.{Quantizer}
use Rattle.quantize.specs.declared.turn.Place.{Place}
use Rattle.quantize.specs.Internal.Turn.{Sound}
use Rattle.quantize.proofs.TurnMoves.{Turn, turn-none, turn-turn}

module _ (q : Quantizer) (samples out₀ : List ℕ) (work₀ : List ℤ) where
  pub record Loop (out : List ℕ) (work : List ℤ) (p : Place) (taken written : ℕ) : Type 0 where
    pub taken_fits : taken ≤ length samples
    pub written_fits : written ≤ length out₀
    pub out_long : length out ≡ length out₀
    pub past : drop written out ≡ drop written out₀
    pub turn : Turn q q.place samples work₀ taken (take written out) p work

  pub loop-start : Sound q.rule q.width q.height q.place.row q.place.column q.place.begun q.place.corner
      (length work₀) → Loop out₀ work₀ q.place 0 0
  loop-start h =
      record {
        taken_fits = omega arith;
        written_fits = omega arith;
        out_long = refl;
        past = refl;
        turn = turn-none q q.place samples work₀ h;
      }

  module _ (out : List ℕ) (work : List ℤ) (p : Place) (taken written : ℕ) (L : Loop out work p taken written) where
    pub begun-small : p.begun < 256
    begun-small = lt_of_lt_of_le L.turn.sound.begun_small (pow_mono {i = p.column % 8} {j = 8} (omega arith))

    written_in : written ≤ length out
    written_in = omega (arith, L.written_fits, L.out_long)

    -- a turn more, whose bytes are written
    module _ (m : ℕ) (bytes : List ℕ) (p' : Place) (work' : List ℤ) (T : Turn q p (drop taken samples) work m bytes p' work')
        (there : taken + m ≤ length samples) (fits : written + length bytes ≤ length out)
        (out' : List ℕ) (stored : out' ≡ (take written out ++ bytes) ++ drop (written + length bytes) out) where
      abbrev front : List ℕ
      front = take written out ++ bytes

      front_long : length front ≡ written + length bytes
      front_long = length-append (take written out) bytes ∙ ap (λ (n : ℕ). n + length bytes) (length-take-le written out written_in)

      pub loop-turn : Loop out' work' p' (taken + m) (written + length bytes)
      loop-turn =
          record {
            taken_fits = there;
            written_fits = omega (arith, L.out_long);
            out_long =
                ap length stored ∙ length-append front (drop (written + length bytes) out)
                ∙ (let a = front_long in let b = length-drop (written + length bytes) out in omega (arith, L.out_long));
            past =
                ap (drop (written + length bytes)) stored
                ∙ drop_at front (drop (written + length bytes) out) (written + length bytes) front_long
                ∙ sym (drop-drop (length bytes) written out) ∙ ap (drop (length bytes)) L.past ∙ drop-drop (length bytes) written out₀;
            turn = subst (λ (l : List ℕ). Turn q q.place samples work₀ (taken + m) l p' work')
                (sym (ap (take (written + length bytes)) stored
                ∙ take_at front (drop (written + length bytes) out) (written + length bytes) front_long))
                (turn-turn q q.place p p' samples work₀ work work' taken m (take written out) bytes L.turn T);
          }

    -- of no byte
    pub loop-on : (m : ℕ) (p' : Place) (work' : List ℤ) → Turn q p (drop taken samples) work m [] p' work' → taken + m ≤ length samples
        → Loop out work' p' (taken + m) written
    loop-on m p' work' T h =
        let e : written + 0 ≡ written = omega arith in
        subst (λ (n : ℕ). Loop out work' p' (taken + m) n) e
        (loop-turn m [] p' work' T h (omega (arith, written_in)) out (rw (e, append-nil) (sym (take-append-drop written out))))

    -- of one byte
    pub loop-byte : (m b : ℕ) (p' : Place) (work' : List ℤ) → Turn q p (drop taken samples) work m (b ∷ []) p' work'
        → taken + m ≤ length samples → written < length out → Loop (set out written b) work' p' (taken + m) (written + 1)
    loop-byte m b p' work' T h k =
        loop-turn m (b ∷ []) p' work' T h (omega arith) (set out written b)
        (set_split out written b k ∙ sym (append_snoc (take written out) b (drop (suc written) out))
        ∙ ap (λ (n : ℕ). (take written out ++ (b ∷ [])) ++ drop n out) (sym (add-one written)))
