-- A work buffer lent in part: only its first numbers matter, as many as serve.
use Prim.Native.Nat.{ℕ, ◌*◌, ◌%◌, ◌≤◌, ◌<◌}
use mathlib.Core.Path.{◌≡◌, refl, sym, ap, ◌∙◌}
use mathlib.Core.Bool.{Bool, true, false}
use mathlib.Core.List.{List}
use native.Mathlib.Nat.{mod-lt}
use native.Mathlib.Omega.{arith}
use borrow.Author.Tests.{leb-true}
use lib.Dec.{leb}
use lib.IntN.{ℤ, pos}
use lib.ListN.{length, get_or, take}
use lib.Seq.{get_or-take}
use Rattle.error.specs.Answer.{gives}
use Rattle.error.specs.Choice.{if}
use Rattle.laws.proofs.Tests.{if-true, zero_one}
use Rattle.quantize.specs.declared.engine.Quantizer.{Quantizer}
use Rattle.rules.specs.Rule.{carries, enough_work, Rule, threshold, dither, ordered}
use Rattle.quantize.specs.Internal.Engine.{KeptAfter, QuantizerAfter}
use Rattle.quantize.specs.Finished.{Setting}
use Rattle.dither.specs.Internal.Carry.{clamp}
use Rattle.quantize.specs.Internal.Turn.{state_of}
use Rattle.encode_session.specs.declared.EncodeSession.{EncodeSession}
use Rattle.encode_session.specs.Model.{serves, setting_of, Model, feed, Told, fed_by, unaltered, outcome}
use Rattle.encode_session.specs.Session.{Holds}

module _ (q : Quantizer) (s : Setting) (xs : List ℕ) (n : ℕ) (work work' : List ℤ) (same : take n work ≡ take n work') where
  at_same : (k : ℕ) → k < n → clamp (get_or work' k (pos 0)) ≡ clamp (get_or work k (pos 0))
  at_same k h = ap clamp (sym (get_or-take n work' k (pos 0) h) ∙ ap (λ (l : List ℤ). get_or l k (pos 0)) (sym same)
      ∙ get_or-take n work k (pos 0) h)

  keeps_same : 0 < s.width → (rule : Rule) → enough_work rule s.width n ≡ true → KeptAfter rule s xs (state_of q.place work)
      → KeptAfter rule s xs (state_of q.place work')
  keeps_same w (threshold t) r k = k
  keeps_same w (ordered side table) r k = k
  keeps_same w dither r k =
      let b : 2 * s.width ≤ n = leb-true _ _ r in
      let x : length xs % s.width < s.width = mod-lt (length xs) w in (
        k.0,
        record {
          done = λ i h. at_same i (omega arith) ∙ k.1.done i h;
          ahead = λ i h g y. at_same i (omega arith) ∙ k.1.ahead i h g y;
          corner = k.1.corner;
        },
      )

  pub holds_same : enough_work s.rule s.width n ≡ true → QuantizerAfter q work s xs → QuantizerAfter q work' s xs
  holds_same r h =
      let i = h.stands.at.in_row in
      record { stands = h.stands; keeps = keeps_same (omega arith) s.rule r h.keeps }

-- a session over another buffer that starts with the same numbers
pub lent_same : (s : EncodeSession) (m : Model) (n : ℕ) (work work' : List ℤ) → serves m.opening n ≡ true → take n work ≡ take n work'
    → Holds s work m → Holds s work' m
lent_same s m n work work' r e h =
    record {
      stands = h.stands;
      keeps =
          λ l. holds_same s.quantizer (setting_of m.opening) m.samples n work work' e r (h.keeps l);
    }

-- under a rule that keeps carries, a buffer that serves has 2 × width numbers
pub served-room : (m : Model) (n : ℕ) → serves m.opening n ≡ true → carries (setting_of m.opening).rule ≡ true → m.opening.width ≤ n
served-room m n v c =
    let e : leb (2 * m.opening.width) n ≡ true = sym (if-true _ _ _ c) ∙ v in
    let h : 2 * m.opening.width ≤ n = leb-true _ _ e in
    omega arith

-- ---- feeding, by its answer

-- the buffer of an accepted call serves
pub feed-served : (m : Model) (xs out : List ℕ) (n : ℕ) (t : Told) → (outcome m (feed xs out n)).reply.answer ≡ gives t
    → serves m.opening n ≡ true
unfolding outcome
feed-served m xs out n t = go m.live (serves m.opening n) refl
  where
    go : (a b : Bool) → serves m.opening n ≡ b → (if a (if b (fed_by m xs out) (unaltered m 28 out)) (unaltered m 30 out)).reply.answer
        ≡ gives t
        → serves m.opening n ≡ true
    go false b e f = zero_one (cc)
    go true false e f = zero_one (cc)
    go true true e f = e
