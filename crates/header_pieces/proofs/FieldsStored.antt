-- A buffer that extension bytes are stored in, one by one.
use Rattle.std.proofs.Common.{◌≡◌, ℕ, ◌+◌, ◌<◌, ◌≤◌, Bool, true, false, List, [], ◌∷◌, ◌++◌, length, drop, sym, refl, ap, ◌∙◌, append-nil, arith, length-append, length-drop}
use lib.Seq.{sets, drop-append-le}
use Rattle.laws.proofs.Runs.{sets-append}
use Rattle.header_pieces.specs.Internal.Head.{Keeps}
use Rattle.header_pieces.proofs.FieldsGrown.{added}

-- ext₀ with the extension bytes of a file stored in it behind the first `kept` of them; `count` are kept by now
pub record Stored (ext₀ : List ℕ) (kept : ℕ) (bytes : List ℕ) (count : ℕ) (ext : List ℕ) : Type 0 where
  pub buffer : ext ≡ sets ext₀ kept (drop kept bytes)
  pub all : count ≡ length bytes
  pub begun : kept ≤ count

pub stored_more : (ext₀ bytes ext ext' : List ℕ) (kept count count' b : ℕ) (w : Bool) → Stored ext₀ kept bytes count ext
    → (w ≡ true → count < length ext)
    → Keeps count b w ext count' ext' → Stored ext₀ kept (bytes ++ added w b) count' ext'
stored_more ext₀ bytes ext ext' kept count count' b true s r k =
    let p = k.stored refl (r refl) in
    let n : kept + length (drop kept bytes) ≡ count = omega (arith, length-drop kept bytes, s.all, s.begun) in
    record {
      buffer =
          p.1
          ∙ ap (λ (l : List ℕ). sets l count (b ∷ [])) s.buffer
          ∙ ap (λ (m : ℕ). sets (sets ext₀ kept (drop kept bytes)) m (b ∷ [])) (sym n)
          ∙ sets-append ext₀ kept (drop kept bytes) (b ∷ [])
          ∙ ap (sets ext₀ kept) (sym (drop-append-le kept bytes (b ∷ []) (omega (arith, s.all, s.begun))));
      all = omega (arith, p.0, s.all, length-append bytes (b ∷ []));
      begun = omega (arith, p.0, s.begun);
    }
stored_more ext₀ bytes ext ext' kept count count' b false s r k =
    let p = k.left refl in
    rw append-nil
    (record { buffer = p.1 ∙ s.buffer; all = p.0 ∙ s.all; begun = omega (arith, p.0, s.begun) })
