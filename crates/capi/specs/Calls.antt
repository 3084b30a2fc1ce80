-- What the functions that C calls promise. A lent number is a pair: what it held before the call, and what it holds after it.
use Rattle.std.specs.Prelude.{ℕ, ◌≡◌, List, length}
use Rattle.error.specs.Answer.{Answer}
use Rattle.options.specs.Limits.{Decoding}
use Rattle.decoder.specs.Frames.{Image}
use Rattle.api.specs.Info.{read_info}
use Rattle.capi.specs.Returned.{packed, held}
use Rattle.capi.specs.Lent.{fields_kind, fields_start, fields_length, fields_pairs}
use Rattle.capi.specs.Asked.{read_asked, output_asked}

-- a lent number was given what is told of the file, or left alone by a refusal
abbrev pub LentHolds : {A : Type 0} → Answer A → (A → ℕ) → ℕ × ℕ → Type 0
LentHolds a f n = n.1 ≡ held a f n.0

-- `wbmp_info`
pub record Informs (bytes : List ℕ) (r : ℕ) (width height frames body fix kind start len pairs : ℕ × ℕ) : Type 0 where
  pub answer : r ≡ packed (read_info bytes)
  pub width_is : LentHolds (read_info bytes) (λ i. i.width) width
  pub height_is : LentHolds (read_info bytes) (λ i. i.height) height
  pub frames_is : LentHolds (read_info bytes) (λ i. i.frames) frames
  pub body_is : LentHolds (read_info bytes) (λ i. i.body) body
  pub fix_is : LentHolds (read_info bytes) (λ i. i.fix) fix
  pub kind_is : LentHolds (read_info bytes) (λ i. fields_kind i.fields) kind
  pub start_is : LentHolds (read_info bytes) (λ i. fields_start i.fields) start
  pub len_is : LentHolds (read_info bytes) (λ i. fields_length i.fields) len
  pub pairs_is : LentHolds (read_info bytes) (λ i. fields_pairs i.fields) pairs

-- whole reading with the settings that are asked for: its answer, and the lent output before and after it
pub record ReadsAsked (settings : Answer Decoding) (bytes : List ℕ) (r : Answer Image) (old new : List ℕ) : Type 0 where
  pub answer : r ≡ read_asked settings bytes (length old)
  pub output_is : new ≡ output_asked settings bytes old

-- `wbmp_read`: `old` and `new` are the lent output before and after the call
pub record Reads (settings : Answer Decoding) (bytes : List ℕ) (r : ℕ) (old new : List ℕ)
    (width height frames written : ℕ × ℕ) : Type 0 where
  pub answer : r ≡ packed (read_asked settings bytes (length old))
  pub output_is : new ≡ output_asked settings bytes old
  pub width_is : LentHolds (read_asked settings bytes (length old)) (λ i. i.width) width
  pub height_is : LentHolds (read_asked settings bytes (length old)) (λ i. i.height) height
  pub frames_is : LentHolds (read_asked settings bytes (length old)) (λ i. i.frames) frames
  pub written_is : LentHolds (read_asked settings bytes (length old)) (λ i. i.written) written
